-- `zero_at` meets its contract: behind the end of the list the definition reads a NaN, which is no zero. Assumes nothing.
use Rattle.std.specs.Prelude.{◌≡◌, Bool, false, List, ℕ, ◌≤◌, length, get_or, Float}
use Rattle.std.specs.Float.{nan}
use Rattle.std.proofs.Common.{sym}
use borrow.Author.Rules.{rules}
use Rattle.method.specs.Floats.{is_zero}
use Rattle.corner.specs.Steps.{behind}
use Rattle.corner.proofs.zero_at.Goals as goal

none : (b : List Float) (i : ℕ) (r : Bool) → r ≡ false → length b ≤ i → r ≡ is_zero (get_or b i nan)
none b i r e h = rw e (sym (behind b i h))

pub returns : goal.returns
returns c = search (rules, none)
