-- `float::paper::page` meets its contract: the turns that are asked for, and 54 at the most. Assumes nothing.
use mathlib.Core.Path.{◌≡◌, sym, ap, ◌∙◌, subst}
use mathlib.Core.Logic.{◌⊎◌, inl, inr}
use Prim.Native.Nat.{ℕ, ◌≤◌, ◌<◌, ◌^◌, min}
use native.Mathlib.Nat.{le_of_lt}
use native.Mathlib.Omega.{arith}
use lib.Ieee.{Float, binary64}
use Rattle.method.specs.Root.Paper.{Start, first, turns, halved, page}
use Rattle.method.proofs.Root.Grid.{less_or_not}
use Rattle.method.proofs.Root.Page.{number_bound, page-all, page-last}
use Rattle.float.proofs.Signs.{held}
use Rattle.float.proofs.paper.page.Goals as goal

shown : (x : Float) (many k : ℕ) → k ≡ min many 54 → turns k (first 54 (halved binary64 x).number) ≡ page binary64 x many
shown x many k e = go (less_or_not many 54)
  where
    made : (j : ℕ) → k ≡ j → turns k (first 54 (halved binary64 x).number) ≡ turns j (first 54 (halved binary64 x).number)
    made j g = ap (λ (n : ℕ). turns n (first 54 (halved binary64 x).number)) g

    go : (many < 54) ⊎ (54 ≤ many) → turns k (first 54 (halved binary64 x).number) ≡ page binary64 x many
    go (inl h) = made many (omega arith) ∙ sym (page-all binary64 x many (le_of_lt h))
    go (inr h) = made 54 (omega arith) ∙ sym (page-last binary64 x many h)

pub after-requires : goal.after-requires
after-requires c =
    let x = c.args.x in (
      subst (λ (s : Start). s.number < 2 ^ 54) (sym c.halved-start.ensures)
          (number_bound binary64 x (held x c.well_formed.0.1)),
      omega arith,
    )

pub returns : goal.returns
returns c =
    c.after.ensures
    ∙ ap (λ (s : Start). turns c.min.result (first 54 s.number)) c.halved-start.ensures
    ∙ shown c.args.x c.args.many c.min.result c.min.ensures
