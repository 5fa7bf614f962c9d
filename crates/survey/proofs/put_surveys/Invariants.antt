-- `survey::put_surveys` meets its contract: whatever writes what is still to be printed, has then written the whole; each
-- survey has at most 48 lines. Assumes nothing.
use Rattle.std.proofs.Common.{◌≡◌, ◌+◌, ◌*◌, ◌<◌, ◌≤◌, ℕ, List, length, drop}
use Rattle.survey.specs.declared.reading.Entry.{Entry}
use Rattle.text.specs.declared.page.Page.{Page}
use Rattle.text.specs.Text.{Bytes}
use Rattle.text.specs.Writing.{Wrote}
use Rattle.survey.specs.Print.{split}
use Rattle.survey.proofs.Whole.{All, left}
use Rattle.survey.proofs.put_surveys.Given as goal

pub record Held (text : Bytes) (p₀ p : Page) (es : List Entry) (n : ℕ) (t : Bytes) (i : ℕ) : Type 0 where
  pub all : All es
  pub few : length es ≤ 8
  pub line-least : 0 < n
  pub line-most : n ≤ 10 + 48 * i
  pub same_reference : p.out.ghost_name ≡ p₀.out.ghost_name
  pub same : length p.out.now ≡ length p₀.out.now
  pub goes : (o : Bytes) (r : ℕ) → Wrote p.out.now p.at (left (drop i es) n t) o r → Wrote p₀.out.now 0 (split text) o r

abbrev pub invariant-loop-e : goal.invariant-loop-e
invariant-loop-e l = Held l.text l.initial.page l.page l.e-items l.left.line l.left.text.now l.e-index
