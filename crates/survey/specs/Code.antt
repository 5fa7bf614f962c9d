-- The definitions as the code goes through them: what its answers say. Definitions only.
use Rattle.std.specs.Prelude.{◌≡◌, List, ℕ, zero, suc, ◌+◌, ◌<◌, ◌≤◌, length, set, take, Float, Option as Answer, Some, None, Result, Ok, Err, IfOk, IfErr}
use Rattle.std.proofs.Math.Option.{Option, none, some}
use Rattle.std.proofs.lemmas.List.Edits.{sets}
use Rattle.std.specs.Float.{binary64}
use Rattle.std.specs.Float.Ieee.{of_bits}
use denote.Ref.{Bor}
use Rattle.method.specs.Report.{Report}
use Rattle.survey.specs.declared.reading.Entry.{Entry}
use Rattle.survey.specs.declared.reading.Malformed.{Malformed}
use Rattle.survey.specs.declared.reading.Rest.{Rest}
use Rattle.survey.specs.declared.reading.Head.{Head}
use Rattle.text.specs.Text.{Bytes, LF, space, ◌>>=◌, cut, pattern}
use Rattle.text.specs.declared.page.Page.{Page}
use Rattle.text.specs.Writing.{Wrote}
use Rattle.survey.specs.Print.{malformed_text, split}
use Rattle.survey.specs.Form.{row_line, Got, malformed, got, line, and_then, body, Survey}

-- the line that a text begins with, whose number is n, and what is left after it; or that line is malformed
abbrev pub LineIs : Result (Bor Bytes × Rest) Malformed → Bytes → ℕ → Type 0
LineIs (Ok p) t n = (cut LF t ≡ some (p.0.now, p.1.text.now)) × (p.1.line ≡ n + 1)
LineIs (Err e) t n = (cut LF t ≡ none) × (e.line ≡ n)

-- what a line of readings leaves, where it is one
abbrev pub stored : {A U : Type 0} → Answer U → A → Option A
stored None m = none
stored (Some u) m = some m

-- a line of n + 1 readings, stored from `at` on where it is one
unfoldable pub row_stored : ℕ → Bytes → List Float → ℕ → Option (List Float)
row_stored n l m at = row_line n l >>= λ xs. some (sets m at xs)

-- the same, reading by reading: a line of n + 1 readings, stored from `at` on
unfoldable pub row_into : ℕ → Bytes → List Float → ℕ → Option (List Float)
row_into zero l m at = pattern l >>= λ p. some (set m at (of_bits binary64 p))
row_into (suc n) l m at =
    cut space l >>= λ q. pattern q.0 >>= λ p. row_into n q.1 (set m at (of_bits binary64 p)) (suc at)

-- what was read, and what is left; or the malformed line
abbrev pub placed : {A : Type 0} → Result Rest Malformed → A → Got A
placed (Ok r) a = got a r.line r.text.now
placed (Err e) a = malformed e.line

-- a body of r rows of c + 1 readings, stored from `at` on
unfoldable pub body_stored : ℕ → ℕ → ℕ → Bytes → List Float → ℕ → Got (List Float)
body_stored r c n t m at = and_then (body r c n t) λ xs. got (sets m at xs)

-- the same, row by row
unfoldable pub body_into : ℕ → ℕ → ℕ → Bytes → List Float → ℕ → Got (List Float)
body_into zero c n t m at = got m n t
body_into (suc r) c n t m at =
    and_then (line (row_line c) n t) λ xs n₁ t₁. body_into r c n₁ t₁ (sets m at xs) (at + (c + 1))

-- the contents, and what is left; or the malformed line
abbrev pub headed : Result Head Malformed → Got (List Entry)
headed (Ok h) = got (take h.count h.es) h.bodies.line h.bodies.text.now
headed (Err e) = malformed e.line

-- the numbers of a `Head` are in range
pub record HeadFits (h : Head) : Type 0 where
  pub count : h.count ≤ 8
  pub length : length h.es ≡ 8
  pub line_least : 0 < h.bodies.line
  pub line_most : h.bodies.line ≤ 10

-- it says g, and its numbers are in range
abbrev pub HeadIs : Result Head Malformed → Got (List Entry) → Type 0
HeadIs r g = (headed r ≡ g) × IfOk r HeadFits × IfErr r (λ e. 0 < e.line)

-- an entry with its readings
abbrev pub survey_of : Entry → List Float → Survey
survey_of e xs = record { entry = e; readings = xs }

-- ---- writing

-- the malformed line; 0 where none is
abbrev pub line_of : {A : Type 0} → Result A Malformed → ℕ
line_of (Ok a) = 0
line_of (Err e) = e.line

-- all that is printed of the text t was written on the page p, which is q then, but for the line that says of line n that
-- it is malformed: whatever writes that on q has written the whole
pub record LeavesLine (t : Bytes) (p q : Page) (n : ℕ) : Type 0 where
  pub same_reference : q.out.ghost_name ≡ p.out.ghost_name
  pub same : length q.out.now ≡ length p.out.now
  pub goes : (o : Bytes) (r : ℕ) → Wrote q.out.now q.at (malformed_text n) o r → Wrote p.out.now 0 (split t) o r

-- the numbers of a report that have at most 6 digits
pub record Small (r : Report) : Type 0 where
  pub number : r.refusal.number < 1000000
  pub row : r.refusal.place.row < 1000000
  pub column : r.refusal.place.column < 1000000
  pub bad : r.refusal.place.bad < 1000000
  pub passes : r.tally.passes < 1000000
  pub sweeps : r.tally.sweeps < 1000000
  pub drops : r.tally.drops < 1000000
  pub range : r.tally.range < 1000000
  pub rotations : r.tally.rotations < 1000000
