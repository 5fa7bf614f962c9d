-- Laws of the writing: each text part by part, and how long it is. Assumes nothing.
use Rattle.std.specs.Prelude.{◌≡◌, refl, List, [], ◌∷◌, ◌++◌, map, ℕ, zero, suc, ◌+◌, ◌-◌, ◌*◌, ◌<◌, ◌≤◌, Float, length, get_or, take, drop}
use Rattle.std.proofs.Common.{sym, ap, ◌∙◌, add-one, arith, suc-mul, zero-mul, length-append, take-append-drop, drop-cons}
use borrow.Author.Tests.{eq-eqb, ne_eqb}
use Rattle.std.specs.Float.{nan, binary64}
use Rattle.std.specs.Float.Ieee.{to_bits}
use Rattle.std.proofs.Math.ListN.{length-drop}
use Rattle.std.proofs.Math.Seq.{length-take-le}
use Rattle.std.proofs.lemmas.List.{take-append-le, drop-append-le}
use Rattle.method.specs.Outcome.{Outcome}
use Rattle.std.proofs.Math.Seq.{drop-length}
use Rattle.text.specs.declared.page.Page.{Page}
use Rattle.text.specs.Text.{Bytes, LF, space, digits, shown, ending, line_text}
use Rattle.text.specs.Page.{Puts, Writes}
use Rattle.text.proofs.Pages.{writes}
use Rattle.text.proofs.Digits.{length_digits}
use Rattle.survey.specs.Print.{hex, row_text, rows_text, refused_word, report_text, refused_text, outcome_text, malformed_text}

pub length-hex : (x : Float) → length (hex x) ≡ 16
unfolding hex
length-hex x = length_digits 16 16 (to_bits binary64 x)

-- a float's digits, as the code puts them
pub hex-writes : {p q : Page} (n : ℕ) (x : Float) → n ≡ to_bits binary64 x → Puts p (digits 16 16 n) q → Writes p (hex x) q
unfolding hex
hex-writes n x e h = writes (rw e at h)

-- ---- a line of readings

pub after_more : (xs : List Float) → 0 < length xs → space ≡ ending (map hex xs)
unfolding ending
after_more [] h = absurd (omega arith)
after_more (x ∷ xs) h = refl

pub after_last : (xs : List Float) → length xs ≡ 0 → LF ≡ ending (map hex xs)
unfolding ending
after_last [] h = refl
after_last (x ∷ xs) h = absurd (omega arith)

pub row_next : (x : Float) (xs : List Float) (s : ℕ) → s ≡ ending (map hex xs)
    → row_text (x ∷ xs) ≡ hex x ++ (s ∷ row_text xs)
unfolding row_text line_text
row_next x xs s e = rw e

-- the readings from k on, the first of them and the others
module _ (row : List Float) (k : ℕ) (h : k < length row) where
  first-others : drop k row ≡ get_or row k nan ∷ drop (k + 1) row
  first-others = rw (drop-cons row k nan h, add-one k)

  pub row_more : k + 1 < length row
      → row_text (drop k row) ≡ hex (get_or row k nan) ++ (space ∷ row_text (drop (k + 1) row))
  row_more n = rw first-others (row_next _ (drop (k + 1) row) space (after_more (drop (k + 1) row) (omega (arith, length-drop (k + 1) row))))

  pub row_last : length row ≤ k + 1
      → row_text (drop k row) ≡ hex (get_or row k nan) ++ (LF ∷ row_text (drop (k + 1) row))
  row_last n = rw first-others (row_next _ (drop (k + 1) row) LF (after_last (drop (k + 1) row) (omega (arith, length-drop (k + 1) row))))

pub row_done : (row : List Float) (k : ℕ) → k ≡ length row → row_text (drop k row) ≡ []
unfolding row_text line_text
row_done row k e = rw (e, drop-length)

pub length-row : (xs : List Float) → length (row_text xs) ≡ 17 * length xs
unfolding row_text line_text
length-row [] = refl
length-row (x ∷ xs) = length-append (hex x) (ending (map hex xs) ∷ row_text xs) ∙ omega (arith, length-hex x, length-row xs)

-- ---- lines of readings

-- r - j of them
module _ (r c j : ℕ) (m : List Float) (h : j < r) where
  one-more : r - j ≡ suc (r - (j + 1))
  one-more = omega arith

  pub rows_next : rows_text (r - j) c m ≡ row_text (take c m) ++ rows_text (r - (j + 1)) c (drop c m)
  unfolding rows_text
  rows_next = rw one-more

  pub rows-left : (r - j) * c ≡ (r - (j + 1)) * c + c
  rows-left = rw one-more (suc-mul (r - (j + 1)) c)

pub rows_end : (r c j : ℕ) (m : List Float) → j ≡ r → rows_text (r - j) c m ≡ []
unfolding rows_text
rows_end r c j m e = let z : r - r ≡ 0 = omega arith in rw (e, z)

pub length-rows : (r c : ℕ) (xs : List Float) → r * c ≤ length xs → length (rows_text r c xs) ≡ 17 * (r * c)
unfolding rows_text
length-rows zero c xs h = omega (arith, zero-mul c)
length-rows (suc r) c xs h =
    let e : suc r * c ≡ r * c + c = suc-mul r c in
    let l : length (take c xs) ≡ c = length-take-le c xs (omega arith) in
    length-append (row_text (take c xs)) (rows_text r c (drop c xs))
    ∙ omega (arith, e, length-row (take c xs), l, length-rows r c (drop c xs) (simp length-drop (omega arith)))

-- only the first r * c readings are written
pub rows_only : (r c : ℕ) (xs ys : List Float) → length xs ≡ r * c → rows_text r c (xs ++ ys) ≡ rows_text r c xs
unfolding rows_text
rows_only zero c xs ys h = refl
rows_only (suc r) c xs ys h =
    let e : suc r * c ≡ r * c + c = suc-mul r c in
    let n : c ≤ length xs = omega arith in
    let g : length (drop c xs) ≡ r * c = simp length-drop (omega arith) in
    rw (take-append-le, drop-append-le) (ap (λ (z : Bytes). row_text (take c xs) ++ z) (rows_only r c (drop c xs) ys g))

-- ---- the other lines

pub malformed_is : (n : ℕ) → 0 < n → malformed_text n ≡ line_text (refused_word ∷ shown 9 ∷ shown n ∷ [])
unfolding malformed_text
malformed_is n h = rw (malformed_text, ne_eqb n 0 (λ z. omega arith))

module _ (id rows cols : ℕ) (o : Outcome) where
  pub outcome-accepted :
      o.report.refusal.number ≡ 0 →
      outcome_text id rows cols o ≡ report_text id o.report ++ rows_text rows cols o.held.matrix
  unfolding outcome_text
  outcome-accepted e = rw (outcome_text, eq-eqb o.report.refusal.number 0 e)

  pub outcome-refused : (o.report.refusal.number ≡ 0 → ⊥) → outcome_text id rows cols o ≡ refused_text id o.report
  unfolding outcome_text
  outcome-refused e = rw (outcome_text, ne_eqb o.report.refusal.number 0 e)

-- only the first r * c readings are written
pub rows_taken : (r c : ℕ) (m : List Float) → r * c ≤ length m → rows_text r c (take (r * c) m) ≡ rows_text r c m
rows_taken r c m h =
    let l : length (take (r * c) m) ≡ r * c = length-take-le (r * c) m h in
    sym (rows_only r c (take (r * c) m) (drop (r * c) m) l) ∙ ap (λ (z : List Float). rows_text r c z) (take-append-drop (r * c) m)
