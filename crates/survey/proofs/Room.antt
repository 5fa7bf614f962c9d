-- What is printed of any bytes fits 314,000: at most 8 surveys of at most 39,216 bytes each, and a refusal. Assumes
-- nothing.
use Rattle.std.specs.Prelude.{◌≡◌, Bool, true, false, List, [], ◌∷◌, ◌++◌, ℕ, zero, suc, ◌+◌, ◌-◌, ◌*◌, ◌<◌, ◌≤◌, eqb, Float, length}
use Rattle.std.proofs.Math.Path.{refl}
use Rattle.std.proofs.Math.Option.{Option, none, some}
use Rattle.std.proofs.Common.{arith, eqb-true, length-append}
use Rattle.std.proofs.lemmas.Bool.{eqb-false}
use Rattle.std.specs.Float.{binary64}
use Rattle.method.specs.Report.{Word, none as no_word, settled, stopped, quiet}
use Rattle.method.specs.Outcome.{Outcome, plain_outcome}
use Rattle.method.specs.Defaults.{defaults}
use Rattle.survey.specs.declared.reading.Entry.{Entry}
use Rattle.text.specs.Text.{Bytes, LF, ◌>>=◌, cut, shown, ending, line_text}
use Rattle.text.proofs.NumeralLaws.{number-range}
use Rattle.text.proofs.WritingLaws.{length-shown, places-most}
use Rattle.survey.specs.Sizes.{room}
use Rattle.survey.specs.Form.{count_line, entry_line, row_line, short, Got, malformed, got, line, and_then, contents, head, body, bodies, reading}
use Rattle.survey.specs.Print.{rows_text, refused_word, word_text, report_text, refused_text, outcome_text, survey_text, surveys_text, malformed_text, printed, split}
use Rattle.survey.specs.Code.{Small, survey_of}
use Rattle.survey.specs.Found.{InRange}
use Rattle.survey.proofs.WritingLaws.{malformed_is, length-rows, outcome-accepted, outcome-refused}
use Rattle.survey.proofs.Verdict.{small, same_size}
use Rattle.survey.proofs.Surveys.{table}
use Rattle.survey.proofs.Whole.{All, contents-all, survey_length, printed-first, area}
use Rattle.survey.proofs.LineSize.{line-size}
use Rattle.survey.proofs.TextSize.{contents-size}

-- ---- lines of short fields

-- every field has at most 7 bytes
abbrev Short : List Bytes → Type 0
Short [] = Unit
Short (w ∷ ws) = (length w ≤ 7) × Short ws

line-most : (ws : List Bytes) → Short ws → length (line_text ws) ≤ 8 * length ws
unfolding line_text
line-most [] s = omega arith
line-most (w ∷ ws) s = omega (arith, length-append w (ending ws ∷ line_text ws), s.0, line-most ws s.1)

shown-most : (n : ℕ) → n < 1000000 → length (shown n) ≤ 7
shown-most n h = omega (arith, length-shown n, places-most 5 n (omega arith))

word_most : (w : Word) → length (word_text w) ≤ 7
word_most no_word = omega arith
word_most settled = omega arith
word_most stopped = omega arith
word_most quiet = omega arith

malformed_most : (n : ℕ) → n < 1000000 → length (malformed_text n) ≤ 24
unfolding malformed_text
malformed_most zero h = omega arith
malformed_most (suc n) h = rw (malformed_is (suc n) (omega arith)) (line-most (refused_word ∷ shown 9 ∷ shown (suc n) ∷ []) (omega arith, (shown-most 9 (omega arith), (shown-most (suc n) h, tt))))

-- ---- a survey

module _ (e : Entry) (xs : List Float) (r : InRange e) (l : length xs ≡ e.rows * e.cols) where
  abbrev told : Outcome
  told = plain_outcome binary64 e.rows e.cols defaults xs

  survey_most : length (survey_text (survey_of e xs)) ≤ 39224
  unfolding survey_text report_text refused_text
  survey_most = go (eqb told.report.refusal.number 0) refl (small e.rows e.cols xs (table e xs r l)) (same_size e.rows e.cols xs (table e xs r l))
    where
      id_few : e.id < 1000000
      id_few = omega (arith, r.id_most)

      go :
          (b : Bool) → eqb told.report.refusal.number 0 ≡ b → Small told.report →
          length told.held.matrix ≡ length xs → length (outcome_text e.id e.rows e.cols told) ≤ 39224
      go true x s m =
          let w = line-most (shown e.id ∷ word_text told.report.word ∷ shown told.report.tally.passes ∷ shown told.report.tally.sweeps ∷ shown told.report.tally.drops ∷ shown told.report.tally.range ∷ shown told.report.tally.rotations ∷ [])
          (shown-most e.id id_few, (word_most told.report.word, (shown-most told.report.tally.passes s.passes, (shown-most told.report.tally.sweeps s.sweeps, (shown-most told.report.tally.drops s.drops, (shown-most told.report.tally.range s.range, (shown-most told.report.tally.rotations s.rotations, tt))))))) in
          let q = length-rows e.rows e.cols told.held.matrix (omega (arith, m, l)) in
          rw (outcome-accepted e.id e.rows e.cols told (eqb-true told.report.refusal.number 0 x))
          (omega (arith, length-append (report_text e.id told.report) (rows_text e.rows e.cols told.held.matrix), w, q, (area e r).0))
      go false x s m =
          let p = told.report.refusal.place in
          let w = line-most (shown e.id ∷ refused_word ∷ shown told.report.refusal.number ∷ shown p.row ∷ shown p.column ∷ shown p.bad ∷ [])
          (shown-most e.id id_few, (omega arith, (shown-most told.report.refusal.number s.number, (shown-most p.row s.row, (shown-most p.column s.column, (shown-most p.bad s.bad, tt)))))) in
          rw (outcome-refused e.id e.rows e.cols told (eqb-false told.report.refusal.number 0 x)) (omega (arith, w))

-- ---- line numbers

-- the number that reading stands at, or of the malformed line
unfoldable line_of : {A : Type 0} → Got A → ℕ
line_of (malformed n) = n
line_of (got a n t) = n

one_line : {A : Type 0} (rule : Bytes → Option A) (n : ℕ) (t : Bytes) → line_of (line rule n t) ≤ n + 1
unfolding line_of line
one_line {A} rule n t = go (cut LF t) refl
  where
    mid : (p : Bytes × Bytes) (o : Option A) → cut LF t ≡ some p → (short p.0 >>= rule) ≡ o
        → line_of (line rule n t) ≤ n + 1
    mid p none e f = rw (line, e, f) (omega arith)
    mid p (some a) e f = rw (line, e, f) (omega arith)

    go : (o : Option (Bytes × Bytes)) → cut LF t ≡ o → line_of (line rule n t) ≤ n + 1
    go none e = rw (line, e) (omega arith)
    go (some p) e = mid p (short p.0 >>= rule) e refl

body-lines : (r c n : ℕ) (t : Bytes) → line_of (body r c n t) ≤ n + r
unfolding line_of body and_then
body-lines zero c n t = omega arith
body-lines (suc r) c n t = go (line (row_line c) n t) (one_line (row_line c) n t) (λ k s. body-lines r c k s)
  where
    tail : (x : List Float) (g : Got (List Float)) (k : ℕ) → line_of g ≤ k → line_of (and_then g (λ ys. got (x ++ ys))) ≤ k
    tail x (malformed m) k h = h
    tail x (got ys m s) k h = h

    go : (g : Got (List Float)) → line_of g ≤ n + 1 → ((k : ℕ) (s : Bytes) → line_of (body r c k s) ≤ k + r)
        → line_of (and_then g (λ xs k s. and_then (body r c k s) λ ys. got (xs ++ ys))) ≤ n + suc r
    go (malformed m) h ih = omega arith
    go (got x k s) h ih = tail x (body r c k s) (n + suc r) (omega (arith, ih k s))

contents-lines : (k : ℕ) (es : List Entry) (n : ℕ) (t : Bytes) → line_of (contents k es n t) ≤ n + k
unfolding line_of contents and_then
contents-lines zero es n t = omega arith
contents-lines (suc k) es n t = go (line (entry_line es) n t) (one_line (entry_line es) n t) (λ x m s. contents-lines k (es ++ (x ∷ [])) m s)
  where
    go : (g : Got Entry) → line_of g ≤ n + 1
        → ((x : Entry) (m : ℕ) (s : Bytes) → line_of (contents k (es ++ (x ∷ [])) m s) ≤ m + k)
        → line_of (and_then g (λ x. contents k (es ++ (x ∷ [])))) ≤ n + suc k
    go (malformed m) h ih = omega arith
    go (got x m s) h ih = omega (arith, ih x m s)

-- ---- the whole

bodies-most : (es : List Entry) (n : ℕ) (t : Bytes) → All es → n + 48 * length es < 1000000
    → length (printed (bodies es n t)) ≤ 39224 * length es + 24
unfolding bodies printed surveys_text line_of
bodies-most [] n [] a h = omega (arith, malformed_most 0 (omega arith))
bodies-most [] n (b ∷ t) a h = omega (arith, malformed_most n (omega arith))
bodies-most (e ∷ es) n t a h = go (body e.rows (e.cols - 1) n t) refl (λ m s. bodies-most es m s a.1)
  where
    lines : line_of (body e.rows (e.cols - 1) n t) ≤ n + e.rows
    lines = body-lines e.rows (e.cols - 1) n t

    go : (g : Got (List Float)) → body e.rows (e.cols - 1) n t ≡ g
        → ((m : ℕ) (s : Bytes) → m + 48 * length es < 1000000
        → length (printed (bodies es m s)) ≤ 39224 * length es + 24)
        → length (printed (bodies (e ∷ es) n t)) ≤ 39224 * suc (length es) + 24
    go (malformed m) x ih =
        let k : m ≤ n + e.rows = rw x at lines in
        rw (bodies, x) (omega (arith, malformed_most m (omega (arith, a.0.rows_most))))
    go (got xs m s) x ih =
        let k : m ≤ n + e.rows = rw x at lines in
        let w = survey_most e xs a.0 (survey_length e a.0 n t xs m s x) in
        let q : printed (bodies (e ∷ es) n t) ≡ survey_text (survey_of e xs) ++ printed (bodies es m s) = rw (bodies, x) (printed-first (survey_of e xs) (bodies es m s).surveys (bodies es m s).malformed_line) in
        rw q (omega (arith, length-append (survey_text (survey_of e xs)) (printed (bodies es m s)), w, ih m s (omega (arith, k, a.0.rows_most))))

-- what is printed of any bytes has at most 314,000
pub split-most : (t : Bytes) → length (split t) ≤ room
unfolding split reading head and_then count_line line_of printed surveys_text
split-most t = go (line count_line 1 t) refl (one_line count_line 1 t)
  where
    bad : (m : ℕ) → m < 1000000 → head 1 t ≡ malformed m → length (printed (reading t)) ≤ room
    bad m h e = rw (reading, e) (omega (arith, malformed_most m h))

    mid : (k n : ℕ) (s : Bytes) (g : Got (List Entry)) → line count_line 1 t ≡ got k n s → contents k [] n s ≡ g → n ≤ 2
        → k ≤ 8 → line_of g ≤ n + k → length (printed (reading t)) ≤ room
    mid k n s (malformed m) e f h i j = let d : head 1 t ≡ malformed m = rw (e, f) in bad m (omega arith) d
    mid k n s (got es n₁ t₁) e f h i j =
        let d : head 1 t ≡ got es n₁ t₁ = rw (e, f) in
        let c = contents-size k [] n s es n₁ t₁ f in
        let b = bodies-most es n₁ t₁ (contents-all k [] n s es n₁ t₁ f tt) (omega (arith, c.1)) in
        rw (reading, d) (omega (arith, b, c.1))

    go : (g : Got ℕ) → line count_line 1 t ≡ g → line_of g ≤ 1 + 1 → length (printed (reading t)) ≤ room
    go (malformed m) e h = let d : head 1 t ≡ malformed m = rw e in bad m (omega arith) d
    go (got k n s) e h =
        let l = line-size count_line 1 t k n s e in
        mid k n s (contents k [] n s) e refl h (number-range 8 l.0 k l.1).1 (contents-lines k [] n s)
