-- What the surveys of any text are, and what `split` says of each: `surveys`, at the end. Assumes nothing.
use Rattle.std.specs.Prelude.{◌≡◌, refl, Bool, true, ℕ, ◌+◌, ◌-◌, ◌*◌, eqb, Float, length}
use Rattle.std.proofs.Common.{sym, subst, ◌∙◌, true≢false, ⊎_elim, le_of_eq, arith, eqb-true}
use Rattle.std.proofs.Math.Path.{ap}
use Rattle.std.proofs.Math.Bool.{false}
use Rattle.std.proofs.Math.Logic.{inl, inr}
use mathlib.Core.List.{List, [], ◌∷◌, Memᴰ}
use Rattle.std.proofs.lemmas.Bool.{eqb-false}
use Rattle.std.specs.Float.Ieee.{binary64}
use Rattle.method.specs.Work.{work}
use Rattle.method.specs.Checks.{Place, bad_readings, refusal}
use Rattle.method.specs.Checks.Readings.{AllGood}
use Rattle.method.proofs.Checks.Readings.{first-bad, none-bad, all_finite_lem}
use Rattle.method.proofs.Index.{inside}
use Rattle.method.specs.Report.{refused}
use Rattle.method.specs.Outcome.{Outcome, outcome_of}
use Rattle.method.proofs.Outcome.Refused.{accepted-number}
use Rattle.method.specs.Defaults.{defaults}
use Rattle.text.specs.Text.{Bytes}
use Rattle.survey.specs.declared.reading.Entry.{Entry}
use Rattle.survey.specs.Form.{Got, malformed, got, head, body, bodies, reading, Survey}
use Rattle.survey.specs.Print.{refused_text, outcome_text, survey_text}
use Rattle.survey.specs.Code.{survey_of}
use Rattle.survey.specs.Found.{InRange}
use Rattle.survey.proofs.WritingLaws.{outcome-accepted, outcome-refused}
use Rattle.survey.proofs.Verdict.{Table, accepts, refuses}
use Rattle.survey.proofs.Whole.{All, head-all, survey_length}
use Rattle.survey.specs.Surveys.{AllFinite, Judged, OneBad, SurveyIn, number, outcome_for, place, refused_at, split_of}

-- ---- every survey of a text is a table of its sizes

pub table : (e : Entry) (xs : List Float) → InRange e → length xs ≡ e.rows * e.cols → Table e.rows e.cols xs
table e xs r l = record {
  rows_least = r.rows_least;
  rows_most = r.rows_most;
  cols_least = r.cols_least;
  cols_most = r.cols_most;
  size = l;
}

-- its entry in range, and its readings as many as they should be
abbrev Sized : Survey → Type 0
Sized s = InRange s.entry × (length s.readings ≡ s.entry.rows * s.entry.cols)

bodies-sized : (es : List Entry) (n : ℕ) (t : Bytes) → All es
    → (s : Survey) → Memᴰ s (bodies es n t).surveys → Sized s
unfolding bodies
bodies-sized [] n [] a s m = absurd (mathlib.Core.List.Memᴰ.not-nil m)
bodies-sized [] n (b ∷ t) a s m = absurd (mathlib.Core.List.Memᴰ.not-nil m)
bodies-sized (e ∷ es) n t a s m = go (body e.rows (e.cols - 1) n t) refl (λ n₁ t₁. bodies-sized es n₁ t₁ a.1 s)
  where
    go : (g : Got (List Float)) → body e.rows (e.cols - 1) n t ≡ g
        → ((n₁ : ℕ) (t₁ : Bytes) → Memᴰ s (bodies es n₁ t₁).surveys → Sized s) → Sized s
    go (malformed k) h ih =
        let q : Memᴰ s [] = rw (bodies, h) at m in
        absurd (mathlib.Core.List.Memᴰ.not-nil q)
    go (got xs n₁ t₁) h ih =
        let q : Memᴰ s (survey_of e xs ∷ (bodies es n₁ t₁).surveys) = rw (bodies, h) at m in
        let here : Sized (survey_of e xs) = (a.0, survey_length e a.0 n t xs n₁ t₁ h) in
        ⊎_elim (λ x. subst Sized (sym x) here) (ih n₁ t₁) (mathlib.Core.List.Memᴰ.cases_cons q)

text_sized : (t : Bytes) (s : Survey) → SurveyIn t s → Sized s
unfolding reading
text_sized t s m = go (head 1 t) refl
  where
    go : (g : Got (List Entry)) → head 1 t ≡ g → Sized s
    go (malformed k) h =
        let q : Memᴰ s [] = rw (reading, h) at m in
        absurd (mathlib.Core.List.Memᴰ.not-nil q)
    go (got es n t₁) h =
        let q : Memᴰ s (bodies es n t₁).surveys = rw (reading, h) at m in
        bodies-sized es n t₁ (head-all t es n t₁ h) s q

-- ---- what is said of such a table

module _ (s : Survey) (z : Sized s) where
  abbrev xs : List Float
  xs = s.readings

  not_both : AllFinite xs → OneBad s → ⊥
  not_both all b =
      let at = b.there in
      let here = inside s.entry.cols (length xs) at.row_in at.column_in (le_of_eq (sym z.1)) in
      true≢false (sym (all (b.row * s.entry.cols + b.column) here) ∙ at.bad)

  fits : Table s.entry.rows s.entry.cols xs
  fits = table s.entry xs z.0 z.1

  judged_finite : AllGood s.entry.cols s.entry.rows s.entry.cols xs → Judged s
  unfolding survey_text
  judged_finite good =
      let all : AllFinite xs = λ k h. all_finite_lem s.entry.rows s.entry.cols xs good k (rw z.1 at h) in
      let o : outcome_for s ≡ split_of s = accepts s.entry.rows s.entry.cols xs fits good in
      let a = accepted-number binary64 false s.entry.rows s.entry.cols defaults (work xs [] []) in
      let n : number s ≡ 0 = ap (λ (o : Outcome). o.report.refusal.number) o ∙ a in
      record {
        entry_fit = z.0;
        size = z.1;
        numbers = inl n;
        accepted-when = (λ _. all, λ _. n);
        accepted-printed = λ _. ap (λ (o : Outcome). outcome_text s.entry.id s.entry.rows s.entry.cols o) o
            ∙ outcome-accepted s.entry.id s.entry.rows s.entry.cols (split_of s) a;
        refused-when = (λ e. absurd (omega (arith, e, n)), λ b. absurd (not_both all b));
        refused-place = λ e. absurd (omega (arith, e, n));
        refused-printed = λ e. absurd (omega (arith, e, n));
      }

  abbrev found : Place
  found = bad_readings s.entry.cols s.entry.rows s.entry.cols xs

  judged_bad : ¬ (found.bad ≡ 0) → Judged s
  unfolding survey_text refused_text
  judged_bad h =
      let first = first-bad s.entry.cols s.entry.rows s.entry.cols xs h in
      let bad : OneBad s = record { row = found.row; column = found.column; there = first.there } in
      let said = outcome_of (refused (refusal 8 found)) (work xs [] []) in
      let o : outcome_for s ≡ said = refuses s.entry.rows s.entry.cols xs fits bad in
      let n : number s ≡ 8 = ap (λ (o : Outcome). o.report.refusal.number) o in
      let w : place s ≡ found = ap (λ (o : Outcome). o.report.refusal.place) o in
      let q : survey_text s ≡ refused_at s found =
      ap (λ (o : Outcome). outcome_text s.entry.id s.entry.rows s.entry.cols o) o
      ∙ outcome-refused s.entry.id s.entry.rows s.entry.cols said (λ z. omega (arith, z)) in
      record {
        entry_fit = z.0;
        size = z.1;
        numbers = inr n;
        accepted-when = (λ e. absurd (omega (arith, e, n)), λ all. absurd (not_both all bad));
        accepted-printed = λ e. absurd (omega (arith, e, n));
        refused-when = (λ _. bad, λ _. n);
        refused-place = λ _. rw w first;
        refused-printed = λ _. q ∙ ap (λ (p : Place). refused_at s p) (sym w);
      }

  judged : Judged s
  judged = go (eqb found.bad 0) refl
    where
      go : (b : Bool) → eqb found.bad 0 ≡ b → Judged s
      go true e = judged_finite (none-bad s.entry.cols s.entry.rows s.entry.cols xs (eqb-true _ 0 e)).1
      go false e = judged_bad (eqb-false _ 0 e)

-- Of any text t and any survey s of it: s is a table of its sizes, and it is accepted where every reading is finite and
-- refused by 8, with the first bad reading's row and column and how many there are, where one is not.
pub surveys : (t : Bytes) (s : Survey) → SurveyIn t s → Judged s
surveys t s m = judged s (text_sized t s m)
