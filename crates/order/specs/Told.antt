-- What an answer that the promise of the ordered call allows is made of: the refusal that it tells, and the run that it
-- comes from. Assumes nothing.
use Rattle.std.specs.Prelude.{◌≡◌, ◌⊎◌, true, List, ℕ, ◌≤◌, ◌<◌, Float}
use Rattle.std.proofs.Common.{sym, ap, ◌∙◌, inl, inr}
use Rattle.std.specs.Float.{binary64}
use Rattle.method.specs.Work.{Work}
use Rattle.method.proofs.Checks.Table.{TruePlace}
use Rattle.method.specs.Report as Report
use Rattle.method.specs.Report.{refused}
use Rattle.method.specs.Outcome.{Outcome, outcome_of, accepted, outcome}
use Rattle.method.proofs.Outcome.Refused.{accepted-outcome}
use Rattle.method.specs.Ordered.{Ordered, ordered_of, ordered_refusal, refused_after, ordered_outcome}
use Rattle.method.proofs.Ordered.Ways.{refused-before, ran_on, found_after, refused-after}
use Rattle.method.proofs.Ordered.Numbers.{answers, ordered-before, ordered-after, ordered-found, answer-place, lent_none}
use Rattle.method.proofs.Ordered.Numbers.{sorts}
use Rattle.method.proofs.Ordered.Laws as Laws
use Rattle.checks.specs.declared.settings.Settings.{Settings}
use Rattle.checks.specs.Values.{settings_of}
use Rattle.svd.specs.Values.{Answer, report_of}
use Rattle.order.specs.Values.{OrderedAnswer, ordered_report}

-- report and lists, and the values, of an equation between two outcomes
abbrev pub runs_of : {o o' : Ordered} → o ≡ o' → o.run ≡ o'.run
runs_of e = ap (λ (o : Ordered). o.run) e

abbrev pub reports_of : {o o' : Ordered} → o ≡ o' → o.run.report ≡ o'.run.report
reports_of e = ap (λ (o : Ordered). o.run.report) e

abbrev pub lists_of : {o o' : Ordered} → o ≡ o' → o.run.held ≡ o'.run.held
lists_of e = ap (λ (o : Ordered). o.run.held) e

abbrev pub values_of : {o o' : Ordered} → o ≡ o' → o.values ≡ o'.values
values_of e = ap (λ (o : Ordered). o.values) e

module _ (rows cols : ℕ) (s : Settings) (w₀ : Work) (l₀ : List Float) (r : OrderedAnswer) (w : Work) (l : List Float)
    (a : ordered_of (outcome_of (ordered_report r) w) l ≡ ordered_outcome binary64 rows cols (settings_of s) w₀ l₀) where
  -- the accumulating run
  abbrev ran : Outcome
  ran = accepted binary64 true rows cols (settings_of s) w₀

  -- number and place are the outcome's
  pub told-number : (ordered_report r).refusal.number ≡ answers rows cols (settings_of s) w₀ l₀ binary64
  told-number = ap (λ (x : Report.Report). x.refusal.number) (reports_of a)

  pub told-place : TruePlace true rows cols (settings_of s) w₀ (ordered_report r).refusal
  told-place =
      rw (ap (λ (x : Report.Report). x.refusal) (reports_of a)) (answer-place rows cols (settings_of s) w₀ l₀ binary64)

  -- refused before the run
  pub told-before :
      ¬ ((ordered_report r).refusal.number ≡ 0) → (ordered_report r).refusal.number < 12 →
      ordered_of (outcome_of (ordered_report r) w) l
      ≡ ordered_of (outcome_of (refused (ordered_refusal rows cols (settings_of s) w₀ l₀)) w₀) l₀
  told-before h low =
      a
      ∙ refused-before rows cols (settings_of s) w₀ l₀ binary64
      (ordered-before rows cols (settings_of s) w₀ l₀ binary64 (λ z. h (told-number ∙ z)) (rw told-number at low))

  -- refused after it
  pub told-after :
      12 ≤ (ordered_report r).refusal.number →
      ordered_of (outcome_of (ordered_report r) w) l
      ≡ ordered_of (outcome_of (refused_after (found_after rows cols ran l₀) ran.report) ran.held) l₀
  told-after high =
      let high' = rw told-number at high in
      a
      ∙ ran_on rows cols (settings_of s) w₀ l₀ binary64 (ordered-after rows cols (settings_of s) w₀ l₀ binary64 high')
      ∙ refused-after rows cols ran l₀ (ordered-found rows cols (settings_of s) w₀ l₀ binary64 high')

  -- where the run was made, nothing was refused before it
  pub told-run :
      ((ordered_report r).refusal.number ≡ 0) ⊎ (12 ≤ (ordered_report r).refusal.number) →
      (ordered_refusal rows cols (settings_of s) w₀ l₀).number ≡ 0
  told-run (inl z) = (sorts rows cols (settings_of s) w₀ l₀ binary64 (sym told-number ∙ z)).before
  told-run (inr high) = ordered-after rows cols (settings_of s) w₀ l₀ binary64 (rw told-number at high)

  -- ---- the accumulating call on the same input

  module _ (r' : Answer) (w' : Work)
      (a' : outcome_of (report_of r') w' ≡ outcome binary64 true rows cols (settings_of s) w₀) where
    -- it refuses nothing where the ordered call is not refused before the run
    full_free : (ordered_refusal rows cols (settings_of s) w₀ l₀).number ≡ 0 → outcome_of (report_of r') w' ≡ ran
    full_free e =
        a' ∙ accepted-outcome binary64 true rows cols (settings_of s) w₀ (lent_none rows cols (settings_of s) w₀ l₀ e).1

    -- so where the run was made word, counts and matrix are the same
    pub as_full :
        ((ordered_report r).refusal.number ≡ 0) ⊎ (12 ≤ (ordered_report r).refusal.number) →
        ((ordered_report r).word ≡ (report_of r').word)
        × ((ordered_report r).tally ≡ (report_of r').tally)
        × (w.matrix ≡ w'.matrix)
    as_full h =
        let q = runs_of (a ∙ ran_on rows cols (settings_of s) w₀ l₀ binary64 (told-run h)) in
        let q' = full_free (told-run h) in
        let same = Laws.as_ran binary64 rows cols (settings_of s) w₀ l₀ in (
          ap (λ (o : Outcome). o.report.word) q ∙ same.0 ∙ ap (λ (o : Outcome). o.report.word) (sym q'),
          ap (λ (o : Outcome). o.report.tally) q ∙ same.1 ∙ ap (λ (o : Outcome). o.report.tally) (sym q'),
          ap (λ (o : Outcome). o.held.matrix) q ∙ same.2 ∙ ap (λ (o : Outcome). o.held.matrix) (sym q'),
        )
