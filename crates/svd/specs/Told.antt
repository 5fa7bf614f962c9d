-- What an answer that a call's promise allows is made of: the refusal that it tells, and the run that it comes from.
-- Assumes nothing.
use Rattle.std.specs.Prelude.{◌↔◌, Some, Ok, Err, ◌≡◌, refl, Bool, true, false, ℕ, ◌+◌, ◌-◌, ◌*◌, ◌≤◌, ◌<◌, eqb, length}
use Rattle.std.proofs.Common.{sym, ap, subst, ◌∙◌, ⊎_elim, arith, eqb-true}
use Rattle.std.specs.Float.{binary64}
use Rattle.std.proofs.lemmas.Bool.{eqb-false}
use Rattle.method.specs.Work.{Work, packed}
use Rattle.method.specs.Walk.{Tally, State, start, going}
use Rattle.method.proofs.Walk.Run.{going-true, ended}
use Rattle.method.specs.Walk.Turns.{PassCounts}
use Rattle.method.proofs.Walk.Turns.{applied-counts}
use Rattle.method.specs.Walk.Applied.{applied, Applied}
use Rattle.method.proofs.Walk.Applied.{walked-applied}
use Rattle.method.specs.Checks as Checks
use Rattle.method.specs.Checks.{refusal_of}
use Rattle.method.proofs.Checks.Table.{TruePlace, true_place, fit}
use Rattle.method.specs.Report as Report
use Rattle.method.specs.Report.{refused}
use Rattle.method.specs.Outcome.{Outcome, outcome_of, card, is_upper, rules_for, form_of, walked_from, accepted, outcome}
use Rattle.method.proofs.Outcome.Refused.{refused-outcome, accepted-outcome, outcome-refusal, outcome-number}
use Rattle.method.specs.Report.Words.{TrueWord}
use Rattle.method.specs.Outcome.Reports.{TrueReport, settled_report, at_limit}
use Rattle.method.proofs.Outcome.Reports.{accepted-true, accepted-word}
use Rattle.method.specs.Outcome.Reports.{moves_made}
use Rattle.method.proofs.Outcome.Reports.{accepted-turned}
use Rattle.method.proofs.Outcome.Calls.{quiet_settles, rotations_few}
use Rattle.method.specs.Settings.{most_limit, most_rotations}
use Rattle.method.specs.Repeated.{carried_out}
use Rattle.method.specs.Moves.{carried}
use Rattle.method.proofs.Moves.Laws.{rotations_are}
use Rattle.method.specs.Walk.Drops.{tally_down}
use Rattle.method.specs.Quiet.{BoundsAbove}
use Rattle.checks.specs.declared.settings.Settings.{Settings}
use Rattle.checks.specs.Values.{settings_of}
use Rattle.svd.specs.declared.report.Word.{Word}
use Rattle.svd.specs.Values.{Answer, said, word_in, worded, report_of}
use Rattle.svd.specs.Answers.{word_one}

-- the report, and the lists, of an equation between two outcomes
abbrev pub reports_of : {o o' : Outcome} → o ≡ o' → o.report ≡ o'.report
reports_of e = ap (λ (o : Outcome). o.report) e

abbrev pub lists_of : {o o' : Outcome} → o ≡ o' → o.held ≡ o'.held
lists_of e = ap (λ (o : Outcome). o.held) e

-- by their numbers the words differ
abbrev numbered : Report.Word → ℕ
numbered w = Report.word_number w

-- when a quiet outcome settles: the law of the definition, of an outcome that equals its own
pub told-settles :
    (kept : Bool) (rows cols : ℕ) (s : Settings) (w₀ : Work) (n : ℕ) →
    s.limit < n →
    n ≤ most_limit →
    (o : Outcome) → o ≡ outcome binary64 kept rows cols (settings_of s) w₀ →
    let t = o.report.tally in
    (s.credit ≡ 0 → s.limit + (t.range - 1) ≤ n) →
    (refusal_of kept rows cols (settings_of s) w₀).number ≡ 0 →
    o.report.word ≡ Report.quiet →
    BoundsAbove binary64 s.tolerance s.absolute cols t.range o.held.matrix →
    outcome binary64 kept rows cols (at_limit n (settings_of s)) w₀ ≡ outcome_of (settled_report (tally_down t)) o.held
told-settles kept rows cols s w₀ n more most o p =
    rw p (quiet_settles binary64 kept rows cols (settings_of s) w₀ n more most)

-- the word that is told is the answer's
told-said : (r : Answer) → worded (said r) ≡ (report_of r).word
told-said (Ok r) = refl
told-said (Err e) = refl

-- so what is said of the word that is told is said of the answer's, word by word
pub told-says :
    {A : Type 0} (r : Answer) (v : Word) → ((report_of r).word ≡ word_in v) ↔ A → (said r ≡ Some v) ↔ A
told-says r v says = (
  λ q. says.0 (sym (told-said r) ∙ ap worded q),
  λ a. word_one (said r) (Some v) (told-said r ∙ says.1 a),
)

module _ (kept : Bool) (rows cols : ℕ) (s : Settings) (w₀ : Work) (r : Answer) (w : Work) where
  abbrev found : Checks.Refusal
  found = refusal_of kept rows cols (settings_of s) w₀

  -- where the walk begins, its end, and the state after k passes
  abbrev begins : State Work
  begins = start (card rows cols) (form_of binary64 (packed kept rows cols) rows cols (settings_of s) w₀)

  abbrev ends : State Work
  ends = walked_from binary64 (packed kept rows cols) rows cols (settings_of s) w₀

  abbrev passed : ℕ → State Work
  passed k =
      applied (rules_for binary64 (packed kept rows cols) rows cols (settings_of s)) s.credit k begins

  made : Applied (rules_for binary64 (packed kept rows cols) rows cols (settings_of s)) s.limit s.credit begins ends
  made =
      let z = packed kept rows cols in
      walked-applied (rules_for binary64 z rows cols (settings_of s)) s.limit s.credit (card rows cols) _

  module _ (a : outcome_of (report_of r) w ≡ outcome binary64 kept rows cols (settings_of s) w₀) where
    -- the number that is told is the refusal's
    pub told-number : (report_of r).refusal.number ≡ found.number
    told-number =
        ap (λ (x : Report.Report). x.refusal.number) (reports_of a)
        ∙ outcome-number binary64 kept rows cols (settings_of s) w₀

    -- the two ways out
    pub told-refused : ¬ ((report_of r).refusal.number ≡ 0) → outcome_of (report_of r) w ≡ outcome_of (refused found) w₀
    told-refused h = a ∙ refused-outcome binary64 kept rows cols (settings_of s) w₀ (λ e. h (told-number ∙ e))

    pub told-accepted :
        (report_of r).refusal.number ≡ 0 →
        outcome_of (report_of r) w ≡ accepted binary64 kept rows cols (settings_of s) w₀
    told-accepted e = a ∙ accepted-outcome binary64 kept rows cols (settings_of s) w₀ (sym told-number ∙ e)

    -- the refusal that is told is the definition's, so its place is true
    pub told-place : TruePlace kept rows cols (settings_of s) w₀ (report_of r).refusal
    told-place =
        let q = ap (λ (x : Report.Report). x.refusal) (reports_of a) in
        rw (q ∙ outcome-refusal binary64 kept rows cols (settings_of s) w₀)
        (true_place kept rows cols (settings_of s) w₀)

    -- a refused call tells its refusal alone
    pub told-alone : ¬ ((report_of r).refusal.number ≡ 0) → report_of r ≡ refused (report_of r).refusal
    told-alone h =
        let q = reports_of (told-refused h) in
        q ∙ ap refused (sym (ap (λ (x : Report.Report). x.refusal) q))

    -- what has another word than `none` was not refused
    pub worded-fine : (v : Report.Word) → (report_of r).word ≡ v → ¬ (numbered v ≡ 0) → (report_of r).refusal.number ≡ 0
    worded-fine v e some = go (eqb (report_of r).refusal.number 0) refl
      where
        go : (t : Bool) → eqb (report_of r).refusal.number 0 ≡ t → (report_of r).refusal.number ≡ 0
        go true t = eqb-true _ 0 t
        go false t =
            let q = ap (λ (x : Report.Report). x.word) (told-alone (eqb-false _ 0 t)) in
            absurd (some (ap numbered (sym e ∙ q)))

    module _ (e : (report_of r).refusal.number ≡ 0) where
      -- the report of an accepted run is true
      pub told-true : TrueReport (settings_of s) (card rows cols) (report_of r)
      told-true =
          let k = fit kept rows cols (settings_of s) w₀ (sym told-number ∙ e) in
          rw (reports_of (told-accepted e))
          (accepted-true binary64 kept rows cols (settings_of s) w₀ k.rows_some k.cols_some)

      -- counts and lists are those of the walk's end,
      told-end : ((report_of r).tally ≡ ends.walk.tally) × (w ≡ ends.held)
      unfolding accepted
      told-end = (ap (λ (o : Outcome). o.report.tally) (told-accepted e), lists_of (told-accepted e))

      told-passes : (report_of r).tally.passes ≡ ends.walk.tally.passes
      told-passes = ap (λ (t : Tally). t.passes) told-end.0

      -- which is the state after as many passes as are told,
      pub told-made :
          let e = passed (report_of r).tally.passes in
          ((report_of r).tally ≡ e.walk.tally) × (w ≡ e.held)
      told-made =
          let q = made.counted ∙ ap passed (sym told-passes) in
          (told-end.0 ∙ ap (λ (x : State Work). x.walk.tally) q, told-end.1 ∙ ap (λ (x : State Work). x.held) q)

      -- before each of which there was one to do,
      pub told-due : (k : ℕ) → k < (report_of r).tally.passes → going s.limit (passed k).walk ≡ true
      told-due k h = made.each k (rw told-passes at h)

      -- and then none
      pub told-done : going s.limit (passed (report_of r).tally.passes).walk ≡ false
      told-done = rw (told-passes, ← made.counted) made.ended

      -- a drop computes no rotation, a sweep two for each coupling of its range
      pub told-turns :
          (k : ℕ) → k < (report_of r).tally.passes →
          let t = (passed k).walk.tally in
          PassCounts (2 * (t.range - 1)) t (passed (k + 1)).walk.tally
      told-turns k h =
          let wide = (going-true s.limit (passed k).walk (told-due k h)).wide in
          rw (rotations_are (is_upper rows cols) (passed k).walk.tally.range wide) at
          (applied-counts (rules_for binary64 (packed kept rows cols) rows cols (settings_of s)) s.credit k begins)

      -- and those computed are told: the moves of its sweeps, carried out one after another, give the lists
      pub told-moves :
          let z = packed kept rows cols in
          let first = begins in
          let ms = moves_made binary64 z rows cols (settings_of s) (report_of r).tally.passes first in
          (w ≡ carried_out (carried binary64 z) ms first.held) × ((report_of r).tally.rotations ≡ length ms)
      told-moves =
          let q = accepted-turned binary64 kept rows cols (settings_of s) w₀ in
          subst
          (λ (o : Outcome).
          let z = packed kept rows cols in
          let first = begins in
          let ms = moves_made binary64 z rows cols (settings_of s) o.report.tally.passes first in
          (o.held ≡ carried_out (carried binary64 z) ms first.held) × (o.report.tally.rotations ≡ length ms))
          (sym (told-accepted e))
          q

      -- so many at most
      pub told-rotations : (report_of r).tally.rotations ≤ most_rotations
      told-rotations =
          rw (ap (λ (o : Outcome). o.report.tally.rotations) a)
          (rotations_few binary64 kept rows cols (settings_of s) w₀ (sym told-number ∙ e))

      -- where more than 1 is left, the limit ran out
      pub told-spent : 1 < (report_of r).tally.range → s.limit ≤ (passed (report_of r).tally.passes).walk.counter
      told-spent h =
          let k = (passed (report_of r).tally.passes).walk in
          let range = ap (λ (t : Tally). t.range) told-made.0 in
          ⊎_elim (λ l. absurd (let z : ⊥ = omega (arith, range) in z)) (λ l. l) (ended s.limit k told-done)

      -- the word is true of the range and of the table that is left
      pub told-word : TrueWord (is_upper rows cols) cols (report_of r).tally.range w.matrix ((report_of r).word)
      told-word =
          let k = fit kept rows cols (settings_of s) w₀ (sym told-number ∙ e) in
          subst
          (λ (o : Outcome). TrueWord (is_upper rows cols) cols o.report.tally.range o.held.matrix o.report.word)
          (sym (told-accepted e))
          (accepted-word binary64 kept rows cols (settings_of s) w₀ k.rows_some k.cols_some)
