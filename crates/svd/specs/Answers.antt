-- Any two answers that a public call's promise allows are equal. Assumes nothing.
use Rattle.std.specs.Prelude.{◌≡◌, refl, Option, Some, None, Ok, Err, List, [], ℕ, Float}
use Rattle.std.proofs.Common.{sym, ap, ◌∙◌}
use Rattle.std.specs.Float.{binary64}
use Rattle.float.specs.Answers.{OneAnswer, equated_one}
use Rattle.method.specs.Work.{work}
use Rattle.method.specs.Checks as Checks
use Rattle.method.specs.Walk as Walk
use Rattle.method.specs.Report as Report
use Rattle.method.specs.Outcome.{Outcome, outcome_of, full_outcome, plain_outcome}
use Rattle.checks.specs.declared.settings.Settings.{Settings}
use Rattle.checks.specs.Values.{settings_of}
use Rattle.checks.specs.Answers.{from_refusal, from_refusal_lem}
use Rattle.svd.specs.declared.tally.Tally.{Tally}
use Rattle.svd.specs.declared.report.Word.{Word}
use Rattle.svd.specs.declared.report.Word.TheVariants.{Settled, Stopped, Quiet}
use Rattle.svd.specs.Values.{Answer, worded, report_of}

-- ---- the report

-- the word is told by the method's word, none where it has none
abbrev pub from_word : Report.Word → Option Word
from_word Report.none = None
from_word Report.settled = Some Settled
from_word Report.stopped = Some Stopped
from_word Report.quiet = Some Quiet

pub from_word_lem : (w : Option Word) → from_word (worded w) ≡ w
from_word_lem None = refl
from_word_lem (Some Settled) = refl
from_word_lem (Some Stopped) = refl
from_word_lem (Some Quiet) = refl

-- `word_number`
pub word_number-one : (w : Option Word) → OneAnswer (λ (r : ℕ). r ≡ Report.word_number (worded w))
word_number-one w = equated_one (Report.word_number (worded w))

-- so two words that say the same are the same
pub word_one : (w w' : Option Word) → worded w ≡ worded w' → w ≡ w'
word_one w w' e = sym (from_word_lem w) ∙ ap from_word e ∙ from_word_lem w'

-- the tally by the method's
abbrev pub from_tally : Walk.Tally → Tally
from_tally t =
    record {
      range = t.range;
      passes = t.passes;
      sweeps = t.sweeps;
      drops = t.drops;
      rotations = t.rotations;
    }

-- what a call answers by the method's report: where it has no word, it tells the refusal
abbrev answered : Option Word → Report.Report → Answer
answered None r = Err (from_refusal r.refusal)
answered (Some w) r = Ok (record { word = w; tally = from_tally r.tally })

abbrev from_report : Report.Report → Answer
from_report r = answered (from_word r.word) r

from_report_lem : (r : Answer) → from_report (report_of r) ≡ r
from_report_lem (Ok r) = ap (λ w. answered w (report_of (Ok r))) (from_word_lem (Some r.word))
from_report_lem (Err e) = ap Err (from_refusal_lem e)

-- so two answers that tell the same report are the same
pub report_one : (r r' : Answer) → report_of r ≡ report_of r' → r ≡ r'
report_one r r' e = sym (from_report_lem r) ∙ ap from_report e ∙ from_report_lem r'

-- what is refused
pub refused-one :
    (x : Checks.Refusal) (r r' : Answer) → report_of r ≡ Report.refused x → report_of r' ≡ Report.refused x → r ≡ r'
refused-one x r r' e e' = report_one r r' (e ∙ sym e')

-- ---- the two drivers

pub record SameAnswer {A : Type 0} (r r' : A) (b b' u u' v v' : List Float) : Type 0 where
  pub report : r ≡ r'
  pub matrix : b ≡ b'
  pub left : u ≡ u'
  pub right : v ≡ v'

-- two outcomes that are one
pub answers_one :
    (o : Outcome) (r r' : Answer) (b b' u u' v v' : List Float) →
    outcome_of (report_of r) (work b u v) ≡ o →
    outcome_of (report_of r') (work b' u' v') ≡ o →
    SameAnswer r r' b b' u u' v v'
answers_one o r r' b b' u u' v v' e e' =
    let d = e ∙ sym e' in
    record {
      report = report_one r r' (ap (λ (x : Outcome). x.report) d);
      matrix = ap (λ (x : Outcome). x.held.matrix) d;
      left = ap (λ (x : Outcome). x.held.u) d;
      right = ap (λ (x : Outcome). x.held.v) d;
    }

module _ (rows cols : ℕ) (s : Settings) where
  -- the accumulating call
  pub full_one :
      (b₀ u₀ v₀ : List Float) (r r' : Answer) (b b' u u' v v' : List Float) →
      outcome_of (report_of r) (work b u v) ≡ full_outcome binary64 rows cols (settings_of s) (work b₀ u₀ v₀) →
      outcome_of (report_of r') (work b' u' v') ≡ full_outcome binary64 rows cols (settings_of s) (work b₀ u₀ v₀) →
      SameAnswer r r' b b' u u' v v'
  full_one b₀ u₀ v₀ = answers_one (full_outcome binary64 rows cols (settings_of s) (work b₀ u₀ v₀))

  -- the plain call, which is lent no factors
  pub plain-one :
      (b₀ : List Float) (r r' : Answer) (b b' : List Float) →
      outcome_of (report_of r) (work b [] []) ≡ plain_outcome binary64 rows cols (settings_of s) b₀ →
      outcome_of (report_of r') (work b' [] []) ≡ plain_outcome binary64 rows cols (settings_of s) b₀ →
      (r ≡ r') × (b ≡ b')
  plain-one b₀ r r' b b' e e' = let a = answers_one _ r r' b b' [] [] [] [] e e' in (a.report, a.matrix)
