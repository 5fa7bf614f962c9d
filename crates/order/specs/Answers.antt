-- Any two answers that the promise of the ordered call allows are equal, with every slice that was lent. Assumes
-- nothing.
use Rattle.std.specs.Prelude.{◌≡◌, Option, Some, None, Ok, Err, List, ℕ, eqb, Float}
use Rattle.std.proofs.Common.{sym, ap, ◌∙◌}
use Rattle.std.specs.Float.{binary64}
use Rattle.method.specs.Work.{Work, work}
use Rattle.method.specs.Floats.{pick}
use Rattle.method.specs.Report as Report
use Rattle.method.specs.Outcome.{Outcome, outcome_of}
use Rattle.method.specs.Ordered.{Ordered, ordered_of, ordered_outcome}
use Rattle.checks.specs.declared.settings.Settings.{Settings}
use Rattle.checks.specs.Values.{settings_of}
use Rattle.checks.specs.Answers.{from_refusal, from_refusal_lem}
use Rattle.svd.specs.declared.report.Report.{Report}
use Rattle.svd.specs.declared.report.Word.{Word}
use Rattle.svd.specs.Answers.{SameAnswer, from_word, from_word_lem, from_tally}
use Rattle.order.specs.declared.ordered.Unordered.TheVariants.{Refused, NotSettled, NotFinite}
use Rattle.order.specs.Values.{OrderedAnswer, ordered_report}

-- what the ordered call answers by the method's report: where it has no word it is refused before the run, and else its
-- number tells
abbrev worded_in : Option Word → Report.Report → OrderedAnswer
worded_in None q = Err (Refused (from_refusal q.refusal))
worded_in (Some w) q =
    let run : Report = record { word = w; tally = from_tally q.tally } in
    pick (eqb q.refusal.number 12) (Err (NotSettled run)) (pick (eqb q.refusal.number 13) (Err (NotFinite run)) (Ok run))

abbrev from_ordered : Report.Report → OrderedAnswer
from_ordered q = worded_in (from_word q.word) q

from_ordered_lem : (r : OrderedAnswer) → from_ordered (ordered_report r) ≡ r
from_ordered_lem (Ok r) = ap (λ w. worded_in w (ordered_report (Ok r))) (from_word_lem (Some r.word))
from_ordered_lem (Err (Refused e)) = ap (λ x. Err (Refused x)) (from_refusal_lem e)
from_ordered_lem (Err (NotSettled r)) = ap (λ w. worded_in w (ordered_report (Err (NotSettled r)))) (from_word_lem (Some r.word))
from_ordered_lem (Err (NotFinite r)) = ap (λ w. worded_in w (ordered_report (Err (NotFinite r)))) (from_word_lem (Some r.word))

-- so two answers that tell the same report are the same
pub ordered_report_one : (r r' : OrderedAnswer) → ordered_report r ≡ ordered_report r' → r ≡ r'
ordered_report_one r r' e = sym (from_ordered_lem r) ∙ ap from_ordered e ∙ from_ordered_lem r'

-- two outcomes that are one
pub in_order_one :
    (o : Outcome) (r r' : OrderedAnswer) (b b' u u' v v' : List Float) →
    outcome_of (ordered_report r) (work b u v) ≡ o →
    outcome_of (ordered_report r') (work b' u' v') ≡ o →
    SameAnswer r r' b b' u u' v v'
in_order_one o r r' b b' u u' v v' e e' =
    let d = e ∙ sym e' in
    record {
      report = ordered_report_one r r' (ap (λ (x : Outcome). x.report) d);
      matrix = ap (λ (x : Outcome). x.held.matrix) d;
      left = ap (λ (x : Outcome). x.held.u) d;
      right = ap (λ (x : Outcome). x.held.v) d;
    }

pub ordered-one :
    (rows cols : ℕ) (s : Settings) (w₀ : Work) (l₀ : List Float) (r r' : OrderedAnswer) (b b' u u' v v' l l' : List Float) →
    ordered_of (outcome_of (ordered_report r) (work b u v)) l ≡ ordered_outcome binary64 rows cols (settings_of s) w₀ l₀ →
    ordered_of (outcome_of (ordered_report r') (work b' u' v')) l' ≡ ordered_outcome binary64 rows cols (settings_of s) w₀ l₀ →
    SameAnswer r r' b b' u u' v v' × (l ≡ l')
ordered-one rows cols s w₀ l₀ r r' b b' u u' v v' l l' e e' = (
  in_order_one (ordered_outcome binary64 rows cols (settings_of s) w₀ l₀).run r r' b b' u u' v v'
      (ap (λ (x : Ordered). x.run) e) (ap (λ (x : Ordered). x.run) e'),
  ap (λ (x : Ordered). x.values) (e ∙ sym e'),
)
