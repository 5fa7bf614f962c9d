-- Any two answers that the promise of a call by a profile's number allows are equal, with every slice that was lent.
-- Assumes nothing.
use Rattle.std.specs.Prelude.{◌≡◌, List, [], ℕ, Float}
use Rattle.std.proofs.Common.{sym, ap, ◌∙◌}
use Rattle.std.specs.Float.{binary64}
use Rattle.method.specs.Work.{Work, work}
use Rattle.method.specs.Outcome.{outcome_of}
use Rattle.method.specs.Ordered.{Ordered, ordered_of}
use Rattle.method.specs.Profiles.{profile_plain, profile_full, profile_ordered}
use Rattle.svd.specs.Values.{Answer, report_of}
use Rattle.svd.specs.Answers.{SameAnswer, answers_one}
use Rattle.order.specs.Values.{OrderedAnswer, ordered_report}
use Rattle.order.specs.Answers.{in_order_one}

module _ (rows cols k : ℕ) where
  -- the plain call, which is lent no factors
  pub profile_plain-one :
      (b₀ : List Float) (r r' : Answer) (b b' : List Float) →
      outcome_of (report_of r) (work b [] []) ≡ profile_plain binary64 rows cols k b₀ →
      outcome_of (report_of r') (work b' [] []) ≡ profile_plain binary64 rows cols k b₀ →
      (r ≡ r') × (b ≡ b')
  profile_plain-one b₀ r r' b b' e e' =
      let a = answers_one (profile_plain binary64 rows cols k b₀) r r' b b' [] [] [] [] e e' in (a.report, a.matrix)

  module _ (w₀ : Work) where
    -- the accumulating call
    pub profile_full-one :
        (r r' : Answer) (b b' u u' v v' : List Float) →
        outcome_of (report_of r) (work b u v) ≡ profile_full binary64 rows cols k w₀ →
        outcome_of (report_of r') (work b' u' v') ≡ profile_full binary64 rows cols k w₀ →
        SameAnswer r r' b b' u u' v v'
    profile_full-one = answers_one (profile_full binary64 rows cols k w₀)

    -- the ordered call
    pub profile_ordered-one :
        (l₀ : List Float) (r r' : OrderedAnswer) (b b' u u' v v' l l' : List Float) →
        ordered_of (outcome_of (ordered_report r) (work b u v)) l ≡ profile_ordered binary64 rows cols k w₀ l₀ →
        ordered_of (outcome_of (ordered_report r') (work b' u' v')) l' ≡ profile_ordered binary64 rows cols k w₀ l₀ →
        SameAnswer r r' b b' u u' v v' × (l ≡ l')
    profile_ordered-one l₀ r r' b b' u u' v v' l l' e e' = (
      in_order_one (profile_ordered binary64 rows cols k w₀ l₀).run r r' b b' u u' v v'
          (ap (λ (x : Ordered). x.run) e) (ap (λ (x : Ordered). x.run) e'),
      ap (λ (x : Ordered). x.values) (e ∙ sym e'),
    )
