-- For the proofs of the calls: what each way out answers, over plain values. Assumes nothing.
use Rattle.std.specs.Prelude.{Err, ◌≡◌, refl, Bool, true, false, List, ℕ, Float}
use Rattle.std.proofs.Common.{sym, ap, ◌∙◌, arith, ne_eqb}
use Rattle.std.specs.Float.{binary64}
use Rattle.method.specs.Work.{Work}
use Rattle.method.specs.Settings.{Settings}
use Rattle.method.specs.Checks.{nowhere, Refusal, refusal, first_of, table_checks}
use Rattle.method.specs.Checks.First.{or_else}
use Rattle.method.specs.Report.{Report, refused}
use Rattle.method.specs.Outcome.{Outcome, outcome_of, outcome}
use Rattle.method.specs.Ordered.{Ordered, ordered_of, lent_checks, ordered_outcome}
use Rattle.method.specs.Profiles.{no_profile, Picked, picked, settings_by, profile_outcome, profile_ordered}
use Rattle.method.proofs.Profiles.Table.{picked-there, picked_none}
use Rattle.checks.specs.declared.refusal.Refusal.{Refusal as Refused}
use Rattle.checks.specs.Values.{refusal_in}
use Rattle.checks.specs.Refused.{refused_some}
use Rattle.profiles.specs.Values.{picked_in}
use Rattle.profiles.specs.Answers.{refused_by_ten}
use Rattle.method.proofs.Profiles.Ways.{as_settings, none-refused_by, ordered-as_settings, ordered-none_refused}

-- a number is picked, or not, as its profile is there or not
module _ (k : ℕ) (p : Picked) (e : p ≡ picked binary64 k) where
  pub picks_none : ¬ (p.number ≡ 0) → no_profile k ≡ true
  picks_none h = go (no_profile k) refl
    where
      go : (b : Bool) → no_profile k ≡ b → b ≡ true
      go true t = refl
      go false t = absurd (h (ap (λ (x : Picked). x.number) (e ∙ picked-there binary64 k t)))

  pub picks : p.number ≡ 0 → no_profile k ≡ false
  picks z = go (no_profile k) refl
    where
      go : (b : Bool) → no_profile k ≡ b → b ≡ false
      go true t = absurd (ten (ap (λ (x : Picked). x.number) (e ∙ picked_none binary64 k t)) z)
        where
          ten : {n : ℕ} → n ≡ 10 → n ≡ 0 → ⊥
          ten a b = omega arith
      go false t = refl

  pub picks_settings : p.settings ≡ settings_by binary64 k
  picks_settings = ap (λ (x : Picked). x.settings) e

-- where the refusal is picked, it is by 10
pub none_by_ten :
    (k : ℕ) (e : Refused) → picked_in (Err e) ≡ picked binary64 k → refusal_in e ≡ refusal 10 nowhere
none_by_ten k e d = ap refusal_in (refused_by_ten k e (picks_none k (picked_in (Err e)) d (refused_some e)) d)

-- what is lent is refused first
pub or_first : (r q : Refusal) → ¬ (r.number ≡ 0) → r ≡ or_else r q
or_first r q h = rw (ne_eqb r.number 0 h, or_else) refl

-- the plain and the accumulating call
module _ (kept : Bool) (rows cols k : ℕ) (w : Work) (p : Picked) (e : p ≡ picked binary64 k) where
  pub way_none :
      {lent r : Refusal} (report : Report) → ¬ (p.number ≡ 0) → lent ≡ first_of (table_checks kept rows cols w) →
      r ≡ or_else lent (refusal 10 nowhere) → report ≡ refused r →
      outcome_of report w ≡ profile_outcome binary64 kept rows cols k w
  way_none report h l q g =
      ap (λ (x : Report). outcome_of x w) (g ∙ ap refused (q ∙ ap (λ (x : Refusal). or_else x (refusal 10 nowhere)) l))
      ∙ sym (none-refused_by binary64 kept rows cols k w (picks_none k p e h))

  pub way_settings :
      (o : Outcome) → p.number ≡ 0 → o ≡ outcome binary64 kept rows cols p.settings w →
      o ≡ profile_outcome binary64 kept rows cols k w
  way_settings o z q =
      q
      ∙ ap (λ (s : Settings). outcome binary64 kept rows cols s w) (picks_settings k p e)
      ∙ sym (as_settings binary64 kept rows cols k w (picks k p e z))

-- the ordered call
module _ (rows cols k : ℕ) (w : Work) (l : List Float) (p : Picked) (e : p ≡ picked binary64 k) where
  pub way_ordered_none :
      {lent r : Refusal} (report : Report) → ¬ (p.number ≡ 0) → lent ≡ first_of (lent_checks rows cols w l) →
      r ≡ or_else lent (refusal 10 nowhere) → report ≡ refused r →
      ordered_of (outcome_of report w) l ≡ profile_ordered binary64 rows cols k w l
  way_ordered_none report h d q g =
      ap (λ (x : Report). ordered_of (outcome_of x w) l)
      (g ∙ ap refused (q ∙ ap (λ (x : Refusal). or_else x (refusal 10 nowhere)) d))
      ∙ sym (ordered-none_refused binary64 rows cols k w l (picks_none k p e h))

  pub way_ordered_settings :
      (o : Ordered) → p.number ≡ 0 → o ≡ ordered_outcome binary64 rows cols p.settings w l →
      o ≡ profile_ordered binary64 rows cols k w l
  way_ordered_settings o z q =
      q
      ∙ ap (λ (s : Settings). ordered_outcome binary64 rows cols s w l) (picks_settings k p e)
      ∙ sym (ordered-as_settings binary64 rows cols k w l (picks k p e z))
