-- The ways out of a call by a profile's number: by one of 1 to 4 it is the call with that profile's settings, on every
-- input; by any other it is refused, for what is lent or else by 10. Assumes nothing.
use Rattle.std.specs.Prelude.{◌≡◌, refl, Bool, true, false, List, [], ◌++◌, ℕ, eqb, Float}
use Rattle.std.proofs.Common.{sym, ap, ◌∙◌, arith, eqb-true, eq-eqb, ne_eqb}
use Rattle.std.specs.Float.{Format}
use Rattle.std.proofs.lemmas.Bool.{eqb-false}
use Rattle.method.specs.Work.{Work}
use Rattle.method.specs.Checks.{nowhere, Check, check, Refusal, refusal, first_of, refusal_of}
use Rattle.method.specs.Checks.{table_checks, setting_checks, reading_checks}
use Rattle.method.specs.Checks.First.{numbered, or_else}
use Rattle.method.proofs.Checks.First.{first-join, first-beyond, first-hit, first-miss, first-none}
use Rattle.method.specs.Report.{refused}
use Rattle.method.specs.Outcome.{outcome_of, accepted, outcome}
use Rattle.method.proofs.Outcome.Refused.{refused-outcome, accepted-outcome}
use Rattle.method.specs.Ordered.{ordered_of, lent_checks, ordered_refusal, put_in_order, ordered_outcome}
use Rattle.method.proofs.Ordered.Ways.{refused-before, ran_on}
use Rattle.method.specs.Profiles.{no_profile, settings_by, profile_checks, refusal_by, ordered_refusal_by}
use Rattle.method.specs.Profiles.{profile_outcome, profile_ordered}
use Rattle.method.proofs.Profiles.Table.{profile-passes}

-- ---- of lists of checks

-- checks that all pass can be left out, or others that pass put in their place
pub first-replaced :
    (xs ys zs rest : List Check) → numbered xs ≡ true → numbered ys ≡ true → numbered zs ≡ true →
    (first_of ys).number ≡ 0 → (first_of zs).number ≡ 0 → first_of (xs ++ (ys ++ rest)) ≡ first_of (xs ++ (zs ++ rest))
first-replaced xs ys zs rest n m o e g =
    first-join xs (ys ++ rest) n
    ∙ ap (or_else (first_of xs)) (sym (first-beyond ys rest m refl e refl) ∙ first-beyond zs rest o refl g refl)
    ∙ sym (first-join xs (zs ++ rest) n)

module _ (k : ℕ) where
  -- 10 is not given where there is such a profile,
  pub ten_passes : no_profile k ≡ false → (first_of (profile_checks k)).number ≡ 0
  ten_passes e = ap (λ (r : Refusal). r.number) (first-miss (check 10 (no_profile k)) [] e ∙ first-none)

  -- and is where there is none, unless what stands before it is refused
  pub first-ten :
      (xs rest : List Check) → numbered xs ≡ true → no_profile k ≡ true →
      first_of (xs ++ (profile_checks k ++ rest)) ≡ or_else (first_of xs) (refusal 10 nowhere)
  first-ten xs rest n e =
      first-join xs (profile_checks k ++ rest) n
      ∙ ap (or_else (first_of xs)) (first-hit (check 10 (no_profile k)) rest e)

-- one refusal, or else 10, is one,
else_some : (r : Refusal) → ¬ ((or_else r (refusal 10 nowhere)).number ≡ 0)
else_some r = go (eqb r.number 0) refl
  where
    go : (b : Bool) → eqb r.number 0 ≡ b → ¬ ((or_else r (refusal 10 nowhere)).number ≡ 0)
    go true t = rw (t, or_else) (λ z. omega (arith, z))
    go false t = rw (t, or_else) (eqb-false r.number 0 t)

-- and carries no place where the one does not
pub else_placeless :
    (r : Refusal) → (r.place ≡ nowhere) × (¬ (r.number ≡ 8)) →
    ((or_else r (refusal 10 nowhere)).place ≡ nowhere) × (¬ ((or_else r (refusal 10 nowhere)).number ≡ 8))
else_placeless r h = go (eqb r.number 0) refl
  where
    go :
        (b : Bool) → eqb r.number 0 ≡ b →
        ((or_else r (refusal 10 nowhere)).place ≡ nowhere) × (¬ ((or_else r (refusal 10 nowhere)).number ≡ 8))
    go true t = rw (t, or_else) (refl, λ z. omega (arith, z))
    go false t = rw (t, or_else) h

-- ---- the plain and the accumulating call

module _ (kept : Bool) (rows cols k : ℕ) (w : Work) where
  -- by any number but 1 to 4: refused for what is lent, or else by 10
  pub none-refusal :
      no_profile k ≡ true →
      refusal_by kept rows cols k w ≡ or_else (first_of (table_checks kept rows cols w)) (refusal 10 nowhere)
  none-refusal e = first-ten k (table_checks kept rows cols w) (reading_checks rows cols w.matrix) refl e

  -- which is a refusal
  pub none-some : no_profile k ≡ true → ¬ ((refusal_by kept rows cols k w).number ≡ 0)
  none-some e = rw (none-refusal e) (else_some (first_of (table_checks kept rows cols w)))

module _ (f : Format) (kept : Bool) (rows cols k : ℕ) (w : Work) where
  -- refused: all lists as they were
  pub refused-by :
      ¬ ((refusal_by kept rows cols k w).number ≡ 0) →
      profile_outcome f kept rows cols k w ≡ outcome_of (refused (refusal_by kept rows cols k w)) w
  unfolding profile_outcome
  refused-by h = rw (ne_eqb (refusal_by kept rows cols k w).number 0 h, profile_outcome)

  -- not refused: the run with the profile's settings
  pub accepted-by :
      (refusal_by kept rows cols k w).number ≡ 0 →
      profile_outcome f kept rows cols k w ≡ accepted f kept rows cols (settings_by f k) w
  unfolding profile_outcome
  accepted-by e = rw (eq-eqb (refusal_by kept rows cols k w).number 0 e, profile_outcome)

  -- by one of 1 to 4 the refusal is that of the call with the settings,
  pub refusal-as_settings :
      no_profile k ≡ false → refusal_by kept rows cols k w ≡ refusal_of kept rows cols (settings_by f k) w
  refusal-as_settings e =
      first-replaced (table_checks kept rows cols w) (profile_checks k) (setting_checks (settings_by f k))
      (reading_checks rows cols w.matrix) refl refl refl (ten_passes k e) (profile-passes f k e)

  -- and so is all that the call answers and leaves
  pub as_settings :
      no_profile k ≡ false → profile_outcome f kept rows cols k w ≡ outcome f kept rows cols (settings_by f k) w
  as_settings e = go (eqb (refusal_by kept rows cols k w).number 0) refl
    where
      q : refusal_by kept rows cols k w ≡ refusal_of kept rows cols (settings_by f k) w
      q = refusal-as_settings e

      n : (refusal_by kept rows cols k w).number ≡ (refusal_of kept rows cols (settings_by f k) w).number
      n = ap (λ (r : Refusal). r.number) q

      go :
          (b : Bool) → eqb (refusal_by kept rows cols k w).number 0 ≡ b →
          profile_outcome f kept rows cols k w ≡ outcome f kept rows cols (settings_by f k) w
      go true t =
          let z = eqb-true _ 0 t in
          accepted-by z ∙ sym (accepted-outcome f kept rows cols (settings_by f k) w (sym n ∙ z))
      go false t =
          let h = eqb-false _ 0 t in
          refused-by h
          ∙ ap (λ (r : Refusal). outcome_of (refused r) w) q
          ∙ sym (refused-outcome f kept rows cols (settings_by f k) w (λ z. h (n ∙ z)))

  pub none-refused_by :
      no_profile k ≡ true →
      profile_outcome f kept rows cols k w
      ≡ outcome_of (refused (or_else (first_of (table_checks kept rows cols w)) (refusal 10 nowhere))) w
  none-refused_by e =
      refused-by (none-some kept rows cols k w e)
      ∙ ap (λ (r : Refusal). outcome_of (refused r) w) (none-refusal kept rows cols k w e)

-- ---- the ordered call, likewise

module _ (rows cols k : ℕ) (w : Work) (l : List Float) where
  pub ordered-none_refusal :
      no_profile k ≡ true →
      ordered_refusal_by rows cols k w l ≡ or_else (first_of (lent_checks rows cols w l)) (refusal 10 nowhere)
  ordered-none_refusal e = first-ten k (lent_checks rows cols w l) (reading_checks rows cols w.matrix) refl e

  pub ordered-none_some : no_profile k ≡ true → ¬ ((ordered_refusal_by rows cols k w l).number ≡ 0)
  ordered-none_some e = rw (ordered-none_refusal e) (else_some (first_of (lent_checks rows cols w l)))

module _ (f : Format) (rows cols k : ℕ) (w : Work) (l : List Float) where
  pub ordered-refused_by :
      ¬ ((ordered_refusal_by rows cols k w l).number ≡ 0) →
      profile_ordered f rows cols k w l ≡ ordered_of (outcome_of (refused (ordered_refusal_by rows cols k w l)) w) l
  unfolding profile_ordered
  ordered-refused_by h = rw (ne_eqb (ordered_refusal_by rows cols k w l).number 0 h, profile_ordered)

  pub ran-on_by :
      (ordered_refusal_by rows cols k w l).number ≡ 0 →
      profile_ordered f rows cols k w l ≡ put_in_order rows cols (accepted f true rows cols (settings_by f k) w) l
  unfolding profile_ordered
  ran-on_by e = rw (eq-eqb (ordered_refusal_by rows cols k w l).number 0 e, profile_ordered)

  pub ordered_refusal-as_settings :
      no_profile k ≡ false → ordered_refusal_by rows cols k w l ≡ ordered_refusal rows cols (settings_by f k) w l
  ordered_refusal-as_settings e =
      first-replaced (lent_checks rows cols w l) (profile_checks k) (setting_checks (settings_by f k))
      (reading_checks rows cols w.matrix) refl refl refl (ten_passes k e) (profile-passes f k e)

  pub ordered-as_settings :
      no_profile k ≡ false → profile_ordered f rows cols k w l ≡ ordered_outcome f rows cols (settings_by f k) w l
  ordered-as_settings e = go (eqb (ordered_refusal_by rows cols k w l).number 0) refl
    where
      q : ordered_refusal_by rows cols k w l ≡ ordered_refusal rows cols (settings_by f k) w l
      q = ordered_refusal-as_settings e

      n : (ordered_refusal_by rows cols k w l).number ≡ (ordered_refusal rows cols (settings_by f k) w l).number
      n = ap (λ (r : Refusal). r.number) q

      go :
          (b : Bool) → eqb (ordered_refusal_by rows cols k w l).number 0 ≡ b →
          profile_ordered f rows cols k w l ≡ ordered_outcome f rows cols (settings_by f k) w l
      go true t =
          let z = eqb-true _ 0 t in
          ran-on_by z ∙ sym (ran_on rows cols (settings_by f k) w l f (sym n ∙ z))
      go false t =
          let h = eqb-false _ 0 t in
          ordered-refused_by h
          ∙ ap (λ (r : Refusal). ordered_of (outcome_of (refused r) w) l) q
          ∙ sym (refused-before rows cols (settings_by f k) w l f (λ z. h (n ∙ z)))

  pub ordered-none_refused :
      no_profile k ≡ true →
      profile_ordered f rows cols k w l
      ≡ ordered_of (outcome_of (refused (or_else (first_of (lent_checks rows cols w l)) (refusal 10 nowhere))) w) l
  ordered-none_refused e =
      ordered-refused_by (ordered-none_some rows cols k w l e)
      ∙ ap (λ (r : Refusal). ordered_of (outcome_of (refused r) w) l) (ordered-none_refusal rows cols k w l e)
