-- When a call by a profile's number answers each number, and the place that 8 carries. Assumes nothing.
use Rattle.std.specs.Prelude.{◌≡◌, refl, ◌↔◌, Bool, true, false, List, ◌++◌, ℕ, eqb, Float}
use Rattle.std.proofs.Common.{sym, ap, ◌∙◌, arith, eqb-true}
use Rattle.std.specs.Float.{Format}
use Rattle.std.proofs.lemmas.Bool.{eqb-false}
use Rattle.method.specs.Work.{Work}
use Rattle.method.specs.Checks.{Check, Refusal, first_of}
use Rattle.method.specs.Checks.{table_checks, setting_checks, reading_checks}
use Rattle.method.specs.Checks.First.{Means, done, ◌⨾◌, First}
use Rattle.method.proofs.Checks.First.{means-join, first-means, first-here}
use Rattle.method.proofs.Checks.First.{first-clear, first-placeless}
use Rattle.method.proofs.Checks.Table.{size_tests, length-tests, reading-tests, TruePlace, true_place}
use Rattle.method.proofs.Outcome.Refused.{accepted-refusal}
use Rattle.method.specs.Ordered.{lent_checks}
use Rattle.method.proofs.Ordered.Numbers.{lent_tests, after_checks, after_meanings, after-tests}
use Rattle.method.proofs.Ordered.Numbers.{ordered-number, answer-place}
use Rattle.method.specs.Profiles.{no_profile, settings_by, profile_checks, checks_by, refusal_by, ordered_checks_by}
use Rattle.method.specs.Profiles.{profile_outcome, profile_ordered}
use Rattle.method.proofs.Profiles.Table.{none-says, profile-passes}
use Rattle.method.proofs.Profiles.Ways.{first-replaced, ten_passes, else_placeless, refused-by, accepted-by}
use Rattle.method.proofs.Profiles.Ways.{refusal-as_settings, none-refusal, ordered-refused_by, ordered-as_settings}
use Rattle.method.proofs.Profiles.Ways.{ordered-none_some, ordered-none_refused}
use Rattle.method.specs.Profiles.Numbers.{meanings_by, ordered_meanings_by, profile_meanings}

-- ---- the table: each number with its condition, in the order in which they are looked at

profile-tests : (k : ℕ) → Means (profile_checks k) (profile_meanings k)
profile-tests k = none-says k ⨾ done

-- ---- the plain and the accumulating call

module _ (kept : Bool) (rows cols k : ℕ) (w : Work) where
  -- The number that a call answers is j exactly when j is the number of the first condition that holds, or when j is 0
  -- and none holds.
  pub numbers-by : (j : ℕ) → ((refusal_by kept rows cols k w).number ≡ j) ↔ First j (meanings_by kept rows cols k w)
  numbers-by j =
      first-means
      (means-join (size_tests rows cols)
      (means-join (length-tests kept rows cols w)
      (means-join (profile-tests k) (reading-tests rows cols w.matrix)))) j

module _ (f : Format) (kept : Bool) (rows cols k : ℕ) (w : Work) where
  -- what a call reports as its refusal is the first that applies, always
  pub refusal-told : (profile_outcome f kept rows cols k w).report.refusal ≡ refusal_by kept rows cols k w
  refusal-told = go (eqb (refusal_by kept rows cols k w).number 0) refl
    where
      go :
          (b : Bool) → eqb (refusal_by kept rows cols k w).number 0 ≡ b →
          (profile_outcome f kept rows cols k w).report.refusal ≡ refusal_by kept rows cols k w
      go true t =
          let e = eqb-true (refusal_by kept rows cols k w).number 0 t in
          rw (accepted-by f kept rows cols k w e)
          (accepted-refusal f kept rows cols (settings_by f k) w ∙ sym (first-clear (checks_by kept rows cols k w) refl e))
      go false t = rw (refused-by f kept rows cols k w (eqb-false (refusal_by kept rows cols k w).number 0 t)) refl

  -- a refusal by 8 carries the place of the first bad reading and how many there are, any other answer zeros
  pub place-by : TruePlace kept rows cols (settings_by f k) w (refusal_by kept rows cols k w)
  place-by = go (no_profile k) refl
    where
      go : (b : Bool) → no_profile k ≡ b → TruePlace kept rows cols (settings_by f k) w (refusal_by kept rows cols k w)
      go false e = rw (refusal-as_settings f kept rows cols k w e) (true_place kept rows cols (settings_by f k) w)
      go true e =
          let q = else_placeless _ (first-placeless 8 (table_checks kept rows cols w) (omega arith) refl) in
          rw (none-refusal kept rows cols k w e) record { eight = λ z. absurd (q.1 z); other = λ h. q.0 }

-- ---- the ordered call

module _ (f : Format) (rows cols k : ℕ) (w : Work) (l : List Float) where
  -- what is checked after the run with the profile's settings
  abbrev after : List Check
  after = after_checks rows cols (settings_by f k) w l f

  -- the number that the call answers is that of the first of all checks, before and after
  number_by :
      (profile_ordered f rows cols k w l).run.report.refusal.number
      ≡ (first_of (ordered_checks_by rows cols k w l ++ after)).number
  number_by = go (no_profile k) refl
    where
      go :
          (b : Bool) → no_profile k ≡ b →
          (profile_ordered f rows cols k w l).run.report.refusal.number
          ≡ (first_of (ordered_checks_by rows cols k w l ++ after)).number
      go false e =
          rw (ordered-as_settings f rows cols k w l e)
          (ordered-number rows cols (settings_by f k) w l f
          ∙ ap (λ (r : Refusal). r.number)
          (first-replaced (lent_checks rows cols w l) (setting_checks (settings_by f k)) (profile_checks k)
          (reading_checks rows cols w.matrix ++ after) refl refl refl (profile-passes f k e) (ten_passes k e)))
      go true e =
          let h = ordered-none_some rows cols k w l e in
          rw (ordered-refused_by f rows cols k w l h)
          (ap (λ (r : Refusal). r.number) (first-here (ordered_checks_by rows cols k w l) after refl refl h))

  -- The number that the call answers is j exactly when j is the number of the first condition that holds, of those
  -- before the run and then of those after it, or when j is 0 and none holds.
  pub ordered-numbers_by :
      (j : ℕ) →
      ((profile_ordered f rows cols k w l).run.report.refusal.number ≡ j)
      ↔ First j (ordered_meanings_by rows cols k w l ++ after_meanings rows cols (settings_by f k) w l f)
  ordered-numbers_by j =
      rw number_by
      (first-means
      (means-join
      (means-join (lent_tests rows cols w l) (means-join (profile-tests k) (reading-tests rows cols w.matrix)))
      (after-tests rows cols (settings_by f k) w l f)) j)

  -- the place of the answer
  pub ordered-place_by :
      TruePlace true rows cols (settings_by f k) w (profile_ordered f rows cols k w l).run.report.refusal
  ordered-place_by = go (no_profile k) refl
    where
      go :
          (b : Bool) → no_profile k ≡ b →
          TruePlace true rows cols (settings_by f k) w (profile_ordered f rows cols k w l).run.report.refusal
      go false e = rw (ordered-as_settings f rows cols k w l e) (answer-place rows cols (settings_by f k) w l f)
      go true e =
          let q = else_placeless _ (first-placeless 8 (lent_checks rows cols w l) (omega arith) refl) in
          rw (ordered-none_refused f rows cols k w l e) record { eight = λ z. absurd (q.1 z); other = λ h. q.0 }
