-- The table of rule 2.1 as theorems: what each number means, that the answer is the first of the list that applies and
-- 0 where none does, the place that 8 carries, and what an acceptance tells. Assumes nothing.
use Rattle.std.specs.Prelude.{◌≡◌, refl, ◌↔◌, ◌⊎◌, Bool, true, false, List, [], ◌++◌, ℕ, ◌*◌, ◌≤◌, ◌<◌, length, Float, ltb, eqb}
use Rattle.std.proofs.Common.{ap, inl, inr, ⊎_elim, arith, ltb-true, eqb-true}
use Rattle.std.specs.Float.Ieee.{lt}
use Rattle.std.specs.Float.Ieee.Scale.{finite}
use Rattle.std.proofs.lemmas.Bool.{eqb-false}
use Rattle.method.specs.Floats.{plus_zero}
use Rattle.method.specs.Work.{Work}
use Rattle.method.specs.Settings.{Settings, most_size, most_limit, most_credit}
use Rattle.method.specs.Checks.{Place, nowhere, bad_readings, Check, placed, Refusal, first_of, bound_fit}
use Rattle.method.specs.Checks.{floor_fit, size_checks, refusal, length_checks, table_checks, setting_checks}
use Rattle.method.specs.Checks.{reading_checks, checks}
use Rattle.method.specs.Checks.{refusal_of}
use Rattle.method.proofs.Checks.Tests.{less, same, holds, lacks, nor, either, both, not_all, some, few, equal}
use Rattle.method.proofs.Checks.First.{first-here, first-beyond, first-hit, first-miss, first-none}
use Rattle.method.specs.Checks.First.{Means, done, ◌⨾◌, First, None}
use Rattle.method.proofs.Checks.First.{means-join, first-means, none-join}
use Rattle.method.proofs.Checks.First.{none-refused, given, first_below, first-placeless}
use Rattle.method.specs.Checks.Readings.{BadReading, FirstBad}
use Rattle.method.proofs.Checks.Readings.{bad_reading, first-bad}
use Rattle.method.specs.Checks.Table.{Clear, Fit, length_meanings, meanings, reading_meanings, setting_meanings, size_meanings}

-- ---- the conditions

-- a tolerance or an absolute bound is allowed exactly when it is finite and not below zero
pub bound_allowed : (x : Float) → (bound_fit x ≡ true) ↔ ((finite x ≡ true) × (lt x plus_zero ≡ false))
bound_allowed x = both (holds (finite x)) (lacks (lt x plus_zero))

-- a floor is allowed exactly when it is finite and above zero
pub floor_allowed : (x : Float) → (floor_fit x ≡ true) ↔ ((finite x ≡ true) × (lt plus_zero x ≡ true))
floor_allowed x = both (holds (finite x)) (holds (lt plus_zero x))

-- ---- the table: each number with its condition, in the order in which they are looked at

-- the checks before the readings
abbrev before : Bool → ℕ → ℕ → Settings → Work → List Check
before kept rows cols s w = table_checks kept rows cols w ++ setting_checks s

-- ---- each test says its condition

pub size_tests : (rows cols : ℕ) → Means (size_checks rows cols) (size_meanings rows cols)
size_tests rows cols =
    either (same rows 0) (same cols 0)
    ⨾ either (less most_size rows) (less most_size cols)
    ⨾ done

pub length-tests :
    (kept : Bool) (rows cols : ℕ) (w : Work) → Means (length_checks kept rows cols w) (length_meanings kept rows cols w)
length-tests kept rows cols w =
    nor (same (length w.matrix) (rows * cols))
    ⨾ both (holds kept) (nor (same (length w.u) (rows * rows)))
    ⨾ both (holds kept) (nor (same (length w.v) (cols * cols)))
    ⨾ done

pub setting_tests : (s : Settings) → Means (setting_checks s) (setting_meanings s)
setting_tests s =
    either (less most_limit s.limit) (less most_credit s.credit)
    ⨾ not_all (bound_fit s.tolerance) (bound_fit s.absolute) (floor_fit s.floor)
    ⨾ done

pub reading-tests :
    (rows cols : ℕ) (b : List Float) → Means (reading_checks rows cols b) (reading_meanings rows cols b)
reading-tests rows cols b = bad_reading cols rows cols b ⨾ done

-- sizes that are not refused are small
pub sizes-passed :
    (rows cols : ℕ) {r : Refusal} → r ≡ first_of (size_checks rows cols) → r.number ≡ 0 →
    (rows ≤ most_size) × (cols ≤ most_size)
sizes-passed rows cols e z =
    let n = (none-refused (size_tests rows cols) refl).0 (rw e at z) in
    (few most_size rows (λ l. n.1.0 (inl l)), few most_size cols (λ l. n.1.0 (inr l)))

-- where no length is refused either, the matrix has its own
pub table-passed :
    (kept : Bool) (rows cols : ℕ) (w : Work) {r : Refusal} → r ≡ first_of (table_checks kept rows cols w) →
    r.number ≡ 0 →
    (length w.matrix ≡ rows * cols) × (rows ≤ most_size) × (cols ≤ most_size)
table-passed kept rows cols w e z =
    let tests = means-join (size_tests rows cols) (length-tests kept rows cols w) in
    let n =
    (none-join (size_meanings rows cols) (length_meanings kept rows cols w)).0
    ((none-refused tests refl).0 (rw e at z)) in (
      equal (length w.matrix) (rows * cols) n.1.0,
      few most_size rows (λ l. n.0.1.0 (inl l)),
      few most_size cols (λ l. n.0.1.0 (inr l)),
    )

module _ (kept : Bool) (rows cols : ℕ) (s : Settings) (w : Work) where
  tests : Means (checks kept rows cols s w) (meanings kept rows cols s w)
  tests =
      means-join (size_tests rows cols)
      (means-join (length-tests kept rows cols w) (means-join (setting_tests s) (reading-tests rows cols w.matrix)))

  -- The number that a call answers is k exactly when k is the number of the first condition that holds, or when k is 0
  -- and none holds.
  pub numbers : (k : ℕ) → ((refusal_of kept rows cols s w).number ≡ k) ↔ First k (meanings kept rows cols s w)
  numbers k = first-means tests k

  -- nothing is refused exactly when none of the conditions holds
  pub clear : ((refusal_of kept rows cols s w).number ≡ 0) ↔ Clear kept rows cols s w
  clear =
      let sizes = size_meanings rows cols in
      let lengths = length_meanings kept rows cols w in
      let settings = setting_meanings s in
      let readings = reading_meanings rows cols w.matrix in (
        λ e.
            let p = (none-join sizes (lengths ++ settings ++ readings)).0 ((none-refused tests refl).0 e) in
            let q = (none-join lengths (settings ++ readings)).0 p.1 in
            let r = (none-join settings readings).0 q.1 in
            record { sizes = p.0; lengths = q.0; settings = r.0; readings = r.1 },
        λ c.
            let r = (none-join settings readings).1 (c.settings, c.readings) in
            let q = (none-join lengths (settings ++ readings)).1 (c.lengths, r) in
            (none-refused tests refl).1 ((none-join sizes (lengths ++ settings ++ readings)).1 (c.sizes, q)),
      )

  -- a bad reading is refused by 8 where sizes, lengths and settings are fit
  pub eight_given :
      None (size_meanings rows cols) →
      None (length_meanings kept rows cols w) →
      None (setting_meanings s) →
      BadReading cols rows cols w.matrix →
      (refusal_of kept rows cols s w).number ≡ 8
  eight_given a b c x =
      (numbers 8).1
      (given (size_meanings rows cols ++ length_meanings kept rows cols w ++ setting_meanings s) 8
      (BadReading cols rows cols w.matrix) [] x
      ((none-join (size_meanings rows cols) (length_meanings kept rows cols w ++ setting_meanings s)).1
      (a, (none-join (length_meanings kept rows cols w) (setting_meanings s)).1 (b, c))))

  -- every number is small
  pub numbers-few : (refusal_of kept rows cols s w).number < 100
  numbers-few = first_below 100 (checks kept rows cols s w) refl

  -- ---- the place

  -- a refusal by 8 carries the place of the first bad reading and how many there are, any other answer zeros
  pub record TruePlace (r : Refusal) : Type 0 where
    pub eight : r.number ≡ 8 → FirstBad cols rows cols w.matrix r.place
    pub other : ¬ (r.number ≡ 8) → r.place ≡ nowhere

  -- so none is counted exactly when the number is not 8
  pub none-counted : {r : Refusal} → TruePlace r → (r.place.bad ≡ 0) ↔ (¬ (r.number ≡ 8))
  none-counted t = (
    λ z e. absurd (omega (arith, (t.eight e).some, z)),
    λ h. ap (λ (p : Place). p.bad) (t.other h),
  )

  -- what the search finds
  abbrev found : Place
  found = bad_readings cols rows cols w.matrix

  -- the refusal is 8 with what the search found, or it carries no place and is not 8
  abbrev Ways : Refusal → Type 0
  Ways r = ((r ≡ refusal 8 found) × (0 < found.bad)) ⊎ ((r.place ≡ nowhere) × (¬ (r.number ≡ 8)))

  reading-ways : Ways (first_of (reading_checks rows cols w.matrix))
  reading-ways = go (ltb 0 found.bad) refl
    where
      reading : Check
      reading = placed 8 (ltb 0 found.bad) found

      go : (b : Bool) → ltb 0 found.bad ≡ b → Ways (first_of (reading_checks rows cols w.matrix))
      go true t = inl (first-hit reading [] t, ltb-true 0 found.bad t)
      go false t =
          let e : first_of (reading_checks rows cols w.matrix) ≡ first_of [] = first-miss reading [] t in
          rw (e, first-none) (inr (refl, λ z. omega (arith, z)))

  ways : Ways (refusal_of kept rows cols s w)
  ways = go (eqb (first_of (before kept rows cols s w)).number 0) refl
    where
      go : (b : Bool) → eqb (first_of (before kept rows cols s w)).number 0 ≡ b → Ways (refusal_of kept rows cols s w)
      go true e =
          rw
          (first-beyond (before kept rows cols s w) (reading_checks rows cols w.matrix) refl refl (eqb-true _ 0 e)
          {q = first_of (reading_checks rows cols w.matrix)} refl)
          at reading-ways
      go false e =
          rw
          (← first-here (before kept rows cols s w) (reading_checks rows cols w.matrix) refl refl (eqb-false _ 0 e))
          (inr (first-placeless 8 (before kept rows cols s w) (omega arith) refl))

  -- a refusal by 8 is what the search found
  pub eight_found : (refusal_of kept rows cols s w).number ≡ 8 → refusal_of kept rows cols s w ≡ refusal 8 found
  eight_found n = ⊎_elim (λ x. x.0) (λ x. absurd (x.1 n)) ways

  pub true_place : TruePlace (refusal_of kept rows cols s w)
  true_place =
      ⊎_elim
      (λ x. rw x.0 record {
        eight = λ n. first-bad cols rows cols w.matrix (λ z. let some = x.1 in omega arith);
        other = λ h. absurd (h refl);
      })
      (λ x. record { eight = λ n. absurd (x.1 n); other = λ h. x.0 })
      ways

-- ---- what an acceptance tells

-- a call that is not refused is fit
pub fit :
    (kept : Bool) (rows cols : ℕ) (s : Settings) (w : Work) → (refusal_of kept rows cols s w).number ≡ 0 →
    Fit kept rows cols s w
fit kept rows cols s w e =
    let c = (clear kept rows cols s w).0 e in
    record {
      rows_some = some rows (λ z. c.sizes.0 (inl z));
      cols_some = some cols (λ z. c.sizes.0 (inr z));
      rows_few = few most_size rows (λ l. c.sizes.1.0 (inl l));
      cols_few = few most_size cols (λ l. c.sizes.1.0 (inr l));
      matrix_length = equal (length w.matrix) (rows * cols) c.lengths.0;
      u_length = λ k. equal (length w.u) (rows * rows) (λ n. c.lengths.1.0 (k, n));
      v_length = λ k. equal (length w.v) (cols * cols) (λ n. c.lengths.1.1.0 (k, n));
      limit_low = few most_limit s.limit (λ l. c.settings.0 (inl l));
      credit_low = few most_credit s.credit (λ l. c.settings.0 (inr l));
    }
