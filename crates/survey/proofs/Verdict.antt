-- What the plain call at default settings can say of a survey: it accepts, or it refuses by 8 with the place of the
-- first reading that is not finite and how many are not. Its numbers have few digits. Assumes nothing.
use Rattle.std.specs.Prelude.{◌≡◌, refl, Bool, true, false, List, [], ℕ, ◌-◌, ◌*◌, ◌<◌, ◌≤◌, eqb, Float, length}
use Rattle.std.proofs.Common.{sym, subst, ◌∙◌, arith, mul-le-mul, eqb-true}
use Rattle.std.proofs.Math.Bool.{true≢false}
use Rattle.std.proofs.lemmas.Bool.{false≢true, eqb-false}
use Rattle.std.proofs.Math.Logic.{⊎_elim}
use Rattle.std.specs.Float.{binary64}
use Rattle.std.specs.Float.Ieee.{of_bits, lt}
use Rattle.method.specs.Work.{Work, work}
use Rattle.method.specs.Checks.{Place, bad_readings, Refusal, refusal, refusal_of}
use Rattle.method.specs.Report.{Report, refused}
use Rattle.method.specs.Outcome.{Outcome, outcome_of, card, plain_outcome, accepted}
use Rattle.method.specs.Defaults.{defaults, default_tolerance, default_absolute, default_floor}
use Rattle.method.proofs.Outcome.Reports.{accepted-true, card-most}
use Rattle.method.specs.Checks.Readings.{AllGood, BadReading}
use Rattle.method.proofs.Checks.Readings.{bad_count, bad_most, good_or_bad}
use Rattle.method.specs.Checks.First.{None}
use Rattle.method.specs.Checks.Table.{NoSize, TooLarge, OverLimit, UnfitBounds, length_meanings}
use Rattle.method.proofs.Checks.Table.{clear, eight_given, eight_found, numbers-few, true_place}
use Rattle.method.proofs.Outcome.Refused.{refused-outcome, accepted-outcome}
use Rattle.method.proofs.Lengths.{outcome-lengths}
use Rattle.survey.specs.Code.{Small}

-- a table of a survey: 1 to 48 rows and columns, and all its readings
pub record Table (rows cols : ℕ) (xs : List Float) : Type 0 where
  pub rows_least : 1 ≤ rows
  pub rows_most : rows ≤ 48
  pub cols_least : 1 ≤ cols
  pub cols_most : cols ≤ 48
  pub size : length xs ≡ rows * cols

module _ (rows cols : ℕ) (xs : List Float) (t : Table rows cols xs) where
  abbrev given : Work
  given = work xs [] []

  abbrev why : Refusal
  why = refusal_of false rows cols defaults given

  abbrev said : Report
  said = (plain_outcome binary64 rows cols defaults xs).report

  -- row, column and count of the bad readings
  abbrev at : Place
  at = why.place

  few : rows * cols ≤ 48 * 48
  few = mul-le-mul t.rows_most t.cols_most

  place-few : (at.row < 1000000) × (at.column < 1000000) × (at.bad < 1000000)
  place-few = go (eqb why.number 8) refl
    where
      go : (b : Bool) → eqb why.number 8 ≡ b → (at.row < 1000000) × (at.column < 1000000) × (at.bad < 1000000)
      go true e =
          let f = (true_place false rows cols defaults given).eight (eqb-true why.number 8 e) in
          let count = f.count ∙ sym (bad_count cols rows cols xs) in (
            omega (arith, f.there.row_in, t.rows_most),
            omega (arith, f.there.column_in, t.cols_most),
            omega (arith, count, bad_most cols rows cols xs, few),
          )
      go false e =
          rw ((true_place false rows cols defaults given).other (eqb-false why.number 8 e))
          (omega arith, omega arith, omega arith)

  -- every number of the report has at most 6 digits
  pub small : Small said
  small = go (eqb why.number 0) refl
    where
      go : (b : Bool) → eqb why.number 0 ≡ b → Small said
      go true e =
          let a = accepted-true binary64 false rows cols defaults given t.rows_least t.cols_least in
          let k = card-most rows cols t.rows_most t.cols_most in
          let c = card rows cols in
          let sweeps = (accepted binary64 false rows cols defaults given).report.tally.sweeps in
          let rotations : 2 * (c - 1) * sweeps ≤ 94 * 2400 =
          mul-le-mul {n₁ = 2 * (c - 1)} {m₁ = sweeps} {n₂ = 94} {m₂ = 2400} (omega (arith, k)) (omega (arith, a.few, a.each, k)) in
          subst (λ (o : Outcome). Small o.report) (sym (accepted-outcome binary64 false rows cols defaults given (eqb-true why.number 0 e))) record {
            number = omega (arith, a.number);
            row = rw a.place (omega arith);
            column = rw a.place (omega arith);
            bad = rw a.place (omega arith);
            passes = omega (arith, a.few, k);
            sweeps = omega (arith, a.few, a.each, k);
            drops = omega (arith, a.drops, k);
            range = omega (arith, a.range.1, k);
            rotations = omega (arith, a.turns, rotations);
          }
      go false e =
          subst (λ (o : Outcome). Small o.report) (sym (refused-outcome binary64 false rows cols defaults given (eqb-false why.number 0 e))) record {
            number = omega (arith, numbers-few false rows cols defaults given);
            row = place-few.0;
            column = place-few.1;
            bad = place-few.2;
            passes = omega arith;
            sweeps = omega arith;
            drops = omega arith;
            range = omega arith;
            rotations = omega arith;
          }

  -- the matrix is as long as it was
  pub same_size : length (plain_outcome binary64 rows cols defaults xs).held.matrix ≡ length xs
  same_size = (outcome-lengths binary64 false rows cols defaults given).matrix

  -- ---- which of the two it says

  fit_size : NoSize rows cols → ⊥
  fit_size z = ⊎_elim (λ e. omega (arith, e, t.rows_least)) (λ e. omega (arith, e, t.cols_least)) z

  fit_large : TooLarge rows cols → ⊥
  fit_large z = ⊎_elim (λ e. omega (arith, e, t.rows_most)) (λ e. omega (arith, e, t.cols_most)) z

  fit_limit : OverLimit defaults → ⊥
  fit_limit z = ⊎_elim (λ e. omega (arith, e)) (λ e. omega (arith, e)) z

  fit_bounds : UnfitBounds defaults → ⊥
  unfolding of_bits lt default_tolerance default_absolute default_floor
  fit_bounds z = ⊎_elim (λ e. true≢false e) (λ y. ⊎_elim (λ e. true≢false e) (λ e. true≢false e) y) z

  lengths_fit : None (length_meanings false rows cols given)
  lengths_fit = (λ z. z t.size, (λ z. false≢true z.0, (λ z. false≢true z.0, tt)))

  -- where every reading is finite the call accepts,
  pub accepts : AllGood cols rows cols xs
      → plain_outcome binary64 rows cols defaults xs ≡ accepted binary64 false rows cols defaults given
  accepts all =
      let no : BadReading cols rows cols xs → ⊥ = good_or_bad cols rows cols xs all in
      accepted-outcome binary64 false rows cols defaults given ((clear false rows cols defaults given).1
      record { sizes = (fit_size, (fit_large, tt)); lengths = lengths_fit; settings = (fit_limit, (fit_bounds, tt)); readings = (no, tt) })

  -- and where one is not, it refuses by 8 with what the search finds, and leaves the readings as they were
  pub refuses : BadReading cols rows cols xs
      → plain_outcome binary64 rows cols defaults xs
      ≡ outcome_of (refused (refusal 8 (bad_readings cols rows cols xs))) given
  refuses b =
      let n : why.number ≡ 8 =
      eight_given false rows cols defaults given (fit_size, (fit_large, tt)) lengths_fit (fit_limit, (fit_bounds, tt)) b in
      let q = eight_found false rows cols defaults given n in
      rw q at (refused-outcome binary64 false rows cols defaults given (λ z. omega (arith, n, z)))
