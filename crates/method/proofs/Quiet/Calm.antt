-- A calm roadway: where every reading is zero, of either sign, the run never drops. Its bidiagonal form is of zeros,
-- each of its rotations has cosine +0 and sine 1, so that its sweeps leave zeros, and the test for a drop says no of
-- zeros, at every finite tolerance and every absolute bound. So the limit is used up by sweeps, and the answer is quiet,
-- with the whole range left. Assumes nothing.
use Rattle.std.specs.Prelude.{◌≡◌, Bool, not, List, ℕ, ◌+◌, ◌-◌, ◌*◌, ◌<◌, ◌≤◌, length, Float}
use Rattle.std.proofs.Math.Path.{refl}
use Rattle.std.proofs.Common.{ap, ◌∙◌, inl, inr, ⊎_elim, mul-suc, add-one, arith}
use Rattle.std.proofs.Math.Bool.{true, false}
use Rattle.std.proofs.Math.Dec.{eqb}
use Rattle.std.specs.Float.{Format}
use Rattle.std.specs.Float.Ieee.{mul, lt}
use Rattle.std.specs.Float.Ieee.Scale.{finite}
use Rattle.method.specs.Floats.{plus_zero, is_zero}
use Rattle.method.proofs.Floats.Zero.{eq_zero}
use Rattle.method.proofs.Index.{row_in}
use Rattle.method.proofs.Repeated.{repeated-within}
use Rattle.method.specs.Work.{Work, Shape, at, packed}
use Rattle.method.specs.Rotation.{rows_turned, columns_turned}
use Rattle.method.proofs.Rotation.{rotation-zero}
use Rattle.method.specs.Reflection.{line_copied, line_cleared}
use Rattle.method.specs.Bidiagonal.{column_zeroed, row_zeroed, first_zeroed, then_zeroed, places_zeroed, bidiagonal}
use Rattle.method.proofs.Bidiagonal.{column_still, row_still}
use Rattle.method.specs.Chase.{along, coupling, turned, pushed, stepped, steps, swept, negligible}
use Rattle.method.specs.Chase.{shift_at, first_rotation}
use Rattle.method.proofs.Moves.Laws.{rotations_are}
use Rattle.method.specs.Walk.{Rules, State, start, pass, enough, walked}
use Rattle.method.specs.Walk.Run.{Going}
use Rattle.method.proofs.Walk.Run.{pass-sweep, run-keeps, ended}
use Rattle.method.proofs.Walk.Counts.{walked-done}
use Rattle.method.proofs.Walk.Drops.{same_tally}
use Rattle.method.specs.Settings.{Settings, most_size}
use Rattle.method.specs.Quiet.Zeros.{Null}
use Rattle.method.proofs.Quiet.Zeros.{null, null_is, add_null, sub_null, mul_left, mul_null}
use Rattle.method.specs.Quiet.Zeros.{Zeros, quarter}
use Rattle.method.proofs.Quiet.Zeros.{magnitude-null, smaller-null, singular-null, set_zeros}
use Rattle.method.proofs.Quiet.Zeros.{pair_zeros, cleared_zeros, copied_zeros, reflection-zeros, no_tau}
use Rattle.method.proofs.Quiet.Drops.{zero_negligible}
use Rattle.method.specs.Checks.{bound_fit, floor_fit, refusal_of}
use Rattle.method.specs.Checks.Table.{UnfitBounds}
use Rattle.method.proofs.Checks.Table.{bound_allowed, floor_allowed, clear, fit}
use Rattle.method.proofs.Report.Words.{word_true}
use Rattle.method.specs.Outcome.{card, is_upper, rules_of, rules_for, form_of, walked_from, accepted, outcome}
use Rattle.method.proofs.Outcome.Refused.{accepted-outcome}
use Rattle.method.proofs.Outcome.Reports.{card-le}
use Rattle.method.proofs.Lengths.{walked_from-lengths}
use Rattle.method.specs.Quiet.Calm.{AllZero, Calm, tally_calm}

-- ---- the table

-- a table whose rows lie in its first n entries, with a diagonal of c
record Room (z : Shape) (c n : ℕ) : Type 0 where
  few : z.rows ≤ most_size
  tall : c ≤ z.rows
  wide : c ≤ z.cols
  apart : z.cols ≤ z.stride
  whole : z.rows * z.stride ≤ n

module _ (f : Format) (z : Shape) (c n : ℕ) (r : Room z c n) where
  -- entry (i, j) is one of the n
  place : (i j : ℕ) → i < c → j < c → i * z.stride + j < n
  place i j h g = omega (arith, row_in i z.rows z.stride (omega arith))

  -- ---- the bidiagonal form

  module _ (floor : Float) (above : lt plus_zero floor ≡ true) where
    column_zeros :
        (i j : ℕ) (w : Work) → i < c → j < c → Zeros n w.matrix → Zeros n (column_zeroed f floor z i j w).matrix
    unfolding column_zeroed
    column_zeros i j w h g q =
        let head = i * z.stride + j in
        let m = z.rows - i in
        let column = line_copied head z.stride m w.matrix in
        let copied : Zeros most_size column = copied_zeros head z.stride m w.matrix
        (λ k l. q (head + k * z.stride) (omega (arith, row_in (i + k) z.rows z.stride (omega arith)))) in
        rw
        (← column_still f floor z.rows z.cols z.stride i j w.matrix _
        (reflection-zeros f floor above column 0 m (λ k l. copied (0 + k) (omega arith))) no_tau)
        (set_zeros n (line_cleared head z.stride m w.matrix) head _
        (cleared_zeros n head z.stride m w.matrix q) (copied 0 (omega arith)))

    row_zeros : (i j : ℕ) (w : Work) → i < c → Zeros n w.matrix → Zeros n (row_zeroed f floor z i j w).matrix
    unfolding row_zeroed
    row_zeros i j w h q =
        rw
        (← row_still f floor z.rows z.cols z.stride i j w.matrix _
        (reflection-zeros f floor above w.matrix (i * z.stride + j) (z.cols - j)
        (λ k l. q (i * z.stride + j + k) (omega (arith, row_in i z.rows z.stride (omega arith))))) no_tau)
        q

    first-zeros :
        (upper : Bool) (k : ℕ) (w : Work) → k < c → Zeros n w.matrix →
        Zeros n (first_zeroed f floor z upper k w).matrix
    first-zeros true k w h q = column_zeros k k w h h q
    first-zeros false k w h q = row_zeros k k w h q

    then_zeros :
        (upper : Bool) (k : ℕ) (w : Work) → k + 1 < c → Zeros n w.matrix →
        Zeros n (then_zeroed f floor z upper k w).matrix
    then_zeros true k w h q = row_zeros k (k + 1) w (omega arith) q
    then_zeros false k w h q = column_zeros (k + 1) k w h (omega arith) q

    places-zeros :
        (upper : Bool) (m : ℕ) (w : Work) → m < c → Zeros n w.matrix →
        Zeros n (places_zeroed f floor z upper m w).matrix
    unfolding places_zeroed
    places-zeros upper m w h q =
        repeated-within (λ w. Zeros n w.matrix) 0 m _
        (λ k s lo hi e. then_zeros upper k _ (omega arith) (first-zeros upper k s (omega arith) e)) w q

    form_zeros :
        (upper : Bool) (w : Work) → 1 ≤ c → Zeros n w.matrix → Zeros n (bidiagonal f floor z upper c w).matrix
    unfolding bidiagonal
    form_zeros upper w some q = choose (eqb z.rows z.cols) refl (places-zeros upper (c - 1) w (omega arith) q)
      where
        choose :
            (t : Bool) → eqb z.rows z.cols ≡ t → Zeros n (places_zeroed f floor z upper (c - 1) w).matrix →
            Zeros n (bidiagonal f floor z upper c w).matrix
        choose true e p = rw (e, bidiagonal) p
        choose false e p = rw (e, bidiagonal) (first-zeros upper (c - 1) _ (omega arith) p)

  -- ---- a sweep

  turned-zeros :
      (b : Float) (by_row : Bool) (i j m : ℕ) (w : Work) → i + 1 < c → j + m ≤ c → Zeros n w.matrix →
      Zeros n (turned f z (quarter b) by_row i j m w).matrix
  unfolding turned rows_turned columns_turned
  turned-zeros b true i j m w h g q =
      repeated-within (Zeros n) 0 m _
      (λ k a lo hi e. pair_zeros f n b _ _ a (place i (j + k) (omega arith) (omega arith))
      (place (i + 1) (j + k) h (omega arith)) e)
      w.matrix
      q
  turned-zeros b false i j m w h g q =
      repeated-within (Zeros n) 0 m _
      (λ k a lo hi e. pair_zeros f n b _ _ a (place (j + k) i (omega arith) (omega arith))
      (place (j + k) (i + 1) (omega arith) h) e)
      w.matrix
      q

  -- the first entry of the line is a zero: the rotation is a quarter turn
  pushed-zeros :
      (by_row : Bool) (i j m : ℕ) (w : Work) → i + 1 < c → j < c → j + m ≤ c → Zeros n w.matrix →
      Zeros n (pushed f z by_row i j m w).matrix
  pushed-zeros by_row i j m w h g l q =
      rw (← rotation-zero f (along by_row z.stride i j w.matrix) _ (eq_zero _ ∙ null_is _ (line by_row)))
      (turned-zeros _ by_row i j m w h l q)
    where
      line : (by_row : Bool) → Null (along by_row z.stride i j w.matrix)
      line true = q _ (place i j (omega arith) g)
      line false = q _ (place j i g (omega arith))

  shift_zero : (k : ℕ) (a : List Float) → k + 1 < c → Zeros n a → Null (shift_at f z.stride k a)
  shift_zero k a h q =
      singular-null f _ _ _ _ (q _ (place k k (omega arith) (omega arith))) (q _ (place k (k + 1) (omega arith) h))
      (q _ (place (k + 1) k h (omega arith))) (q _ (place (k + 1) (k + 1) h h))

  first-zero :
      (upper : Bool) (k : ℕ) (a : List Float) → k + 1 < c → Zeros n a →
      quarter (mul f (at z.stride 0 0 a) (along (not upper) z.stride 1 0 a)) ≡
      first_rotation f z.stride upper k a
  first-zero upper k a h q =
      let first = q _ (place 0 0 (omega arith) (omega arith)) in
      rotation-zero f _ _
      (eq_zero _ ∙ null_is _ (sub_null f _ _ (mul_null f _ _ first first) (shift_zero k a h q)))

  steps-zeros :
      (upper : Bool) (m : ℕ) (w : Work) → m + 1 < c → Zeros n w.matrix → Zeros n (steps f z upper m w).matrix
  unfolding steps
  steps-zeros upper m w h q =
      repeated-within (λ w. Zeros n w.matrix) 0 m (stepped f z upper)
      (λ k s lo hi e.
      pushed-zeros (not upper) (k + 1) k 3 _ (omega arith) (omega arith) (omega arith)
      (pushed-zeros upper k k 3 s (omega arith) (omega arith) (omega arith) e))
      w
      q

  swept-zeros :
      (upper : Bool) (k : ℕ) (w : Work) → k + 1 < c → Zeros n w.matrix → Zeros n (swept f z upper k w).matrix
  unfolding swept
  swept-zeros upper k w h q =
      pushed-zeros upper k k 2 _ h (omega arith) (omega arith)
      (steps-zeros upper k _ h
      (rw (← first-zero upper k w.matrix h q) (turned-zeros _ (not upper) 0 0 2 w (omega arith) (omega arith) q)))

  -- ---- the test for a drop

  coupling-zero :
      (upper : Bool) (k : ℕ) (a : List Float) → k + 1 < c → Zeros n a → is_zero (coupling upper z.stride k a) ≡ true
  coupling-zero true k a h q = null_is _ (q _ (place k (k + 1) (omega arith) h))
  coupling-zero false k a h q = null_is _ (q _ (place (k + 1) k h (omega arith)))

  no_drop :
      (tolerance absolute : Float) (upper : Bool) (k : ℕ) (a : List Float) → finite tolerance ≡ true → k + 1 < c →
      Zeros n a →
      negligible f tolerance absolute z.stride upper k a ≡ false
  no_drop tolerance absolute upper k a bounded h q =
      zero_negligible f tolerance absolute z.stride upper a k (coupling-zero upper k a h q)
      ∙ smaller-null _ absolute
      (mul_left f _ tolerance
      (add_null f _ _ (magnitude-null _ (q _ (place k k (omega arith) (omega arith))))
      (magnitude-null _ (q _ (place (k + 1) (k + 1) h h))))
      bounded)

-- ---- the walk

-- no drop was made, and the table is zeros
record Still (limit c n : ℕ) (s : State Work) : Type 0 where
  range : s.walk.tally.range ≡ c
  passes : s.walk.tally.passes ≡ s.walk.counter
  sweeps : s.walk.tally.sweeps ≡ s.walk.counter
  drops : s.walk.tally.drops ≡ 0
  rotations : s.walk.tally.rotations ≡ 2 * (c - 1) * s.walk.counter
  within : s.walk.counter ≤ limit
  zeros : Zeros n s.held.matrix

module _ (f : Format) (z : Shape) (c n : ℕ) (r : Room z c n) (upper : Bool) (tolerance absolute : Float)
    (bounded : finite tolerance ≡ true) (limit credit : ℕ) where
  abbrev rules : Rules Work
  rules = rules_of f z upper tolerance absolute

  still_pass : (s : State Work) → Going limit s.walk → Still limit c n s → Still limit c n (pass rules credit s)
  still_pass s g k =
      let l = s.walk.tally.range - 2 in
      rw
      (pass-sweep rules credit s
      (no_drop f z c n r tolerance absolute upper l s.held.matrix bounded (omega arith) k.zeros))
      record {
        range = k.range;
        passes = omega arith;
        sweeps = omega arith;
        drops = k.drops;
        rotations =
            omega (
              arith,
              k.rotations,
              rotations_are upper s.walk.tally.range g.wide,
              k.range,
              rw (← add-one s.walk.counter) at (mul-suc (2 * (c - 1)) s.walk.counter),
            );
        within = omega (arith, g.below);
        zeros = swept-zeros f z c n r upper l s.held (omega arith) k.zeros;
      }

  still_walk : (w : Work) → Zeros n w.matrix → Still limit c n (walked rules limit credit c w)
  still_walk w q =
      run-keeps rules credit limit (Still limit c n) still_pass (enough limit credit c) (start c w)
      record { range = refl; passes = refl; sweeps = refl; drops = refl; rotations = omega arith; within = omega arith; zeros = q }

-- at its end the counter is at the limit
still_end :
    (rules : Rules Work) (limit credit c n : ℕ) (w : Work) → 1 < c → Still limit c n (walked rules limit credit c w) →
    (walked rules limit credit c w).walk.tally ≡ tally_calm limit c
still_end rules limit credit c n w more k =
    let e = (walked rules limit credit c w).walk in
    let full : e.counter ≡ limit =
    ⊎_elim (λ l. absurd (omega arith)) (λ l. omega arith) (ended limit e (walked-done rules limit credit c w)) in
    same_tally k.range (k.passes ∙ full) (k.sweeps ∙ full) k.drops
    (k.rotations ∙ ap (λ (n : ℕ). 2 * (c - 1) * n) full)

-- ---- the theorem

module _ (f : Format) (kept : Bool) (rows cols : ℕ) (s : Settings) (w : Work) where
  -- from what it needs: the absolute bound and the credit do not matter
  pub accepted-calm :
      rows ≤ most_size →
      length w.matrix ≡ rows * cols →
      finite s.tolerance ≡ true →
      lt plus_zero s.floor ≡ true →
      1 < card rows cols →
      AllZero w.matrix →
      Calm s.limit (card rows cols) (accepted f kept rows cols s w)
  unfolding accepted
  accepted-calm few long bounded above more zero =
      let z = packed kept rows cols in
      let c = card rows cols in
      let n = rows * cols in
      let upper = is_upper rows cols in
      let room : Room z c n = record {
        few = few;
        tall = (card-le rows cols).0;
        wide = (card-le rows cols).1;
        apart = omega arith;
        whole = omega arith;
      } in
      let zeros : Zeros n w.matrix = λ k h. null _ (zero k (omega arith)) in
      let first = form_of f z rows cols s w in
      let e = walked_from f z rows cols s w in
      let k : Still s.limit c n e =
      still_walk f z c n room upper s.tolerance s.absolute bounded s.limit s.credit first
      (form_zeros f z c n room s.floor above upper w (omega arith) zeros) in
      record {
        word =
            (word_true upper cols e (omega (arith, k.range))).quiet.1
            (omega (arith, k.range), λ i h. coupling-zero f z c n room upper i _ (omega (arith, k.range)) k.zeros);
        tally = still_end (rules_for f z rows cols s) s.limit s.credit c n first more k;
        matrix = λ i h. null_is _ (k.zeros i (omega (arith, (walked_from-lengths f z rows cols s w).matrix)));
      }

-- bounds that are allowed are such
bounds_fit : (s : Settings) → (UnfitBounds s → ⊥) → (finite s.tolerance ≡ true) × (lt plus_zero s.floor ≡ true)
bounds_fit s h = (
  ((bound_allowed s.tolerance).0 (yes (bound_fit s.tolerance) (λ e. h (inl e)))).0,
  ((floor_allowed s.floor).0 (yes (floor_fit s.floor) (λ e. h (inr (inr e))))).1,
)
  where
    yes : (b : Bool) → (b ≡ false → ⊥) → b ≡ true
    yes true n = refl
    yes false n = absurd (n refl)

-- So of every call that is not refused: at every allowed limit, credit, tolerance, absolute bound and floor, with U and
-- V kept or not.
pub calm :
    (f : Format) (kept : Bool) (rows cols : ℕ) (s : Settings) (w : Work) →
    (refusal_of kept rows cols s w).number ≡ 0 →
    1 < card rows cols →
    AllZero w.matrix →
    Calm s.limit (card rows cols) (outcome f kept rows cols s w)
calm f kept rows cols s w e more zero =
    let g = fit kept rows cols s w e in
    let b = bounds_fit s ((clear kept rows cols s w).0 e).settings.1.0 in
    rw (accepted-outcome f kept rows cols s w e)
    (accepted-calm f kept rows cols s w g.rows_few g.matrix_length b.0 b.1 more zero)
