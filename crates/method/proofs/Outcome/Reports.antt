-- The report is true: what every accepted run reports, its word included, that a settled answer is the same at every
-- greater limit, when a quiet one settles there, and that at credit 0 each limit shows the state after as many passes.
-- Assumes nothing.
use Rattle.std.specs.Prelude.{◌≡◌, refl, ◌⊎◌, Bool, true, false, ℕ, ◌+◌, ◌-◌, ◌*◌, ◌≤◌, ◌<◌, leb, length}
use Rattle.std.proofs.Math.Path.{ap}
use Rattle.std.proofs.Common.{◌∙◌, inl, inr, le_of_eq, zero-add, arith, leb-true, leb-false}
use Rattle.std.specs.Float.{Format}
use Rattle.method.specs.Floats.{pick}
use Rattle.method.specs.Work.{Work, Shape, packed}
use Rattle.method.specs.Walk.{Tally, State, start, run}
use Rattle.method.specs.Walk.Counts.{WholeWalk}
use Rattle.method.proofs.Walk.Counts.{whole-walk}
use Rattle.method.proofs.Walk.Limits as Limits
use Rattle.method.specs.Walk.Applied.{applied}
use Rattle.method.proofs.Walk.Applied.{walked-applied}
use Rattle.method.specs.Walk.Drops.{tally_down}
use Rattle.method.proofs.Walk.Drops.{walked-down}
use Rattle.method.proofs.Walk.Turns.{few_rotations, ByMoves, walk_turned}
use Rattle.method.specs.Repeated.{carried_out}
use Rattle.method.specs.Moves.{carried}
use Rattle.method.proofs.Moves.Laws.{swept-moves, rotations_most_lem}
use Rattle.method.specs.Quiet.{BoundsAbove}
use Rattle.method.proofs.Quiet.Drops.{quiet_drops}
use Rattle.method.specs.Report.{settled, quiet}
use Rattle.method.specs.Report.Words.{TrueWord}
use Rattle.method.proofs.Report.Words.{settled_one, word_true}
use Rattle.method.specs.Outcome.{outcome_of, card, is_upper, rules_for, form_of, walked_from, accepted}
use Rattle.method.specs.Settings.{Settings, most_size}
use Rattle.method.specs.Outcome.Reports.{TrueReport, at_limit, moves_made, range_moves, settled_report}

-- ---- what every accepted run reports, over a diagonal of c entries

-- the smaller of rows and columns: 1 or more where both are, at most each, and at most the most of each
pub card-some : (rows cols : ℕ) → 1 ≤ rows → 1 ≤ cols → 1 ≤ card rows cols
card-some rows cols h g = go (leb cols rows) refl
  where
    go : (t : Bool) → leb cols rows ≡ t → 1 ≤ card rows cols
    go true e = rw e g
    go false e = rw e h

pub card-le : (rows cols : ℕ) → (card rows cols ≤ rows) × (card rows cols ≤ cols)
card-le rows cols = go (leb cols rows) refl
  where
    go : (b : Bool) → leb cols rows ≡ b → (pick b cols rows ≤ rows) × (pick b cols rows ≤ cols)
    go true t = (leb-true cols rows t, omega arith)
    go false t = (omega arith, omega (arith, leb-false cols rows t))

pub card-most : (rows cols : ℕ) → rows ≤ most_size → cols ≤ most_size → card rows cols ≤ most_size
card-most rows cols h g = go (leb cols rows) refl
  where
    go : (t : Bool) → leb cols rows ≡ t → card rows cols ≤ most_size
    go true e = rw e g
    go false e = rw e h

-- ---- the sweeps' moves

-- a sweep of the method is these, carried out one after another, with a rotation for each
pub by_moves :
    (f : Format) (z : Shape) (rows cols : ℕ) (s : Settings) →
    ByMoves (rules_for f z rows cols s) (carried f z) (range_moves (is_upper rows cols))
by_moves f z rows cols s =
    record { sweeps = λ r w. swept-moves f z (is_upper rows cols) (r - 2) w; counts = λ r. refl }

module _ (f : Format) (kept : Bool) (rows cols : ℕ) (s : Settings) (w : Work) where
  abbrev ends : State Work
  ends = walked_from f (packed kept rows cols) rows cols s w

  true_walk : 1 ≤ rows → 1 ≤ cols → WholeWalk s.limit s.credit (card rows cols) ends.walk
  true_walk h g =
      let z = packed kept rows cols in
      whole-walk (rules_for f z rows cols s) s.limit s.credit (card rows cols) (form_of f z rows cols s w)
      (card-some rows cols h g)

  true_turns : ends.walk.tally.rotations ≤ 2 * (card rows cols - 1) * ends.walk.tally.sweeps
  true_turns =
      few_rotations (rules_for f (packed kept rows cols) rows cols s) s.limit s.credit (card rows cols) _ _ _
      (rotations_most_lem (is_upper rows cols) (card rows cols))

  pub accepted-true : 1 ≤ rows → 1 ≤ cols → TrueReport s (card rows cols) (accepted f kept rows cols s w).report
  unfolding accepted
  accepted-true h g =
      let k = true_walk h g in
      record {
        number = refl;
        place = refl;
        each = k.each;
        drops = k.drops;
        range = k.range;
        few = k.few;
        none = λ e. k.none (omega (arith, e));
        turns = true_turns;
      }

  -- and so is its word, of the range that it reports and the table that it leaves
  pub accepted-word :
      1 ≤ rows → 1 ≤ cols →
      let o = accepted f kept rows cols s w in
      TrueWord (is_upper rows cols) cols o.report.tally.range o.held.matrix o.report.word
  unfolding accepted
  accepted-word h g = word_true (is_upper rows cols) cols ends (true_walk h g).range.0

  -- the run has ended by itself: one is left, or the counter is at the limit
  pub accepted-ended : 1 ≤ rows → 1 ≤ cols → (ends.walk.tally.range ≡ 1) ⊎ (s.limit ≤ ends.walk.counter)
  accepted-ended h g =
      let k = true_walk h g in
      go k.end k.range.0
    where
      go :
          (ends.walk.tally.range ≤ 1) ⊎ (s.limit ≤ ends.walk.counter) → 1 ≤ ends.walk.tally.range →
          (ends.walk.tally.range ≡ 1) ⊎ (s.limit ≤ ends.walk.counter)
      go (inl l) m = inl (omega arith)
      go (inr l) m = inr l

  -- the reported passes are those that were made: after as many from the bidiagonal form, lists and counts are these
  pub accepted-applied :
      let z = packed kept rows cols in
      let first = start (card rows cols) (form_of f z rows cols s w) in
      let o = accepted f kept rows cols s w in
      let e = applied (rules_for f z rows cols s) s.credit o.report.tally.passes first in
      (o.report.tally ≡ e.walk.tally) × (o.held ≡ e.held)
  unfolding accepted
  accepted-applied =
      let z = packed kept rows cols in
      let q = (walked-applied (rules_for f z rows cols s) s.limit s.credit (card rows cols) _).counted in
      (ap (λ (e : State Work). e.walk.tally) q, ap (λ (e : State Work). e.held) q)

  -- The rotations that it reports are those of a list of moves: of the sweeps' moves, pass by pass. Carried out one after
  -- another on the bidiagonal form they give the lists, and the count is their number.
  pub accepted-turned :
      let z = packed kept rows cols in
      let first = start (card rows cols) (form_of f z rows cols s w) in
      let o = accepted f kept rows cols s w in
      let ms = moves_made f z rows cols s o.report.tally.passes first in
      (o.held ≡ carried_out (carried f z) ms first.held) × (o.report.tally.rotations ≡ length ms)
  accepted-turned =
      let z = packed kept rows cols in
      let first = start (card rows cols) (form_of f z rows cols s w) in
      let o = accepted f kept rows cols s w in
      let q = walk_turned (rules_for f z rows cols s) (carried f z) (range_moves (is_upper rows cols))
      (by_moves f z rows cols s) s.credit o.report.tally.passes first in
      (accepted-applied.1 ∙ q.held, ap (λ (t : Tally). t.rotations) accepted-applied.0 ∙ q.rotations ∙ zero-add _)

-- ---- at a greater limit

module _ (f : Format) (kept : Bool) (rows cols : ℕ) (s : Settings) (w : Work) where
  -- a settled run is the same run at every greater limit
  pub accepted-settled :
      (n : ℕ) → s.limit ≤ n → (accepted f kept rows cols s w).report.word ≡ settled →
      accepted f kept rows cols (at_limit n s) w ≡ accepted f kept rows cols s w
  unfolding accepted
  accepted-settled n h e =
      let z = packed kept rows cols in
      let q : walked_from f z rows cols (at_limit n s) w ≡ walked_from f z rows cols s w =
      Limits.settled (rules_for f z rows cols s) s.credit h (card rows cols) _
      (le_of_eq (settled_one (is_upper rows cols) cols (walked_from f z rows cols s w) e)) in
      rw q

  -- A quiet run, every bound inside its corner above zero, settles by drops alone at a greater limit n, one for each
  -- coupling inside: table and factors stay as they are. Without credit the limit must be greater by as many.
  pub accepted-quiet :
      (n : ℕ) → 1 ≤ rows → 1 ≤ cols → s.limit < n →
      let o = accepted f kept rows cols s w in
      let t = o.report.tally in
      (s.credit ≡ 0 → s.limit + (t.range - 1) ≤ n) →
      o.report.word ≡ quiet →
      BoundsAbove f s.tolerance s.absolute cols t.range o.held.matrix →
      accepted f kept rows cols (at_limit n s) w ≡ outcome_of (settled_report (tally_down t)) o.held
  unfolding accepted
  accepted-quiet n h g more room e above =
      let z = packed kept rows cols in
      let upper = is_upper rows cols in
      let here = walked_from f z rows cols s w in
      let there = walked_from f z rows cols (at_limit n s) w in
      let still = (accepted-word f kept rows cols s w h g).quiet.0 e in
      let down = walked-down (rules_for f z rows cols s) s.limit n s.credit (card rows cols) _ still.0 more room
      (quiet_drops f s.tolerance s.absolute z upper _ here.held still.1 above) in
      let one : there.walk.tally.range ≡ 1 = ap (λ (t : Tally). t.range) down.counted in
      let word = (word_true upper cols there (omega arith)).settled.1 one in
      rw (word, down.counted, down.held)

  -- at credit 0 the limit k shows the state after k passes: the run of any greater limit n, cut off after k
  pub accepted-exposed :
      (k n : ℕ) → k ≤ n → s.credit ≡ 0 →
      let z = packed kept rows cols in
      let first = start (card rows cols) (form_of f z rows cols s w) in
      walked_from f z rows cols (at_limit k s) w ≡ run (rules_for f z rows cols s) n 0 k first
  accepted-exposed k n h e =
      rw e (Limits.exposed (rules_for f (packed kept rows cols) rows cols s) h (card rows cols) _)
