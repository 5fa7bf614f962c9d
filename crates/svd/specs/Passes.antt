-- The walk's record in the code: what a pass asks of it, and what it is after so many passes. Assumes nothing.
use Rattle.std.specs.Prelude.{◌≡◌, Bool, true, false, ℕ, ◌+◌, ◌-◌, ◌*◌, ◌≤◌, ◌<◌}
use Rattle.std.proofs.Common.{ap, ◌∙◌, zero-le, le_trans, mul-le-mul_left, arith, lit<}
use Rattle.std.specs.Float.{binary64}
use Rattle.method.specs.Work.{Work, Shape as Sizes}
use Rattle.method.specs.Chase.{negligible, swept}
use Rattle.method.specs.Walk as Walk
use Rattle.method.specs.Walk.{State, stands, begun, run, after_drop, after_sweep}
use Rattle.method.proofs.Walk.Counts.{walked_same, enough-most}
use Rattle.method.specs.Walk.Run.{Going}
use Rattle.method.proofs.Walk.Run.{narrow, spent}
use Rattle.method.specs.Moves.{sweep_rotations}
use Rattle.method.proofs.Moves.Laws.{rotations_most_lem}
use Rattle.method.proofs.Walk.Turns.{AtMost}
use Rattle.method.specs.Walk.Loop.{Room, Made}
use Rattle.method.proofs.Walk.Loop.{room-less, made_none, made_drop, made_sweep, made_moved, made_room, made_end}
use Rattle.method.specs.Positions.{Corner, Placed, corner_of, corner_dropped}
use Rattle.method.proofs.Positions.{start-placed, dropped-placed}
use Rattle.method.specs.Outcome.{rules_of, card, is_upper, walked_from, rules_for}
use Rattle.method.specs.Settings.{Settings, most_size, most_limit, most_credit, most_passes}
use Rattle.method.specs.Bidiagonal.{bidiagonal}
use Rattle.svd.specs.Values.{walk_of, corner_in, Inside, Cornered}
use Rattle.svd.specs.declared.primitives.Walk.{Walk}

-- a record from which n passes may be asked: its range lies in the table, its corner is that of the range, and its counts
-- have room, with as many rotations a pass as a sweep over its range computes
pub record Standing (z : Sizes) (upper : Bool) (n : ℕ) (w : Walk) : Type 0 where
  pub inside : Inside z w.tally.range
  pub placed : Placed upper z.stride w.tally.range (corner_in w.corner)
  pub room : Room n (2 * (w.tally.range - 1)) (walk_of w)

-- ---- the corner of a record of range 2 or more, by its interior

pub record Here (z : Sizes) (upper : Bool) (w : Walk) : Type 0 where
  pub two : w.tally.range ≡ w.corner.inter + 2
  pub cornered : Cornered z upper w.corner

pub here :
    (z : Sizes) (upper : Bool) (w : Walk) → Placed upper z.stride w.tally.range (corner_in w.corner) →
    Inside z w.tally.range → 1 < w.tally.range → Here z upper w
unfolding corner_of
here z upper w p within h =
    let e = p.placed h in
    let i : w.corner.inter ≡ w.tally.range - 2 = ap (λ (c : Corner). c.inter) e in
    let two : w.tally.range ≡ w.corner.inter + 2 = omega arith in
    record {
      two = two;
      cornered =
          record {
            inside = record { in_rows = omega (arith, within.in_rows); in_cols = omega (arith, within.in_cols) };
            coupling = rw i (ap (λ (c : Corner). c.coupling) e);
            top_left = rw i (ap (λ (c : Corner). c.top_left) e);
            bottom_left = rw i (ap (λ (c : Corner). c.bottom_left) e);
          };
    }

-- a record's range is that of the method's record
ranges : (w : Walk) {k : Walk.Walk} → walk_of w ≡ k → w.tally.range ≡ k.tally.range
ranges w e = ap (λ (k : Walk.Walk). k.tally.range) e

-- ---- the loop

-- after `made` turns the places are those of the range, and as many passes have been made
pub record Inv (z : Sizes) (upper : Bool) (n : ℕ) (s : Settings) (first : Walk) (start now : Work) (w : Walk) (made : ℕ) :
    Type 0 where
  pub within : made ≤ n
  pub placed : Placed upper z.stride w.tally.range (corner_in w.corner)
  pub by :
      let rules = rules_of binary64 z upper s.tolerance s.absolute in
      Made rules s.limit s.credit (stands (walk_of first) start) made (stands (walk_of w) now)

pub inv_start :
    (z : Sizes) (upper : Bool) (n : ℕ) (s : Settings) (first : Walk) (d : Work) →
    Standing z upper n first → Inv z upper n s first d d first 0
inv_start z upper n s first d q =
    record { within = zero-le; placed = q.placed; by = made_none _ _ _ _ }

module _ {z : Sizes} {upper : Bool} {n : ℕ} {s : Settings} {first : Walk} {start now : Work} {w : Walk} {made : ℕ} (q : Standing z upper n first) (i : Inv z upper n s first start now w made) where
  -- no sweep of the run computes more rotations than one over the first range
  most : AtMost (rules_of binary64 z upper s.tolerance s.absolute) first.tally.range (2 * (first.tally.range - 1))
  most = rotations_most_lem upper first.tally.range

  room : made < n → Room 1 (2 * (first.tally.range - 1)) (walk_of w)
  room h = made_room i.by most (omega arith) q.room h

  -- for a drop
  pub drop_room : made < n → Room 1 0 (walk_of w)
  drop_room h = room-less (omega arith) (room h)

  -- the range stays in the table
  inv_inside : Inside z w.tally.range
  inv_inside =
      let m = (made_moved i.by most (omega arith)).range in
      record { in_rows = le_trans m q.inside.in_rows; in_cols = le_trans m q.inside.in_cols }

  module _ (left : made < n) (wide : 1 < w.tally.range) (below : w.counter < s.limit) where
    places : Here z upper w
    places = here z upper w i.placed inv_inside wide

    goes : Going s.limit (walk_of w)
    goes = record { wide = wide; below = below }

    k-is : w.tally.range - 2 ≡ w.corner.inter
    k-is = omega (arith, places.two)

    -- one turn by each arm
    pub inv_drop :
        {w' : Walk} →
        walk_of w' ≡ after_drop s.credit (walk_of w) →
        corner_in w'.corner ≡ corner_dropped z.stride (corner_in w.corner) →
        negligible binary64 s.tolerance s.absolute z.stride upper w.corner.inter now.matrix ≡ true →
        Inv z upper n s first start now w' (made + 1)
    inv_drop {w'} ec eo t =
        record {
          within = omega arith;
          placed = rw (eo, ranges w' ec) (dropped-placed upper z.stride _ _ i.placed);
          by = rw ec (made_drop i.by goes (rw k-is t));
        }

    pub inv_sweep :
        {w' : Walk} {now' : Work} {turns : ℕ} →
        walk_of w' ≡ after_sweep turns (walk_of w) →
        w'.corner ≡ w.corner →
        now' ≡ swept binary64 z upper w.corner.inter now →
        turns ≡ sweep_rotations upper w.corner.inter →
        negligible binary64 s.tolerance s.absolute z.stride upper w.corner.inter now.matrix ≡ false →
        Inv z upper n s first start now' w' (made + 1)
    inv_sweep {w'} ec eo en et t =
        record {
          within = omega arith;
          placed = rw (eo, ranges w' ec) i.placed;
          by = rw (ec, en, et) (rw k-is at (made_sweep i.by goes (rw k-is t)));
        }

    -- for a sweep, which computes so many
    pub sweep_room : {turns : ℕ} → turns ≡ sweep_rotations upper w.corner.inter → Room 1 turns (walk_of w)
    sweep_room e =
        let within = (made_moved i.by most (omega arith)).range in
        room-less (rw (e, ← k-is) (most w.tally.range wide within)) (room left)

    -- what the test for a drop and a sweep ask
    pub corner_asks : Cornered z upper w.corner
    corner_asks = places.cornered

-- ---- the ways out

module _ {z : Sizes} {upper : Bool} {n : ℕ} {s : Settings} {first : Walk} {start now : Work} {w : Walk} {made : ℕ} (i : Inv z upper n s first start now w made) where
  abbrev asked : State Work
  asked =
      run (rules_of binary64 z upper s.tolerance s.absolute) s.limit s.credit n
      (stands (walk_of first) start)

  pub inv_narrow : w.tally.range ≤ 1 → stands (walk_of w) now ≡ asked
  inv_narrow h = made_end i.by i.within (narrow s.limit (walk_of w) h)

  pub inv_spent : s.limit ≤ w.counter → stands (walk_of w) now ≡ asked
  inv_spent h = made_end i.by i.within (spent s.limit (walk_of w) h)

-- ---- the whole walk

-- the walk's first record, over a diagonal of c entries, has room for `most_passes`
pub first-standing :
    (z : Sizes) (upper : Bool) (c : ℕ) (first : Walk) →
    Inside z c →
    c ≤ most_size →
    walk_of first ≡ begun c →
    corner_in first.corner ≡ corner_of upper z.stride c →
    Standing z upper most_passes first
first-standing z upper c first h few ec eo =
    let turns : most_passes * (2 * (c - 1)) ≤ most_passes * (2 * (most_size - 1)) =
    mul-le-mul_left {n = 2 * (most_size - 1)} most_passes (omega arith) in
    record {
      inside = rw (ranges first ec) h;
      placed = rw (eo, ranges first ec) (start-placed upper z.stride c);
      room =
          rw (ec, ranges first ec)
          (record {
            tally = record { passes = lit< tt; sweeps = lit< tt; drops = lit< tt; rotations = omega (arith, turns) };
            counter = lit< tt;
          });
    }

-- the bidiagonal form and then `most_passes` at most are the definition's whole run
pub decomposed :
    (z : Sizes) (s : Settings) (w w₁ w₂ : Work) (c : ℕ) (first last : Walk.Walk) →
    c ≡ card z.rows z.cols →
    c ≤ most_size →
    s.limit ≤ most_limit →
    s.credit ≤ most_credit →
    w₁ ≡ bidiagonal binary64 s.floor z (is_upper z.rows z.cols) c w →
    first ≡ begun c →
    stands last w₂ ≡
    run (rules_for binary64 z z.rows z.cols s) s.limit s.credit most_passes (stands first w₁) →
    stands last w₂ ≡ walked_from binary64 z z.rows z.cols s w
decomposed z s w w₁ w₂ c first last e few low paid e₁ ef e₂ =
    rw (ef, e₁, e) at e₂
    ∙ walked_same (rules_for binary64 z z.rows z.cols s) s.limit s.credit (card z.rows z.cols) most_passes _
    (enough-most (rw e at few) low paid)
