-- Where the live corner's last 2 x 2 stands in the list: the positions that the drop helper of document 004 moves, and
-- that they are always those of the range, the corner whose top left is entry (k, k) for k = range - 2. Assumes
-- nothing.
use Rattle.std.specs.Prelude.{◌≡◌, refl, Bool, true, false, ℕ, zero, suc, ◌+◌, ◌-◌, ◌*◌, ◌≤◌, ◌<◌}
use Rattle.std.proofs.Common.{ap, ◌∙◌, add-mul, arith}
use Rattle.method.specs.Work.{coupling_place}
use Rattle.method.specs.Walk.{Rules, start, run}
use Rattle.method.proofs.Walk.Counts.{reached}
use Rattle.method.specs.Positions.{Corner, Placed, corner_after, corner_at, corner_begun, corner_dropped, corner_of}

abbrev corner : ℕ → ℕ → ℕ → ℕ → Corner
corner i c t b = record { inter = i; coupling = c; top_left = t; bottom_left = b }

same_corner :
    {i i' c c' t t' b b' : ℕ} → i ≡ i' → c ≡ c' → t ≡ t' → b ≡ b' →
    corner i c t b ≡ corner i' c' t' b'
same_corner inter coupling top_left bottom_left = cc

-- the coupling lies in the first k + 2 rows
pub coupling-inside : (upper : Bool) (stride k : ℕ) → k + 2 ≤ stride → coupling_place upper stride k < (k + 2) * stride
coupling-inside true stride k h = omega arith
coupling-inside false stride k h = omega arith

-- ---- the start

-- the corner of a range is placed, in both forms and for every stride
pub start-placed : (upper : Bool) (stride c : ℕ) → Placed upper stride c (corner_of upper stride c)
start-placed upper stride c = record { placed = λ h. refl }

-- c rows are two more than c - 2
rows_two : (stride c : ℕ) → 2 ≤ c → c * stride ≡ (c - 2) * stride + 2 * stride
rows_two stride c h = let e : c ≡ c - 2 + 2 = omega arith in ap (λ z. z * stride) e ∙ add-mul (c - 2) 2 stride

-- The Rust's start is the corner of c: in the upper form where the stride is c, as in a packed table with no more
-- columns than rows, and in the lower form for every stride.
pub begun-start :
    (upper : Bool) (stride c : ℕ) → 2 ≤ c → (upper ≡ true → stride ≡ c) →
    corner_begun upper stride c ≡ corner_of upper stride c
unfolding corner_begun corner_of
begun-start true stride c h packed =
    let e : stride ≡ c = packed refl in
    let r = rows_two stride c h in
    same_corner refl (omega arith) (omega arith) (omega arith)
begun-start false stride c h packed =
    let r = rows_two stride c h in
    same_corner refl (omega arith) (omega arith) (omega arith)

-- ---- a pass

-- a drop moves the corner up the diagonal by one entry
dropped-at :
    (upper : Bool) (stride k : ℕ) →
    corner_dropped stride (corner_at upper stride (k + 1)) ≡ corner_at upper stride k
unfolding corner_dropped
dropped-at true stride k = same_corner (omega arith) (omega arith) (omega arith) (omega arith)
dropped-at false stride k = same_corner (omega arith) (omega arith) (omega arith) (omega arith)

-- a drop keeps the corner that of the range, for every stride
pub dropped-placed :
    (upper : Bool) (stride range : ℕ) (w : Corner) → Placed upper stride range w →
    Placed upper stride (range - 1) (corner_dropped stride w)
unfolding corner_of
dropped-placed upper stride range w p =
    record {
      placed = λ h.
          let e : range - 2 ≡ range - 1 - 2 + 1 = omega arith in
          ap (corner_dropped stride) (p.placed (omega arith))
          ∙ ap (λ (k : ℕ). corner_dropped stride (corner_at upper stride k)) e
          ∙ dropped-at upper stride (range - 1 - 2);
    }

-- ---- a walk

-- is placed, in the upper form where the stride is c and in the lower form for every stride
pub after-placed :
    (upper : Bool) (stride c n : ℕ) → (upper ≡ true → stride ≡ c) →
    Placed upper stride (c - n) (corner_after upper stride c n)
unfolding corner_after
after-placed upper stride c zero packed =
    let e : c - 0 ≡ c = omega arith in
    rw e (record { placed = λ h. begun-start upper stride c h packed })
after-placed upper stride c (suc n) packed =
    let e : c - suc n ≡ c - n - 1 = omega arith in
    rw e (dropped-placed upper stride (c - n) (corner_after upper stride c n) (after-placed upper stride c n packed))

-- So in every walk over a diagonal of c entries the Rust's corner is that of the range: tally and counter are enough to
-- go on from.
pub walk_placed :
    {D : Type 0} (rules : Rules D) (limit credit c n : ℕ) (d : D) (upper : Bool) (stride : ℕ) →
    (upper ≡ true → stride ≡ c) →
    let t = (run rules limit credit n (start c d)).walk.tally in
    Placed upper stride t.range (corner_after upper stride c t.drops)
walk_placed rules limit credit c n d upper stride packed =
    let t = (run rules limit credit n (start c d)).walk.tally in
    let e : t.range ≡ c - t.drops = omega (arith, (reached rules limit credit c n d).whole) in
    rw e (after-placed upper stride c t.drops packed)
