-- The walk's two questions on the table (document 000 and its twins in 002): whether the last coupling of the live
-- corner is negligible, and what one sweep of rotations makes of table and factors. The upper and the lower form differ
-- in which lines come first, and in nothing else. Definitions only.
use Rattle.std.specs.Prelude.{Bool, not, List, ℕ, ◌+◌, Float}
use Rattle.std.proofs.Math.Bool.{true, false}
use Rattle.std.specs.Float.{Format}
use Rattle.std.specs.Float.Ieee.{add, sub, mul, div, lt}
use Rattle.method.specs.Floats.{plus_zero, two, magnitude, sign_of, smaller, larger}
use Rattle.method.specs.Root.{square_root}
use Rattle.method.specs.Repeated.{repeated}
use Rattle.method.specs.Work.{Work, Shape, at}
use Rattle.method.specs.Rotation.{Rotation, rotation_of, rows_turned, columns_turned}

-- ---- lines: rows (true) or columns (false)

-- entry j of line i
abbrev pub along : Bool → ℕ → ℕ → ℕ → List Float → Float
along true stride i j a = at stride i j a
along false stride i j a = at stride j i a

-- Lines i and i + 1 turned in the n entries from j on. Turned rows turn columns i and i + 1 of U with them, turned
-- columns those of V.
unfoldable pub turned : Format → Shape → Rotation → Bool → ℕ → ℕ → ℕ → Work → Work
turned f z g true i j n w =
    record {
      matrix = rows_turned f g z.stride i j n w.matrix;
      u = columns_turned f g z.rows i 0 z.urows w.u;
      v = w.v;
    }
turned f z g false i j n w =
    record {
      matrix = columns_turned f g z.stride i j n w.matrix;
      u = w.u;
      v = columns_turned f g z.cols i 0 z.vrows w.v;
    }

-- entry j of line i + 1 becomes 0, its value turned into entry j of line i; the lines are rows where `by_row`, else
-- columns
abbrev pub pushed : Format → Shape → Bool → ℕ → ℕ → ℕ → Work → Work
pushed f z by_row i j n w =
    let here = along by_row z.stride i j w.matrix in
    let next = along by_row z.stride (i + 1) j w.matrix in
    turned f z (rotation_of f here next) by_row i j n w

-- ---- the live corner's last 2 x 2, whose top left is entry (k, k)

-- the eigenvalue of M' M nearest to its last entry, for M of rows (m00, m01), (m10, m11)
unfoldable pub singular : Format → Float → Float → Float → Float → Float
singular f m00 m01 m10 m11 =
    let off = add f (mul f m00 m01) (mul f m10 m11) in
    let first = add f (mul f m00 m00) (mul f m10 m10) in
    let last = add f (mul f m01 m01) (mul f m11 m11) in
    let d = div f (sub f first last) two in
    sub f (add f last d) (mul f (sign_of d) (square_root f (larger (add f (mul f d d) (mul f off off)) plus_zero)))

-- the shift that a sweep starts from
abbrev pub shift_at : Format → ℕ → ℕ → List Float → Float
shift_at f stride k a =
    let tl = at stride k k a in
    let tr = at stride k (k + 1) a in
    let bl = at stride (k + 1) k a in
    let br = at stride (k + 1) (k + 1) a in
    singular f tl tr bl br

-- the coupling: right of (k, k) in the upper form, below it in the lower
abbrev pub coupling : Bool → ℕ → ℕ → List Float → Float
coupling upper stride k a = along (not upper) stride (k + 1) k a

-- the smaller of (|top left| + |bottom right|) * tolerance and the absolute bound
abbrev pub drop_bound : Format → Float → Float → ℕ → ℕ → List Float → Float
drop_bound f tolerance absolute stride k a =
    let ends = add f (magnitude (at stride k k a)) (magnitude (at stride (k + 1) (k + 1) a)) in
    smaller (mul f ends tolerance) absolute

-- |coupling| is below it
unfoldable pub negligible : Format → Float → Float → ℕ → Bool → ℕ → List Float → Bool
negligible f tolerance absolute stride upper k a =
    lt (magnitude (coupling upper stride k a)) (drop_bound f tolerance absolute stride k a)

-- ---- a sweep

-- the rotation that a sweep starts with, of (first * first - shift, first * next): `first` is entry (0, 0), and `next`
-- stands right of it in the upper form and below it in the lower
abbrev pub first_rotation : Format → ℕ → Bool → ℕ → List Float → Rotation
first_rotation f stride upper k a =
    let first = at stride 0 0 a in
    let next = along (not upper) stride 1 0 a in
    rotation_of f (sub f (mul f first first) (shift_at f stride k a)) (mul f first next)

-- One step down the diagonal: in the upper form rows and then columns are turned, in the lower columns and then rows.
-- So `upper` says at once whether the first are rows.
abbrev pub stepped : Format → Shape → Bool → ℕ → Work → Work
stepped f z upper k w = pushed f z (not upper) (k + 1) k 3 (pushed f z upper k k 3 w)

-- the first n steps down the diagonal
unfoldable pub steps : Format → Shape → Bool → ℕ → Work → Work
steps f z upper n w = repeated 0 n (stepped f z upper) w

-- The sweep over the live corner whose last 2 x 2 starts at (k, k). Its first turn is of columns in the upper form and
-- of rows in the lower, its last the other way round.
unfoldable pub swept : Format → Shape → Bool → ℕ → Work → Work
swept f z upper k w =
    let g = first_rotation f z.stride upper k w.matrix in
    let begun = turned f z g (not upper) 0 0 2 w in
    pushed f z upper k k 2 (steps f z upper k begun)
