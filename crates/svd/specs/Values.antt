-- The code's values as the method's, and what the kernels ask of the lists they are lent. Assumes nothing.
use Rattle.std.specs.Prelude.{Option, Some, None, Result, Ok, Err, List, ℕ, Bool, ◌+◌, ◌*◌, ◌≤◌, ◌<◌, length, ◌≡◌, Float, true, false}
use Rattle.std.proofs.Common.{le_trans, mul-le-mul_right, arith}
use Rattle.std.specs.Float.{binary64}
use Rattle.std.specs.Float.Ieee.{eq, ne}
use Rattle.std.proofs.lemmas.Bool.{not-true, not-false}
use Rattle.method.specs.Rotation.{Rotation as Turn}
use Rattle.method.specs.Reflection.{Reflection as Mirror}
use Rattle.method.specs.Bidiagonal.{column_reflection, headed}
use Rattle.method.proofs.Index.{row_fits, inside}
use Rattle.method.proofs.Positions.{coupling-inside}
use Rattle.method.specs.Settings.{most_size, most_stride}
use Rattle.method.specs.Work.{Work, Shape as Sizes, coupling_place}
use Rattle.method.specs.Walk as Walk
use Rattle.method.specs.Positions as Positions
use Rattle.method.specs.Report as Report
use Rattle.method.specs.Checks.{not_refused}
use Rattle.checks.specs.declared.refusal.Refusal.{Refusal}
use Rattle.checks.specs.Values.{refusal_in}
use Rattle.svd.specs.declared.givens.Rotation.{Rotation}
use Rattle.svd.specs.declared.householder.Reflection.{Reflection}
use Rattle.svd.specs.declared.report.Report.{Report}
use Rattle.svd.specs.declared.report.Word.{Word}
use Rattle.svd.specs.declared.report.Word.TheVariants.{Settled, Stopped, Quiet}
use Rattle.svd.specs.declared.shape.Shape.{Shape}
use Rattle.svd.specs.declared.tally.Tally.{Tally}
use Rattle.svd.specs.declared.primitives.Corner.{Corner}
use Rattle.svd.specs.declared.primitives.Walk.{Walk}
use Rattle.svd.specs.declared.window.Window.{Window}

-- a rotation
abbrev pub rotation : Rotation → Turn
rotation g = record { radius = g.radius; cosine = g.cosine; sine = g.sine }

-- a reflection, and what making it leaves in the entries
abbrev pub reflected : List Float → Reflection → Mirror
reflected entries r = record { entries = entries; vector = r.vector; tau = r.tau }

-- a shape
abbrev pub sizes : Shape → Sizes
sizes z = record { rows = z.rows; cols = z.cols; stride = z.stride; urows = z.urows; vrows = z.vrows }

-- what a walk counts
abbrev pub tally_of : Tally → Walk.Tally
tally_of t =
    record {
      range = t.range;
      passes = t.passes;
      sweeps = t.sweeps;
      drops = t.drops;
      rotations = t.rotations;
    }

-- the walk's record
abbrev pub walk_of : Walk → Walk.Walk
walk_of w = record { tally = tally_of w.tally; counter = w.counter }

-- where its corner stands
abbrev pub corner_in : Corner → Positions.Corner
corner_in c = record { inter = c.inter; coupling = c.e1; top_left = c.tl; bottom_left = c.bl }

-- the report's word, and that of a call, which has none where it was refused
abbrev pub word_in : Word → Report.Word
word_in Settled = Report.settled
word_in Stopped = Report.stopped
word_in Quiet = Report.quiet

abbrev pub worded : Option Word → Report.Word
worded None = Report.none
worded (Some w) = word_in w

-- what a call answers: what it reports, or why it was refused
abbrev pub Answer : Type 0
Answer = Result Report Refusal

-- its word, none where it is refused
abbrev pub said : Answer → Option Word
said (Ok r) = Some r.word
said (Err e) = None

-- the report that it tells
abbrev pub report_of : Answer → Report.Report
report_of (Ok r) = record { refusal = not_refused; word = word_in r.word; tally = tally_of r.tally }
report_of (Err e) = Report.refused (refusal_in e)

-- what making the reflection of column j from row i on leaves in the table, and the reflection
pub record Taken (floor : Float) (rows stride i j : ℕ) (b b' : List Float) (r : Reflection) : Type 0 where
  pub entries : List Float
  pub made : reflected entries r ≡ column_reflection binary64 floor rows stride i j b
  pub table : b' ≡ headed (reflected entries r) rows stride i j b

-- ---- what the kernels ask of the lists they are lent

-- the table lies in its list, and its sizes are small
pub record Roomy (z : Sizes) (b : List Float) : Type 0 where
  pub rows_few : z.rows ≤ most_size
  pub cols_few : z.cols ≤ most_size
  pub stride_few : z.stride ≤ most_stride
  pub wide : z.cols ≤ z.stride
  pub whole : z.rows * z.stride ≤ length b

-- the kept rows of a factor of size n, `lines` of them, lie in its list
pub record Lent (n lines : ℕ) (a : List Float) : Type 0 where
  pub few : lines ≤ most_size
  pub whole : lines * n ≤ length a

-- so with the table and both factors
pub record Lending (z : Sizes) (w : Work) : Type 0 where
  pub table : Roomy z w.matrix
  pub u : Lent z.rows z.urows w.u
  pub v : Lent z.cols z.vrows w.v

-- the table has n rows and n columns, or more
pub record Inside (z : Sizes) (n : ℕ) : Type 0 where
  pub in_rows : n ≤ z.rows
  pub in_cols : n ≤ z.cols

-- the corner's last 2 x 2 lies in the table, and its places are by row and column number
pub record Cornered (z : Sizes) (upper : Bool) (c : Corner) : Type 0 where
  pub inside : Inside z (c.inter + 2)
  pub coupling : c.e1 ≡ coupling_place upper z.stride c.inter
  pub top_left : c.tl ≡ c.inter * z.stride + c.inter
  pub bottom_left : c.bl ≡ (c.inter + 1) * z.stride + c.inter

-- `rows` rows from i on, in the `cols` columns from j on, lie in a list, in rows of `stride` entries
pub record Block (stride i j rows cols : ℕ) (a : List Float) : Type 0 where
  pub wide : j + cols ≤ stride
  pub few : i + rows ≤ most_size
  pub whole : (i + rows) * stride ≤ length a

-- the window's rows and columns lie in a list
abbrev pub Framed : Window → List Float → Type 0
Framed w a = Block w.stride w.row w.column w.rows w.cols a

-- of which row k lies in the list from its start on
pub row_framed :
    {w : Window} {k : ℕ} {a : List Float} →
    k < w.rows → Framed w a → (w.row + k) * w.stride + w.column + w.cols ≤ length a
row_framed {w} h block = omega (arith, row_fits w.row w.stride h, block.wide, block.whole)

-- the corner's places lie in the table's list, the last entry's and the coupling's among them
pub corner_inside :
    {z : Sizes} {upper : Bool} {c : Corner} {b : List Float} →
    Cornered z upper c → Roomy z b → (c.bl + 1 < length b) × (c.e1 < length b)
corner_inside {z} {upper} {c} {b} h t =
    let rows : (c.inter + 2) * z.stride ≤ length b = le_trans (mul-le-mul_right z.stride h.inside.in_rows) t.whole in
    let wide : c.inter + 2 ≤ z.stride = le_trans h.inside.in_cols t.wide in
    let coupling = coupling-inside upper z.stride c.inter wide in
    let left = h.bottom_left in
    let place = h.coupling in
    (omega arith, omega arith)

-- where entry j of either line stands, be they rows or columns
pub entry_inside :
    {z : Sizes} {b : List Float} {k : ℕ} (i j n : ℕ) →
    1 ≤ n → Inside z (i + 2) → Inside z (j + n) → Roomy z b → k < i + 2 →
    (k * z.stride + j < length b) × (j * z.stride + k < length b)
entry_inside {z} {b} {k} i j n some lines entries t h =
    let k-row : k < z.rows = omega (arith, lines.in_rows) in
    let k-col : k < z.stride = omega (arith, lines.in_cols, t.wide) in
    let j-row : j < z.rows = omega (arith, entries.in_rows) in
    let j-col : j < z.stride = omega (arith, entries.in_cols, t.wide) in
    (inside z.stride (length b) k-row j-col t.whole, inside z.stride (length b) j-row k-col t.whole)

-- ---- a tau that is not 0, tested by `!=`
pub ne_taken : (x y : Float) → ne x y ≡ true → eq x y ≡ false
unfolding ne
ne_taken x y e = not-true (eq x y) e

pub ne_left : (x y : Float) → ne x y ≡ false → eq x y ≡ true
unfolding ne
ne_left x y e = not-false (eq x y) e
