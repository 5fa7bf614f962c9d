-- The walk (document 000's loop): while the range is above 1 and the counter below the limit, one pass. A pass drops
-- the last coupling where it is negligible, and sweeps the live corner where it is not. Nothing here says what the data
-- are, when a coupling is negligible, what a sweep does or how many rotations it computes: those are `Rules`, so that
-- what is true of the walk is said once, for every number type. Definitions only.
pub mod Run
pub mod Counts
pub mod Alike
pub mod Loop
pub mod Applied
pub mod Drops
pub mod Turns
use Rattle.std.specs.Prelude.{ℕ, zero, suc, ◌+◌, ◌-◌, ◌*◌, Bool, true, false, ◌&&◌, ltb}

-- what a walk counts: the range of the live corner, how many passes, sweeps and drops were made, and how many rotations
-- the sweeps computed
pub record Tally : Type 0 where
  pub range : ℕ
  pub passes : ℕ
  pub sweeps : ℕ
  pub drops : ℕ
  pub rotations : ℕ

-- the walk's record: what it counts, and the counter that the limit bounds
pub record Walk : Type 0 where
  pub tally : Tally
  pub counter : ℕ

-- what the data are asked: whether the coupling at a range is negligible, and what a sweep over a range makes of them;
-- and how many rotations that sweep computes
pub record Rules (D : Type 0) : Type 0 where
  pub negligible : ℕ → D → Bool
  pub sweep : ℕ → D → D
  pub rotations : ℕ → ℕ

-- the record and the data
pub record State (D : Type 0) : Type 0 where
  pub walk : Walk
  pub held : D

abbrev pub stands : {D : Type 0} → Walk → D → State D
stands w d = record { walk = w; held = d }

-- ---- what is counted

-- at the start, over a diagonal of c entries
abbrev pub tally_begun : ℕ → Tally
tally_begun c = record { range = c; passes = 0; sweeps = 0; drops = 0; rotations = 0 }

-- after a pass that drops
abbrev pub tally_dropped : Tally → Tally
tally_dropped t =
    record {
      range = t.range - 1;
      passes = t.passes + 1;
      sweeps = t.sweeps;
      drops = t.drops + 1;
      rotations = t.rotations;
    }

-- after a pass that sweeps, and computes so many rotations
abbrev pub tally_swept : ℕ → Tally → Tally
tally_swept turns t =
    record {
      range = t.range;
      passes = t.passes + 1;
      sweeps = t.sweeps + 1;
      drops = t.drops;
      rotations = t.rotations + turns;
    }

-- ---- the record

-- at the start, over a diagonal of c entries
abbrev pub begun : ℕ → Walk
begun c = record { tally = tally_begun c; counter = 0 }

abbrev pub start : {D : Type 0} → ℕ → D → State D
start c d = stands (begun c) d

-- after a pass that drops: the counter rises by 1, and then falls by the credit, stopping at 0
abbrev pub after_drop : ℕ → Walk → Walk
after_drop credit w = record { tally = tally_dropped w.tally; counter = w.counter + 1 - credit }

-- after a pass that sweeps, and computes so many rotations
abbrev pub after_sweep : ℕ → Walk → Walk
after_sweep turns w = record { tally = tally_swept turns w.tally; counter = w.counter + 1 }

-- ---- passes

-- there is a pass to do
abbrev pub going : ℕ → Walk → Bool
going limit w = ltb 1 w.tally.range && ltb w.counter limit

-- one pass: a drop leaves the data as they are
unfoldable pub pass : {D : Type 0} → Rules D → ℕ → State D → State D
pass rules credit s =
    let r = s.walk.tally.range in
    elim (rules.negligible r s.held) [
      | true ↦ stands (after_drop credit s.walk) s.held
      | false ↦ stands (after_sweep (rules.rotations r) s.walk) (rules.sweep r s.held)
    ]

-- at most so many passes
unfoldable pub run : {D : Type 0} → Rules D → ℕ → ℕ → ℕ → State D → State D
run rules limit credit zero s = s
run rules limit credit (suc n) s =
    elim (going limit s.walk) [
      | true ↦ run rules limit credit n (pass rules credit s)
      | false ↦ s
    ]

-- no walk from range c makes more passes
abbrev pub enough : ℕ → ℕ → ℕ → ℕ
enough limit credit c = limit + credit * (c - 2)

-- the whole walk
abbrev pub walked : {D : Type 0} → Rules D → ℕ → ℕ → ℕ → D → State D
walked rules limit credit c d = run rules limit credit (enough limit credit c) (start c d)
