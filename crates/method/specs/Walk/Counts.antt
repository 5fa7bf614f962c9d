-- What is true of every walk's record: passes are sweeps and drops, drops are what the range lost, and passes are
-- bounded. Definitions only.
use Prim.Native.Nat.{ℕ, ◌+◌, ◌-◌, ◌*◌, ◌≤◌, ◌<◌}
use Rattle.std.specs.Prelude.{◌≡◌, ◌⊎◌}
use Rattle.method.specs.Walk.{Walk, enough}

-- ---- how many passes there can be

-- what is ahead of a record at most, while its range is above 1
abbrev pub ahead : ℕ → ℕ → Walk → ℕ
ahead limit credit w = limit - w.counter + credit * (w.tally.range - 2)

-- ---- what holds of every record that a walk from c reaches

pub record Reached (limit credit c : ℕ) (w : Walk) : Type 0 where
  pub each : w.tally.passes ≡ w.tally.sweeps + w.tally.drops
  pub whole : w.tally.range + w.tally.drops ≡ c
  pub kept : 1 ≤ c → 1 ≤ w.tally.range
  pub few : w.tally.passes ≤ enough limit credit c
  pub left : 1 < w.tally.range → w.tally.passes + ahead limit credit w ≤ enough limit credit c
  pub none : c ≤ 1 → w.tally.passes ≡ 0

-- ---- what is promised of a whole walk's record

pub record WholeWalk (limit credit c : ℕ) (w : Walk) : Type 0 where
  pub each : w.tally.passes ≡ w.tally.sweeps + w.tally.drops
  pub drops : w.tally.drops ≡ c - w.tally.range
  pub range : (1 ≤ w.tally.range) × (w.tally.range ≤ c)
  pub few : w.tally.passes ≤ limit + credit * (c - 2)
  pub none : c ≤ 1 → w.tally.passes ≡ 0
  pub end : (w.tally.range ≤ 1) ⊎ (limit ≤ w.counter)
