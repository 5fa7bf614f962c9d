-- A walk that goes on by drops alone: what is counted after a drop at each range down to 1, the data as they are.
-- Definitions only.
use Prim.Native.Nat.{◌+◌, ◌-◌}
use Rattle.std.specs.Prelude.{◌≡◌}
use Rattle.method.specs.Walk.{Tally, State}

-- what is counted after a drop at each range down to 1
abbrev pub tally_down : Tally → Tally
tally_down t =
    record {
      range = 1;
      passes = t.passes + (t.range - 1);
      sweeps = t.sweeps;
      drops = t.drops + (t.range - 1);
      rotations = t.rotations;
    }

-- e is s after these drops
pub record Down {D : Type 0} (s e : State D) : Type 0 where
  pub counted : e.walk.tally ≡ tally_down s.walk.tally
  pub held : e.held ≡ s.held
