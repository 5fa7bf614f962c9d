-- Two walks over related data: what it is for their tests and sweeps to go together, and for their states to be alike.
-- Definitions only.
use Prim.Native.Nat.{ℕ, ◌≤◌, ◌<◌}
use Rattle.std.specs.Prelude.{◌≡◌}
use Rattle.method.specs.Walk.{Rules, State}

-- ---- two walks over related data have the same record and related data

pub record Alike {D D' : Type 0} (R : D → D' → Type 0) (s : State D) (s' : State D') : Type 0 where
  pub walk : s.walk ≡ s'.walk
  pub held : R s.held s'.held

-- the two tests and the two sweeps go together, with as many rotations, at each range that a walk from c can have
pub record Follows {D D' : Type 0} (rules : Rules D) (rules' : Rules D') (c : ℕ) (R : D → D' → Type 0) : Type 0 where
  pub tests : (r : ℕ) (d : D) (d' : D') → 1 < r → r ≤ c → R d d' → rules.negligible r d ≡ rules'.negligible r d'
  pub sweeps : (r : ℕ) (d : D) (d' : D') → 1 < r → r ≤ c → R d d' → R (rules.sweep r d) (rules'.sweep r d')
  pub turns : (r : ℕ) → 1 < r → r ≤ c → rules.rotations r ≡ rules'.rotations r
