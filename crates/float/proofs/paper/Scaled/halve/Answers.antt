-- `Scaled::halve` meets its contract: the power is halved, and the number doubled where the power is odd. Assumes
-- nothing.
use mathlib.Core.Path.{refl}
use native.Mathlib.Omega.{arith}
use Rattle.float.proofs.Joined.{twice-odd, once_even}
use Rattle.float.proofs.paper.Scaled.halve.Goals as goal

pub returns-then-power-self : goal.returns-then-power-self
returns-then-power-self c =
    let s = c.args.self in
    let h = c.requires in
    (omega (arith, h.0), omega (arith, h.1), omega (arith, h.2), twice-odd s.digits s.power _ refl c.if-power-self.true)

pub returns-else-power-self : goal.returns-else-power-self
returns-else-power-self c =
    let s = c.args.self in
    let h = c.requires in
    (h.0, omega (arith, h.1), omega (arith, h.2), once_even s.digits s.power _ refl c.if-power-self.false)
