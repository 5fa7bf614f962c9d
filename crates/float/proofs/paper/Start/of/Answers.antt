-- `Start::of` meets its contract: what is scaled and halved is the definition's. Assumes nothing.
use native.Mathlib.Omega.{arith}
use Rattle.float.proofs.Joined.{count-some, halved_is}
use Rattle.float.proofs.paper.Start.of.Goals as goal

pub returns : goal.returns
returns c =
    let b = c.args.bits in
    let s = c.of.result in
    let n = c.of.ensures in
    let h = c.halve.ensures in (
      h.1,
      h.2,
      count-some b s.digits s.power (omega (arith, n.0)) n.3,
      halved_is b s.digits s.power c.halve.result.number c.halve.result.power n.3 h.0 h.1 h.3,
    )
