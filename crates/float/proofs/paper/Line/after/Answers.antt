-- `Line::after` meets its contract: each turn of the loop is one of the page, and has room. Assumes nothing.
use mathlib.Core.Path.{sym, ap, ◌∙◌, subst}
use Prim.Native.Nat.{ℕ, ◌+◌, ◌<◌, ◌^◌}
use native.Mathlib.Nat.{le_antisymm}
use native.Mathlib.Omega.{arith}
use Rattle.method.specs.Root.Paper.{Line, first, turn, turns}
use Rattle.float.proofs.Turns.{turns_more, turns-none, turns-room}
use Rattle.float.proofs.paper.Line.after.Goals as goal

pub loop-init : goal.loop-init
loop-init c = c.first-line.ensures ∙ turns-none (first 54 c.args.number)

pub turn-line-requires : goal.turn-line-requires
turn-line-requires c =
    let x = c.args.number in
    let pre = c.requires in
    subst (λ (l : Line). (l.remainder < 2 ^ 63) × (l.root + l.bit < 2 ^ 63)) (sym c.loop.invariant)
    (turns-room x c.loop.counter pre.0 (omega (arith, pre.1, c.loop-test.true)))

pub loop-preserved : goal.loop-preserved
loop-preserved c =
    c.turn-line.ensures ∙ ap turn c.loop.invariant ∙ turns_more c.loop.counter (first 54 c.args.number)

pub returns : goal.returns
returns c =
    c.loop.invariant
    ∙ ap (λ (k : ℕ). turns k (first 54 c.args.number)) (le_antisymm c.loop.auto.counter-end c.loop-test.false)
