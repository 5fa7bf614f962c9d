-- `params` meets its contract: by the two cases of `reflection_of`, below the floor and not. Assumes nothing.
use Prim.Native.Nat.{◌≤◌}
use mathlib.Core.Path.{refl, ◌∙◌}
use native.Mathlib.Omega.{arith}
use lib.ListN.{length}
use Rattle.method.proofs.Reflection.{reflection-small, reflection-large}
use Rattle.method.proofs.Floats.{plus_zero-64, one-64}
use Rattle.svd.specs.Reflections.{line_cleared-all, squares_of-part, times_from-part}
use Rattle.svd.proofs.householder.params.Goals as goal

pub returns-then-max-floor : goal.returns-then-max-floor
returns-then-max-floor c =
    rw (c.requires.2, plus_zero-64, one-64) (reflection-small _ _ _ _ _ (rw c.largest-max.ensures at c.if-max-floor.true))

pub returns-else-max-floor : goal.returns-else-max-floor
returns-else-max-floor c =
    let few : length c.args.entries.now ≤ length c.scale_into.new.w = omega (arith, c.scale_into.auto.w) in
    let cleared = rw plus_zero-64 at (c.fill.ensures.after (λ y h. h)) ∙ line_cleared-all c.args.entries.now in
    let sum = c.squares-sum.ensures ∙ squares_of-part _ _ _ few in
    let tail = times_from-part _ _ 1 _ _ _ _ c.requires.0 few refl c.scale.ensures in
    rw one-64 (reflection-large _ _ _ _ _ _ _ _ _ _ _ _ c.largest-max.ensures c.if-max-floor.false (rw one-64 at c.scale_into.ensures) cleared sum c.sign.ensures c.square_root.ensures (rw one-64 at tail))
