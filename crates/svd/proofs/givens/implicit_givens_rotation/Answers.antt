-- `implicit_givens_rotation` meets its contract: by the three cases of the rule. Assumes nothing.
use mathlib.Core.Path.{refl}
use Rattle.method.proofs.Rotation.{rotation-zero, rotation-sine, rotation-cosine}
use Rattle.method.proofs.Floats.{plus_zero-64, one-64}
use Rattle.svd.proofs.givens.implicit_givens_rotation.Goals as goal

pub returns-then-a : goal.returns-then-a
returns-then-a c = rw (plus_zero-64, one-64) (rotation-zero _ _ _ (rw plus_zero-64 at c.if-a.true))

pub returns-then-magnitude : goal.returns-then-magnitude
returns-then-magnitude c =
    rw one-64 (rotation-sine _ _ _ _ _ (rw plus_zero-64 at c.if-a.false) (rw (c.magnitude-2.ensures, c.magnitude.ensures) at c.if-magnitude.true) refl (rw one-64 at c.square_root-norm.ensures))

pub returns-else-magnitude : goal.returns-else-magnitude
returns-else-magnitude c =
    rw one-64 (rotation-cosine _ _ _ _ _ (rw plus_zero-64 at c.if-a.false) (rw (c.magnitude-2.ensures, c.magnitude.ensures) at c.if-magnitude.false) refl (rw one-64 at c.square_root-norm-else-magnitude.ensures))
