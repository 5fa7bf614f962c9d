-- `take_col` meets its contract: the copy, the clearing, the reflection and the head, one after the other. Assumes nothing.
use Prim.Native.Nat.{◌+◌, ◌-◌, ◌≤◌}
use mathlib.Core.Path.{refl, ap, ◌∙◌}
use native.Mathlib.Omega.{arith}
use lib.Ieee.{binary64}
use lib.ListN.{length}
use Rattle.method.proofs.Floats.{plus_zero-64}
use Rattle.method.proofs.Index.{rows_left}
use Rattle.method.specs.Reflection.{reflection_of}
use Rattle.svd.specs.Reflections.{reflection_of-part}
use Rattle.svd.proofs.bidiagonalization.take_col.Goals as goal

pub copy_line-requires : goal.copy_line-requires
copy_line-requires c =
    (omega (arith, rows_left c.args.i c.args.rows c.args.stride (omega arith)), omega arith, rw plus_zero-64 refl)

pub clear_line-requires : goal.clear_line-requires
clear_line-requires c =
    omega (arith, rows_left c.args.i c.args.rows c.args.stride (omega arith))

pub returns : goal.returns
returns c =
    let n = c.args.rows - c.args.i in
    let fits : 0 + n ≤ length c.copy_line.new.w = omega arith in
    let made = reflection_of-part 0 n c.copy_line.new.w fits n _ _ _ _ _ (omega arith) refl c.params.ensures in
    record { entries = _; made = made ∙ ap (reflection_of binary64 c.args.floor 0 n) c.copy_line.ensures; table = rw c.clear_line.ensures refl }
