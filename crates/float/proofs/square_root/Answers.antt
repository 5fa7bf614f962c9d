-- `float::square_root` meets its contract: a NaN, zeros and the infinity as they are, the NaN below zero, the rest by
-- `root_bits`. Assumes nothing.
use mathlib.Core.Path.{sym, ◌∙◌}
use native.Mathlib.Omega.{arith}
use Rattle.method.proofs.Floats.{plus_zero-64}
use Rattle.method.proofs.Nans.{bits-no_nan}
use Rattle.float.proofs.Root.{zero_stays}
use Rattle.float.proofs.Signs.{held}
use Rattle.float.proofs.Cases.{at-positive, bits_left, nan-stays, infinity-stays, below_zero}
use Rattle.float.proofs.square_root.Goals.{then-is_nan-via-then-is_nan, then-is_nan-via-else-is_nan+then-x, then-is_nan-via-else-is_nan+else-x+then-x-2}
use Rattle.float.proofs.square_root.Goals.{Else-x-3}
use Rattle.float.proofs.square_root.Goals as goal

pub returns-then-is_nan : goal.returns-then-is_nan
returns-then-is_nan c =
    let x = c.args.x in
    elim c.then-is_nan.branch [
      | then-is_nan-via-then-is_nan w ↦ nan-stays x (sym c.is_nan.ensures.value ∙ w.if-is_nan.true)
      | then-is_nan-via-else-is_nan+then-x w ↦ sym (zero_stays x (rw plus_zero-64 at w.if-x.true))
      | then-is_nan-via-else-is_nan+else-x+then-x-2 w ↦ infinity-stays x w.if-x-2.true
    ]

pub returns-then-x-3 : goal.returns-then-x-3
returns-then-x-3 c = below_zero c.args.x (rw plus_zero-64 at c.if-x-3.true)

pub root_bits-requires : goal.root_bits-requires
root_bits-requires c =
    bits_left c.args.x (held c.args.x c.well_formed.0.1) (sym c.is_nan.ensures.value ∙ c.if-is_nan.false)
    (rw plus_zero-64 at c.if-x.false) c.if-x-2.false (rw plus_zero-64 at c.if-x-3.false)

pub float_from_bits-result : goal.float_from_bits-result
float_from_bits-result c = bits-no_nan c.root_bits.result (omega (arith, c.root_bits.ensures.0))

pub returns : goal.returns
returns c =
    let b = root_bits-requires (goal.at.returns c).Else-x-3 in
    c.root_bits.ensures.1 ∙ at-positive c.args.x (held c.args.x c.well_formed.0.1) b.0 b.1
