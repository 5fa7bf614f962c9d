-- `Scaled::of` meets its contract: each turn doubles the digits and takes one off the power, as `Level` says.
-- Assumes nothing.
use Prim.Native.Nat.{◌+◌, ◌/◌, ◌%◌, ◌^◌}
use native.Mathlib.Omega.{arith}
use lib.Ieee.{binary64, of_bits}
use Rattle.method.specs.Root.{count}
use Rattle.float.proofs.Level.{start-low, start-high, turn, power_pos, level_at}
use Rattle.float.proofs.paper.Scaled.of.Goals.{else-field-gt0, then-field-gt0}
use Rattle.float.proofs.paper.Scaled.of.Goals as goal

pub overflow_sub-digits : goal.overflow_sub-digits
overflow_sub-digits c = omega arith

pub overflow_add-digits : goal.overflow_add-digits
overflow_add-digits c = omega arith

pub overflow_add-power : goal.overflow_add-power
overflow_add-power c = omega arith

pub loop-digits-init : goal.loop-digits-init
loop-digits-init c =
    let b = c.args.bits in
    let n = count binary64 (of_bits binary64 b) in
    elim c.if-field-gt0.branch [ then-field-gt0 w ↦ level_at n c.if-field-gt0.digits c.if-field-gt0.power (b % 2 ^ 52 + 2 ^ 52) (b / 2 ^ 52 + 1021) (omega arith) (omega arith) (start-high b c.requires.1 w.if-field-gt0.true) | else-field-gt0 w ↦ level_at n c.if-field-gt0.digits c.if-field-gt0.power (b % 2 ^ 52) 1022 (omega arith) (omega arith) (start-low b c.requires.0 c.requires.1 (omega arith)) ]

pub overflow_add-digits-in-loop-digits : goal.overflow_add-digits-in-loop-digits
overflow_add-digits-in-loop-digits c = omega arith

pub overflow_sub-power : goal.overflow_sub-power
overflow_sub-power c =
    power_pos (count binary64 (of_bits binary64 c.args.bits)) c.loop-digits.digits c.loop-digits.power c.loop-digits.invariant c.loop-digits-test.true

pub loop-digits-smaller : goal.loop-digits-smaller
loop-digits-smaller c =
    omega (arith, power_pos (count binary64 (of_bits binary64 c.args.bits)) c.loop-digits.digits c.loop-digits.power c.loop-digits.invariant c.loop-digits-test.true)

pub loop-digits-preserved : goal.loop-digits-preserved
loop-digits-preserved c =
    turn (count binary64 (of_bits binary64 c.args.bits)) c.loop-digits.digits c.loop-digits.power c.loop-digits.invariant c.loop-digits-test.true

pub returns : goal.returns
returns c =
    let l = c.loop-digits.invariant in
    (c.loop-digits-test.false, l.small, l.bound, l.value)
