-- `text::numerals::value` meets its contract: a law for each way out, and for one digit more. Assumes nothing.
use Rattle.std.proofs.Common.{◌≡◌, ◌+◌, ◌*◌, ◌^◌, ◌≤◌, sym, ◌∙◌, get_or, arith}
use Rattle.text.specs.Text.{worth as worth_of}
use Rattle.text.proofs.Digits.{value-next}
use Rattle.text.proofs.NumeralLaws.{numeral-unbased, numeral-stop, numeral-over, numeral-end}
use Rattle.text.proofs.numerals.value.Goals as goal

pub returns-then-base-gt16 : goal.returns-then-base-gt16
returns-then-base-gt16 c = sym (numeral-unbased _ _ c.if-base-gt16.true)

pub returns-in_err-d : goal.returns-in_err-d
returns-in_err-d c =
    let d : c.args.base ≤ worth_of (get_or c.args.l.now c.loop-b.b-index 0) = omega (arith, c.in_err-d.ensures.value, c.if-base-gt16.false) in
    rw c.from_residual.ensures (sym (numeral-stop _ _ _ _ c.if-base-gt16.false c.loop-b.invariant.1 c.loop-b-test.true d))

pub returns-then-base-d : goal.returns-then-base-d
returns-then-base-d c =
    let d = rw c.in_ok-d.ensures.value at c.if-base-d.true in
    sym (numeral-stop _ _ _ _ c.if-base-gt16.false c.loop-b.invariant.1 c.loop-b-test.true d)

pub returns-in_err-checked_mul : goal.returns-in_err-checked_mul
returns-in_err-checked_mul c =
    let d = rw c.in_ok-d.ensures.value at c.if-base-d.false in
    let o : 2 ^ 64 ≤ c.loop-b.v * c.args.base + worth_of (get_or c.args.l.now c.loop-b.b-index 0) = omega (arith, c.in_err-checked_mul.ensures) in
    rw c.from_residual-in_err-checked_mul.ensures (sym (numeral-over _ _ _ _ c.if-base-gt16.false c.loop-b.invariant.1 c.loop-b-test.true d o))

pub returns-in_err-v : goal.returns-in_err-v
returns-in_err-v c =
    let d = rw c.in_ok-d.ensures.value at c.if-base-d.false in
    let o : 2 ^ 64 ≤ c.loop-b.v * c.args.base + worth_of (get_or c.args.l.now c.loop-b.b-index 0) =
    omega (arith, c.in_err-v.ensures, c.in_ok-checked_mul.ensures.1, c.in_ok-d.ensures.value) in
    rw c.from_residual-in_err-v.ensures (sym (numeral-over _ _ _ _ c.if-base-gt16.false c.loop-b.invariant.1 c.loop-b-test.true d o))

pub loop-b-preserved : goal.loop-b-preserved
loop-b-preserved c =
    let d = rw c.in_ok-d.ensures.value at c.if-base-d.false in
    let e : c.in_ok-v.v ≡ c.loop-b.v * c.args.base + worth_of (get_or c.args.l.now c.loop-b.b-index 0) =
    omega (arith, c.in_ok-v.ensures.1, c.in_ok-checked_mul.ensures.1, c.in_ok-d.ensures.value) in
    (omega arith, rw e (sym (value-next _ _ _ _ c.loop-b-test.true d) ∙ c.loop-b.invariant.1))

pub returns : goal.returns
returns c = sym (numeral-end c.args.base c.loop-b.v c.args.l.now c.loop-b.b-index c.if-base-gt16.false c.loop-b.invariant.1 (omega arith) c.loop-b.invariant.0)
