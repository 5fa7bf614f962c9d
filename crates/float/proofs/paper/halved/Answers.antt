-- `float::paper::halved` meets its contract: by the magnitude, nothing at a zero and where it is not finite. Assumes
-- nothing.
use mathlib.Core.Path.{sym, ◌∙◌}
use Rattle.method.proofs.Floats.{plus_zero-64}
use Rattle.float.proofs.Signs.{held, abs_is, finite_is}
use Rattle.float.proofs.Halves.{halved_zero, halved_past, size_between, halved-read}
use Rattle.float.proofs.paper.halved.Goals.{then-size-via-then-size, then-size-via-else-size+then-not-is_finite}
use Rattle.float.proofs.paper.halved.Goals as goal

pub returns-then-size : goal.returns-then-size
returns-then-size c =
    let x = c.args.x in
    let y = c.abs-size.result in
    let is = c.abs-size.ensures.value ∙ abs_is x in
    rw (c.default.ensures.0, c.default.ensures.1)
    (elim c.then-size.branch [
      | then-size-via-then-size w ↦ halved_zero x y is (rw plus_zero-64 at w.if-size.true)
      | then-size-via-else-size+then-not-is_finite w ↦
          halved_past x y is (sym (finite_is y) ∙ sym w.is_finite.ensures.value ∙ w.if-not-is_finite.true)
    ])

pub of-requires : goal.of-requires
of-requires c =
    let x = c.args.x in
    let y = c.abs-size.result in
    size_between x y (c.abs-size.ensures.value ∙ abs_is x) (held y c.abs-size.type_inv)
    (sym (finite_is y) ∙ sym c.is_finite.ensures.value ∙ c.if-not-is_finite.false)
    (rw plus_zero-64 at c.if-size.false)

pub returns : goal.returns
returns c =
    c.of.ensures.3
    ∙ halved-read c.args.x c.abs-size.result (c.abs-size.ensures.value ∙ abs_is c.args.x)
    (held c.abs-size.result c.abs-size.type_inv)
