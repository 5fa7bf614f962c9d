-- `float::larger` meets its contract: the second where the first is NaN or below it, else the first. Assumes nothing.
use mathlib.Core.Path.{sym, ◌∙◌}
use lib.Ieee.{is_nan, lt}
use Rattle.method.specs.Floats.{larger}
use Rattle.float.proofs.Signs.{second_nan, second, first}
use Rattle.float.proofs.larger.Goals.{then-is_nan, else-is_nan}
use Rattle.float.proofs.larger.Goals as goal

pub returns-then-x-y : goal.returns-then-x-y
unfolding larger
returns-then-x-y c =
    let a = c.args in
    elim c.if-is_nan.branch [
      | then-is_nan w ↦
          second_nan a.x a.y (is_nan a.x) (lt a.x a.y) (sym c.is_nan.ensures.value ∙ w.if-is_nan.true)
      | else-is_nan w ↦ second a.x a.y (is_nan a.x) (lt a.x a.y) (sym w.value-is ∙ c.if-x-y.true)
    ]

pub returns-else-x-y : goal.returns-else-x-y
unfolding larger
returns-else-x-y c =
    let a = c.args in
    elim c.if-is_nan.branch [
      | then-is_nan w ↦ cc
      | else-is_nan w ↦
          first a.x a.y (is_nan a.x) (lt a.x a.y) (sym c.is_nan.ensures.value ∙ w.if-is_nan.false)
          (sym w.value-is ∙ c.if-x-y.false)
    ]
