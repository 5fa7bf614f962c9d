-- `float::smaller` meets its contract: the second where the first is NaN or above it, else the first. Assumes nothing.
use mathlib.Core.Path.{sym, ◌∙◌}
use lib.Ieee.{is_nan, lt}
use Rattle.method.specs.Floats.{smaller}
use Rattle.float.proofs.Signs.{second_nan, second, first}
use Rattle.float.proofs.smaller.Goals.{then-is_nan, else-is_nan}
use Rattle.float.proofs.smaller.Goals as goal

pub returns-then-y-x : goal.returns-then-y-x
unfolding smaller
returns-then-y-x c =
    let a = c.args in
    elim c.if-is_nan.branch [
      | then-is_nan w ↦
          second_nan a.x a.y (is_nan a.x) (lt a.y a.x) (sym c.is_nan.ensures.value ∙ w.if-is_nan.true)
      | else-is_nan w ↦ second a.x a.y (is_nan a.x) (lt a.y a.x) (sym w.value-is ∙ c.if-y-x.true)
    ]

pub returns-else-y-x : goal.returns-else-y-x
unfolding smaller
returns-else-y-x c =
    let a = c.args in
    elim c.if-is_nan.branch [
      | then-is_nan w ↦ cc
      | else-is_nan w ↦
          first a.x a.y (is_nan a.x) (lt a.y a.x) (sym c.is_nan.ensures.value ∙ w.if-is_nan.false)
          (sym w.value-is ∙ c.if-y-x.false)
    ]
