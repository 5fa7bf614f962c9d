-- `text::numerals::value` meets its contract: the digits read so far have the value v. Assumes nothing.
use Rattle.std.proofs.Common.{◌≡◌, ◌<◌, ◌^◌, drop}
use Rattle.text.specs.Text.{value as value_of}
use Rattle.text.proofs.numerals.value.Given as goal

abbrev pub invariant-loop-b : goal.invariant-loop-b
invariant-loop-b l = (l.v < 2 ^ 64) × (value_of l.base l.v (drop l.b-index l.l) ≡ value_of l.base 0 l.l)
