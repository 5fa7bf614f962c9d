-- `text::writing::store_digits` meets its contract: the j digits still to write give the whole. Assumes nothing.
use Rattle.std.proofs.Common.{◌≡◌}
use Rattle.std.proofs.lemmas.List.Edits.{sets}
use Rattle.text.specs.Text.{digits as digitsOf}
use Rattle.text.proofs.writing.store_digits.Given as goal

abbrev pub invariant-loop-j : goal.invariant-loop-j
invariant-loop-j l = sets l.out l.at (digitsOf l.base l.j l.rest) ≡ sets l.initial.out l.at (digitsOf l.base l.k l.n)
