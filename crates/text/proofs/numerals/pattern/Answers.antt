-- `text::numerals::pattern` meets its contract: 16 digits, or none. Assumes nothing.
use Rattle.std.proofs.Common.{sym}
use Rattle.text.proofs.NumeralLaws.{pattern-numeral, pattern-not}
use Rattle.text.proofs.numerals.pattern.Goals as goal

pub returns-then-l-eq16 : goal.returns-then-l-eq16
returns-then-l-eq16 c = rw (pattern-numeral _ c.if-l-eq16.true) c.value.ensures

pub returns-else-l-eq16 : goal.returns-else-l-eq16
returns-else-l-eq16 c = sym (pattern-not _ c.if-l-eq16.false)
