-- `text::writing::store_digits` meets its contract: one digit more, down to none. Assumes nothing.
use Rattle.std.proofs.Common.{sym, ◌∙◌, arith}
use Rattle.text.proofs.Digits.{digits-none, digits-next}
use Rattle.text.proofs.writing.store_digits.Goals as goal

pub loop-j-preserved : goal.loop-j-preserved
loop-j-preserved c = rw c.digit.ensures (sym (digits-next _ _ _ _ _ c.loop-j-test.true) ∙ c.loop-j.invariant)

pub returns : goal.returns
returns c = digits-none _ c.args.at c.args.base c.loop-j.rest c.loop-j.j (omega arith) ∙ c.loop-j.invariant
