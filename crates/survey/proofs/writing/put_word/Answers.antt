-- `survey::writing::put_word` meets its contract: each word its own bytes. Assumes nothing.
use Rattle.text.proofs.Pages.{writes}
use Rattle.survey.proofs.writing.put_word.Goals as goal

pub returns-in-Settled : goal.returns-in-Settled
returns-in-Settled c = rw c.in-Settled.is (writes c.put.ensures)

pub returns-in-Stopped : goal.returns-in-Stopped
returns-in-Stopped c = rw c.in-Stopped.is (writes c.put-in-Stopped.ensures)

pub returns-in-Quiet : goal.returns-in-Quiet
returns-in-Quiet c = rw c.in-Quiet.is (writes c.put-in-Quiet.ensures)
