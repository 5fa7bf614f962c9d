-- `survey::split_input` meets its contract: `read` has as many bytes as settle what is printed, so that what is printed of
-- its first n is printed of every input that begins so. Assumes nothing.
use Rattle.std.proofs.Common.{◌≡◌, min, length, take}
use Rattle.std.proofs.lemmas.List.{take_min}
use Rattle.survey.specs.Sizes.{enough}
use Rattle.survey.proofs.Answers.{input_promised}
use Rattle.survey.proofs.split_input.Goals as goal

pub returns : goal.returns
returns c =
    let full : length c.args.read.now ≡ enough = c.told-read in
    let first : take (min c.args.n enough) c.args.read.now ≡ take c.args.n c.args.read.now = rw (← full) (take_min c.args.n c.args.read.now) in
    input_promised (rw (c.min.ensures, first) at c.split_text.ensures)
