-- `push` meets its contract: the next line's entry lies in the table too. Assumes nothing.
use native.Mathlib.Omega.{arith}
use Rattle.svd.specs.Values.{entry_inside}
use Rattle.svd.proofs.work.Work.push.Goals as goal

pub along-y-requires : goal.along-y-requires
along-y-requires c =
    let pre = c.requires in
    entry_inside c.args.i c.args.j c.args.n pre.0 pre.1 pre.2 c.args.self.now.lending.table (omega arith)
