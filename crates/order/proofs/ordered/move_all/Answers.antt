-- `move_all` meets its contract: the four steps, one after the other, by the list that the first leaves. Assumes
-- nothing.
use Rattle.method.specs.Work.{work}
use Rattle.order.specs.Ways.{moving}
use Rattle.order.proofs.ordered.move_all.Goals as goal

pub values-requires : goal.values-requires
values-requires c =
    let m =
    moving c.args.rows c.args.d.cols c.args.d.c
    (work c.args.d.b.now c.args.u.now c.args.v.now) c.args.list.now _ c.requires.0 c.requires.1 c.requires.2
    c.positions.ensures.0 c.positions.ensures.1 in
    (m.1, m.0.in_list)

pub columns-requires : goal.columns-requires
columns-requires c =
    let m =
    moving c.args.rows c.args.d.cols c.args.d.c
    (work c.args.d.b.now c.args.u.now c.args.v.now) c.args.list.now _ c.requires.0 c.requires.1 c.requires.2
    c.positions.ensures.0 c.positions.ensures.1 in
    (m.1, c.requires.1.rows_few, m.0.in_rows, c.requires.1.u)

pub columns-requires-2 : goal.columns-requires-2
columns-requires-2 c =
    let m =
    moving c.args.rows c.args.d.cols c.args.d.c
    (work c.args.d.b.now c.args.u.now c.args.v.now) c.args.list.now _ c.requires.0 c.requires.1 c.requires.2
    c.positions.ensures.0 c.positions.ensures.1 in
    (m.1, c.requires.1.cols_few, m.0.in_cols, c.requires.1.v)
