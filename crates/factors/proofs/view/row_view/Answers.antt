-- `row_view` meets its contract: where the test is passed the part is the side's row, where it lies. Assumes nothing.
use mathlib.Core.Path.{◌≡◌, sym, ◌∙◌}
use Rattle.std.proofs.Common.{true}
use Rattle.method.specs.View.Rows.{ViewFit}
use Rattle.method.proofs.View.Rows.{view_fit_lem}
use Rattle.factors.specs.View.{no_row, no_place, u_room, u_row, u_place, v_room, v_row, v_place}
use Rattle.factors.proofs.view.row_view.Goals.{After-view_fit}
use Rattle.factors.proofs.view.row_view.Goals as goal

-- past the test all is fit
fit :
    (c : After-view_fit) → c.view_fit.result ≡ true →
    ViewFit c.args.rows c.args.cols c.args.u.now c.args.v.now c.args.side c.args.row
fit c t =
    (view_fit_lem c.args.rows c.args.cols c.args.u.now c.args.v.now c.args.side c.args.row).0 (sym c.view_fit.ensures ∙ t)

pub returns-then-not-view_fit : goal.returns-then-not-view_fit
returns-then-not-view_fit c =
    let failed = sym c.view_fit.ensures ∙ c.if-not-view_fit.true in
    record { entries = no_row _ _ _ _ _ _ failed; place = no_place _ _ _ _ _ _ _ _ failed }

pub row_of-requires : goal.row_of-requires
row_of-requires c = let room = u_room (fit (goal.at.row_of-requires c).After-view_fit c.if-not-view_fit.false) c.if-side-eq0.true in (room.inside, room.few)

pub row_of-requires-else-side-eq0 : goal.row_of-requires-else-side-eq0
row_of-requires-else-side-eq0 c = let room = v_room (fit (goal.at.row_of-requires-else-side-eq0 c).After-view_fit c.if-not-view_fit.false) c.if-side-eq0.false in (room.inside, room.few)

pub returns-then-side-eq0 : goal.returns-then-side-eq0
returns-then-side-eq0 c = record {
  entries = c.row_of.ensures.entries ∙ u_row (fit (goal.at.returns-then-side-eq0 c).After-view_fit c.if-not-view_fit.false) c.if-side-eq0.true;
  place = c.row_of.ensures.place ∙ u_place (fit (goal.at.returns-then-side-eq0 c).After-view_fit c.if-not-view_fit.false) _ _ c.if-side-eq0.true;
}

pub returns-else-side-eq0 : goal.returns-else-side-eq0
returns-else-side-eq0 c = record {
  entries = c.row_of-else-side-eq0.ensures.entries ∙ v_row (fit (goal.at.returns-else-side-eq0 c).After-view_fit c.if-not-view_fit.false) c.if-side-eq0.false;
  place = c.row_of-else-side-eq0.ensures.place ∙ v_place (fit (goal.at.returns-else-side-eq0 c).After-view_fit c.if-not-view_fit.false) _ _ c.if-side-eq0.false;
}
