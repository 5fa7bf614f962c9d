-- The ranges that the numbers of an entry are held to. Definitions only.
use Rattle.std.specs.Prelude.{◌≤◌}
use Rattle.survey.specs.declared.reading.Entry.{Entry}

-- what an entry is held to
pub record InRange (e : Entry) : Type 0 where
  pub id_least : 1 ≤ e.id
  pub id_most : e.id ≤ 65535
  pub rows_least : 1 ≤ e.rows
  pub rows_most : e.rows ≤ 48
  pub cols_least : 1 ≤ e.cols
  pub cols_most : e.cols ≤ 48
