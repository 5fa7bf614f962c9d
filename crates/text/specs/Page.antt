-- What is put on a page. Definitions only.
use Rattle.std.specs.Prelude.{◌≡◌}
use Rattle.text.specs.declared.page.Page.{Page}
use Rattle.text.specs.Text.{Bytes, leaves, put_at}
use Rattle.text.specs.Writing.{Wrote}

-- the text s is put on the page p, which is q then
pub record Puts (p : Page) (s : Bytes) (q : Page) : Type 0 where
  pub same_reference : q.out.ghost_name ≡ p.out.ghost_name
  pub put : leaves q.out.now q.at ≡ put_at p.at s p.out.now

-- what that comes to, and one text after the other
pub record Writes (p : Page) (s : Bytes) (q : Page) : Type 0 where
  pub same_reference : q.out.ghost_name ≡ p.out.ghost_name
  pub wrote : Wrote p.out.now p.at s q.out.now q.at
