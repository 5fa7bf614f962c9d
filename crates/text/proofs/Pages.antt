-- Laws of pages: what is put on one, and one text after the other. Assumes nothing.
use Rattle.std.specs.Prelude.{refl, [], ◌++◌}
use Rattle.std.proofs.Common.{◌∙◌}
use Rattle.text.specs.declared.page.Page.{Page}
use Rattle.text.specs.Text.{Bytes}
use Rattle.text.specs.Page.{Puts, Writes}
use Rattle.text.proofs.WritingLaws.{wrote, nothing, then}

pub writes : {p q : Page} {s : Bytes} → Puts p s q → Writes p s q
writes h = record { same_reference = h.same_reference; wrote = wrote _ _ _ _ _ h.put }

-- nothing written
pub writes-nothing : (p : Page) → Writes p [] p
writes-nothing p = record { same_reference = refl; wrote = nothing p.out.now p.at }

-- one text after the other
pub writes-then : {p q r : Page} {s t : Bytes} → Writes p s q → Writes q t r → Writes p (s ++ t) r
writes-then x y = record { same_reference = y.same_reference ∙ x.same_reference; wrote = then x.wrote y.wrote }
