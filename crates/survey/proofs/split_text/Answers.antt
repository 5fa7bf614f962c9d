-- `survey::split_text` meets its contract: what the surveys leave is the malformed line or nothing, and the whole has room. Assumes
-- nothing.
use Rattle.std.proofs.Common.{◌≡◌, ◌≤◌, ℕ, length, arith}
use Rattle.text.specs.declared.page.Page.{Page}
use Rattle.text.specs.Text.{Bytes, Written}
use Rattle.text.specs.Writing.{Wrote}
use Rattle.text.proofs.WritingLaws.{nothing}
use Rattle.survey.specs.Sizes.{room}
use Rattle.survey.specs.Print.{malformed_text, split}
use Rattle.survey.specs.Code.{LeavesLine}
use Rattle.survey.proofs.Room.{split-most}
use Rattle.survey.proofs.split_text.Goals as goal
use Rattle.survey.proofs.split_text.Goals.{in-Err, in_default}

-- the whole was written, since it has room
settled : (text out₀ out₁ : Bytes) (p p₁ : Page) (n r : ℕ) → length out₀ ≡ room → p.out.now ≡ out₀ → LeavesLine text p p₁ n
    → Wrote p₁.out.now p₁.at (malformed_text n) out₁ r → Written out₀ 0 (split text) out₁ r × (r ≤ room)
settled text out₀ out₁ p p₁ n r l e h w =
    let most = split-most text in
    let f = (rw e at (h.goes out₁ r w)).fits (omega arith) in
    (f, omega (arith, f.ends))

pub returns : goal.returns
unfolding malformed_text
returns c =
    let page = c.new-page in
    elim c.match-put_surveys.branch [
      | in-Err w ↦ rw w.page-is (settled _ _ _ page.result _ _ _ c.told-out page.ensures.out w.in-Err.ensures.line w.put_malformed.ensures.wrote)
      | in_default w ↦
          rw w.page-is (settled _ _ _ page.result _ _ _ c.told-out page.ensures.out w.in_default.ensures.line (nothing _ _))
    ]
