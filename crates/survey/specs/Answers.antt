-- What the two public functions promise. Definitions only.
use Rattle.std.specs.Prelude.{◌≡◌, ℕ, ◌≤◌, take}
use Rattle.text.specs.Text.{Bytes, Written}
use Rattle.survey.specs.Sizes.{enough, room}
use Rattle.survey.specs.Print.{split}

-- ---- the promises

-- of a text t: `out` lent and `o` handed back, r answered
abbrev pub Promised : Bytes → Bytes → Bytes → ℕ → Type 0
Promised t out o r = Written out 0 (split t) o r × (r ≤ room)

-- of the bytes s that were read, and of every input that begins with them, where either they are all of it or they are
-- as many as settle what is printed
abbrev pub InputPromised : Bytes → Bytes → Bytes → ℕ → Type 0
InputPromised s out o r = Promised s out o r × ((t : Bytes) → take enough t ≡ s → Promised t out o r)
