-- What it is for the factors of a work to be square. Definitions only.
use Rattle.std.specs.Prelude.{◌≡◌, ℕ, ◌*◌, length}
use Rattle.method.specs.Work.{Work}
use Rattle.method.specs.Rows.{Side, factor, size_of}

-- ---- rows in other places

-- both factors have their lengths
abbrev pub Square : ℕ → ℕ → Work → Type 0
Square rows cols w = (side : Side) → length (factor side w) ≡ size_of side rows cols * size_of side rows cols
