-- A text with zeros in front.
use Rattle.std.specs.Prelude.{ℕ, ◌-◌, List, ◌++◌, length, replicate}

-- the text with so many of the digit `0` in front that there are `width` characters, or more where the text has more
abbrev pub zero_padded : ℕ → List ℕ → List ℕ
zero_padded width text = replicate (width - length text) 48 ++ text
