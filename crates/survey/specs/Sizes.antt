-- The sizes that laws, contracts and code share. Definitions only.
use Rattle.std.specs.Prelude.{ℕ, ◌+◌}

-- the bytes of the longest well-formed text: `text_size`
abbrev pub longest : ℕ
longest = 313442

-- how many bytes of an input settle what is printed of it: `split-prefix`
abbrev pub enough : ℕ
enough = longest + 1

-- room for whatever is printed: `split-most`
abbrev pub room : ℕ
room = 314000
