-- The definitions as the code answers them. Definitions only.
use Rattle.std.specs.Prelude.{◌≡◌, ◌+◌, true, false, ℕ, suc, ltb, length, take, drop, Option as Answer, Some, None}
use denote.Ref.{Bor}
use Rattle.std.proofs.Math.Option.{Option, none, some}
use Rattle.text.specs.Text.{Bytes}

-- what an answer of the code says
abbrev pub option_of : {T : Type 0} → Answer T → Option T
option_of None = none
option_of (Some x) = some x

-- the two parts of what was cut
abbrev pub parts_of : Answer (Bor Bytes × Bor Bytes) → Option (Bytes × Bytes)
parts_of None = none
parts_of (Some p) = some (p.0.now, p.1.now)

-- where byte n lies of those that begin at a place in memory: a block, and how many bytes into it
abbrev pub byte_at : ℕ × ℕ → ℕ → ℕ × ℕ
byte_at p n = (p.0, n + p.1)

abbrev pub places_of : Answer (Bor Bytes × Bor Bytes) → Option ((ℕ × ℕ) × (ℕ × ℕ))
places_of None = none
places_of (Some r) = some (r.0.ref_ptr, r.1.ref_ptr)

-- where the two parts lie of what was cut from bytes that begin at p: the first there, the second a byte behind its end
abbrev pub lie_in : ℕ × ℕ → Bor Bytes × Bor Bytes → Type 0
lie_in p r = (r.0.ref_ptr ≡ p) × (r.1.ref_ptr ≡ byte_at p (length r.0.now + 1))

-- what is found by the position r of the first stop
unfoldable pub cut_at : Bytes → ℕ → Option (Bytes × Bytes)
cut_at s r = elim (ltb r (length s)) [ true ↦ some (take r s, drop (suc r) s) | false ↦ none ]
