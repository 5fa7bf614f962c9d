-- Texts: bytes, numerals, and lines of fields one space apart, each ended by LF; how they are read and how they are
-- written. Definitions only.
use Rattle.std.specs.Prelude.{◌≡◌, Bool, true, false, ◌&&◌, List, [], ◌∷◌, ◌++◌, ℕ, zero, suc, ◌+◌, ◌-◌, ◌*◌, ◌/◌, ◌%◌, ◌^◌, ltb, leb, eqb, length, drop}
use Rattle.std.proofs.Math.Option.{Option, none, some}
use Rattle.std.proofs.lemmas.List.Edits.{sets}

abbrev pub Bytes : Type 0
Bytes = List ℕ

abbrev pub LF : ℕ
LF = 10

abbrev pub space : ℕ
space = 32

infixl 20 ◌>>=◌
-- what follows goes on with what was read; where nothing was read, nothing is
unfoldable pub ◌>>=◌ : {A B : Type 0} → Option A → (A → Option B) → Option B
◌>>=◌ none f = none
◌>>=◌ (some a) f = f a

-- a, where the test holds
unfoldable pub when : {A : Type 0} → Bool → A → Option A
when true a = some a
when false a = none

-- What stands before the first byte `stop`, and what follows that byte; none where there is no such byte.
unfoldable pub cut : ℕ → Bytes → Option (Bytes × Bytes)
cut stop [] = none
cut stop (b ∷ t) = elim (eqb b stop) [ true ↦ some ([], t) | false ↦ cut stop t >>= λ p. some (b ∷ p.0, p.1) ]

-- one further than n, but 0 where the test holds
unfoldable pub index_after : Bool → ℕ → ℕ
index_after true n = 0
index_after false n = suc n

-- where the first byte `stop` stands; the length where there is none
unfoldable pub index_of : ℕ → Bytes → ℕ
index_of stop [] = 0
index_of stop (b ∷ t) = index_after (eqb b stop) (index_of stop t)

-- Where the first byte `stop` from `at` on stands; the length where there is none, and where `at` is past the end.
unfoldable pub found : ℕ → ℕ → Bytes → ℕ
found stop at s = elim (leb at (length s)) [ true ↦ at + index_of stop (drop at s) | false ↦ length s ]

-- what a byte is worth as a digit: 0 to 9, or A to F; 16 where it is no digit
unfoldable pub worth : ℕ → ℕ
worth b =
    elim (leb 48 b && leb b 57) [
      | true ↦ b - 48
      | false ↦ elim (leb 65 b && leb b 70) [ true ↦ b - 55 | false ↦ 16 ]
    ]

-- the value of the digits t, after digits of the value v
unfoldable pub value : ℕ → ℕ → Bytes → Option ℕ
value base v [] = some v
value base v (b ∷ t) = elim (ltb (worth b) base) [ true ↦ value base (v * base + worth b) t | false ↦ none ]

-- the value of digits in a base of at most 16, where it is below 2 ^ 64
unfoldable pub numeral : ℕ → Bytes → Option ℕ
numeral base l = elim (leb base 16) [ true ↦ value base 0 l >>= λ n. when (ltb n (2 ^ 64)) n | false ↦ none ]

-- a numeral without a leading zero: 0 itself has one digit
unfoldable pub decimal : Bytes → Option ℕ
decimal [] = none
decimal (b ∷ t) = elim (eqb b 48 && ltb 0 (length t)) [ true ↦ none | false ↦ value 10 0 (b ∷ t) ]

-- one from 1 to most
unfoldable pub number : ℕ → Bytes → Option ℕ
unfolding decimal
number most l = decimal l >>= λ n. when (leb 1 n && leb n most) n

-- 16 digits of base 16
unfoldable pub pattern : Bytes → Option ℕ
pattern l = elim (eqb (length l) 16) [ true ↦ value 16 0 l | false ↦ none ]

-- ---- writing

-- the byte of a digit
unfoldable pub digit : ℕ → ℕ
digit d = elim (ltb d 10) [ true ↦ 48 + d | false ↦ 55 + d ]

-- the last k digits of n in a base
unfoldable pub digits : ℕ → ℕ → ℕ → Bytes
digits base zero n = []
digits base (suc k) n = digits base k (n / base) ++ (digit (n % base) ∷ [])

-- how many digits n has in base 10; the fuel n is enough
unfoldable pub places_by : ℕ → ℕ → ℕ
places_by zero n = 1
places_by (suc fuel) n = elim (ltb n 10) [ true ↦ 1 | false ↦ suc (places_by fuel (n / 10)) ]

-- n in decimal
unfoldable pub shown : ℕ → Bytes
unfolding digits places_by
shown n = digits 10 (places_by n n) n

-- what follows a field: a space, and LF after the last
unfoldable pub ending : List Bytes → ℕ
ending [] = LF
ending (w ∷ ws) = space

-- a line of fields
unfoldable pub line_text : List Bytes → Bytes
line_text [] = []
line_text (w ∷ ws) = w ++ (ending ws ∷ line_text ws)

-- what a writer leaves in its slice, and what it answers
pub record Put : Type 0 where
  pub bytes : Bytes
  pub end : ℕ

abbrev pub leaves : Bytes → ℕ → Put
leaves l r = record { bytes = l; end = r }

-- The bytes s stored in l from `at` on, and where they end; where they have no room, l as it was and a number past its
-- end.
unfoldable pub put_at : ℕ → Bytes → Bytes → Put
put_at at s l =
    elim (leb (at + length s) (length l)) [
      | true ↦ leaves (sets l at s) (at + length s)
      | false ↦ leaves l (length l + 1)
    ]

-- `out₁` is `out` with the bytes s from `at` on, and nothing else changed; the bytes end at `end`
pub record Written (out : Bytes) (at : ℕ) (s : Bytes) (out₁ : Bytes) (end : ℕ) : Type 0 where
  pub stored : out₁ ≡ sets out at s
  pub ends : end ≡ at + length s
