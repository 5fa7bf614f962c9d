-- The first of a list of checks that fails: what each check means, and which number is given when. Numbers need not
-- rise along a list. Definitions only.
use Rattle.std.specs.Prelude.{◌≡◌, ◌⊎◌, Bool, true, false, not, ◌&&◌, List, [], ◌∷◌, ℕ, ltb, eqb}
use Rattle.method.specs.Checks.{Place, Check, placed, Refusal}
use Rattle.method.specs.Checks.Tests.{Says}

-- ---- one list before another

-- every number is 1 or more: a test, so that of a written list it is seen by computing
abbrev pub numbered : List Check → Bool
numbered [] = true
numbered (c ∷ cs) = ltb 0 c.number && numbered cs

-- one refusal, or where there is none the other
abbrev pub or_else : Refusal → Refusal → Refusal
or_else r q =
    elim (eqb r.number 0) [
      | true ↦ q
      | false ↦ r
    ]

-- ---- each check with its meaning

-- a number, and the condition under which it is given
pub record Meaning : Type 1 where
  pub number : ℕ
  pub when : Type 0

abbrev pub means : ℕ → Type 0 → Meaning
means n A = record { number = n; when = A }

-- each check has the number of its meaning, and its test says the condition
infixr 3 ◌⨾◌
pub data Means : List Check → List Meaning → Type 1 where
  done : Means [] []
  ◌⨾◌ :
      {n : ℕ} {p : Place} {t : Bool} {A : Type 0} {cs : List Check} {ms : List Meaning} → Says t A → Means cs ms →
      Means (placed n t p ∷ cs) (means n A ∷ ms)

-- k is the number of the first whose condition holds, and 0 where none does
abbrev pub First : ℕ → List Meaning → Type 0
First k [] = k ≡ 0
First k (m ∷ ms) = (m.when × (k ≡ m.number)) ⊎ ((¬ m.when) × First k ms)

-- none of the conditions holds
abbrev pub None : List Meaning → Type 0
None [] = Unit {0}
None (m ∷ ms) = (¬ m.when) × None ms

-- ---- what holds of every check that fails

-- no number reaches n: a test
abbrev pub below : ℕ → List Check → Bool
below n [] = ltb 0 n
below n (c ∷ cs) = ltb c.number n && below n cs

-- a place tells nothing: a test
abbrev pub blank : Place → Bool
blank p = eqb p.row 0 && (eqb p.column 0 && eqb p.bad 0)

-- none carries a place, and none has the number n: a test
abbrev pub placeless : ℕ → List Check → Bool
placeless n [] = true
placeless n (c ∷ cs) = (blank c.place && not (eqb c.number n)) && placeless n cs
