-- A test and what it says. Assumes nothing.
use Rattle.std.specs.Prelude.{◌≡◌, refl, ◌⊎◌, Bool, true, false, not, ◌&&◌, ◌||◌, ℕ, ◌≤◌, ◌<◌, leb, ltb, eqb}
use Rattle.std.proofs.Common.{sym, ◌∙◌, inl, inr, ⊎_elim, true≢false, arith, ltb-true, lt-ltb, leb-true, le-leb, eqb-true, eq-eqb}
use mathlib.Core.Logic.Iff as Iff
use Rattle.std.proofs.lemmas.Bool.{false≢true, eqb-false}
use Rattle.method.specs.Checks.Tests.{Says}

-- a test that is false denies what it says
pub denies : {b : Bool} {A : Type 0} → Says b A → b ≡ false → ¬ A
denies s e a = true≢false (sym (s.1 a) ∙ e)

-- `ltb` says below
pub less : (m n : ℕ) → Says (ltb m n) (m < n)
less m n = (ltb-true m n, lt-ltb m n)

-- `leb` says at most
pub most : (m n : ℕ) → Says (leb m n) (m ≤ n)
most m n = (leb-true m n, le-leb m n)

-- `eqb` says equal
pub same : (m n : ℕ) → Says (eqb m n) (m ≡ n)
same m n = (eqb-true m n, eq-eqb m n)

-- a test says that it is true
pub holds : (b : Bool) → Says b (b ≡ true)
holds b = Iff.rfl

-- a negated test says that the test is false
pub lacks : (b : Bool) → Says (not b) (b ≡ false)
lacks true = (sym, sym)
lacks false = (λ e. refl, λ e. refl)

-- a negated test denies what the test says
pub nor : {b : Bool} {A : Type 0} → Says b A → Says (not b) (¬ A)
nor {b = true} s = (λ e a. false≢true e, λ f. absurd (f (s.0 refl)))
nor {b = false} s = (λ e. denies s refl, λ f. refl)

-- one test or another says one of the two
pub either : {a b : Bool} {A B : Type 0} → Says a A → Says b B → Says (a || b) (A ⊎ B)
either {a = true} s t = (λ e. inl (s.0 refl), λ x. refl)
either {a = false} s t = (λ e. inr (t.0 e), ⊎_elim (λ x. absurd (denies s refl x)) t.1)

-- one test and another says both of the two
pub both : {a b : Bool} {A B : Type 0} → Says a A → Says b B → Says (a && b) (A × B)
both {a = true} s t = (λ e. (s.0 refl, t.0 e), λ x. t.1 x.1)
both {a = false} s t = (λ e. absurd (false≢true e), λ x. absurd (denies s refl x.0))

-- three tests not all true say that one is false
pub not_all : (a b c : Bool) → Says (not (a && b && c)) ((a ≡ false) ⊎ (b ≡ false) ⊎ (c ≡ false))
not_all true true c = (
  λ e. inr (inr ((lacks c).0 e)),
  ⊎_elim (λ x. absurd (true≢false x)) (⊎_elim (λ x. absurd (true≢false x)) (lacks c).1),
)
not_all true false c = (λ e. inr (inl refl), λ x. refl)
not_all false b c = (λ e. inl refl, λ x. refl)

-- ---- what a denial tells of numbers

-- what is not 0 is 1 or more
pub some : (n : ℕ) → ¬ (n ≡ 0) → 1 ≤ n
some n h = omega arith

-- what is not above m is at most m
pub few : (m n : ℕ) → ¬ (m < n) → n ≤ m
few m n h = omega arith

-- numbers that are not unequal are equal
pub equal : (m n : ℕ) → ¬ (¬ (m ≡ n)) → m ≡ n
equal m n h = go (eqb m n) refl
  where
    go : (b : Bool) → eqb m n ≡ b → m ≡ n
    go true t = eqb-true m n t
    go false t = absurd (h (eqb-false m n t))
