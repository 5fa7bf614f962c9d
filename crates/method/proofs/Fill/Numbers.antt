-- When the identity fill answers each number, and what it leaves. Assumes nothing.
use Rattle.std.specs.Prelude.{◌≡◌, refl, ◌↔◌, Bool, true, false, List, ℕ, ◌*◌, ◌≤◌, ◌<◌, eqb, length, Float}
use Rattle.std.proofs.Common.{sym, inl, inr, arith, eqb-true, eq-eqb, ne_eqb}
use Rattle.std.proofs.lemmas.Bool.{eqb-false}
use Rattle.method.specs.Settings.{most_size}
use Rattle.method.proofs.Checks.Tests.{less, same, nor, some, few, equal}
use Rattle.method.specs.Checks.First.{Means, done, ◌⨾◌, First}
use Rattle.method.proofs.Checks.First.{first-means, none-refused}
use Rattle.method.specs.Fill.{identity, filled, fill_checks, fill_number, fill_outcome}
use Rattle.method.specs.Fill.Numbers.{FillFit, fill_meanings}

module _ (n : ℕ) (a : List Float) where
  fill_tests : Means (fill_checks n a) (fill_meanings n a)
  fill_tests = same n 0 ⨾ less most_size n ⨾ nor (same (length a) (n * n)) ⨾ done

  -- the fill answers k exactly when k is the number of the first condition that holds, or when k is 0 and none holds
  pub fill_numbers : (k : ℕ) → (fill_number n a ≡ k) ↔ First k (fill_meanings n a)
  fill_numbers k = first-means fill_tests k

  -- it answers 0 exactly when size and length are fit
  pub fill_fit : (fill_number n a ≡ 0) ↔ FillFit n a
  fill_fit = (
    λ e.
        let p = (none-refused fill_tests refl).0 e in
        record { some = some n p.0; few = few most_size n p.1.0; whole = equal (length a) (n * n) p.1.1.0 },
    λ x.
        (none-refused fill_tests refl).1
        (λ z. omega (arith, x.some), (λ l. omega (arith, x.few), (λ f. f x.whole, tt))),
  )

  -- ---- each number, where its condition holds and none before it does

  pub fill_one : n ≡ 0 → fill_number n a ≡ 1
  fill_one e = (fill_numbers 1).1 (inl (e, refl))

  pub fill_two : 1 ≤ n → most_size < n → fill_number n a ≡ 2
  fill_two h l = (fill_numbers 2).1 (inr ((λ z. omega arith), inl (l, refl)))

  pub fill_four : 1 ≤ n → n ≤ most_size → ¬ (length a ≡ n * n) → fill_number n a ≡ 4
  fill_four h l f = (fill_numbers 4).1 (inr ((λ z. omega arith), inr ((λ z. omega arith), inl (f, refl))))

  -- a refusal carries its number, and leaves the list as it was
  pub fill_refused : ¬ (fill_number n a ≡ 0) → fill_outcome n a ≡ filled (fill_number n a) a
  unfolding fill_outcome
  fill_refused h = rw (ne_eqb (fill_number n a) 0 h, fill_outcome)

  -- without a refusal the list is the identity
  pub fill_accepted : fill_number n a ≡ 0 → fill_outcome n a ≡ filled 0 (identity n)
  unfolding fill_outcome
  fill_accepted e = rw (eq-eqb (fill_number n a) 0 e, fill_outcome)

  -- the number that a fill answers is the refusal's, always
  pub fill_number_lem : (fill_outcome n a).number ≡ fill_number n a
  fill_number_lem = go (eqb (fill_number n a) 0) refl
    where
      go : (b : Bool) → eqb (fill_number n a) 0 ≡ b → (fill_outcome n a).number ≡ fill_number n a
      go true t = let e = eqb-true (fill_number n a) 0 t in rw (fill_accepted e) (sym e)
      go false t = rw (fill_refused (eqb-false (fill_number n a) 0 t))
