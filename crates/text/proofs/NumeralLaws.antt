-- Laws of numerals: how large a value is, and what the code's ways out say. Assumes nothing.
use Rattle.std.specs.Prelude.{◌≡◌, Bool, true, false, ◌&&◌, ltb, eqb, get_or, drop}
use Rattle.std.proofs.Math.Path.{refl, ap}
use Rattle.std.proofs.Common.{sym, ◌∙◌, arith, mul-le-mul_right, mul_assoc}
use Rattle.std.proofs.Math.Option.{Option, none, some}
use mathlib.Core.List.{[], ◌∷◌}
use Prim.Native.Nat.{ℕ, zero, suc, ◌+◌, ◌*◌, ◌^◌, ◌<◌, ◌≤◌}
use Rattle.std.proofs.Math.Nat.{pow-zero, pow-succ', mul-le-mul_left, pow-le-pow_right, one-le-pow}
use borrow.Author.Tests.{le-ltb, lt-ltb, le-leb, lt-leb, eq-eqb, ne_eqb, ltb-true, ltb-false, leb-true, eqb-true, eqb-false}
use Rattle.std.proofs.Math.Dec.{leb}
use Rattle.std.proofs.Math.ListN.{length}
use Rattle.text.specs.Text.{Bytes, ◌>>=◌, when, worth, value, numeral, decimal, number, pattern}
use Rattle.text.proofs.Options.{bind_some, when-some, and_both}
use Rattle.text.proofs.Digits.{value-next, value-stop, value-end}

-- ---- how large a value is

-- a numeral is at least its leading digits
pub value-least : (base : ℕ) (t : Bytes) (v w : ℕ) → value base v t ≡ some w → v * base ^ length t ≤ w
unfolding value
value-least base [] v w e = let z : v ≡ w = cc in omega (arith, ap (λ (p : ℕ). v * p) (pow-zero base))
value-least base (b ∷ t) v w e = go (ltb (worth b) base) refl (λ h. value-least base t (v * base + worth b) w h)
  where
    more : value base (v * base + worth b) t ≡ some w → (v * base + worth b) * base ^ length t ≤ w
        → v * base ^ suc (length t) ≤ w
    more h k =
        let p : base ^ suc (length t) ≡ base * base ^ length t = pow-succ' base (length t) in
        let q : v * (base * base ^ length t) ≡ v * base * base ^ length t = sym (mul_assoc v base (base ^ length t)) in
        let m : v * base * base ^ length t ≤ (v * base + worth b) * base ^ length t = mul-le-mul_right (base ^ length t) (omega arith) in
        rw p (rw q (omega arith))

    go : (x : Bool) → ltb (worth b) base ≡ x
        → (value base (v * base + worth b) t ≡ some w → (v * base + worth b) * base ^ length t ≤ w)
        → v * base ^ suc (length t) ≤ w
    go true x ih = let h : value base (v * base + worth b) t ≡ some w = rw (value, x) at e in more h (ih h)
    go false x ih = let h : none ≡ some w = rw (value, x) at e in absurd (let z : ◌≡◌ {A = ℕ} 0 1 = cc in omega arith)

-- and less than the next such numeral
pub value-below : (base : ℕ) (t : Bytes) (v w : ℕ) → value base v t ≡ some w → w < (v + 1) * base ^ length t
unfolding value
value-below base [] v w e = let z : v ≡ w = cc in omega (arith, ap (λ (p : ℕ). (v + 1) * p) (pow-zero base))
value-below base (b ∷ t) v w e = go (ltb (worth b) base) refl (λ h. value-below base t (v * base + worth b) w h)
  where
    more : worth b < base → w < (v * base + worth b + 1) * base ^ length t → w < (v + 1) * base ^ suc (length t)
    more d k =
        let p : base ^ suc (length t) ≡ base * base ^ length t = pow-succ' base (length t) in
        let q : (v + 1) * (base * base ^ length t) ≡ (v + 1) * base * base ^ length t = sym (mul_assoc (v + 1) base (base ^ length t)) in
        let n : v * base + worth b + 1 ≤ (v + 1) * base = omega arith in
        let m : (v * base + worth b + 1) * base ^ length t ≤ (v + 1) * base * base ^ length t = mul-le-mul_right (base ^ length t) n in
        rw p (rw q (omega (arith, k, m)))

    go : (x : Bool) → ltb (worth b) base ≡ x
        → (value base (v * base + worth b) t ≡ some w → w < (v * base + worth b + 1) * base ^ length t)
        → w < (v + 1) * base ^ suc (length t)
    go true x ih = let h : value base (v * base + worth b) t ≡ some w = rw (value, x) at e in more (ltb-true (worth b) base x) (ih h)
    go false x ih = let h : none ≡ some w = rw (value, x) at e in absurd (let z : ◌≡◌ {A = ℕ} 0 1 = cc in omega arith)

-- ---- the value of digits, where it is below 2 ^ 64

pub numeral-based : (base : ℕ) (l : Bytes) → base ≤ 16
    → numeral base l ≡ (value base 0 l >>= λ n. when (ltb n (2 ^ 64)) n)
unfolding numeral
numeral-based base l h = rw (numeral, le-leb base 16 h)

pub numeral-unbased : (base : ℕ) (l : Bytes) → 16 < base → numeral base l ≡ none
unfolding numeral
numeral-unbased base l h = rw (numeral, lt-leb base 16 h)

-- what a numeral says is its value
pub numeral-some : (base : ℕ) (l : Bytes) (v : ℕ) → base ≤ 16 → numeral base l ≡ some v → value base 0 l ≡ some v
numeral-some base l v h e =
    let p = bind_some (value base 0 l) (λ n. when (ltb n (2 ^ 64)) n) v (sym (numeral-based base l h) ∙ e) in
    let q = when-some (ltb p.0 (2 ^ 64)) p.0 v p.2 in
    p.1 ∙ ap some q.1

-- and k digits say less than the power k of the base
pub numeral-below : (base : ℕ) (l : Bytes) (v : ℕ) → base ≤ 16 → numeral base l ≡ some v → v < base ^ length l
numeral-below base l v h e = omega (arith, value-below base l 0 v (numeral-some base l v h e))

-- where it says none, there is no value or it is too large
pub numeral-none : (base : ℕ) (l : Bytes) (w : ℕ) → base ≤ 16 → numeral base l ≡ none → value base 0 l ≡ some w
    → 2 ^ 64 ≤ w
unfolding ◌>>=◌ when
numeral-none base l w h e f = go (ltb w (2 ^ 64)) refl
  where
    go : (x : Bool) → ltb w (2 ^ 64) ≡ x → 2 ^ 64 ≤ w
    go true x =
        let q : some w ≡ none = sym (numeral-based base l h ∙ rw (f, x)) ∙ e in
        absurd (let z : ◌≡◌ {A = ℕ} 0 1 = cc in omega arith)
    go false x = ltb-false w (2 ^ 64) x

-- the code's ways out, at the digit i after digits of the value v
module _ (base v : ℕ) (l : Bytes) (i : ℕ) (b : base ≤ 16) (inv : value base v (drop i l) ≡ value base 0 l) where
  pub numeral-end : i ≡ length l → v < 2 ^ 64 → numeral base l ≡ some v
  unfolding ◌>>=◌ when
  numeral-end e h = rw (numeral-based base l b, ← inv, value-end base v l i e, lt-ltb v (2 ^ 64) h)

  module _ (h : i < length l) where
    pub numeral-stop : base ≤ worth (get_or l i 0) → numeral base l ≡ none
    unfolding ◌>>=◌
    numeral-stop d = rw (numeral-based base l b, ← inv, value-stop base v l i h d)

    pub numeral-over : worth (get_or l i 0) < base → 2 ^ 64 ≤ v * base + worth (get_or l i 0) → numeral base l ≡ none
    unfolding ◌>>=◌ when
    numeral-over d k = rw (numeral-based base l b, ← inv, value-next base v l i h d) (go (value base (v * base + worth (get_or l i 0)) (drop (i + 1) l)) refl)
      where
        big : (w : ℕ) → value base (v * base + worth (get_or l i 0)) (drop (i + 1) l) ≡ some w → 2 ^ 64 ≤ w
        big w e =
            let p : 1 ≤ base ^ length (drop (i + 1) l) = one-le-pow (length (drop (i + 1) l)) base (omega arith) in
            let m : (v * base + worth (get_or l i 0)) * 1 ≤ (v * base + worth (get_or l i 0)) * base ^ length (drop (i + 1) l) = mul-le-mul_left (v * base + worth (get_or l i 0)) p in
            omega (arith, value-least base (drop (i + 1) l) (v * base + worth (get_or l i 0)) w e)

        go : (o : Option ℕ) → value base (v * base + worth (get_or l i 0)) (drop (i + 1) l) ≡ o
            → (o >>= λ n. when (ltb n (2 ^ 64)) n) ≡ none
        go none e = refl
        go (some w) e = rw (le-ltb w (2 ^ 64) (big w e))

-- ---- a number

module _ (most : ℕ) where
  pub number-empty : (l : Bytes) → length l ≡ 0 → none ≡ number most l
  unfolding number decimal ◌>>=◌
  number-empty [] e = refl
  number-empty (b ∷ t) e = absurd (omega arith)

  pub number-zero : (l : Bytes) → get_or l 0 0 ≡ 48 → none ≡ number most l
  unfolding number decimal ◌>>=◌ when value worth
  number-zero [] e = absurd (omega arith)
  number-zero (b ∷ []) e = rw e
  number-zero (b ∷ c ∷ t) e = rw (e, decimal, lt-ltb 0 (suc (length t)) (omega arith))

  pub number-value : (l : Bytes) → (length l ≡ 0 → ⊥) → (get_or l 0 0 ≡ 48 → ⊥)
      → number most l ≡ (value 10 0 l >>= λ n. when (leb 1 n && leb n most) n)
  unfolding number decimal
  number-value [] g h = absurd (g refl)
  number-value (b ∷ t) g h = rw (decimal, ne_eqb b 48 h)

  above : (v : ℕ) → most < v → none ≡ when (leb 1 v && leb v most) v
  unfolding when
  above zero h = refl
  above (suc v) h = rw (le-leb 1 (suc v) (omega arith), lt-leb (suc v) most h)

-- a first digit that is not 0 is worth at least 1
worth_first : (b : ℕ) → (b ≡ 48 → ⊥) → 1 ≤ worth b
unfolding worth
worth_first b h = go (leb 48 b) (leb b 57) (leb 65 b) (leb b 70) refl refl refl refl
  where
    go : (x y z w : Bool) → leb 48 b ≡ x → leb b 57 ≡ y → leb 65 b ≡ z → leb b 70 ≡ w → 1 ≤ worth b
    go true true z w p q r s = rw (worth, p, q) (omega (arith, leb-true 48 b p))
    go true false true true p q r s = rw (worth, p, q, r, s) (omega (arith, leb-true 65 b r))
    go true false true false p q r s = rw (worth, p, q, r, s) (omega arith)
    go true false false w p q r s = rw (worth, p, q, r) (omega arith)
    go false y true true p q r s = rw (worth, p, r, s) (omega (arith, leb-true 65 b r))
    go false y true false p q r s = rw (worth, p, r, s) (omega arith)
    go false y false w p q r s = rw (worth, p, r) (omega arith)

-- a value whose first digit is not 0 is at least the power of ten
first-digit : (b : ℕ) (t : Bytes) (w : ℕ) → (b ≡ 48 → ⊥) → value 10 0 (b ∷ t) ≡ some w → 10 ^ length t ≤ w
unfolding value
first-digit b t w h e = go (ltb (worth b) 10) refl
  where
    go : (x : Bool) → ltb (worth b) 10 ≡ x → 10 ^ length t ≤ w
    go true x =
        let q : value 10 (0 * 10 + worth b) t ≡ some w = rw (value, x) at e in
        let m : 1 * 10 ^ length t ≤ (0 * 10 + worth b) * 10 ^ length t = mul-le-mul_right (10 ^ length t) (omega (arith, worth_first b h)) in
        omega (arith, value-least 10 t (0 * 10 + worth b) w q)
    go false x = let q : none ≡ some w = rw (value, x) at e in absurd (let z : ◌≡◌ {A = ℕ} 0 1 = cc in omega arith)

-- what a numeral with no leading zero says
module _ (most : ℕ) (l : Bytes) (p : 0 < length l) (h : get_or l 0 0 ≡ 48 → ⊥) where
  least : (l : Bytes) (w : ℕ) → 0 < length l → (get_or l 0 0 ≡ 48 → ⊥) → value 10 0 l ≡ some w → 1 ≤ w
  least [] w p h e = absurd (omega arith)
  least (b ∷ t) w p h e = omega (arith, first-digit b t w h e, one-le-pow (length t) 10 (omega arith))

  pub number-none : numeral 10 l ≡ none → most < 2 ^ 64 → number most l ≡ none
  unfolding ◌>>=◌
  number-none e k = rw (number-value most l (λ z. omega arith) h) (go (value 10 0 l) refl)
    where
      go : (o : Option ℕ) → value 10 0 l ≡ o → (o >>= λ n. when (leb 1 n && leb n most) n) ≡ none
      go none f = refl
      go (some w) f = sym (above most w (omega (arith, numeral-none 10 l w (omega arith) e f)))

  pub number-some : (v : ℕ) → numeral 10 l ≡ some v → number most l ≡ when (leb v most) v
  unfolding ◌>>=◌
  number-some v e =
      let f = numeral-some 10 l v (omega arith) e in
      rw (number-value most l (λ z. omega arith) h, f, le-leb 1 v (least l v p h f))

pub number-range : (most : ℕ) (l : Bytes) (n : ℕ) → number most l ≡ some n → (1 ≤ n) × (n ≤ most)
unfolding number
number-range most l n e =
    let p = bind_some (decimal l) (λ k. when (leb 1 k && leb k most) k) n e in
    let q = when-some (leb 1 p.0 && leb p.0 most) p.0 n p.2 in
    let r = and_both (leb 1 p.0) (leb p.0 most) q.0 in
    (omega (arith, leb-true 1 p.0 r.0, q.1), omega (arith, leb-true p.0 most r.1, q.1))

-- a number below 10 ^ k has at most k digits
pub number_size : (most : ℕ) (l : Bytes) (n k : ℕ) → number most l ≡ some n → most < 10 ^ k → length l ≤ k
number_size most [] n k e m = omega arith
number_size most (b ∷ t) n k e m = go (eqb b 48) refl
  where
    range : (1 ≤ n) × (n ≤ most)
    range = number-range most (b ∷ t) n e

    small : 10 ^ length t ≤ n → (x : Bool) → ltb (length t) k ≡ x → length (b ∷ t) ≤ k
    small g true x = omega (arith, ltb-true (length t) k x)
    small g false x =
        let p : 10 ^ k ≤ 10 ^ length t = pow-le-pow_right (omega arith) (ltb-false (length t) k x) in
        absurd (omega (arith, range.1))

    go : (x : Bool) → eqb b 48 ≡ x → length (b ∷ t) ≤ k
    go true x =
        let z : none ≡ some n = number-zero most (b ∷ t) (eqb-true b 48 x) ∙ e in
        absurd (let y : ◌≡◌ {A = ℕ} 0 1 = cc in omega arith)
    go false x =
        let v = rw (number-value most (b ∷ t) (λ z. omega arith) (eqb-false b 48 x)) at e in
        let p = bind_some (value 10 0 (b ∷ t)) (λ w. when (leb 1 w && leb w most) w) n v in
        let q = when-some (leb 1 p.0 && leb p.0 most) p.0 n p.2 in
        small (omega (arith, first-digit b t p.0 (eqb-false b 48 x) p.1, q.1)) (ltb (length t) k) refl

-- ---- a pattern

module _ (l : Bytes) where
  pub pattern-is : length l ≡ 16 → pattern l ≡ value 16 0 l
  unfolding pattern
  pattern-is e = rw (pattern, eq-eqb (length l) 16 e)

  pub pattern-not : (length l ≡ 16 → ⊥) → pattern l ≡ none
  unfolding pattern
  pattern-not e = rw (pattern, ne_eqb (length l) 16 e)

  -- 16 digits are below 2 ^ 64
  pub pattern-numeral : length l ≡ 16 → pattern l ≡ numeral 16 l
  unfolding ◌>>=◌ when
  pattern-numeral e = rw (pattern-is e, numeral-based 16 l (omega arith)) (go (value 16 0 l) refl)
    where
      go : (o : Option ℕ) → value 16 0 l ≡ o → o ≡ (o >>= λ n. when (ltb n (2 ^ 64)) n)
      go none f = refl
      go (some w) f =
          let p : 16 ^ length l ≡ 16 ^ 16 = ap (λ (k : ℕ). 16 ^ k) e in
          let g : w < 2 ^ 64 = omega (arith, rw p at (value-below 16 l 0 w f)) in
          rw (lt-ltb w (2 ^ 64) g)

pub pattern-size : (l : Bytes) (n : ℕ) → pattern l ≡ some n → length l ≡ 16
unfolding pattern
pattern-size l n e = go (eqb (length l) 16) refl
  where
    go : (x : Bool) → eqb (length l) 16 ≡ x → length l ≡ 16
    go true x = eqb-true (length l) 16 x
    go false x = let q : none ≡ some n = rw (pattern, x) at e in absurd (let z : ◌≡◌ {A = ℕ} 0 1 = cc in omega arith)
