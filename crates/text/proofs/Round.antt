-- What is written reads back: digits, and numbers in decimal. Assumes nothing.
use Rattle.std.specs.Prelude.{◌≡◌, refl, Bool, true, false, [], ◌∷◌, ◌++◌, ℕ, zero, suc, ◌+◌, ◌*◌, ◌/◌, ◌%◌, ◌^◌, ◌<◌, ◌≤◌, ltb, length, get_or}
use Rattle.std.proofs.Common.{sym, ap, ◌∙◌, arith, pow-suc, div-add-mod', div-lt_iff_lt-mul, mod-lt, mul_assoc, zero-mul, lt-ltb, ltb-true, ltb-false, le-leb}
use Rattle.std.proofs.Math.Option.{some}
use Rattle.std.proofs.Math.Nat.{pow-zero}
use Rattle.text.specs.Text.{Bytes, ◌>>=◌, when, worth, value, number, pattern, digit, digits, places_by, shown}
use Rattle.text.proofs.Cuts.{Free, free_append}
use Rattle.text.proofs.Digits.{worth-decimal, worth-letter, digit_low, digit-high, length_digits}
use Rattle.text.proofs.NumeralLaws.{pattern-is, number-value}
use Rattle.text.proofs.WritingLaws.{places-next, places-end}

-- ---- digits

pub worth-digit : (d : ℕ) → d < 16 → worth (digit d) ≡ d
worth-digit d h = go (ltb d 10) refl
  where
    go : (x : Bool) → ltb d 10 ≡ x → worth (digit d) ≡ d
    go true x =
        let l = ltb-true d 10 x in
        rw (← digit_low d l) (sym (worth-decimal (48 + d) (omega arith) (omega arith)) ∙ omega arith)
    go false x =
        let l = ltb-false d 10 x in
        rw (← digit-high d l) (sym (worth-letter (55 + d) (omega arith) (omega arith)) ∙ omega arith)

pub value-append : (base : ℕ) (s t : Bytes) (v : ℕ) → value base v (s ++ t) ≡ (value base v s >>= λ w. value base w t)
unfolding value ◌>>=◌
value-append base [] t v = refl
value-append base (b ∷ s) t v = go (ltb (worth b) base) refl (value-append base s t (v * base + worth b))
  where
    go : (x : Bool) → ltb (worth b) base ≡ x
        → value base (v * base + worth b) (s ++ t) ≡ (value base (v * base + worth b) s >>= λ w. value base w t)
        → value base v (b ∷ (s ++ t)) ≡ (value base v (b ∷ s) >>= λ w. value base w t)
    go true x ih = rw (value, x) ih
    go false x ih = rw (value, x)

pub digits_value : (base k n v : ℕ) → 0 < base → base ≤ 16 → n < base ^ k
    → value base v (digits base k n) ≡ some (v * base ^ k + n)
unfolding value digits ◌>>=◌
digits_value base zero n v p q h =
    let z : base ^ 0 ≡ 1 = pow-zero base in
    ap some (let y : n ≡ 0 = omega (arith, z) in omega (arith, ap (λ (k : ℕ). v * k) z))
digits_value base (suc k) n v p q h =
    let e : base ^ suc k ≡ base ^ k * base = pow-suc base k in
    let g : n / base < base ^ k = (div-lt_iff_lt-mul p).1 (rw e at h) in
    let d : n % base < base = mod-lt n p in
    let w : worth (digit (n % base)) ≡ n % base = worth-digit (n % base) (omega arith) in
    let l : ltb (worth (digit (n % base))) base ≡ true = rw w (lt-ltb (n % base) base d) in
    value-append base (digits base k (n / base)) (digit (n % base) ∷ []) v
    ∙ rw (digits_value base k (n / base) v p q g, value, l, w)
    (ap some (omega (arith, div-add-mod' n base, ap (λ (z : ℕ). v * z) e, mul_assoc v (base ^ k) base)))

-- 16 digits of 64 bits read back as these bits
pub pattern-round : (n : ℕ) → n < 2 ^ 64 → pattern (digits 16 16 n) ≡ some n
pattern-round n h =
    let l : n < 16 ^ 16 = omega arith in
    pattern-is (digits 16 16 n) (length_digits 16 16 n) ∙ digits_value 16 16 n 0 (omega arith) (omega arith) l ∙ ap some (omega arith)

-- ---- no digit is a stop below them

digit-least : (d : ℕ) → 48 ≤ digit d
digit-least d = go (ltb d 10) refl
  where
    go : (x : Bool) → ltb d 10 ≡ x → 48 ≤ digit d
    go true x = omega (arith, digit_low d (ltb-true d 10 x))
    go false x = omega (arith, digit-high d (ltb-false d 10 x))

pub digits-free : (stop base k n : ℕ) → stop < 48 → Free stop (digits base k n)
unfolding digits
digits-free stop base zero n h = tt
digits-free stop base (suc k) n h =
    free_append stop (digits base k (n / base)) (digit (n % base) ∷ []) (digits-free stop base k (n / base) h) ((λ e. omega (arith, digit-least (n % base))), tt)

-- ---- a number in decimal

places-enough : (f n : ℕ) → n ≤ f → n < 10 ^ places_by n n
places-enough zero n h = let z : n ≡ 0 = omega arith in omega (arith, ap (λ (k : ℕ). 10 ^ k) (places-end n (omega arith)))
places-enough (suc f) n h = go (ltb n 10) refl (places-enough f (n / 10))
  where
    go : (x : Bool) → ltb n 10 ≡ x → (n / 10 ≤ f → n / 10 < 10 ^ places_by (n / 10) (n / 10)) → n < 10 ^ places_by n n
    go true x ih = omega (arith, ltb-true n 10 x, ap (λ (k : ℕ). 10 ^ k) (places-end n (ltb-true n 10 x)))
    go false x ih =
        let g = ltb-false n 10 x in
        let e : 10 ^ places_by n n ≡ 10 ^ places_by (n / 10) (n / 10) * 10 = ap (λ (k : ℕ). 10 ^ k) (places-next n g) ∙ pow-suc 10 (places_by (n / 10) (n / 10)) in
        rw e ((div-lt_iff_lt-mul {k = 10} (omega arith)).0 (ih (omega arith)))

-- its first digit is not 0
first-shown : (f n : ℕ) → n ≤ f → 0 < n → (b : ℕ) × (t : Bytes) × (shown n ≡ b ∷ t) × (b ≡ 48 → ⊥)
unfolding shown digits
first-shown zero n h p = absurd (omega arith)
first-shown (suc f) n h p = go (ltb n 10) refl (first-shown f (n / 10))
  where
    go : (x : Bool) → ltb n 10 ≡ x
        → (n / 10 ≤ f → 0 < n / 10 → (b : ℕ) × (t : Bytes) × (shown (n / 10) ≡ b ∷ t) × (b ≡ 48 → ⊥))
        → (b : ℕ) × (t : Bytes) × (shown n ≡ b ∷ t) × (b ≡ 48 → ⊥)
    go true x ih =
        let l = ltb-true n 10 x in
        let m : n % 10 ≡ n = omega arith in
        (digit n, [], rw (places-end n l, m), λ e. omega (arith, digit_low n l))
    go false x ih =
        let g = ltb-false n 10 x in
        let r = ih (omega arith) (omega arith) in
        (r.0, r.1 ++ (digit (n % 10) ∷ []), rw (places-next n g) (ap (λ (z : Bytes). z ++ (digit (n % 10) ∷ [])) r.2), r.3)

pub shown-value : (n : ℕ) → value 10 0 (shown n) ≡ some n
unfolding shown
shown-value n =
    digits_value 10 (places_by n n) n 0 (omega arith) (omega arith) (places-enough n n (omega arith)) ∙ ap some (omega (arith, zero-mul (10 ^ places_by n n)))

-- a written number reads back as itself
pub number-round : (most n : ℕ) → 0 < n → n ≤ most → number most (shown n) ≡ some n
unfolding ◌>>=◌ when
number-round most n p h =
    let r = first-shown n n (omega arith) p in
    let a : get_or (shown n) 0 0 ≡ 48 → ⊥ = rw r.2 r.3 in
    let l : length (shown n) ≡ 0 → ⊥ = rw r.2 (λ z. omega arith) in
    number-value most (shown n) l a ∙ rw (shown-value n, le-leb 1 n p, le-leb n most h)

pub shown-free : (stop n : ℕ) → stop < 48 → Free stop (shown n)
unfolding shown
shown-free stop n h = digits-free stop 10 (places_by n n) n h
