-- Laws of digits, as the proofs of the code use them. Assumes nothing.
use Rattle.std.specs.Prelude.{◌≡◌, refl, List, [], ◌∷◌, ◌++◌, ℕ, zero, suc, ◌+◌, ◌-◌, ◌*◌, ◌/◌, ◌%◌, ◌<◌, ◌≤◌, length, get_or, set, drop}
use Rattle.std.proofs.Common.{ap, ◌∙◌, arith, length-append}
use Rattle.std.proofs.Math.Option.{none, some}
use Rattle.std.proofs.Math.Numerals.{add-one}
use borrow.Author.Tests.{le-ltb, lt-ltb, le-leb, lt-leb}
use Rattle.std.proofs.Math.Seq.{drop-cons, drop-length}
use Rattle.std.proofs.lemmas.List.Edits.{sets}
use Rattle.std.proofs.lemmas.List.{set_comm}
use Rattle.text.specs.Text.{Bytes, worth, value, digit, digits}

-- ---- a byte's worth

module _ (b : ℕ) where
  pub worth-decimal : 48 ≤ b → b < 58 → b - 48 ≡ worth b
  unfolding worth
  worth-decimal g h = rw (worth, le-leb 48 b g, le-leb b 57 (omega arith))

  pub worth-letter : 65 ≤ b → b < 71 → b - 55 ≡ worth b
  unfolding worth
  worth-letter g h = rw (worth, le-leb 48 b (omega arith), lt-leb b 57 (omega arith), le-leb 65 b g, le-leb b 70 (omega arith))

-- ---- the digits of a slice, one at a time

module _ (base v : ℕ) (l : Bytes) (i : ℕ) (h : i < length l) where
  pub value-next : worth (get_or l i 0) < base
      → value base v (drop i l) ≡ value base (v * base + worth (get_or l i 0)) (drop (i + 1) l)
  unfolding value
  value-next d = rw (value, drop-cons l i 0 h, lt-ltb (worth (get_or l i 0)) base d, add-one i)

  pub value-stop : base ≤ worth (get_or l i 0) → value base v (drop i l) ≡ none
  unfolding value
  value-stop d = rw (value, drop-cons l i 0 h, le-ltb (worth (get_or l i 0)) base d)

pub value-end : (base v : ℕ) (l : Bytes) (i : ℕ) → i ≡ length l → value base v (drop i l) ≡ some v
unfolding value
value-end base v l i e = rw (e, drop-length)

-- ---- digits

pub digit_low : (d : ℕ) → d < 10 → 48 + d ≡ digit d
unfolding digit
digit_low d h = rw (lt-ltb d 10 h, digit)

pub digit-high : (d : ℕ) → 10 ≤ d → 55 + d ≡ digit d
unfolding digit
digit-high d h = rw (le-ltb d 10 h, digit)

pub length_digits : (base k n : ℕ) → length (digits base k n) ≡ k
unfolding digits
length_digits base zero n = refl
length_digits base (suc k) n = length-append (digits base k (n / base)) (digit (n % base) ∷ []) ∙ omega (arith, length_digits base k (n / base))

-- one more digit in front of those that are stored
module _ {A : Type 0} where
  pub sets_last : (ds l : List A) (at : ℕ) (x : A) → sets l at (ds ++ (x ∷ [])) ≡ sets (set l (at + length ds) x) at ds
  sets_last [] l at x = ap (λ (k : ℕ). set l k x) (omega arith)
  sets_last (d ∷ ds) l at x =
      sets_last ds (set l at d) (suc at) x
      ∙ ap (λ (m : List A). sets m (suc at) ds) (set_comm l at (suc at + length ds) d x (omega arith) ∙ ap (λ (k : ℕ). set (set l k x) at d) (omega arith))

  pub sets_append : (ds es l : List A) (at : ℕ) → sets l at (ds ++ es) ≡ sets (sets l at ds) (at + length ds) es
  sets_append [] es l at = ap (λ (k : ℕ). sets l k es) (omega arith)
  sets_append (d ∷ ds) es l at = sets_append ds es (set l at d) (suc at) ∙ ap (λ (k : ℕ). sets (sets (set l at d) (suc at) ds) k es) (omega arith)

pub digits-next : (out : Bytes) (at base j n : ℕ) → 0 < j
    → sets out at (digits base j n)
    ≡ sets (set out (at + (j - 1)) (digit (n % base))) at (digits base (j - 1) (n / base))
unfolding digits
digits-next out at base zero n h = absurd (let z : 0 < 0 = h in omega arith)
digits-next out at base (suc k) n h =
    let e : suc k - 1 ≡ k = omega arith in
    rw e (sets_last (digits base k (n / base)) out at (digit (n % base))
    ∙ ap (λ (z : ℕ). sets (set out (at + z) (digit (n % base))) at (digits base k (n / base))) (length_digits base k (n / base)))

pub digits-none : (out : Bytes) (at base n j : ℕ) → j ≡ 0 → out ≡ sets out at (digits base j n)
unfolding digits
digits-none out at base n j e = rw e
