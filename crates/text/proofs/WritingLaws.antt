-- Laws of the writing: how many digits a number has, what a writer leaves where there is room and where there is none,
-- and one text after the other. Assumes nothing.
use Rattle.std.specs.Prelude.{◌≡◌, refl, Bool, false, [], ◌∷◌, ◌++◌, ℕ, zero, suc, ◌+◌, ◌-◌, ◌*◌, ◌/◌, ◌^◌, ◌<◌, ◌≤◌, ltb, set}
use Rattle.std.proofs.Common.{sym, ap, ◌∙◌, add-one, arith, pow-suc, div-lt_iff_lt-mul, le-div_iff_mul-le, lt-ltb, le-ltb, ltb-true, ltb-false, leb-true, leb-false, length-append}
use Rattle.std.proofs.Math.Bool.{true}
use Rattle.std.proofs.Math.Dec.{leb}
use Rattle.std.proofs.Math.ListN.{length}
use Rattle.std.proofs.lemmas.List.Edits.{sets}
use Rattle.std.proofs.Math.Seq.{length-sets}
use Rattle.text.specs.Text.{Bytes, space, digits, places_by, shown, Put, leaves, put_at, Written}
use Rattle.text.proofs.Digits.{sets_append, length_digits}
use Rattle.text.specs.Writing.{Wrote}

-- ---- how many digits

-- more fuel than enough is enough
pub places-fuel : (f g n : ℕ) → n ≤ f → n ≤ g → places_by f n ≡ places_by g n
unfolding places_by
places-fuel zero zero n a b = refl
places-fuel zero (suc g) n a b = let z : n ≡ 0 = omega arith in rw z
places-fuel (suc f) zero n a b = let z : n ≡ 0 = omega arith in rw z
places-fuel (suc f) (suc g) n a b = go (ltb n 10) refl (λ h. places-fuel f g (n / 10) (omega arith) (omega arith))
  where
    go : (x : Bool) → ltb n 10 ≡ x → (10 ≤ n → places_by f (n / 10) ≡ places_by g (n / 10))
        → places_by (suc f) n ≡ places_by (suc g) n
    go true x ih = rw (places_by, x)
    go false x ih = let h = ih (ltb-false n 10 x) in rw (places_by, x) (ap suc h)

pub places-next : (n : ℕ) → 10 ≤ n → places_by n n ≡ suc (places_by (n / 10) (n / 10))
unfolding places_by
places-next zero h = absurd (omega arith)
places-next (suc n) h = rw (places_by, le-ltb (suc n) 10 h) (ap suc (places-fuel n (suc n / 10) (suc n / 10) (omega arith) (omega arith)))

pub places-end : (n : ℕ) → n < 10 → places_by n n ≡ 1
unfolding places_by
places-end zero h = refl
places-end (suc n) h = rw (places_by, lt-ltb (suc n) 10 h)

-- one more than the greatest power of ten that is not above n
pub places-power : (k n : ℕ) → 10 ^ k ≤ n → n < 10 * 10 ^ k → places_by n n ≡ k + 1
places-power zero n g h = places-end n (omega arith)
places-power (suc k) n g h =
    let p : 10 ^ suc k ≡ 10 ^ k * 10 = pow-suc 10 k in
    let l : 10 ^ k ≤ n / 10 = (le-div_iff_mul-le {k = 10} (omega arith)).1 (omega arith) in
    let m : n / 10 < 10 * 10 ^ k = (div-lt_iff_lt-mul {k = 10} (omega arith)).1 (omega arith) in
    omega (arith, places-next n (omega arith), places-power k (n / 10) l m)

pub length-shown : (n : ℕ) → length (shown n) ≡ places_by n n
unfolding shown
length-shown n = length_digits 10 (places_by n n) n

-- fewer than 10 ^ k has at most k digits
pub places-most : (k n : ℕ) → n < 10 ^ suc k → places_by n n ≤ suc k
places-most zero n h = omega (arith, places-end n (omega arith))
places-most (suc k) n h = go (ltb n 10) refl (places-most k (n / 10))
  where
    go : (x : Bool) → ltb n 10 ≡ x → (n / 10 < 10 ^ suc k → places_by (n / 10) (n / 10) ≤ suc k)
        → places_by n n ≤ suc (suc k)
    go true x ih = omega (arith, places-end n (ltb-true n 10 x))
    go false x ih =
        let g : n < 10 ^ suc k * 10 = rw pow-suc at h in
        let d : n / 10 < 10 ^ suc k = (div-lt_iff_lt-mul {k = 10} (omega arith)).1 g in
        omega (arith, places-next n (ltb-false n 10 x), ih d)

-- ---- what a writer leaves

-- s has k bytes; they were stored where there is room for k bytes, and nothing was where there is none
module _ (at k : ℕ) (s l : Bytes) (n : length s ≡ k) where
  pub put_room : (o : Bytes) → o ≡ sets l at s → leb (at + k) (length l) ≡ true → leaves o (at + k) ≡ put_at at s l
  unfolding put_at
  put_room o e h = let g : leb (at + length s) (length l) ≡ true = rw n h in rw (put_at, g, e, n)

  pub put_none : leb (at + k) (length l) ≡ false → leaves l (length l + 1) ≡ put_at at s l
  unfolding put_at
  put_none h = rw (put_at, n, h)

pub length-field : (k n : ℕ) → k ≡ places_by n n + 1 → length (space ∷ shown n) ≡ k
length-field k n e = omega (arith, length-shown n)

-- the code's stores of a space and the digits
pub field_stored : (at k n : ℕ) (l o : Bytes) → k ≡ places_by n n + 1
    → o ≡ sets (set l at 32) (at + 1) (digits 10 (k - 1) n) → o ≡ sets l at (space ∷ shown n)
unfolding shown
field_stored at k n l o e h =
    let p : k - 1 ≡ places_by n n = omega arith in
    h ∙ rw (p, add-one at)

pub wrote : (out : Bytes) (at : ℕ) (s out₁ : Bytes) (end : ℕ) → leaves out₁ end ≡ put_at at s out
    → Wrote out at s out₁ end
wrote out at s out₁ end e = go (leb (at + length s) (length out)) refl
  where
    go : (x : Bool) → leb (at + length s) (length out) ≡ x → Wrote out at s out₁ end
    go true x =
        let d = e ∙ sym (put_room at (length s) s out refl (sets out at s) refl x) in
        let l : out₁ ≡ sets out at s = ap (λ (p : Put). p.bytes) d in
        let k : end ≡ at + length s = ap (λ (p : Put). p.end) d in
        let h = leb-true (at + length s) (length out) x in
        record { kept = ap length l ∙ length-sets out at s; fits = λ _. record { stored = l; ends = k }; past = λ g. absurd (omega arith) }
    go false x =
        let d = e ∙ sym (put_none at (length s) s out refl x) in
        let l : out₁ ≡ out = ap (λ (p : Put). p.bytes) d in
        let k : end ≡ length out + 1 = ap (λ (p : Put). p.end) d in
        let h = leb-false (at + length s) (length out) x in
        record { kept = ap length l; fits = λ g. absurd (omega arith); past = λ _. omega arith }

-- where the answer is within the length, all was written
pub all_written : {out out₁ s : Bytes} {at end : ℕ} → Wrote out at s out₁ end → end ≤ length out
    → Written out at s out₁ end
all_written {out} {out₁} {s} {at} {end} w h = go (leb (at + length s) (length out)) refl
  where
    go : (x : Bool) → leb (at + length s) (length out) ≡ x → Written out at s out₁ end
    go true x = w.fits (leb-true (at + length s) (length out) x)
    go false x = absurd (omega (arith, w.past (leb-false (at + length s) (length out) x)))

-- nothing written
pub nothing : (out : Bytes) (at : ℕ) → Wrote out at [] out at
nothing out at = record { kept = refl; fits = λ h. record { stored = refl; ends = omega arith }; past = λ h. omega arith }

-- one text after the other
pub then : {out o₁ o₂ : Bytes} {at a b : ℕ} {s t : Bytes} → Wrote out at s o₁ a → Wrote o₁ a t o₂ b
    → Wrote out at (s ++ t) o₂ b
then {out} {o₁} {o₂} {at} {a} {b} {s} {t} x y =
    record {
      kept = y.kept ∙ x.kept;
      fits = λ h.
          let n = length-append s t in
          let w = x.fits (omega arith) in
          let v = y.fits (omega (arith, x.kept, w.ends)) in
          record { stored = rw (v.stored, w.stored, w.ends) (sym (sets_append s t out at)); ends = omega (arith, w.ends, v.ends) };
      past = λ h. beyond (leb (at + length s) (length out)) refl h;
    }
  where
    beyond : (z : Bool) → leb (at + length s) (length out) ≡ z → length out < at + length (s ++ t) → length out < b
    beyond true z h =
        let n = length-append s t in
        let w = x.fits (leb-true (at + length s) (length out) z) in
        omega (arith, x.kept, y.past (omega (arith, x.kept, w.ends)))
    beyond false z h = omega (arith, x.kept, y.past (omega (arith, x.kept, x.past (leb-false (at + length s) (length out) z))))
