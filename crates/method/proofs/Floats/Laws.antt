-- What the helpers give at zeros and NaNs, and that `smaller` and `larger` are that. Assumes nothing.
use Rattle.std.specs.Prelude.{◌≡◌, refl, ◌⊎◌, Bool, true, false, not, ℕ, ◌*◌, pos, T, ltb, Float}
use Rattle.std.proofs.Common.{sym, subst, inl, inr, true≢false, le_refl, le_of_lt, ltb→lt}
use Rattle.std.proofs.Math.Arith.{le→nltb}
use Rattle.std.specs.Float.{nan, inf, fin}
use Rattle.std.specs.Float.Ieee.{up, down, below, lt, is_nan}
use Rattle.std.specs.Float.Ieee.Bits.{is_false}
use Rattle.method.specs.Floats.{plus_zero, one, pick, sign_of, smaller, larger}

-- ---- sign
pub sign_plus_zero : sign_of plus_zero ≡ one
unfolding sign_of
sign_plus_zero = refl

pub sign_minus_zero : sign_of (fin true 0 (pos 0)) ≡ fin true 1 (pos 0)
unfolding sign_of
sign_minus_zero = refl

pub sign_nan : sign_of nan ≡ nan
unfolding sign_of
sign_nan = refl

-- ---- a NaN and another value, on either side: the other, be it a number or the NaN
pub smaller-nan_left : (y : Float) → smaller nan y ≡ y
unfolding smaller is_nan
smaller-nan_left y = refl

pub larger-nan_left : (y : Float) → larger nan y ≡ y
unfolding larger is_nan
larger-nan_left y = refl

pub smaller-nan_right : (x : Float) → smaller x nan ≡ x
unfolding smaller is_nan lt
smaller-nan_right nan = refl
smaller-nan_right (inf s) = refl
smaller-nan_right (fin s m e) = refl

pub larger-nan_right : (x : Float) → larger x nan ≡ x
unfolding larger is_nan lt
larger-nan_right nan = refl
larger-nan_right (inf s) = refl
larger-nan_right (fin s m e) = refl

-- ---- two zeros: the first
pub smaller-zeros : (s t : Bool) → smaller (fin s 0 (pos 0)) (fin t 0 (pos 0)) ≡ fin s 0 (pos 0)
unfolding smaller is_nan lt
smaller-zeros true true = refl
smaller-zeros true false = refl
smaller-zeros false true = refl
smaller-zeros false false = refl

pub larger-zeros : (s t : Bool) → larger (fin s 0 (pos 0)) (fin t 0 (pos 0)) ≡ fin s 0 (pos 0)
unfolding larger is_nan lt
larger-zeros true true = refl
larger-zeros true false = refl
larger-zeros false true = refl
larger-zeros false false = refl

-- ---- two numbers: the answer is one of them, and neither is below the smaller or above the larger
less_once : (a b : ℕ) → ltb a b ≡ true → ltb b a ≡ false
less_once a b h = is_false (ltb b a) (le→nltb b a (le_of_lt (ltb→lt a b (subst T (sym h) tt))))

less_self : (a : ℕ) → ltb a a ≡ false
less_self a = is_false (ltb a a) (le→nltb a a (le_refl a))

below-once : (s : Bool) (a : ℕ) (t : Bool) (b : ℕ) → below s a t b ≡ true → below t b s a ≡ false
below-once false a false b h = less_once a b h
below-once false a true b h = absurd (true≢false (sym h))
below-once true a false b h = refl
below-once true a true b h = less_once b a h

below_self : (s : Bool) (a : ℕ) → below s a s a ≡ false
below_self false a = less_self a
below_self true a = less_self a

lt_once : (x y : Float) → lt x y ≡ true → lt y x ≡ false
unfolding lt
lt_once nan y h = absurd (true≢false (sym h))
lt_once (inf s) nan h = absurd (true≢false (sym h))
lt_once (inf true) (inf true) h = refl
lt_once (inf true) (inf false) h = refl
lt_once (inf false) (inf t) h = absurd (true≢false (sym h))
lt_once (inf true) (fin t n d) h = refl
lt_once (inf false) (fin t n d) h = absurd (true≢false (sym h))
lt_once (fin s m e) nan h = absurd (true≢false (sym h))
lt_once (fin s m e) (inf true) h = absurd (true≢false (sym h))
lt_once (fin s m e) (inf false) h = refl
lt_once (fin s m e) (fin t n d) h = below-once s (m * up e * down d) t (n * up d * down e) h

lt_self : (x : Float) → lt x x ≡ false
unfolding lt
lt_self nan = refl
lt_self (inf true) = refl
lt_self (inf false) = refl
lt_self (fin s m e) = below_self s (m * up e * down e)

picked : (a b : Bool) (x y : Float) → (pick a y (pick b y x) ≡ x) ⊎ (pick a y (pick b y x) ≡ y)
picked true b x y = inr refl
picked false true x y = inr refl
picked false false x y = inl refl

pub smaller-least : (x y : Float) → T (not (is_nan x)) → (lt x (smaller x y) ≡ false) × (lt y (smaller x y) ≡ false)
unfolding smaller
smaller-least x y n = go (is_nan x) n (lt y x) refl
  where
    go :
        (a : Bool) → T (not a) → (b : Bool) → lt y x ≡ b →
        (lt x (pick a y (pick b y x)) ≡ false) × (lt y (pick a y (pick b y x)) ≡ false)
    go true n b h = absurd n
    go false n true h = (lt_once y x h, lt_self y)
    go false n false h = (lt_self x, h)

pub larger-greatest : (x y : Float) → T (not (is_nan x)) → (lt (larger x y) x ≡ false) × (lt (larger x y) y ≡ false)
unfolding larger
larger-greatest x y n = go (is_nan x) n (lt x y) refl
  where
    go :
        (a : Bool) → T (not a) → (b : Bool) → lt x y ≡ b →
        (lt (pick a y (pick b y x)) x ≡ false) × (lt (pick a y (pick b y x)) y ≡ false)
    go true n b h = absurd n
    go false n true h = (lt_once x y h, lt_self y)
    go false n false h = (lt_self x, h)

pub smaller-either : (x y : Float) → (smaller x y ≡ x) ⊎ (smaller x y ≡ y)
unfolding smaller
smaller-either x y = picked (is_nan x) (lt y x) x y

pub larger-either : (x y : Float) → (larger x y ≡ x) ⊎ (larger x y ≡ y)
unfolding larger
larger-either x y = picked (is_nan x) (lt x y) x y
