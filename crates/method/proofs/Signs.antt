-- Signs (document 005): that the Rust's `apply_gt_right`, which calls `apply_g_right` with the sine negated, turns two
-- columns as Rotation defines it, for every float and both formats. Laws of the negative of a float, of a float with
-- another's sign, and the two ways of turning side by side. Assumes nothing.
use Rattle.std.specs.Prelude.{◌≡◌, refl, Bool, true, false, not, cond, List, ℕ, zero, suc, ◌+◌, ◌*◌, ◌^◌, ltb, eqb, get_or, Float}
use Rattle.std.proofs.Common.{ap, ◌∙◌}
use Rattle.std.proofs.Math.Bool.{not-not}
use Rattle.std.specs.Float.{nan, inf, fin, Format}
use Rattle.std.specs.Float.Ieee.{prec, emax, low, unlike, up, down, odd, units, round, neg, add, sub, mul}
use Rattle.method.specs.Floats.{pick, magnitude, negative, signed}
use Rattle.method.proofs.Repeated.{repeated-both}
use Rattle.method.specs.Rotation.{Rotation, pair_turned, columns_turned}
use Rattle.method.specs.Signs.{columns_turned_back, pair_turned_back}

-- ---- the negative of a float

-- the negative of the negative is the float itself
pub neg_neg : (x : Float) → neg (neg x) ≡ x
unfolding neg
neg_neg nan = refl
neg_neg (inf s) = rw not-not
neg_neg (fin s m e) = rw not-not

-- a number written with an odd significand, and with the other sign, is the negative
odd_neg : (d : ℕ) (s : Bool) (q k l : ℕ) → odd d (not s) q k l ≡ neg (odd d s q k l)
unfolding odd neg
odd_neg d s zero k l = refl
odd_neg d s (suc q) k l = refl

-- a whole number of a format's smallest values, with the other sign, is the negative
units_neg : (f : Format) (s : Bool) (q k : ℕ) → units f (not s) q k ≡ neg (units f s q k)
unfolding units neg
units_neg f s q k = go (ltb (q * 2 ^ k) (2 ^ (low f + suc (emax f))))
  where
    go :
        (b : Bool) →
        cond b (odd (suc (prec f)) (not s) q k (low f)) (inf (not s)) ≡
        neg (cond b (odd (suc (prec f)) s q k (low f)) (inf s))
    go true = odd_neg (suc (prec f)) s q k (low f)
    go false = refl

-- a fraction rounded with the other sign is the negative
pub round_neg : (f : Format) (s : Bool) (num den : ℕ) → round f (not s) num den ≡ neg (round f s num den)
unfolding round
round_neg f s num den = units_neg f s _ _

-- a product has the other sign where its first factor has
unlike_not : (s t : Bool) → unlike (not s) t ≡ not (unlike s t)
unlike_not true true = refl
unlike_not true false = refl
unlike_not false true = refl
unlike_not false false = refl

-- an infinity or NaN with the other sign of its first factor is the negative
infinite-neg : (b s t : Bool) → cond b nan (inf (unlike (not s) t)) ≡ neg (cond b nan (inf (unlike s t)))
unfolding neg
infinite-neg true s t = refl
infinite-neg false s t = rw unlike_not

-- the negative times a float is the negative of the product
pub mul_neg_left : (f : Format) (x y : Float) → mul f (neg x) y ≡ neg (mul f x y)
unfolding mul neg
mul_neg_left f nan y = refl
mul_neg_left f (inf s) nan = refl
mul_neg_left f (inf s) (inf t) = rw unlike_not
mul_neg_left f (inf s) (fin t n d) = infinite-neg (eqb n 0) s t
mul_neg_left f (fin s m e) nan = refl
mul_neg_left f (fin s m e) (inf t) = infinite-neg (eqb m 0) s t
mul_neg_left f (fin s m e) (fin t n d) =
    rw unlike_not (round_neg f (unlike s t) (m * up e * (n * up d)) (down e * down d))

-- two signs changed leave the product's sign
unlike_both : (s t : Bool) → unlike (not s) (not t) ≡ unlike s t
unlike_both true true = refl
unlike_both true false = refl
unlike_both false true = refl
unlike_both false false = refl

-- the product of the negatives is the product
pub mul_negs : (f : Format) (x y : Float) → mul f (neg x) (neg y) ≡ mul f x y
unfolding mul neg
mul_negs f nan y = refl
mul_negs f (inf s) nan = refl
mul_negs f (inf s) (inf t) = rw unlike_both
mul_negs f (inf s) (fin t n d) = rw unlike_both
mul_negs f (fin s m e) nan = refl
mul_negs f (fin s m e) (inf t) = rw unlike_both
mul_negs f (fin s m e) (fin t n d) = rw unlike_both

-- to take away the negative is to add
pub sub_neg : (f : Format) (x y : Float) → sub f x (neg y) ≡ add f x y
unfolding sub
sub_neg f x y = rw neg_neg

-- ---- a float with another's sign

-- a sign put on twice is no sign
pub signed-twice : (d x : Float) → signed d (signed d x) ≡ x
signed-twice d x = go (negative d)
  where
    go : (b : Bool) → pick b (neg (pick b (neg x) x)) (pick b (neg x) x) ≡ x
    go true = neg_neg x
    go false = refl

-- the magnitude of d is d with d's own sign
magnitude-signed : (d : Float) → magnitude d ≡ signed d d
unfolding magnitude negative neg
magnitude-signed nan = refl
magnitude-signed (inf true) = refl
magnitude-signed (inf false) = refl
magnitude-signed (fin true m e) = refl
magnitude-signed (fin false m e) = refl

-- d's sign on the other factor, and d's magnitude: the same product, without a rounding more or less
pub sign_moves : (f : Format) (x d : Float) → mul f (signed d x) (magnitude d) ≡ mul f x d
sign_moves f x d = ap (mul f (signed d x)) (magnitude-signed d) ∙ go (negative d)
  where
    go : (b : Bool) → mul f (pick b (neg x) x) (pick b (neg d) d) ≡ mul f x d
    go true = mul_negs f x d
    go false = refl

-- ---- columns turned as the Rust has it

-- two entries so turned are turned as Rotation has it
pub pair_turned-back :
    (f : Format) (g : Rotation) (p q : ℕ) (a : List Float) → pair_turned_back f g p q a ≡ pair_turned f g p q a
unfolding pair_turned_back pair_turned
pair_turned-back f g p q a = rw (mul_neg_left f g.sine (get_or a q nan), sub_neg)

-- two columns so turned are turned as Rotation has it
pub columns_turned-back :
    (f : Format) (g : Rotation) (stride i j n : ℕ) (a : List Float) →
    columns_turned_back f g stride i j n a ≡ columns_turned f g stride i j n a
unfolding columns_turned_back columns_turned
columns_turned-back f g stride i j n a =
    repeated-both (λ (l l' : List Float). l ≡ l') 0 n _ _
    (λ k l l' lo hi e.
    pair_turned-back f g ((j + k) * stride + i) ((j + k) * stride + (i + 1)) l
    ∙ ap (pair_turned f g ((j + k) * stride + i) ((j + k) * stride + (i + 1))) e)
    a
    a
    refl
