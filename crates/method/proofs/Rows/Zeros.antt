-- Zeros and NaNs stay among themselves: in products with any float and in sums of their own, so in a row that is
-- reflected or of which two entries are turned. Assumes nothing.
use Rattle.std.specs.Prelude.{◌≡◌, refl, Bool, ◌&&◌, cond, List, [], ◌∷◌, ℕ, zero, suc, ◌+◌, ◌-◌, ◌*◌, ◌^◌, ◌<◌, eqb, ℤ, length, get_or, set}
use Rattle.std.proofs.Common.{sym, ap, subst, ◌∙◌, inl, inr, mul-zero, mul-pos, zero-lt-suc, lt_irrefl, arith, eqb-true, ltb-true, ltb-false, pow_pos}
use Rattle.std.proofs.Math.Bool.{true, false}
use Rattle.std.specs.Bool.{beq}
use Rattle.std.proofs.lemmas.Bool.{false≢true}
use Rattle.std.proofs.Math.Nat.{zero-mul}
use Rattle.std.proofs.Math.Dec.{ltb}
use Rattle.std.proofs.Math.ListN.{get_or-eq_default}
use Rattle.std.specs.Float.Ieee.{Float, nan, prec, emax, low, unlike, up, down, round, neg, sum, add, sub, mul, level, eq}
use Rattle.std.specs.Float.{inf, fin, Format}
use Rattle.std.specs.Float.Ieee.Exact.{HasValue, round_exact}
use Rattle.std.specs.Float.Ieee.Fits.{up_pos, down_pos}
use Rattle.method.specs.Floats.{pick, negative, signed}
use Rattle.method.proofs.Repeated.{repeated-within}
use Rattle.method.specs.Rotation.{Rotation, pair_turned}
use Rattle.method.specs.Reflection.{row_times, tail_less, row_less, row_reflected}
use Rattle.method.specs.Rows.{ZeroOrNan, ZeroRow}
use Rattle.method.specs.Rows.Zeros.{Nought, Noughts}

-- ---- the same by cases

-- whether the first of two is 0, where it is above it
above : (m k : ℕ) (e : ℤ) (b : Bool) → (eqb (suc m * up e * 1) k && b) ≡ true → k ≡ 0 → ⊥
above m k e b h z = go (eqb (suc m * up e * 1) k) refl h
  where
    go : (t : Bool) → eqb (suc m * up e * 1) k ≡ t → (t && b) ≡ true → ⊥
    go true q h =
        let n : suc m * up e * 1 ≡ 0 = eqb-true _ k q ∙ z in
        lt_irrefl 0 (subst (λ (y : ℕ). 0 < y) n (mul-pos (mul-pos (zero-lt-suc m) (up_pos e)) (zero-lt-suc 0)))
    go false q h = false≢true h

pub nought : (x : Float) → ZeroOrNan x → Nought x
unfolding eq
nought nan z = tt
nought (inf s) (inl e) = false≢true e
nought (inf s) (inr e) = subst (λ (y : Float). Nought y) (sym e) tt
nought (fin s zero e) z = refl
nought (fin s (suc m) e) (inl q) = absurd (above m (0 * down e) e _ q (zero-mul (down e)))
nought (fin s (suc m) e) (inr q) = subst (λ (y : Float). Nought y) (sym q) tt

pub nought_is : (x : Float) → Nought x → ZeroOrNan x
unfolding eq
nought_is nan z = inr refl
nought_is (fin s m e) z = inl (rw (z, zero-mul (up e), zero-mul (down e)) (go s))
  where
    go : (s : Bool) → level s (0 * 1) false 0 ≡ true
    go true = refl
    go false = refl
nought_is (inf _) z = elim z [ ]

-- ---- rounding, products and sums

-- 0, of any denominator, rounds to a zero
pub round_nought : (f : Format) (s : Bool) (num den : ℕ) → 0 < den → num ≡ 0 → Nought (round f s num den)
round_nought f s num den h z =
    of_value (round f s num den)
    (round_exact f s num den 0 0 h (pow_pos (prec f)) (pow_pos (low f + suc (emax f)))
    (ap (λ (n : ℕ). n * 2 ^ low f) z ∙ zero-mul (2 ^ low f) ∙ sym (zero-mul den)))
  where
    of_value : (x : Float) → HasValue x s num den → Nought x
    of_value (fin t zero e) v = refl
    of_value (fin t (suc m) e) v =
        let n : suc m * up e * den ≡ 0 = v.1 ∙ rw (z, zero-mul (down e)) refl in
        absurd (lt_irrefl 0 (subst (λ (y : ℕ). 0 < y) n (mul-pos (mul-pos (zero-lt-suc m) (up_pos e)) h)))
    of_value nan v = elim v [ ]
    of_value (inf _) v = elim v [ ]

module _ (f : Format) where
  mul_left : (x y : Float) → Nought x → Nought (mul f x y)
  unfolding mul
  mul_left nan y z = tt
  mul_left (fin s m e) nan z = tt
  mul_left (fin s m e) (inf t) z = rw z tt
  mul_left (fin s m e) (fin t n d) z =
      round_nought f (unlike s t) _ _ (mul-pos (down_pos e) (down_pos d)) (rw (z, zero-mul, zero-mul) refl)
  mul_left (inf _) y z = elim z [ ]

  mul_right : (x y : Float) → Nought y → Nought (mul f x y)
  unfolding mul
  mul_right nan y z = tt
  mul_right (inf s) nan z = tt
  mul_right (inf s) (fin t n d) z = rw z tt
  mul_right (fin s m e) nan z = tt
  mul_right (fin s m e) (fin t n d) z =
      round_nought f (unlike s t) _ _ (mul-pos (down_pos e) (down_pos d)) (rw (z, zero-mul, mul-zero) refl)
  mul_right (inf s) (inf _) z = elim z [ ]
  mul_right (fin s m e) (inf _) z = elim z [ ]

  sum_nought :
      (s t : Bool) (a b c : ℕ) → 0 < c → a ≡ 0 → b ≡ 0 → Nought (sum f s a t b c)
  unfolding sum
  sum_nought s t a b c h p q = go (beq s t) (ltb a b)
    where
      go :
          (same less : Bool) →
          Nought
          (cond same (round f s (a + b) c) (cond less (round f t (b - a) c) (round f (s && ltb b a) (a - b) c)))
      go true less = round_nought f s (a + b) c h (omega arith)
      go false true = round_nought f t (b - a) c h (omega arith)
      go false false = round_nought f (s && ltb b a) (a - b) c h (omega arith)

  add_nought : (x y : Float) → Nought x → Nought y → Nought (add f x y)
  unfolding add
  add_nought nan y z w = tt
  add_nought (fin s m e) nan z w = tt
  add_nought (fin s m e) (fin t n d) z w =
      sum_nought s t _ _ _ (mul-pos (down_pos e) (down_pos d)) (rw (z, zero-mul, zero-mul) refl)
      (rw (w, zero-mul, zero-mul) refl)
  add_nought (inf _) y z w = elim z [ ]
  add_nought (fin s m e) (inf _) z w = elim w [ ]

neg_nought : (x : Float) → Nought x → Nought (neg x)
unfolding neg
neg_nought nan z = tt
neg_nought (fin s m e) z = z
neg_nought (inf _) z = elim z [ ]

sub_nought : (f : Format) (x y : Float) → Nought x → Nought y → Nought (sub f x y)
unfolding sub
sub_nought f x y z w = add_nought f x (neg y) z (neg_nought y w)

pub signed-nought : (d x : Float) → Nought x → Nought (signed d x)
signed-nought d x z = go (negative d)
  where
    go : (b : Bool) → Nought (pick b (neg x) x)
    go true = neg_nought x z
    go false = z

-- ---- rows

set_noughts : (r : List Float) (x : ℕ) (v : Float) → Noughts r → Nought v → Noughts (set r x v)
set_noughts [] x v h z k = h k
set_noughts (y ∷ ys) zero v h z zero = z
set_noughts (y ∷ ys) zero v h z (suc k) = h (suc k)
set_noughts (y ∷ ys) (suc x) v h z zero = h 0
set_noughts (y ∷ ys) (suc x) v h z (suc k) = set_noughts ys x v (λ k. h (suc k)) z k

pub noughts : (r : List Float) → ZeroRow r → Noughts r
noughts r h k = go (ltb k (length r)) refl
  where
    go : (b : Bool) → ltb k (length r) ≡ b → Nought (get_or r k nan)
    go true t = nought (get_or r k nan) (h k (ltb-true k (length r) t))
    go false t = rw (get_or-eq_default r nan (ltb-false k (length r) t)) tt

pub noughts_are : (r : List Float) → Noughts r → ZeroRow r
noughts_are r h k l = nought_is (get_or r k nan) (h k)

module _ (f : Format) where
  -- a row reflected
  pub row_reflected-noughts :
      (p : List Float) (tau : Float) (i m : ℕ) (r : List Float) → Noughts r → Noughts (row_reflected f p tau i m r)
  unfolding row_reflected row_times row_less tail_less
  row_reflected-noughts p tau i m r h =
      repeated-within Noughts 1 m _
      (λ k s lo hi q. set_noughts s (i + k) _ q (sub_nought f _ _ (q (i + k)) (mul_left f _ _ times)))
      _
      (set_noughts r i _ h (sub_nought f _ _ (h i) times))
    where
      product : Nought (row_times f p i m r)
      product =
          repeated-within Nought 1 m _ (λ k s lo hi q. add_nought f _ _ q (mul_left f _ _ (h (i + k)))) _ (h i)

      times : Nought (mul f (row_times f p i m r) tau)
      times = mul_left f _ tau product

  -- two entries of it turned
  pub pair_turned-noughts :
      (g : Rotation) (i j : ℕ) (r : List Float) → Noughts r → Noughts (pair_turned f g i j r)
  unfolding pair_turned
  pair_turned-noughts g i j r h =
      set_noughts (set r i (entry g.cosine g.sine)) j (entry (neg g.sine) g.cosine)
      (set_noughts r i (entry g.cosine g.sine) h (kept g.cosine g.sine)) (kept (neg g.sine) g.cosine)
    where
      entry : Float → Float → Float
      entry c s = add f (mul f c (get_or r i nan)) (mul f s (get_or r j nan))

      kept : (c s : Float) → Nought (entry c s)
      kept c s =
          add_nought f (mul f c (get_or r i nan)) (mul f s (get_or r j nan)) (mul_right f c (get_or r i nan) (h i))
          (mul_right f s (get_or r j nan) (h j))
