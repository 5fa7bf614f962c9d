-- What a page's lines hold: after each turn the root so far is right in the digits found, and after the last it is the
-- double of the whole root. Assumes nothing.
use Rattle.std.specs.Prelude.{◌≡◌, refl, ℕ, zero, suc, ◌+◌, ◌-◌, ◌*◌, ◌/◌, ◌%◌, ◌^◌, ◌≤◌, ◌<◌, ◌⊎◌, Bool, true, false, not, cond, T, leb}
use Rattle.std.proofs.Common.{sym, ap, ◌∙◌, subst, zero-add, mul-lt-mul_of_pos_right, arith, inl, inr, leb→le, pow_pos}
use Rattle.std.proofs.Math.Nat.{pow-succ'}
use Rattle.std.proofs.Math.Dec.{nleb→lt}
use Rattle.method.specs.Root.{whole_root}
use Rattle.method.proofs.Root.Grid.{less_or_not}
use Rattle.method.specs.Root.Whole.{IsRoot}
use Rattle.method.proofs.Root.Whole.{whole_is, root_unique, four_pow}
use Rattle.method.specs.Root.Paper.{Line, line, first, tried, turn, turns, paper_root, rounded}
use Rattle.method.specs.Root.Turns.{Found}

-- ---- every line

pub first_found : (d x : ℕ) → x < 2 ^ d → Found (4 * (x * 2 ^ d)) (2 ^ suc d) d (first d x)
first_found d x h =
    record {
      half = 0;
      even = refl;
      place = refl;
      value = go x (2 ^ d);
      small = all x (2 ^ d) h;
      room = most (2 ^ d) (2 ^ suc d) (pow-succ' 2 d);
    }
  where
    go : (x b : ℕ) → 0 * 0 + 4 * b * x ≡ 4 * (x * b)
    go x b = omega arith

    all : (x b : ℕ) → x < b → x < 0 + b
    all x b h = omega arith

    most : (b c : ℕ) → c ≡ 2 * b → 0 + b + b ≤ c
    most b c e = omega arith

-- a trial that is left, and one that is taken; b is the halved bit
left :
    (n most j r t b h : ℕ) → r ≡ h + h → b ≡ 2 ^ j → r * r + 4 * (2 * b) * t ≡ n →
    r + 2 * b + 2 * b ≤ most → t + t < r + b →
    Found n most j (line (t + t) (r + b) r b)
left n most j r t b h e p v m l =
    record { half = h; even = e; place = p; value = go r t b v; small = l; room = less r b most m }
  where
    go : (r t b : ℕ) → r * r + 4 * (2 * b) * t ≡ n → r * r + 4 * b * (t + t) ≡ n
    go r t b v = omega arith

    less : (r b most : ℕ) → r + 2 * b + 2 * b ≤ most → r + b + b ≤ most
    less r b most m = omega arith

taken :
    (n most j r t b h : ℕ) → r ≡ h + h → b ≡ 2 ^ j → r * r + 4 * (2 * b) * t ≡ n →
    t < r + 2 * b → r + 2 * b + 2 * b ≤ most → r + b ≤ t + t →
    Found n most j (line (t + t - (r + b)) (r + b) (r + b + b) b)
taken n most j r t b h e p v s m l =
    let u = t + t - (r + b) in
    record {
      half = h + b;
      even = both r b h e;
      place = p;
      value = go r t b u v (apart (t + t) (r + b) l);
      small = under r t b l s;
      room = same r b m;
    }
  where
    apart : (a c : ℕ) → c ≤ a → a ≡ a - c + c
    apart a c k = omega arith

    both : (r b h : ℕ) → r ≡ h + h → r + b + b ≡ h + b + (h + b)
    both r b h e = omega arith

    go :
        (r t b u : ℕ) → r * r + 4 * (2 * b) * t ≡ n → t + t ≡ u + (r + b) →
        (r + b + b) * (r + b + b) + 4 * b * u ≡ n
    go r t b u v e = omega (arith, ap (λ (z : ℕ). z * b) e)

    under : (r t b : ℕ) → r + b ≤ t + t → t < r + 2 * b → t + t - (r + b) < r + b + b + b
    under r t b l s = omega arith

    same : (r b : ℕ) → r + 2 * b + 2 * b ≤ most → r + b + b + b + b ≤ most
    same r b m = omega arith

half_bit : (b c : ℕ) → b ≡ 2 * c → b / 2 ≡ c
half_bit b c e = omega arith

-- one turn more is one digit more
pub turn-found : (n most j : ℕ) (l : Line) → Found n most (suc j) l → Found n most j (turn l)
unfolding turn
turn-found n most j l f =
    let b = 2 ^ j in
    let e : l.bit ≡ 2 * b = f.place ∙ pow-succ' 2 j in
    let c : l.bit / 2 ≡ b = half_bit l.bit b e in
    let v = subst (λ (z : ℕ). l.root * l.root + 4 * z * l.remainder ≡ n) e f.value in
    let s = subst (λ (z : ℕ). l.remainder < l.root + z) e f.small in
    let m = subst (λ (z : ℕ). l.root + z + z ≤ most) e f.room in
    subst (λ (z : ℕ). Found n most j (tried (l.remainder + l.remainder) (l.root + z) l.root z)) (sym c)
    (go l.root l.remainder b f.half f.even refl v s m)
  where
    go :
        (r t b h : ℕ) → r ≡ h + h → b ≡ 2 ^ j → r * r + 4 * (2 * b) * t ≡ n → t < r + 2 * b →
        r + 2 * b + 2 * b ≤ most →
        Found n most j (tried (t + t) (r + b) r b)
    go r t b h e p v s m =
        by (leb (r + b) (t + t)) (leb→le (r + b) (t + t)) (nleb→lt (r + b) (t + t))
      where
        by :
            (c : Bool) → (T c → r + b ≤ t + t) → (T (not c) → t + t < r + b) →
            Found n most j (cond c (line (t + t - (r + b)) (r + b) (r + b + b) b) (line (t + t) (r + b) r b))
        by true y x = taken n most j r t b h e p v s m (y tt)
        by false y x = left n most j r t b h e p v m (x tt)

-- k turns are made and j are to go
pub turns-found :
    (n most k j : ℕ) (l : Line) → Found n most (k + j) l → Found n most j (turns k l)
unfolding turns
turns-found n most zero j l f = subst (λ (z : ℕ). Found n most z l) (zero-add j) f
turns-found n most (suc k) j l f =
    turn-found n most j (turns k l) (turns-found n most k (suc j) l (subst (λ (z : ℕ). Found n most z l) (go k j) f))
  where
    go : (k j : ℕ) → suc k + j ≡ k + suc j
    go k j = omega arith

-- ---- the last line

-- at the end the root's half is the whole root
last_is : (n most : ℕ) (l : Line) → Found (4 * n) most 0 l → IsRoot n (l.root / 2) × (l.root ≡ 2 * (l.root / 2))
last_is n most l f =
    go l.root l.remainder l.bit f.half f.even f.place f.value f.small
  where
    go :
        (r t b h : ℕ) → r ≡ h + h → b ≡ 1 → r * r + 4 * b * t ≡ 4 * n → t < r + b →
        IsRoot n (r / 2) × (r ≡ 2 * (r / 2))
    go r t b h e p v s =
        let k : r / 2 ≡ h = half r h e in (
          subst (λ (z : ℕ). IsRoot n z) (sym k) (is r t b h e p v s),
          e ∙ twice h ∙ ap (λ (z : ℕ). 2 * z) (sym k),
        )
      where
        half : (r h : ℕ) → r ≡ h + h → r / 2 ≡ h
        half r h e = omega arith

        twice : (h : ℕ) → h + h ≡ 2 * h
        twice h = omega arith

        is :
            (r t b h : ℕ) → r ≡ h + h → b ≡ 1 → r * r + 4 * b * t ≡ 4 * n → t < r + b →
            IsRoot n h
        is r t b h e p v s =
            let w : (h + h) * (h + h) + 4 * 1 * t ≡ 4 * n =
            subst (λ (z : ℕ). (h + h) * (h + h) + 4 * z * t ≡ 4 * n) p
            (subst (λ (z : ℕ). z * z + 4 * b * t ≡ 4 * n) e v) in
            let u : t < h + h + 1 = subst (λ (z : ℕ). t < h + h + z) p (subst (λ (z : ℕ). t < z + b) e s) in
            end h t w u
          where
            end : (h t : ℕ) → (h + h) * (h + h) + 4 * 1 * t ≡ 4 * n → t < h + h + 1 → IsRoot n h
            end h t w u = omega arith

pub last_found : (d x : ℕ) → x < 2 ^ d → Found (4 * (x * 2 ^ d)) (2 ^ suc d) 0 (turns d (first d x))
last_found d x h =
    turns-found (4 * (x * 2 ^ d)) (2 ^ suc d) d 0 (first d x)
    (subst (λ (z : ℕ). Found (4 * (x * 2 ^ d)) (2 ^ suc d) z (first d x)) (none d) (first_found d x h))
  where
    none : (d : ℕ) → d ≡ d + 0
    none d = omega arith

-- ---- the paper's root is the whole root
pub paper_is : (d x : ℕ) → x < 2 ^ d → paper_root d x ≡ whole_root d (x * 2 ^ d)
paper_is d x h =
    root_unique (x * 2 ^ d) (paper_root d x) (whole_root d (x * 2 ^ d))
    (last_is (x * 2 ^ d) (2 ^ suc d) (turns d (first d x)) (last_found d x h)).0
    (whole_is d (x * 2 ^ d) (subst (λ (z : ℕ). x * 2 ^ d < z) (sym (four_pow d)) (shl d x h)))
  where
    shl : (d x : ℕ) → x < 2 ^ d → x * 2 ^ d < 2 ^ d * 2 ^ d
    shl d x h = mul-lt-mul_of_pos_right h (pow_pos d)

-- and what is rounded is the half of one more
pub rounded-is : (d x : ℕ) → x < 2 ^ d → rounded (turns d (first d x)).root ≡ (whole_root d (x * 2 ^ d) + 1) / 2
rounded-is d x h =
    go (turns d (first d x)).root (whole_root d (x * 2 ^ d))
    ((last_is (x * 2 ^ d) (2 ^ suc d) (turns d (first d x)) (last_found d x h)).1 ∙ ap (λ (z : ℕ). 2 * z) (paper_is d x h))
  where
    go : (r w : ℕ) → r ≡ 2 * w → (r + 2) / 4 ≡ (w + 1) / 2
    go r w e = omega arith

-- ---- why it is nearest: the number lies between the squares of the two midpoints

-- parity, as a number and its rest
parity : (k : ℕ) → ((j : ℕ) × (k ≡ j + j)) ⊎ ((j : ℕ) × (k ≡ suc (j + j)))
parity k = by (less_or_not 0 (k % 2))
  where
    by : (0 < k % 2) ⊎ (k % 2 ≤ 0) → ((j : ℕ) × (k ≡ j + j)) ⊎ ((j : ℕ) × (k ≡ suc (j + j)))
    by (inl o) = inr (k / 2, odd k o)
      where
        odd : (k : ℕ) → 0 < k % 2 → k ≡ suc (k / 2 + k / 2)
        odd k o = omega arith
    by (inr z) = inl (k / 2, even k z)
      where
        even : (k : ℕ) → k % 2 ≤ 0 → k ≡ k / 2 + k / 2
        even k z = omega arith

-- k is the whole root of an even n, and m + 2 is what its double is rounded to
between :
    (n w k m : ℕ) → n ≡ w + w → IsRoot n k → m + 2 ≡ 4 * rounded (2 * k) →
    (m * m < 4 * n) × (4 * n < (m + 4) * (m + 4))
between n w k m even is e = by (parity k)
  where
    by : ((j : ℕ) × (k ≡ j + j)) ⊎ ((j : ℕ) × (k ≡ suc (j + j))) → (m * m < 4 * n) × (4 * n < (m + 4) * (m + 4))
    by (inl (j, p)) = stays n m k (at k j m p e) is.0 is.1
      where
        at : (k j m : ℕ) → k ≡ j + j → m + 2 ≡ 4 * rounded (2 * k) → m + 2 ≡ 2 * k
        at k j m p e = omega arith

        stays :
            (n m k : ℕ) → m + 2 ≡ 2 * k → k * k ≤ n → n < (k + 1) * (k + 1) →
            (m * m < 4 * n) × (4 * n < (m + 4) * (m + 4))
        stays n m k e a b = omega (arith, ap (λ (z : ℕ). z * z) e)
    by (inr (j, p)) = goes n w m k j even p (at k j m p e) is.0 is.1
      where
        at : (k j m : ℕ) → k ≡ suc (j + j) → m + 2 ≡ 4 * rounded (2 * k) → m ≡ 2 * k
        at k j m p e = omega arith

        goes :
            (n w m k j : ℕ) → n ≡ w + w → k ≡ suc (j + j) → m ≡ 2 * k → k * k ≤ n → n < (k + 1) * (k + 1) →
            (m * m < 4 * n) × (4 * n < (m + 4) * (m + 4))
        goes n w m k j even p e a b = omega (arith, ap (λ (z : ℕ). z * z) e, ap (λ (z : ℕ). z * z) p)

-- In quarters of the last place kept, the result is 4 * rounded, and its midpoints with the numbers before and behind it
-- are 2 quarters away. One digit at the least is found.
pub midpoints :
    (d x m : ℕ) → x < 2 ^ suc d → m + 2 ≡ 4 * rounded (turns (suc d) (first (suc d) x)).root →
    (m * m < 4 * (x * 2 ^ suc d)) × (4 * (x * 2 ^ suc d) < (m + 4) * (m + 4))
midpoints d x m h e =
    let l = turns (suc d) (first (suc d) x) in
    let f = last_is (x * 2 ^ suc d) (2 ^ suc (suc d)) l (last_found (suc d) x h) in
    between (x * 2 ^ suc d) (x * 2 ^ d) (l.root / 2) m (go x (2 ^ d) (2 ^ suc d) (pow-succ' 2 d)) f.0
    (e ∙ ap (λ (z : ℕ). 4 * rounded z) f.1)
  where
    go : (x p q : ℕ) → q ≡ 2 * p → x * q ≡ x * p + x * p
    go x p q e = omega (arith, ap (λ (z : ℕ). x * z) e)
