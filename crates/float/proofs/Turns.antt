-- The turns of the page on 54 digits: what a turn is for a trial that is taken and for one that is left, and that every
-- line has room in 64 bits. Assumes nothing.
use mathlib.Core.Path.{◌≡◌, refl, sym, ap, subst}
use mathlib.Core.Bool.{Bool, true, false, cond}
use Prim.Native.Nat.{ℕ, suc, ◌+◌, ◌-◌, ◌*◌, ◌/◌, ◌^◌, ◌≤◌, ◌<◌}
use native.Mathlib.Omega.{arith}
use borrow.Author.Tests.{le-leb, lt-leb}
use Rattle.method.specs.Root.Paper.{Line, line, first, turn, turns, rounded}
use Rattle.method.specs.Root.Turns.{Found}
use Rattle.method.proofs.Root.Turns.{first_found, turns-found, last_found}

-- ---- a turn
by_test : {A : Type 0} (b c : Bool) (x y : A) → b ≡ c → cond b x y ≡ cond c x y
by_test b c x y e = ap (λ (z : Bool). cond z x y) e

pub turn-taken :
    (l : Line) → l.root + l.bit / 2 ≤ l.remainder + l.remainder →
    line (l.remainder + l.remainder - (l.root + l.bit / 2)) (l.root + l.bit / 2) (l.root + l.bit / 2 + l.bit / 2)
    (l.bit / 2)
    ≡ turn l
unfolding turn
turn-taken l h = sym (by_test _ true _ _ (le-leb (l.root + l.bit / 2) (l.remainder + l.remainder) h))

pub turn-left :
    (l : Line) → l.remainder + l.remainder < l.root + l.bit / 2 →
    line (l.remainder + l.remainder) (l.root + l.bit / 2) l.root (l.bit / 2) ≡ turn l
unfolding turn
turn-left l h = sym (by_test _ false _ _ (lt-leb (l.root + l.bit / 2) (l.remainder + l.remainder) h))

pub turns_more : (k : ℕ) (l : Line) → turn (turns k l) ≡ turns (k + 1) l
unfolding turns
turns_more k l = ap (λ (z : ℕ). turns z l) (one_more k)
  where
    one_more : (k : ℕ) → suc k ≡ k + 1
    one_more k = omega arith

pub turns-none : (l : Line) → l ≡ turns 0 l
unfolding turns
turns-none l = refl

-- ---- room
pub turns-room :
    (x k : ℕ) → x < 2 ^ 54 → k < 54 →
    ((turns k (first 54 x)).remainder < 2 ^ 63) × ((turns k (first 54 x)).root + (turns k (first 54 x)).bit < 2 ^ 63)
turns-room x k h g =
    let l = turns k (first 54 x) in
    let f : Found (4 * (x * 2 ^ 54)) (2 ^ 55) (54 - k) l =
    turns-found (4 * (x * 2 ^ 54)) (2 ^ 55) k (54 - k) (first 54 x)
    (subst (λ (z : ℕ). Found (4 * (x * 2 ^ 54)) (2 ^ 55) z (first 54 x)) (sym (all k g)) (first_found 54 x h)) in
    go l.remainder l.root l.bit f.small f.room
  where
    all : (k : ℕ) → k < 54 → k + (54 - k) ≡ 54
    all k g = omega arith

    go : (t r b : ℕ) → t < r + b → r + b + b ≤ 2 ^ 55 → (t < 2 ^ 63) × (r + b < 2 ^ 63)
    go t r b s m = omega arith

pub last_room : (x : ℕ) → x < 2 ^ 54 → rounded (turns 54 (first 54 x)).root ≤ 2 ^ 53
last_room x h = go (turns 54 (first 54 x)).root (turns 54 (first 54 x)).bit (last_found 54 x h).room
  where
    go : (r b : ℕ) → r + b + b ≤ 2 ^ 55 → (r + 2) / 4 ≤ 2 ^ 53
    go r b m = omega arith
