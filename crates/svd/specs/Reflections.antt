-- The reflection of a run of entries by the run alone, and the entries of a vector by a part of it. Assumes nothing.
use Rattle.std.specs.Prelude.{◌≡◌, refl, Bool, true, false, List, Float, length, take, get_or, set, ◌++◌, ◌∷◌, replicate}
use Prim.Native.Nat.{ℕ, zero, suc, ◌+◌, ◌-◌, ◌≤◌, ◌<◌}
use Rattle.std.proofs.Math.Seq.{take-suc, drop-cons, drop-length, take-length}
use Rattle.std.proofs.Common.{append_assoc, add-one, le_refl, drop, sym, ap, ◌∙◌, arith, zero-add, mul-one}
use Rattle.std.proofs.lemmas.List.{get_or-take, length-take-le, set-append_right, take-replicate, get_or-replicate, length-replicate, append-nil}
use borrow.Rule.Slice.PartMut.{put_mid, mid_of}
use Rattle.std.specs.Float.{nan, Format}
use Rattle.std.specs.Float.Ieee.{lt, sub, mul, div, add, neg}
use Rattle.method.specs.Floats.{one, plus_zero, sign_of}
use Rattle.method.specs.Root.{square_root}
use Rattle.method.specs.Repeated.{go, repeated}
use Rattle.method.proofs.Repeated.{repeated-same, repeated-along}
use Rattle.method.specs.Reflection.{blank, line_copied, line_cleared, times_from, tail_less, row_less_times, largest_of, scaled, squares_of, reflection_of}
use Rattle.method.specs.Settings.{most_size}
use Rattle.method.proofs.Reflection.{reflection-small, reflection-large}
use Rattle.svd.specs.Rows.{Within, run_length, run_reads, run_start, run_set_within, run_writes}

-- the turns from lo on, numbered from 0
repeated-shift :
    {S : Type 0} (lo hi : ℕ) (step : ℕ → S → S) (s : S) →
    repeated lo hi step s ≡ repeated 0 (hi - lo) (λ k. step (lo + k)) s
unfolding repeated go
repeated-shift lo hi step s = let e : hi - lo - 0 ≡ hi - lo = omega arith in rw e (walk (hi - lo))
  where
    walk : (m : ℕ) → go lo step m s ≡ go 0 (λ k. step (lo + k)) m s
    walk zero = refl
    walk (suc m) = rw (walk m, zero-add)

-- a part of a vector, times x
pub times_from-part :
    (f : Format) (x : Float) (lo n m : ℕ) (w r : List Float) →
    lo ≤ n → n ≤ length w → m ≡ n - lo → r ≡ times_from f x 0 (length (mid_of lo m w)) (mid_of lo m w) →
    put_mid lo m w r ≡ times_from f x lo n w
unfolding times_from
times_from-part f x lo n m w r some few e er =
    let fits : lo + (n - lo) ≤ length w = omega arith in
    let start = run_start lo (n - lo) w fits in
    let writes = run_writes lo (n - lo) w fits 0 (λ k y. mul f y x) w (mid_of lo (n - lo) w) start in
    rw (er, e, run_length lo (n - lo) w fits)
    (ap (put_mid lo (n - lo) w) (repeated-same _ _ (n - lo) _ (λ k t h. rw zero-add))
    ∙ sym writes.whole
    ∙ sym (repeated-shift lo n _ w))

-- a row past its head, less x times a vector past its own
pub tail_less-part :
    (f : Format) (x : Float) (n m q : ℕ) (p s r : List Float) →
    n ≤ length s → n - 1 ≤ q → 1 + q ≤ length p → 1 ≤ n → m ≡ n - 1 →
    r ≡ row_less_times f (mid_of 1 q p) x 0 (length (mid_of 1 m s)) (mid_of 1 m s) →
    put_mid 1 m s r ≡ tail_less f p x 0 n s
unfolding tail_less row_less_times
tail_less-part f x n m q p s r few reach long some e er =
    let fits : 1 + (n - 1) ≤ length s = omega arith in
    let start = run_start 1 (n - 1) s fits in
    let writes = run_writes 1 (n - 1) s fits 0 (λ k y. sub f y (mul f x (get_or p (1 + k) nan))) s (mid_of 1 (n - 1) s) start in
    rw (er, e, run_length 1 (n - 1) s fits)
    (ap (put_mid 1 (n - 1) s) (repeated-same _ _ (n - 1) _ (λ k t h.
    let within : k < q = omega arith in
    rw (run_reads 1 q p long k within)))
    ∙ sym writes.whole
    ∙ repeated-same _ _ (n - 1) _ (λ k t h. rw zero-add)
    ∙ sym (repeated-shift 1 n _ s))

-- the squares of a vector's first n entries
pub squares_of-part :
    (f : Format) (w : List Float) (n : ℕ) → n ≤ length w →
    squares_of f (take n w) (length (take n w)) ≡ squares_of f w n
unfolding squares_of
squares_of-part f w n few = rw (length-take-le n w few) (repeated-same _ _ n _ (λ k s h. rw (get_or-take n w k nan h)))

-- ---- what the library writes at once

-- entry by entry from another list
copied :
    (n : ℕ) (src w : List Float) → n ≤ length src → n ≤ length w →
    repeated 0 n (λ k w. set w k (get_or src k nan)) w ≡ take n src ++ drop n w
copied n src w few fits =
    repeated-along (λ (k : ℕ) (s : List Float). s ≡ take k src ++ drop k w) _ n
    (λ k s h e.
    let here : k < length src = omega arith in
    let there : k < length w = omega arith in
    let none : k - k ≡ 0 = omega arith in
    let after : take (k + 1) src ++ drop (k + 1) w ≡ take k src ++ (get_or src k nan ∷ drop (suc k) w) =
    rw (add-one, take-suc src k nan here, append_assoc) in
    rw (e, after)
    (set-append_right (take k src) (drop k w) k k (get_or src k nan) (length-take-le k src (omega arith)) (omega arith)
    ∙ rw (none, drop-cons w k nan there)))
    w refl

-- a line of entries side by side, copied
pub line_copied-run : (at n : ℕ) (a : List Float) → at + n ≤ length a → n ≤ most_size → put_mid 0 n blank (mid_of at n a) ≡ line_copied at 1 n a
unfolding line_copied
line_copied-run at n a fits few =
    let long : n ≤ length (mid_of at n a) = omega (arith, run_length at n a fits) in
    let all : take n (mid_of at n a) ≡ mid_of at n a = rw (run_length at n a fits) at (take-length (mid_of at n a)) in
    rw all at (sym (copied n (mid_of at n a) blank long few))
    ∙ repeated-same _ _ n _ (λ k w h. rw (mul-one, run_reads at n a fits k h))

-- cleared
pub line_cleared-all : (a : List Float) → replicate (length a) plus_zero ≡ line_cleared 0 1 (length a) a
unfolding line_cleared
line_cleared-all a =
    let n = length a in
    let z = replicate n plus_zero in
    let long : n ≤ length z = omega (arith, length-replicate n plus_zero) in
    let all : take n z ++ drop n a ≡ z = rw (take-replicate n n plus_zero (le_refl n), drop-length, append-nil) in
    sym (repeated-same _ _ n a (λ k w h. rw (mul-one, zero-add, get_or-replicate n k plus_zero nan h))
    ∙ copied n z a long (le_refl n) ∙ all)

-- ---- the reflection of a run

module _ (at n : ℕ) (v : List Float) (fits : at + n ≤ length v) where
  largest_of-run : largest_of v at n ≡ largest_of (mid_of at n v) 0 n
  unfolding largest_of
  largest_of-run = repeated-same _ _ n _ (λ k m h. rw (zero-add, run_reads at n v fits k h))

  scaled-run : (f : Format) (x : Float) → scaled f v at x n ≡ scaled f (mid_of at n v) 0 x n
  unfolding scaled
  scaled-run f x = repeated-same _ _ n _ (λ k w h. rw (zero-add, run_reads at n v fits k h))

  line_cleared-run : Within at n v (line_cleared at 1 n v) (line_cleared 0 1 n (mid_of at n v))
  unfolding line_cleared
  line_cleared-run = simp mul-one (run_writes at n v fits 0 (λ k y. plus_zero) v (mid_of at n v) (run_start at n v fits))

  pub reflection_of-run :
      (f : Format) (floor : Float) → 1 ≤ n →
      (let r = reflection_of f floor 0 n (mid_of at n v) in
      record { entries = put_mid at n v r.entries; vector = r.vector; tau = r.tau } ≡ reflection_of f floor at n v)
  reflection_of-run f floor some = choose (lt (largest_of (mid_of at n v) 0 n) floor) refl
    where
      choose :
          (b : Bool) → lt (largest_of (mid_of at n v) 0 n) floor ≡ b →
          (let r = reflection_of f floor 0 n (mid_of at n v) in
          record { entries = put_mid at n v r.entries; vector = r.vector; tau = r.tau } ≡ reflection_of f floor at n v)
      choose true e =
          rw (← reflection-small f floor 0 n (mid_of at n v) e, ← reflection-small f floor at n v (rw largest_of-run e))
          (ap (λ (l : List Float). record { entries = l; vector = set blank 0 one; tau = plus_zero })
          (sym (run_start at n v fits).whole))
      choose false e =
          let m = largest_of (mid_of at n v) 0 n in
          let w = scaled f (mid_of at n v) 0 (div f one m) n in
          let g = mul f (sign_of (get_or w 0 nan)) (square_root f (squares_of f w n)) in
          let z : at + 0 ≡ at = omega arith in
          let head = rw z at (run_set_within at n v fits 0 _ _ (mul f (neg g) m) some line_cleared-run) in
          rw (
            ← reflection-large f floor 0 n (mid_of at n v) m _ _ _ w _ _ refl e refl refl refl refl refl refl,
            ← reflection-large f floor at n v m _ _ _ w _ _ (sym largest_of-run) e (sym (scaled-run f _)) refl refl refl refl refl,
          )
          (ap (λ (l : List Float).
          record {
            entries = l;
            vector = set (times_from f (div f one (add f (get_or w 0 nan) g)) 1 n w) 0 one;
            tau = div f (add f (get_or w 0 nan) g) g;
          }) (sym head.whole))

  -- as a call for the run leaves it, its length being n as the code has it
  pub reflection_of-part :
      (m : ℕ) (f : Format) (floor : Float) (entries vector : List Float) (tau : Float) → 1 ≤ n → m ≡ n →
      record { entries = entries; vector = vector; tau = tau } ≡ reflection_of f floor 0 (length (mid_of at m v)) (mid_of at m v) →
      record { entries = put_mid at m v entries; vector = vector; tau = tau } ≡ reflection_of f floor at n v
  reflection_of-part m f floor entries vector tau some e er =
      let of_run = rw (e, run_length at n v fits) at er in
      rw (e, ← reflection_of-run f floor some, ← of_run)
