-- A run of n entries from `off` on as a list of its own: what is read there, and what is written there. Assumes nothing.
use Rattle.std.specs.Prelude.{◌≡◌, List, Float, ◌++◌, length, take, drop, get_or, set}
use Prim.Native.Nat.{ℕ, ◌+◌, ◌-◌, ◌≤◌, ◌<◌}
use Rattle.std.proofs.Common.{sym, ap, ◌∙◌, arith, zero-add}
use Rattle.std.proofs.lemmas.List.{length-take-le, length-drop, get_or-take, get_or-drop, take-append-drop, set-append_left, set-append_right, get_or_append_left, get_or-append_right, length-set}
use borrow.Rule.Slice.PartMut.{put_mid, mid_of}
use Rattle.std.specs.Float.{nan, Format}
use Rattle.std.specs.Float.Ieee.{sub, mul}
use Rattle.method.specs.Reflection.{row_times, tail_less, row_less, row_reflected, row_less_all, row_less_times, row_added}
use Rattle.method.specs.Repeated.{repeated}
use Rattle.method.proofs.Repeated.{repeated-both, repeated-same}

-- two lists of which one is a run of the other
pub record Within (off n : ℕ) (a s r : List Float) : Type 0 where
  pub long : length r ≡ n
  pub whole : s ≡ put_mid off n a r

module _ (off n : ℕ) (a : List Float) (fits : off + n ≤ length a) where
  pub run_length : length (mid_of off n a) ≡ n
  run_length = length-take-le n (drop off a) (rw length-drop (omega arith))

  pub run_reads : (k : ℕ) → k < n → get_or (mid_of off n a) k nan ≡ get_or a (off + k) nan
  run_reads k h = get_or-take n (drop off a) k nan h ∙ get_or-drop off a k nan

  before : length (take off a) ≡ off
  before = length-take-le off a (omega arith)

  run_read : (k : ℕ) (r : List Float) → k < n → length r ≡ n → get_or (put_mid off n a r) (off + k) nan ≡ get_or r k nan
  run_read k r h e =
      let d : off + k - off ≡ k = omega arith in
      let l : k < length r = omega arith in
      get_or-append_right (take off a) (r ++ drop n (drop off a)) off (off + k) nan before (omega arith)
      ∙ rw d (get_or_append_left r (drop n (drop off a)) nan k l)

  run_set :
      (k : ℕ) (r : List Float) (x : Float) → k < n → length r ≡ n →
      set (put_mid off n a r) (off + k) x ≡ put_mid off n a (set r k x)
  run_set k r x h e =
      let d : off + k - off ≡ k = omega arith in
      let l : k < length r = omega arith in
      set-append_right (take off a) (r ++ drop n (drop off a)) off (off + k) x before (omega arith)
      ∙ rw d (ap (λ (t : List Float). take off a ++ t) (set-append_left r (drop n (drop off a)) k x l))

  pub run_start : Within off n a a (mid_of off n a)
  run_start =
      record {
        long = run_length;
        whole = sym (rw (take-append-drop n (drop off a)) (take-append-drop off a));
      }

  pub run_set_within :
      (k : ℕ) (s r : List Float) (x : Float) → k < n → Within off n a s r →
      Within off n a (set s (off + k) x) (set r k x)
  run_set_within k s r x h q =
      record { long = length-set r k x ∙ q.long; whole = rw q.whole (run_set k r x h q.long) }

  -- writing entry by entry in the list is writing in the run
  pub run_writes :
      (lo : ℕ) (g : ℕ → Float → Float) (s r : List Float) → Within off n a s r →
      Within off n a (repeated lo n (λ k a. set a (off + k) (g k (get_or a (off + k) nan))) s)
      (repeated lo n (λ k r. set r (0 + k) (g k (get_or r (0 + k) nan))) r)
  run_writes lo g s r start =
      let step = λ (k : ℕ) (s : List Float). set s (off + k) (g k (get_or s (off + k) nan)) in
      let within = λ (k : ℕ) (r : List Float). set r (0 + k) (g k (get_or r (0 + k) nan)) in
      repeated-both (Within off n a) lo n step within
      (λ k s r l h q.
      let read : get_or s (off + k) nan ≡ get_or r k nan = rw q.whole (run_read k r h q.long) in
      rw (zero-add, read) (run_set_within k s r (g k (get_or r k nan)) h q))
      s r start

  -- ---- the rows of a reflection

  run_head : 1 ≤ n → get_or a off nan ≡ get_or (mid_of off n a) 0 nan
  run_head some = let e : off + 0 ≡ off = omega arith in rw e at (sym (run_reads 0 some))

  module _ (f : Format) (p : List Float) where
    pub row_times-run : 1 ≤ n → row_times f p off n a ≡ row_times f p 0 n (mid_of off n a)
    unfolding row_times
    row_times-run some =
        repeated-both (λ (s r : Float). s ≡ r) 1 n _ _ (λ k s r l h q. rw (q, zero-add, run_reads k h)) _ _ (run_head some)

    pub row_less-run : 1 ≤ n → (x : Float) → row_less f p x off n a ≡ put_mid off n a (row_less f p x 0 n (mid_of off n a))
    unfolding row_less tail_less
    row_less-run some x =
        let e : off + 0 ≡ off = omega arith in
        let start = run_set_within 0 a (mid_of off n a) (sub f (get_or a off nan) x) some run_start in
        let tail = run_writes 1 (λ k y. sub f y (mul f x (get_or p k nan))) _ _ (rw e at start) in
        rw (← run_head some) tail.whole

    pub row_reflected-run :
        1 ≤ n → (tau : Float) → row_reflected f p tau off n a ≡ put_mid off n a (row_reflected f p tau 0 n (mid_of off n a))
    unfolding row_reflected
    row_reflected-run some tau = rw (row_less-run some _, row_times-run some)

    pub row_less_all-run : row_less_all f p off n a ≡ put_mid off n a (row_less_all f p 0 n (mid_of off n a))
    unfolding row_less_all
    row_less_all-run = (run_writes 0 (λ l y. sub f y (get_or p l nan)) a (mid_of off n a) run_start).whole

    pub row_less_times-run : (x : Float) → row_less_times f p x off n a ≡ put_mid off n a (row_less_times f p x 0 n (mid_of off n a))
    unfolding row_less_times
    row_less_times-run x = (run_writes 0 (λ l y. sub f y (mul f x (get_or p l nan))) a (mid_of off n a) run_start).whole

    -- as a call for the run leaves them, its length being n as the code has it
    module _ (m : ℕ) (r : List Float) (e : m ≡ n) where
      pub row_reflected-part :
          1 ≤ n → (tau : Float) → r ≡ row_reflected f p tau 0 (length (mid_of off m a)) (mid_of off m a) →
          put_mid off m a r ≡ row_reflected f p tau off n a
      row_reflected-part some tau er = rw (er, e, run_length) (sym (row_reflected-run some tau))

      pub row_less_all-part :
          r ≡ row_less_all f p 0 (length (mid_of off m a)) (mid_of off m a) → put_mid off m a r ≡ row_less_all f p off n a
      row_less_all-part er = rw (er, e, run_length) (sym row_less_all-run)

      pub row_less_times-part :
          (x : Float) → r ≡ row_less_times f p x 0 (length (mid_of off m a)) (mid_of off m a) →
          put_mid off m a r ≡ row_less_times f p x off n a
      row_less_times-part x er = rw (er, e, run_length) (sym (row_less_times-run x))

  pub row_added-run : (f : Format) (x : Float) (w : List Float) → row_added f a x off n w ≡ row_added f (mid_of off n a) x 0 n w
  unfolding row_added
  row_added-run f x w = repeated-same _ _ n w (λ l t h. rw (zero-add, run_reads l h))

  pub row_added-part :
      (m : ℕ) → m ≡ n → (f : Format) (x : Float) (w w' : List Float) →
      w' ≡ row_added f (mid_of off m a) x 0 (length (mid_of off m a)) w → w' ≡ row_added f a x off n w
  row_added-part m e f x w w' ew = rw (ew, e, run_length) (sym (row_added-run f x w))
