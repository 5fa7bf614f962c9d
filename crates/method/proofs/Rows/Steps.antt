-- What the two operations on a factor, the reflection and the turn of two columns, make of one row: each takes the row
-- on its own. Assumes nothing.
use Rattle.std.specs.Prelude.{◌≡◌, refl, Bool, true, false, ℕ, ◌+◌, ◌-◌, ◌*◌, ◌<◌, ◌≤◌, ltb, get_or, set, take, drop, Float}
use Rattle.std.proofs.Common.{sym, ap, ◌∙◌, zero-add, arith, ltb-true, ltb-false, drop-set-lt, get_or-take, get_or-drop}
use mathlib.Core.List.{List}
use Rattle.std.proofs.Math.Nat.{add_assoc}
use Rattle.std.proofs.lemmas.List.{take-set-le, drop-set-add}
use Rattle.std.proofs.Math.Seq.{take-set-lt}
use Rattle.std.specs.Float.{nan, Format}
use Rattle.method.proofs.Repeated.{repeated-both, repeated-within, repeated-one}
use Rattle.method.proofs.Index.{row_in}
use Rattle.method.specs.View.{row_of}
use Rattle.method.specs.Rotation.{Rotation, pair_turned, columns_turned}
use Rattle.method.specs.Reflection.{row_times, tail_less, row_less, row_reflected, reflected_right}

-- ---- one row of a table of n columns

module _ (n k : ℕ) where
  -- entry x of row k
  pub row_get : (x : ℕ) (a : List Float) → x < n → get_or a (k * n + x) nan ≡ get_or (row_of n k a) x nan
  row_get x a h = sym (get_or-take n (drop (k * n) a) x nan h ∙ get_or-drop (k * n) a x nan)

  -- entry x of it set
  row_set :
      (x : ℕ) (v : Float) (a r : List Float) → x < n → row_of n k a ≡ r → row_of n k (set a (k * n + x) v) ≡ set r x v
  row_set x v a r h e = rw (← e) (ap (take n) (drop-set-add (k * n) a x v) ∙ take-set-lt n (drop (k * n) a) x v h)

  -- an entry of another row set
  row_else :
      (l x : ℕ) (v : Float) (a : List Float) → ¬ (l ≡ k) → x < n → row_of n k (set a (l * n + x) v) ≡ row_of n k a
  row_else l x v a e h = choose (ltb l k) refl
    where
      choose : (t : Bool) → ltb l k ≡ t → row_of n k (set a (l * n + x) v) ≡ row_of n k a
      choose true t =
          let b = row_in l k n (ltb-true l k t) in
          ap (take n) (drop-set-lt (k * n) a (l * n + x) v (omega arith))
      choose false t =
          let g = ltb-false l k t in
          let b = row_in k l n (let d : k < l = omega arith in d) in
          let p : l * n + x ≡ k * n + (l * n + x - k * n) = omega arith in
          rw p
          (ap (take n) (drop-set-add (k * n) a (l * n + x - k * n) v)
          ∙ take-set-le n (drop (k * n) a) (l * n + x - k * n) v (omega arith))

-- ---- the two operations

module _ (f : Format) (n k : ℕ) where
  module _ (p : List Float) (i m : ℕ) (head : i < n) (fits : i + m ≤ n) where
    get : (l : ℕ) (a : List Float) → l < m → get_or a (k * n + i + l) nan ≡ get_or (row_of n k a) (i + l) nan
    get l a h = rw (add_assoc (k * n) i l) (row_get n k (i + l) a (omega arith))

    times_row : (a : List Float) → row_times f p (k * n + i) m a ≡ row_times f p i m (row_of n k a)
    unfolding row_times
    times_row a =
        repeated-both (λ (s s' : Float). s ≡ s') 1 m _ _ (λ l s s' lo hi e. rw (e, get l a hi)) _ _
        (row_get n k i a head)

    less_row :
        (x : Float) (a : List Float) → row_of n k (row_less f p x (k * n + i) m a) ≡ row_less f p x i m (row_of n k a)
    unfolding row_less tail_less
    less_row x a =
        repeated-both (λ (s s' : List Float). row_of n k s ≡ s') 1 m _ _
        (λ l s s' lo hi e.
        rw (get l s hi, e, add_assoc (k * n) i l) (row_set n k (i + l) _ s s' (omega arith) e))
        _
        _
        (rw (row_get n k i a head) (row_set n k i _ a _ head refl))

    reflected_row :
        (tau : Float) (a : List Float) →
        row_of n k (row_reflected f p tau (k * n + i) m a) ≡ row_reflected f p tau i m (row_of n k a)
    unfolding row_reflected
    reflected_row tau a = rw (times_row a) (less_row _ a)

    reflected_else :
        (l : ℕ) (tau : Float) (a : List Float) → ¬ (l ≡ k) →
        row_of n k (row_reflected f p tau (l * n + i) m a) ≡ row_of n k a
    unfolding row_reflected row_less tail_less
    reflected_else l tau a e =
        repeated-within (λ (s : List Float). row_of n k s ≡ row_of n k a) 1 m _
        (λ x s lo hi q. rw (add_assoc (l * n) i x) (row_else n k l (i + x) _ s e (omega arith) ∙ q))
        _
        (row_else n k l i _ a e head)

  -- row k takes the reflection on its own
  pub reflected_right-row :
      (p : List Float) (tau : Float) (i lines : ℕ) (a : List Float) → i < n → k < lines →
      row_of n k (reflected_right f p tau n 0 i lines (n - i) a) ≡ row_reflected f p tau i (n - i) (row_of n k a)
  unfolding reflected_right
  reflected_right-row p tau i lines a h g =
      repeated-one (row_of n k) (row_reflected f p tau i (n - i)) k lines _ g
      (λ s. rw (zero-add k) (reflected_row p i (n - i) h (omega arith) tau s))
      (λ l s e. rw (zero-add l) (reflected_else p i (n - i) h (omega arith) l tau s e))
      a

  pair_row :
      (g : Rotation) (i : ℕ) (a : List Float) → i + 1 < n →
      row_of n k (pair_turned f g (k * n + i) (k * n + (i + 1)) a) ≡ pair_turned f g i (i + 1) (row_of n k a)
  unfolding pair_turned
  pair_row g i a h =
      rw (row_get n k i a (omega arith), row_get n k (i + 1) a h)
      (row_set n k (i + 1) _ _ _ h (row_set n k i _ a _ (omega arith) refl))

  pair_else :
      (g : Rotation) (i l : ℕ) (a : List Float) → i + 1 < n → ¬ (l ≡ k) →
      row_of n k (pair_turned f g (l * n + i) (l * n + (i + 1)) a) ≡ row_of n k a
  unfolding pair_turned
  pair_else g i l a h e = row_else n k l (i + 1) _ _ e h ∙ row_else n k l i _ a e (omega arith)

  -- row k takes the turn of columns i and i + 1 on its own
  pub columns_turned-row :
      (g : Rotation) (i lines : ℕ) (a : List Float) → i + 1 < n → k < lines →
      row_of n k (columns_turned f g n i 0 lines a) ≡ pair_turned f g i (i + 1) (row_of n k a)
  unfolding columns_turned
  columns_turned-row g i lines a h within =
      repeated-one (row_of n k) (pair_turned f g i (i + 1)) k lines _ within
      (λ s. rw (zero-add k) (pair_row g i s h)) (λ l s e. rw (zero-add l) (pair_else g i l s h e)) a
