-- For the proofs of the loops and chains: where the diagonal lies, what one turn of each loop does, and what a chain over the
-- numbers below c gives. Assumes nothing.
use Rattle.std.specs.Prelude.{◌≡◌, Bool, true, false, ◌&&◌, ◌||◌, List, [], ◌∷◌, ◌++◌, ℕ, zero, suc, ◌+◌, ◌-◌, ◌*◌, ◌<◌, ◌≤◌, ltb, length, get_or, set, take, drop, cond, Float}
use Rattle.std.specs.Float.{nan}
use Rattle.std.proofs.Common.{sym, ap, ◌∙◌, append_assoc, add-one, arith}
use Rattle.std.proofs.Math.Seq.{take-suc, drop-cons, set-append_seam}
use Rattle.std.proofs.lemmas.List.{length-drop, length-take-le, get_or-drop}
use Rattle.method.proofs.Repeated.{repeated-none, repeated-suc}
use Rattle.method.proofs.Writes.{writes}
use Rattle.std.specs.Float.Ieee.{lt, eq}
use Rattle.std.specs.Float.Ieee.Scale.{finite}
use Rattle.std.specs.List.{list_all, count_by, filter, range_with_len}
use Rattle.std.proofs.lemmas.List.Sums.{length-filter, sum_by-append}
use Rattle.std.proofs.Math.Bool.{and-true}
use Rattle.std.proofs.lemmas.List.Folds.{list_all-append}
use Rattle.method.specs.Floats.{pick, magnitude}
use Rattle.method.proofs.Index.{row_in, few}
use Rattle.method.specs.Order.{ahead, how_many}
use Rattle.method.specs.Ordered.{all_finite}
use Rattle.method.proofs.Ordered.Numbers.{finite_none, finite_next}
use Rattle.method.proofs.Order.Places.{count-zero, count_next}
use Rattle.order.specs.Room.{Room}

-- entry i of the diagonal lies in b, and not far
module _ {cols c : ℕ} {b : List Float} (r : Room cols c b) (i : ℕ) (h : i < c) where
  pub entry_in : i * cols + i < length b
  entry_in = omega (arith, row_in i c cols h, r.narrow, r.long)

  pub entry_few : i * cols + i ≤ 3072
  entry_few =
      let most = few c cols (omega (arith, r.narrow, r.wide)) (omega (arith, r.wide)) in
      omega (arith, row_in i c cols h, r.narrow, r.wide, most)

-- the first c entries of row i lie in a square table
pub row_inside :
    {i n c len len₀ : ℕ} → len ≡ len₀ → len₀ ≡ n * n → c ≤ n → i < n → i * n + c ≤ len
row_inside {i} {n} same square few h = omega (arith, row_in i n n h)

-- a copied row is c entries written one after another
module _ (at : ℕ) (a w : List Float) where
  taken : (c : ℕ) → at + c ≤ length a → c ≤ length w →
      take c (drop at a) ++ drop c w ≡ writes (λ k. k) (λ k. get_or a (at + k) nan) c w
  taken zero h g = repeated-none 0 _ w
  taken (suc c) h g =
      let d = drop at a in
      let v = get_or d c nan in
      let long : c < length d = rw length-drop (omega arith) in
      let size : length (take c d) ≡ c = length-take-le c d (omega arith) in
      ap (λ (l : List Float). l ++ drop (suc c) w) (take-suc d c nan long)
      ∙ append_assoc (take c d) (v ∷ []) (drop (suc c) w)
      ∙ sym (set-append_seam (take c d) (get_or w c nan) (drop (suc c) w) v)
      ∙ ap (λ (l : List Float). set (take c d ++ l) (length (take c d)) v) (sym (drop-cons w c nan (omega arith)))
      ∙ ap (λ (k : ℕ). set (take c d ++ drop c w) k v) size
      ∙ ap (λ (l : List Float). set l c v) (taken c (omega arith) (omega arith))
      ∙ ap (set (writes (λ k. k) (λ k. get_or a (at + k) nan) c w) c) (get_or-drop at a c nan)
      ∙ sym (repeated-suc _ c w)

  pub copied_row :
      (c : ℕ) (r : List Float) → r ≡ take (at + c - at) (drop at a) → at + c ≤ length a → c ≤ length w →
      r ++ drop c w ≡ writes (λ k. k) (λ k. get_or a (at + k) nan) c w
  copied_row c r e h g =
      let size : at + c - at ≡ c = omega arith in
      ap (λ (l : List Float). l ++ drop c w) (e ∙ ap (λ (k : ℕ). take k (drop at a)) size) ∙ taken c h g

-- the numbers from a on, one more of them
range_more : (a n : ℕ) → range_with_len a (suc n) ≡ range_with_len a n ++ (a + n) ∷ []
range_more a zero = ap (λ (k : ℕ). k ∷ []) (let e : a ≡ a + 0 = omega arith in e)
range_more a (suc n) =
    ap (λ (l : List ℕ). a ∷ l)
    (range_more (a + 1) n
    ∙ ap (λ (k : ℕ). range_with_len (a + 1) n ++ k ∷ []) (let e : a + 1 + n ≡ a + suc n = omega arith in e))

-- a diagonal is finite where each entry is
pub finite_each : (c : ℕ) (d : ℕ → Float) → list_all (λ i. finite (d i)) (range_with_len 0 c) ≡ all_finite c d
finite_each zero d = finite_none d
finite_each (suc c) d =
    ap (list_all (λ i. finite (d i))) (range_more 0 c)
    ∙ list_all-append (λ i. finite (d i)) (range_with_len 0 c) ((0 + c) ∷ [])
    ∙ rw (finite_each c d, and-true) (let e : 0 + c ≡ c = omega arith in
    rw e (sym (finite_next c d) ∙ ap (λ (n : ℕ). all_finite n d) (add-one c)))

-- one number more is counted where it passes
more : (t : Bool) (n : ℕ) → n + (0 + cond t 1 0) ≡ pick t (n + 1) n
more true n = omega arith
more false n = omega arith

-- how many of the numbers below c pass a test
pub counted : (c : ℕ) (test : ℕ → Bool) → length (filter test (range_with_len 0 c)) ≡ how_many c test
counted c test = length-filter test (range_with_len 0 c) ∙ summed c
  where
    summed : (n : ℕ) → count_by test (range_with_len 0 n) ≡ how_many n test
    summed zero = sym (count-zero test)
    summed (suc n) =
        ap (count_by test) (range_more 0 n)
        ∙ sum_by-append (λ i. cond (test i) 1 0) (range_with_len 0 n) ((0 + n) ∷ [])
        ∙ (let e : 0 + n ≡ n = omega arith in rw (e, summed n) (more (test n) (how_many n test)
        ∙ sym (count_next n test) ∙ ap (λ (k : ℕ). how_many k test) (add-one n)))

-- one position more counted
pub count-step :
    (d : ℕ → Float) (i j n n' : ℕ) (t : Bool) (x y : Float) →
    x ≡ magnitude (d i) → y ≡ magnitude (d j) → t ≡ (lt x y || (eq y x && ltb j i)) → n' ≡ pick t (n + 1) n →
    n ≡ how_many j (λ k. ahead d k i) → n' ≡ how_many (j + 1) (λ k. ahead d k i)
unfolding ahead
count-step d i j n n' t x y ex ey et en e = en ∙ rw (et, ex, ey, e) (sym (count_next j (λ k. ahead d k i)))

pub pick-le : (t : Bool) (n n' j : ℕ) → n' ≡ pick t (n + 1) n → n ≤ j → n' ≤ j + 1
pick-le true n n' j e h = omega arith
pick-le false n n' j e h = omega arith
