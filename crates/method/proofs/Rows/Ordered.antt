-- Each row goes its own way through the ordered call, too: columns move and change sign alike in every row. Assumes
-- nothing.
use Rattle.std.specs.Prelude.{◌≡◌, refl, Bool, true, false, List, ℕ, ◌*◌, ◌<◌, ◌≤◌, eqb, ltb, length, get_or, Float}
use Rattle.std.proofs.Common.{sym, ap, ◌∙◌, arith, eqb-true, ltb-true, ltb-false, ext_get_or}
use Rattle.std.proofs.lemmas.Bool.{eqb-false}
use Rattle.std.specs.Float.{nan, Format}
use Rattle.method.specs.Floats.{signed}
use Rattle.method.specs.Work.{Work, at}
use Rattle.method.specs.View.{row_of}
use Rattle.method.proofs.View.Rows.{row_length}
use Rattle.method.specs.Settings.{Settings}
use Rattle.method.specs.Checks.{Check, Refusal, first_of, refusal_of}
use Rattle.method.proofs.Checks.Table.{fit}
use Rattle.method.specs.Report.{Report}
use Rattle.method.specs.Outcome.{Outcome, outcome_of, card, accepted}
use Rattle.method.proofs.Outcome.Refused.{accepted-outcome}
use Rattle.method.proofs.Outcome.Reports.{card-le}
use Rattle.method.specs.Order.{diagonal, old_position, values_by, columns_moved}
use Rattle.method.specs.Order.Sizes.{Finite}
use Rattle.method.proofs.Order.Sizes.{positions_first}
use Rattle.method.proofs.Order.Columns.{moved, stays, length-rows_moved}
use Rattle.method.specs.Ordered.{Ordered, ordered_of, lent_checks, ordered_refusal, moved_by, put_in_order}
use Rattle.method.specs.Ordered.{ordered_outcome}
use Rattle.method.proofs.Ordered.Ways.{lent_passed, ran_on, found_after, refused-after, put_in_order_lem}
use Rattle.method.proofs.Ordered.Laws.{values_by-length, values_by-at}
use Rattle.method.proofs.Ordered.Numbers.{lent_fit, lent_none, run-fine}
use Rattle.method.specs.Rows.{Side, left, right, size_of, row_at, OwnRows, ZeroRow, exchanged}
use Rattle.method.proofs.Rows.Steps.{row_get}
use Rattle.method.specs.Rows.Zeros.{Nought, Noughts}
use Rattle.method.proofs.Rows.Zeros.{nought_is, noughts, signed-nought}
use Rattle.method.specs.Rows.Moved.{Square}
use Rattle.method.proofs.Rows.Moved.{exchanged-square, own_exchanged}
use Rattle.method.proofs.Rows.Runs.{runs_own}
use Rattle.method.proofs.Rows.Calls.{same_table, held_square, fit_square, square-accepts, calls_zero}
use Rattle.method.specs.Rows.Ordered.{OwnOrdered}

-- ---- columns moved, row by row

-- rows of square tables are equal by their entries
rows_equal :
    (n i j : ℕ) (a b : List Float) → length a ≡ n * n → length b ≡ n * n → i < n → j < n →
    ((k : ℕ) → k < n → at n i k a ≡ at n j k b) → row_of n i a ≡ row_of n j b
rows_equal n i j a b la lb h g same =
    let ea = row_length n i a h la in
    ext_get_or nan (row_of n i a) (row_of n j b) (ea ∙ sym (row_length n j b g lb))
    (λ k l.
    let l' : k < n = rw ea at l in
    sym (row_get n i k a l') ∙ same k l' ∙ row_get n j k b l')

-- and equal rows have equal entries
entries_equal :
    (n i j k : ℕ) (a b : List Float) → k < n → row_of n i a ≡ row_of n j b → at n i k a ≡ at n j k b
entries_equal n i j k a b h e =
    row_get n i k a h ∙ ap (λ (r : List Float). get_or r k nan) e ∙ sym (row_get n j k b h)

module _ (n c : ℕ) (few : c ≤ n) (q : ℕ → ℕ) (t : ℕ → Float → Float) (below : (k : ℕ) → k < c → q k < c) where
  -- equal rows stay equal
  columns_own :
      (i j : ℕ) (a b : List Float) → length a ≡ n * n → length b ≡ n * n → i < n → j < n →
      row_of n i a ≡ row_of n j b → row_of n i (columns_moved n c q t a) ≡ row_of n j (columns_moved n c q t b)
  columns_own i j a b la lb h g e =
      rows_equal n i j (columns_moved n c q t a) (columns_moved n c q t b) (length-rows_moved n c few q t a n ∙ la)
      (length-rows_moved n c few q t b n ∙ lb) h g (λ k l. go k l (ltb k c) refl)
    where
      go :
          (k : ℕ) → k < n → (b' : Bool) → ltb k c ≡ b' →
          at n i k (columns_moved n c q t a) ≡ at n j k (columns_moved n c q t b)
      go k l true y =
          let low = ltb-true k c y in
          moved n c few q t a la i k h low
          ∙ ap (t k) (entries_equal n i j (q k) a b (let d = below k low in omega arith) e)
          ∙ sym (moved n c few q t b lb j k g low)
      go k l false y =
          let high = ltb-false k c y in
          stays n c few q t a la i k h high l
          ∙ entries_equal n i j k a b l e
          ∙ sym (stays n c few q t b lb j k g high l)

  -- zeros and NaNs stay zeros and NaNs
  columns_zero :
      ((k : ℕ) (x : Float) → Nought x → Nought (t k x)) → (i : ℕ) (a : List Float) → length a ≡ n * n → i < n →
      Noughts (row_of n i a) → ZeroRow (row_of n i (columns_moved n c q t a))
  columns_zero keeps i a la h z k l =
      let b = columns_moved n c q t a in
      let l' : k < n = rw (row_length n i b h (length-rows_moved n c few q t a n ∙ la)) at l in
      nought_is (get_or (row_of n i b) k nan) (rw (← row_get n i k b l') (go l' (ltb k c) refl))
    where
      go : k < n → (b : Bool) → ltb k c ≡ b → Nought (at n i k (columns_moved n c q t a))
      go l true y =
          let low = ltb-true k c y in
          let r = row_get n i (q k) a (let d = below k low in omega arith) in
          rw (moved n c few q t a la i k h low, r) (keeps k (get_or (row_of n i a) (q k) nan) (z (q k)))
      go l false y = rw (stays n c few q t a la i k h (ltb-false k c y) l, row_get n i k a l) (z k)

-- ---- U and V in order

module _ (rows cols : ℕ) (d : ℕ → Float) (fine : Finite (card rows cols) d) where
  below : (k : ℕ) → k < card rows cols → old_position (card rows cols) d k < card rows cols
  below = (positions_first (card rows cols) d fine).within

  -- rows that are alike stay alike
  moved_row :
      (side : Side) (i j : ℕ) (w w' : Work) → Square rows cols w → Square rows cols w' →
      i < size_of side rows cols → j < size_of side rows cols →
      row_at side rows cols i w ≡ row_at side rows cols j w' →
      row_at side rows cols i (moved_by rows cols (card rows cols) d w)
      ≡ row_at side rows cols j (moved_by rows cols (card rows cols) d w')
  moved_row left i j w w' s s' h g e =
      columns_own rows (card rows cols) (card-le rows cols).0 (old_position (card rows cols) d)
      (λ k x. signed (d (old_position (card rows cols) d k)) x) below i j w.u w'.u (s left) (s' left) h g e
  moved_row right i j w w' s s' h g e =
      columns_own cols (card rows cols) (card-le rows cols).1 (old_position (card rows cols) d) (λ k x. x) below i j
      w.v w'.v (s right) (s' right) h g e

  -- a row of zeros and NaNs stays one
  moved_zero :
      (side : Side) (i : ℕ) (w : Work) → Square rows cols w → i < size_of side rows cols →
      ZeroRow (row_at side rows cols i w) → ZeroRow (row_at side rows cols i (moved_by rows cols (card rows cols) d w))
  moved_zero left i w s h z =
      columns_zero rows (card rows cols) (card-le rows cols).0 (old_position (card rows cols) d)
      (λ k x. signed (d (old_position (card rows cols) d k)) x) below
      (λ k x. signed-nought (d (old_position (card rows cols) d k)) x) i w.u (s left) h
      (noughts (row_of rows i w.u) z)
  moved_zero right i w s h z =
      columns_zero cols (card rows cols) (card-le rows cols).1 (old_position (card rows cols) d) (λ k x. x) below
      (λ k x y. y) i w.v (s right) h (noughts (row_of cols i w.v) z)

-- the lengths stay
moved_square :
    (rows cols : ℕ) (d : ℕ → Float) (w : Work) → Square rows cols w →
    Square rows cols (moved_by rows cols (card rows cols) d w)
moved_square rows cols d w s left = length-rows_moved rows _ (card-le rows cols).0 _ _ w.u rows ∙ s left
moved_square rows cols d w s right = length-rows_moved cols _ (card-le rows cols).1 _ _ w.v cols ∙ s right

-- ---- two runs put in order

-- by equal diagonals
moved_own :
    {rows cols : ℕ} {w₀ w₀' w w' : Work} (d d' : ℕ → Float) → d ≡ d' → Finite (card rows cols) d →
    OwnRows rows cols w₀ w₀' w w' → Square rows cols w → Square rows cols w' →
    OwnRows rows cols w₀ w₀' (moved_by rows cols (card rows cols) d w) (moved_by rows cols (card rows cols) d' w')
moved_own {rows} {cols} {w = w} {w' = w'} d d' e fine own s s' =
    rw (← e)
    (record {
      matrix = own.matrix;
      row = λ side i j h g q. moved_row rows cols d fine side i j w w' s s' h g (own.row side i j h g q);
    })

-- whatever the list held
values-any :
    (c : ℕ) (q : ℕ → ℕ) (d : ℕ → Float) (l l' : List Float) → length l ≡ c → length l' ≡ c →
    values_by c q d l ≡ values_by c q d l'
values-any c q d l l' e e' =
    let long = values_by-length c q d l e in
    ext_get_or nan (values_by c q d l) (values_by c q d l') (long ∙ sym (values_by-length c q d l' e'))
    (λ k h. let h' : k < c = rw long at h in values_by-at c q d l e k h' ∙ sym (values_by-at c q d l' e' k h'))

-- where the runs have the same report, and rows that began alike are alike, so it is in order
put_own :
    {rows cols : ℕ} {w₀ w₀' : Work} (o o' : Outcome) (l l' : List Float) → o.report ≡ o'.report →
    OwnRows rows cols w₀ w₀' o.held o'.held → Square rows cols o.held → Square rows cols o'.held →
    length l ≡ card rows cols → length l' ≡ card rows cols →
    OwnOrdered rows cols w₀ w₀' l l' (put_in_order rows cols o l) (put_in_order rows cols o' l')
put_own {rows} {cols} {w₀} {w₀'} o o' l l' r own s s' e e' = go (eqb (found_after rows cols o l).number 0) refl
  where
    c : ℕ
    c = card rows cols

    d : ℕ → Float
    d = diagonal cols o.held.matrix

    found-same : found_after rows cols o l ≡ found_after rows cols o' l'
    found-same = rw (r, own.matrix) refl

    go :
        (b : Bool) → eqb (found_after rows cols o l).number 0 ≡ b →
        OwnOrdered rows cols w₀ w₀' l l' (put_in_order rows cols o l) (put_in_order rows cols o' l')
    go true t =
        let z = eqb-true _ 0 t in
        let fine = (run-fine c d o.report.word z).1 in
        rw (
          put_in_order_lem rows cols o l z,
          put_in_order_lem rows cols o' l' (ap (λ (x : Refusal). x.number) (sym found-same) ∙ z),
        )
        (record {
          report = r;
          held = moved_own d (diagonal cols o'.held.matrix) (ap (diagonal cols) own.matrix) fine own s s';
          values = λ n. rw (← own.matrix) (values-any c (old_position c d) d l l' e e');
          same_values = λ q. rw (q, own.matrix) refl;
        })
    go false t =
        let z = eqb-false _ 0 t in
        rw (
          refused-after rows cols o l z,
          refused-after rows cols o' l' (λ y. z (ap (λ (x : Refusal). x.number) found-same ∙ y)),
        )
        (record { report = rw (r, own.matrix) refl; held = own; values = λ n. absurd (z n); same_values = λ q. q })

-- ---- the call

-- three equations are one
by_three :
    {o : Ordered} {r : Report} {w : Work} {l : List Float} → o.run.report ≡ r → o.run.held ≡ w → o.values ≡ l →
    o ≡ ordered_of (outcome_of r w) l
by_three p q t = λ i. ordered_of (outcome_of (p i) (q i)) (t i)

-- the lists of which the length alone is looked at
lent_same :
    (rows cols : ℕ) (w w' : Work) (l : List Float) → length w.matrix ≡ length w'.matrix →
    length w.u ≡ length w'.u → length w.v ≡ length w'.v →
    lent_checks rows cols w l ≡ lent_checks rows cols w' l
lent_same rows cols w w' l m u v = rw (m, u, v) refl

module _ (f : Format) (rows cols : ℕ) (s : Settings) where
  abbrev ran : Work → Outcome
  ran w = accepted f true rows cols s w

  module _ (w : Work) (l : List Float) (e : (ordered_refusal rows cols s w l).number ≡ 0) where
    -- the accumulating call would not refuse it; the list has c entries; the factors have their lengths,
    taken : (refusal_of true rows cols s w).number ≡ 0
    taken = (lent_none rows cols s w l e).1

    list_long : length l ≡ card rows cols
    list_long = (lent_fit rows cols w l (lent_none rows cols s w l e).0).list

    ordered-square : Square rows cols w
    ordered-square = fit_square rows cols s w taken

    -- after the run, too
    ran-square : Square rows cols (ran w).held
    ran-square = rw (← accepted-outcome f true rows cols s w taken) (held_square f rows cols s w ordered-square)

    -- a row of zeros and NaNs
    pub orders_zero :
        (side : Side) (i : ℕ) → i < size_of side rows cols → ZeroRow (row_at side rows cols i w) →
        ZeroRow (row_at side rows cols i (ordered_outcome f rows cols s w l).run.held)
    orders_zero side i h z =
        rw (ran_on rows cols s w l f e) (go (eqb (found_after rows cols (ran w) l).number 0) refl)
      where
        kept : ZeroRow (row_at side rows cols i (ran w).held)
        kept =
            rw (← accepted-outcome f true rows cols s w taken) (calls_zero rows cols s w taken f side i h z)

        go :
            (b : Bool) → eqb (found_after rows cols (ran w) l).number 0 ≡ b →
            ZeroRow (row_at side rows cols i (put_in_order rows cols (ran w) l).run.held)
        go true t =
            let q = eqb-true _ 0 t in
            let d = diagonal cols (ran w).held.matrix in
            rw (put_in_order_lem rows cols (ran w) l q)
            (moved_zero rows cols d (run-fine (card rows cols) d (ran w).report.word q).1 side i (ran w).held
            ran-square h kept)
        go false t = rw (refused-after rows cols (ran w) l (eqb-false _ 0 t)) kept

    -- what the call leaves has the lengths, too
    put_square : Square rows cols (ordered_outcome f rows cols s w l).run.held
    put_square = rw (ran_on rows cols s w l f e) (go (eqb (found_after rows cols (ran w) l).number 0) refl)
      where
        go :
            (b : Bool) → eqb (found_after rows cols (ran w) l).number 0 ≡ b →
            Square rows cols (put_in_order rows cols (ran w) l).run.held
        go true t =
            rw (put_in_order_lem rows cols (ran w) l (eqb-true _ 0 t))
            (moved_square rows cols (diagonal cols (ran w).held.matrix) (ran w).held ran-square)
        go false t = rw (refused-after rows cols (ran w) l (eqb-false _ 0 t)) ran-square

  -- two calls on equal readings
  pub orders_own :
      (w w' : Work) (l l' : List Float) → (ordered_refusal rows cols s w l).number ≡ 0 →
      (ordered_refusal rows cols s w' l').number ≡ 0 → w.matrix ≡ w'.matrix →
      OwnOrdered rows cols w w' l l' (ordered_outcome f rows cols s w l) (ordered_outcome f rows cols s w' l')
  orders_own w w' l l' e e' m =
      let k = fit true rows cols s w (taken w l e) in
      let own = runs_own f rows cols s k.rows_some k.cols_some w w' m in
      rw (ran_on rows cols s w l f e, ran_on rows cols s w' l' f e')
      (put_own (ran w) (ran w') l l' own.0 own.1 (ran-square w l e) (ran-square w' l' e') (list_long w l e)
      (list_long w' l' e'))

  -- two rows of a factor exchanged
  pub orders_exchanged :
      (w : Work) (l : List Float) → (ordered_refusal rows cols s w l).number ≡ 0 → (side : Side) (i j : ℕ) →
      i < size_of side rows cols → j < size_of side rows cols →
      let o = ordered_outcome f rows cols s w l in
      ordered_outcome f rows cols s (exchanged side rows cols i j w) l
      ≡ ordered_of (outcome_of o.run.report (exchanged side rows cols i j o.run.held)) o.values
  orders_exchanged w l e side i j h g =
      let w' = exchanged side rows cols i j w in
      let s₀ = ordered-square w l e in
      let s' = exchanged-square rows cols w s₀ side i j h g in
      let m = same_table rows cols side i j w in
      let lent : (first_of (lent_checks rows cols w' l)).number ≡ 0 =
      ap (λ (x : List Check). (first_of x).number)
      (sym
      (lent_same rows cols w w' l (ap length m) (s₀ left ∙ sym (s' left)) (s₀ right ∙ sym (s' right))))
      ∙ (lent_none rows cols s w l e).0 in
      let e' =
      ap (λ (x : Refusal). x.number) (lent_passed rows cols s w' l refl lent)
      ∙ square-accepts rows cols s w (taken w l e) w' m s' in
      let own = orders_own w w' l l e e' m in
      by_three (sym own.report)
      (own_exchanged side i j own.held s₀ (put_square w l e) (put_square w' l e') h g)
      (sym (own.same_values refl))
