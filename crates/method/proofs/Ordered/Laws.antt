-- That a settled answer of the ordered call is the same at every greater limit; and what the call leaves where it
-- refuses nothing, sentence by sentence: the order, the list, U and V entry by entry, both moved back, and the product.
-- Assumes nothing.
use Rattle.std.specs.Prelude.{◌≡◌, refl, Bool, true, false, List, ℕ, ◌*◌, ◌<◌, ◌≤◌, eqb, length, get_or, Float}
use Rattle.std.proofs.Common.{sym, ap, ◌∙◌, arith, eqb-true}
use Rattle.std.specs.Float.Ieee.{nan, lt, eq, mul}
use Rattle.std.specs.Float.{Format}
use Rattle.std.proofs.lemmas.Bool.{eqb-false}
use Rattle.method.specs.Floats.{magnitude, signed}
use Rattle.method.proofs.Writes.{written, length-writes}
use Rattle.method.proofs.Signs.{signed-twice, sign_moves}
use Rattle.method.specs.Work.{Work, work, packed, at}
use Rattle.method.specs.Settings.{Settings, most_limit}
use Rattle.method.specs.Checks.{Refusal}
use Rattle.method.specs.Report.{none, settled, word_number}
use Rattle.method.specs.Lengths.{SameLengths}
use Rattle.method.proofs.Lengths.{walked_from-lengths}
use Rattle.method.specs.Outcome.{Outcome, outcome_of, card, accepted}
use Rattle.method.specs.Outcome.Reports.{at_limit}
use Rattle.method.proofs.Outcome.Reports.{card-le, accepted-settled}
use Rattle.method.proofs.Outcome.Calls.{limit_accepts}
use Rattle.method.specs.Order.{diagonal, ahead, new_place, old_positions, old_position, values_by, columns_moved, u_by}
use Rattle.method.specs.Order.{v_by}
use Rattle.method.proofs.Order.Places.{place-below, order-place}
use Rattle.method.specs.Order.Sizes.{LargestFirst}
use Rattle.method.proofs.Order.Sizes.{ahead-orders, positions_first, positions_unique}
use Rattle.method.proofs.Order.Columns.{length-rows_moved, moved, stays, moved_back}
use Rattle.method.specs.Ordered.{Ordered, ordered_of, ordered_refusal, put_in_order, ordered_outcome}
use Rattle.method.proofs.Ordered.Ways.{lent_passed, refused-before, ran_on, found_after, refused-after, put_in_order_lem}
use Rattle.method.proofs.Ordered.Numbers.{lent_none, Sorts}

accepted-lengths :
    (f : Format) (rows cols : ℕ) (s : Settings) (w : Work) → SameLengths w (accepted f true rows cols s w).held
unfolding accepted
accepted-lengths f rows cols s w = walked_from-lengths f (packed true rows cols) rows cols s w

-- ---- the list of values: of c entries it is written whole

module _ (c : ℕ) (q : ℕ → ℕ) (d : ℕ → Float) (l : List Float) (long : length l ≡ c) where
  pub values_by-length : length (values_by c q d l) ≡ c
  unfolding values_by
  values_by-length = length-writes (λ k. k) (λ k. magnitude (d (q k))) c l ∙ long

  pub values_by-at : (k : ℕ) → k < c → get_or (values_by c q d l) k nan ≡ magnitude (d (q k))
  unfolding values_by
  values_by-at k h = written (λ k. k) (λ k. magnitude (d (q k))) nan l c k h (λ i g. omega arith) (λ i j g m e. e)

module _ (f : Format) (rows cols : ℕ) (s : Settings) (w : Work) (l : List Float) where
  -- the run; c values; d, its diagonal; p k, the old position of value k; the new place of the old position i
  abbrev pub ran : Outcome
  ran = accepted f true rows cols s w

  abbrev pub c : ℕ
  c = card rows cols

  abbrev pub d : ℕ → Float
  d = diagonal cols ran.held.matrix

  abbrev pub p : ℕ → ℕ
  p = old_position c d

  abbrev pub place : ℕ → ℕ
  place = new_place c (ahead d)

  -- the list, U and V as the call leaves them
  abbrev pub values : List Float
  values = values_by c p d l

  abbrev pub new_u : List Float
  new_u = u_by rows c p d ran.held.u

  abbrev pub new_v : List Float
  new_v = v_by cols c p ran.held.v

  -- ---- a settled answer is the same at every greater allowed limit

  -- refused after the run or not, word and counts are the run's, and so is the matrix
  pub as_ran :
      let o = (put_in_order rows cols ran l).run in
      (o.report.word ≡ ran.report.word)
      × (o.report.tally ≡ ran.report.tally)
      × (o.held.matrix ≡ ran.held.matrix)
  as_ran = go (eqb (found_after rows cols ran l).number 0) refl
    where
      go :
          (b : Bool) → eqb (found_after rows cols ran l).number 0 ≡ b →
          let o = (put_in_order rows cols ran l).run in
          (o.report.word ≡ ran.report.word)
          × (o.report.tally ≡ ran.report.tally)
          × (o.held.matrix ≡ ran.held.matrix)
      go true t = rw (put_in_order_lem rows cols ran l (eqb-true _ 0 t)) (refl, refl, refl)
      go false t = rw (refused-after rows cols ran l (eqb-false _ 0 t)) (refl, refl, refl)

  -- what settled was not refused before the run, and the run settled
  pub settled_ran :
      (ordered_outcome f rows cols s w l).run.report.word ≡ settled →
      ((ordered_refusal rows cols s w l).number ≡ 0) × (ran.report.word ≡ settled)
  settled_ran e = go (eqb (ordered_refusal rows cols s w l).number 0) refl
    where
      go :
          (b : Bool) → eqb (ordered_refusal rows cols s w l).number 0 ≡ b →
          ((ordered_refusal rows cols s w l).number ≡ 0) × (ran.report.word ≡ settled)
      go true t =
          let z = eqb-true _ 0 t in
          (z, sym as_ran.0 ∙ ap (λ (o : Ordered). o.run.report.word) (sym (ran_on rows cols s w l f z)) ∙ e)
      go false t =
          let q : none ≡ settled = rw (refused-before rows cols s w l f (eqb-false _ 0 t)) at e in
          absurd (let z : 0 ≡ 1 = ap word_number q in omega (arith, z))

  pub ordered-stays :
      (n : ℕ) → s.limit ≤ n → n ≤ most_limit →
      (ordered_outcome f rows cols s w l).run.report.word ≡ settled →
      ordered_outcome f rows cols (at_limit n s) w l ≡ ordered_outcome f rows cols s w l
  ordered-stays n more most e =
      let k = settled_ran e in
      let free = lent_none rows cols s w l k.0 in
      let free' =
      ap (λ (x : Refusal). x.number) (lent_passed rows cols (at_limit n s) w l refl free.0)
      ∙ limit_accepts true rows cols s w n most free.1 in
      ran_on rows cols (at_limit n s) w l f free'
      ∙ ap (λ (o : Outcome). put_in_order rows cols o l) (accepted-settled f true rows cols s w n more k.1)
      ∙ sym (ran_on rows cols s w l f k.0)

  module _ (a : Sorts rows cols s w l f) where
    -- ---- the outcome is these, with the run's matrix and its report
    pub in_order-outcome :
        ordered_outcome f rows cols s w l
        ≡ ordered_of (outcome_of ran.report (work ran.held.matrix new_u new_v)) values
    in_order-outcome = ran_on rows cols s w l f a.before ∙ put_in_order_lem rows cols ran l a.after

    u_square : length ran.held.u ≡ rows * rows
    u_square = (accepted-lengths f rows cols s w).u ∙ a.fits.u_length refl

    v_square : length ran.held.v ≡ cols * cols
    v_square = (accepted-lengths f rows cols s w).v ∙ a.fits.v_length refl

    -- ---- the order: largest first, each position once, equal ones by lower position; and no other list is so
    pub largest_first : LargestFirst c d (old_positions c d)
    largest_first = positions_first c d a.fine

    pub only_order : (q : List ℕ) → LargestFirst c d q → q ≡ old_positions c d
    only_order = positions_unique c d a.fine

    -- each old position i is the old position of the value at its new place
    pub place-in : (i : ℕ) → i < c → place i < c
    place-in = place-below c (ahead d) (ahead-orders c d a.fine)

    pub at-new_place : (i : ℕ) → i < c → p (place i) ≡ i
    at-new_place = order-place c (ahead d) (ahead-orders c d a.fine)

    -- ---- the list
    pub values_length : length values ≡ c
    values_length = values_by-length c p d l a.list

    pub value-at : (k : ℕ) → k < c → get_or values k nan ≡ magnitude (d (p k))
    value-at = values_by-at c p d l a.list

    -- a rearrangement: the magnitude of each diagonal entry stands at its new place
    pub value_of : (i : ℕ) → i < c → get_or values (place i) nan ≡ magnitude (d i)
    value_of i h = value-at (place i) (place-in i h) ∙ ap (λ (x : ℕ). magnitude (d x)) (at-new_place i h)

    -- largest first
    pub descending : (k m : ℕ) → k < m → m < c → lt (get_or values k nan) (get_or values m nan) ≡ false
    descending k m h g = rw (value-at k (omega arith), value-at m g) (largest_first.descending k m h g)

    -- equal ones keep their old order
    pub stable : (k m : ℕ) → k < m → m < c → eq (get_or values k nan) (get_or values m nan) ≡ true → p k < p m
    stable k m h g e = largest_first.stable k m h g (rw (value-at k (omega arith), value-at m g) at e)

    -- ---- U and V, entry by entry
    pub u_at : (i k : ℕ) → i < rows → k < c → at rows i k new_u ≡ signed (d (p k)) (at rows i (p k) ran.held.u)
    u_at i k h g =
        moved rows c (card-le rows cols).0 p (λ k x. signed (d (p k)) x) ran.held.u u_square i k h g

    pub v_at : (j k : ℕ) → j < cols → k < c → at cols j k new_v ≡ at cols j (p k) ran.held.v
    v_at j k h g = moved cols c (card-le rows cols).1 p (λ k x. x) ran.held.v v_square j k h g

    -- columns from c on stay
    pub u_stays : (i k : ℕ) → i < rows → c ≤ k → k < rows → at rows i k new_u ≡ at rows i k ran.held.u
    u_stays = stays rows c (card-le rows cols).0 p (λ k x. signed (d (p k)) x) ran.held.u u_square

    pub v_stays : (j k : ℕ) → j < cols → c ≤ k → k < cols → at cols j k new_v ≡ at cols j k ran.held.v
    v_stays = stays cols c (card-le rows cols).1 p (λ k x. x) ran.held.v v_square

    pub u_length : length new_u ≡ rows * rows
    u_length =
        length-rows_moved rows c (card-le rows cols).0 p (λ k x. signed (d (p k)) x) ran.held.u rows ∙ u_square

    pub v_length : length new_v ≡ cols * cols
    v_length = length-rows_moved cols c (card-le rows cols).1 p (λ k x. x) ran.held.v cols ∙ v_square

    -- ---- undone: the columns moved back to their old positions, with their signs, are the run's
    pub u_back : columns_moved rows c place (λ i x. signed (d i) x) new_u ≡ ran.held.u
    u_back =
        moved_back rows c (card-le rows cols).0 ran.held.u u_square p place (λ k x. signed (d (p k)) x)
        (λ i x. signed (d i) x) place-in at-new_place
        (λ i x h. ap (λ (z : ℕ). signed (d i) (signed (d z) x)) (at-new_place i h) ∙ signed-twice (d i) x)

    pub v_back : columns_moved cols c place (λ i x. x) new_v ≡ ran.held.v
    v_back =
        moved_back cols c (card-le rows cols).1 ran.held.v v_square p place (λ k x. x) (λ i x. x) place-in
        at-new_place (λ i x h. refl)

    -- ---- the product is untouched, to the bit, in every format
    pub product :
        (g : Format) (i j k : ℕ) → i < rows → j < cols → k < c →
        mul g (mul g (at rows i k new_u) (get_or values k nan)) (at cols j k new_v)
        ≡ mul g (mul g (at rows i (p k) ran.held.u) (d (p k))) (at cols j (p k) ran.held.v)
    product g i j k h m n =
        rw (u_at i k h n, value-at k n, v_at j k m n, sign_moves g (at rows i (p k) ran.held.u) (d (p k))) refl
