-- What the ordered call owes, as theorems: on every input, of whatever its promise allows it to report and to leave in
-- what it was lent. It goes with the demands on the two calls beneath (svd's Demands). First the statements, then that
-- they hold of every answer, and what holds of two calls. They lean on the definition: `ordered_outcome`, `accepted`,
-- the lists `ordered_meanings` and `run_meanings` (method's Ordered, Outcome, Ordered.Numbers), and on what is said of
-- rows (method's Rows). Assumes nothing.
use Rattle.std.specs.Prelude.{◌≡◌, ◌↔◌, ◌⊎◌, true, false, List, ◌++◌, ℕ, ◌*◌, ◌≤◌, ◌<◌, length, get_or, Float}
use Rattle.std.proofs.Common.{sym, ap, ◌∙◌}
use Rattle.std.specs.Float.{nan, binary64}
use Rattle.std.specs.Float.Ieee.{lt, eq, mul}
use Rattle.method.specs.Floats.{magnitude, signed}
use Rattle.method.specs.Work.{Work, at}
use Rattle.method.specs.Settings.{most_limit}
use Rattle.method.specs.Checks.{nowhere, Refusal}
use Rattle.method.specs.Checks.First.{First}
use Rattle.method.specs.Checks.Readings.{FirstBad}
use Rattle.method.proofs.Checks.Table.{none-counted}
use Rattle.method.specs.Report as Report
use Rattle.method.specs.Report.{refused}
use Rattle.method.specs.Outcome.{Outcome, outcome_of, card, accepted}
use Rattle.method.specs.Outcome.Reports.{at_limit}
use Rattle.method.specs.Order.{diagonal, ahead, new_place, old_positions, old_position, columns_moved}
use Rattle.method.specs.Order.Sizes.{LargestFirst}
use Rattle.method.specs.Ordered.{ordered_of, refused_after, ordered_outcome}
use Rattle.method.specs.Ordered.Numbers.{ordered_meanings}
use Rattle.method.proofs.Ordered.Numbers.{after_meanings, ordered-numbers, sorts}
use Rattle.method.proofs.Ordered.Laws as Laws
use Rattle.method.specs.Rows.{Side, size_of, row_at, OwnRows, ZeroRow, exchanged}
use Rattle.method.proofs.Rows.Ordered.{orders_own, orders_zero, orders_exchanged}
use Rattle.checks.specs.declared.settings.Settings.{Settings}
use Rattle.checks.specs.Values.{settings_of}
use Rattle.svd.specs.Values.{Answer, report_of}
use Rattle.svd.specs.Demands.{Allowed}
use Rattle.order.specs.Values.{OrderedAnswer, ordered_report}
use Rattle.order.specs.Answers.{ordered_report_one}
use Rattle.order.specs.Told.{reports_of, lists_of, values_of, told-number, told-place, told-before, told-after}
use Rattle.order.specs.Told.{told-run}
use Rattle.order.specs.Told as Told

-- On rows, cols, settings s, the lists w₀ and the list of values l₀ the call may report r and leave the lists w and the
-- values l: the promise of `ordered_svd_decomposition`, as it stands on it.
pub record OrderedAllowed (rows cols : ℕ) (s : Settings) (w₀ : Work) (l₀ : List Float) (r : OrderedAnswer) (w : Work)
    (l : List Float) : Type 0 where
  pub promise : ordered_of (outcome_of (ordered_report r) w) l ≡ ordered_outcome binary64 rows cols (settings_of s) w₀ l₀

module _ (rows cols : ℕ) (s : Settings) (w₀ : Work) where
  -- the accumulating run; its diagonal; the old position of value k, and the new place of old position i
  abbrev pub ran : Outcome
  ran = accepted binary64 true rows cols (settings_of s) w₀

  abbrev pub d : ℕ → Float
  d = diagonal cols ran.held.matrix

  abbrev pub p : ℕ → ℕ
  p = old_position (card rows cols) d

  abbrev pub place : ℕ → ℕ
  place = new_place (card rows cols) (ahead d)

module _ (rows cols : ℕ) (s : Settings) (w₀ : Work) (l₀ : List Float) (r : OrderedAnswer) (w : Work) (l : List Float) where
  -- ---- 1. what is unfit is refused, by number, in a fixed order, and nothing else is

  pub record Refuses : Type 0 where
    -- the number is that of the first condition that holds, of those before the run (1, 2, 3, 4, 5, 11, 6, 7, 8) and
    -- then of those after it (12, 13); 0 is answered exactly when none holds
    pub number :
        (k : ℕ) →
        ((ordered_report r).refusal.number ≡ k)
        ↔ First k
        (ordered_meanings rows cols (settings_of s) w₀ l₀ ++ after_meanings rows cols (settings_of s) w₀ l₀ binary64)
    -- with 8 go the row and the column of the first reading that is not finite, and how many are not; with every other
    -- number three zeros; so the count is 0 exactly when the number is not 8
    pub bad_reading : (ordered_report r).refusal.number ≡ 8 → FirstBad cols rows cols w₀.matrix ((ordered_report r).refusal.place)
    pub no_place : ¬ ((ordered_report r).refusal.number ≡ 8) → (ordered_report r).refusal.place ≡ nowhere
    pub none-bad : ((ordered_report r).refusal.place.bad ≡ 0) ↔ (¬ ((ordered_report r).refusal.number ≡ 8))
    -- a call refused before the run reports that alone, and writes nothing
    pub alone : ¬ ((ordered_report r).refusal.number ≡ 0) → (ordered_report r).refusal.number < 12 → ordered_report r ≡ refused (ordered_report r).refusal
    pub untouched : ¬ ((ordered_report r).refusal.number ≡ 0) → (ordered_report r).refusal.number < 12 → (w ≡ w₀) × (l ≡ l₀)
    -- a call refused after it, by 12 or 13, has the run's report but for the number, leaves matrix, U and V as the run
    -- has them, and the list of values as it was
    pub after :
        12 ≤ (ordered_report r).refusal.number →
        (ordered_report r ≡ refused_after (ordered_report r).refusal (ran rows cols s w₀).report)
        × (w ≡ (ran rows cols s w₀).held)
        × (l ≡ l₀)

  -- ---- 2. what is accepted is the accumulating run, in order

  pub record InOrder : Type 0 where
    -- the report is the run's, which settled; the matrix is left as the run has it
    pub report : ordered_report r ≡ (ran rows cols s w₀).report
    pub settled : (ordered_report r).word ≡ Report.settled
    pub matrix : w.matrix ≡ (ran rows cols s w₀).held.matrix
    -- the old positions, as values take them: each once, the larger magnitude first, equal ones by lower old position;
    -- and no other list of positions is so
    pub order : LargestFirst (card rows cols) (d rows cols s w₀) (old_positions (card rows cols) (d rows cols s w₀))
    pub only :
        (q : List ℕ) → LargestFirst (card rows cols) (d rows cols s w₀) q →
        q ≡ old_positions (card rows cols) (d rows cols s w₀)
    -- the list has c values: value k is the magnitude at old position p k,
    pub long : length l ≡ card rows cols
    pub value : (k : ℕ) → k < card rows cols → get_or l k nan ≡ magnitude (d rows cols s w₀ (p rows cols s w₀ k))
    -- and the magnitude at old position i is the value at its new place: a rearrangement
    pub rearranged :
        (i : ℕ) → i < card rows cols →
        (place rows cols s w₀ i < card rows cols)
        × (p rows cols s w₀ (place rows cols s w₀ i) ≡ i)
        × (get_or l (place rows cols s w₀ i) nan ≡ magnitude (d rows cols s w₀ i))
    -- largest first, and equal ones in their old order
    pub descending : (k m : ℕ) → k < m → m < card rows cols → lt (get_or l k nan) (get_or l m nan) ≡ false
    pub stable :
        (k m : ℕ) → k < m → m < card rows cols → eq (get_or l k nan) (get_or l m nan) ≡ true →
        p rows cols s w₀ k < p rows cols s w₀ m
    -- column k of U is column p k of the run's, negated where that value has its sign bit set; of V, as it is
    pub u_column :
        (i k : ℕ) → i < rows → k < card rows cols →
        at rows i k w.u
        ≡ signed (d rows cols s w₀ (p rows cols s w₀ k)) (at rows i (p rows cols s w₀ k) (ran rows cols s w₀).held.u)
    pub v_column :
        (j k : ℕ) → j < cols → k < card rows cols →
        at cols j k w.v ≡ at cols j (p rows cols s w₀ k) (ran rows cols s w₀).held.v
    -- columns from c on stay
    pub u_stays :
        (i k : ℕ) → i < rows → card rows cols ≤ k → k < rows →
        at rows i k w.u ≡ at rows i k (ran rows cols s w₀).held.u
    pub v_stays :
        (j k : ℕ) → j < cols → card rows cols ≤ k → k < cols →
        at cols j k w.v ≡ at cols j k (ran rows cols s w₀).held.v
    pub lengths : (length w.u ≡ rows * rows) × (length w.v ≡ cols * cols)
    -- signs and moves undone, U and V are the run's
    pub u_back :
        columns_moved rows (card rows cols) (place rows cols s w₀) (λ i x. signed (d rows cols s w₀ i) x) w.u
        ≡ (ran rows cols s w₀).held.u
    pub v_back :
        columns_moved cols (card rows cols) (place rows cols s w₀) (λ i x. x) w.v ≡ (ran rows cols s w₀).held.v
    -- the product is untouched, to the bit
    pub product :
        (i j k : ℕ) → i < rows → j < cols → k < card rows cols →
        mul binary64 (mul binary64 (at rows i k w.u) (get_or l k nan)) (at cols j k w.v)
        ≡ mul binary64
        (mul binary64 (at rows i (p rows cols s w₀ k) (ran rows cols s w₀).held.u)
        (d rows cols s w₀ (p rows cols s w₀ k)))
        (at cols j (p rows cols s w₀ k) (ran rows cols s w₀).held.v)

-- ---- they hold of every answer

module _ {rows cols : ℕ} {s : Settings} {w₀ : Work} {l₀ : List Float} {r : OrderedAnswer} {w : Work} {l : List Float} where
  pub refuses : OrderedAllowed rows cols s w₀ l₀ r w l → Refuses rows cols s w₀ l₀ r w l
  refuses a =
      let number = told-number rows cols s w₀ l₀ r w l a.promise in
      let at = told-place rows cols s w₀ l₀ r w l a.promise in
      record {
        number = λ k. rw number (ordered-numbers rows cols (settings_of s) w₀ l₀ binary64 k);
        bad_reading = at.eight;
        none-bad = none-counted true rows cols (settings_of s) w₀ at;
        no_place = at.other;
        alone =
            λ h low.
            let q = reports_of (told-before rows cols s w₀ l₀ r w l a.promise h low) in
            q ∙ ap refused (sym (ap (λ (x : Report.Report). x.refusal) q));
        untouched =
            λ h low. let q = told-before rows cols s w₀ l₀ r w l a.promise h low in (lists_of q, values_of q);
        after =
            λ high.
            let q = told-after rows cols s w₀ l₀ r w l a.promise high in
            let e = ap (λ (x : Report.Report). x.refusal) (reports_of q) in
            let run = (ran rows cols s w₀).report in
            (reports_of q ∙ ap (λ (x : Refusal). refused_after x run) (sym e), lists_of q, values_of q);
      }

  pub in_order :
      OrderedAllowed rows cols s w₀ l₀ r w l → (ordered_report r).refusal.number ≡ 0 → InOrder rows cols s w₀ l₀ r w l
  in_order a e =
      let none = sym (told-number rows cols s w₀ l₀ r w l a.promise) ∙ e in
      let k = sorts rows cols (settings_of s) w₀ l₀ binary64 none in
      let q = a.promise ∙ Laws.in_order-outcome binary64 rows cols (settings_of s) w₀ l₀ k in
      let values = values_of q in
      let u = ap (λ (x : Work). x.u) (lists_of q) in
      let v = ap (λ (x : Work). x.v) (lists_of q) in
      record {
        report = reports_of q;
        settled = ap (λ (x : Report.Report). x.word) (reports_of q) ∙ k.settles;
        matrix = ap (λ (x : Work). x.matrix) (lists_of q);
        order = Laws.largest_first binary64 rows cols (settings_of s) w₀ l₀ k;
        only = Laws.only_order binary64 rows cols (settings_of s) w₀ l₀ k;
        long = rw values (Laws.values_length binary64 rows cols (settings_of s) w₀ l₀ k);
        value = rw values (Laws.value-at binary64 rows cols (settings_of s) w₀ l₀ k);
        rearranged =
            λ i h. (
              Laws.place-in binary64 rows cols (settings_of s) w₀ l₀ k i h,
              Laws.at-new_place binary64 rows cols (settings_of s) w₀ l₀ k i h,
              rw values (Laws.value_of binary64 rows cols (settings_of s) w₀ l₀ k i h),
            );
        descending = rw values (Laws.descending binary64 rows cols (settings_of s) w₀ l₀ k);
        stable = rw values (Laws.stable binary64 rows cols (settings_of s) w₀ l₀ k);
        u_column = rw u (Laws.u_at binary64 rows cols (settings_of s) w₀ l₀ k);
        v_column = rw v (Laws.v_at binary64 rows cols (settings_of s) w₀ l₀ k);
        u_stays = rw u (Laws.u_stays binary64 rows cols (settings_of s) w₀ l₀ k);
        v_stays = rw v (Laws.v_stays binary64 rows cols (settings_of s) w₀ l₀ k);
        lengths = (
          rw u (Laws.u_length binary64 rows cols (settings_of s) w₀ l₀ k),
          rw v (Laws.v_length binary64 rows cols (settings_of s) w₀ l₀ k),
        );
        u_back = rw u (Laws.u_back binary64 rows cols (settings_of s) w₀ l₀ k);
        v_back = rw v (Laws.v_back binary64 rows cols (settings_of s) w₀ l₀ k);
        product = rw (u, v, values) (Laws.product binary64 rows cols (settings_of s) w₀ l₀ k binary64);
      }

-- ---- two calls

-- Where the run was made, whether it was refused after it (12, 13) or not, word, counts and matrix are those of the
-- accumulating call on the same input: all that the third demand says of its report holds of this one.
pub as_full :
    {rows cols : ℕ} {s : Settings} {w₀ w w' : Work} {l₀ l : List Float} {r : OrderedAnswer} {r' : Answer} →
    OrderedAllowed rows cols s w₀ l₀ r w l →
    Allowed true rows cols s w₀ r' w' →
    ((ordered_report r).refusal.number ≡ 0) ⊎ (12 ≤ (ordered_report r).refusal.number) →
    ((ordered_report r).word ≡ (report_of r').word)
    × ((ordered_report r).tally ≡ (report_of r').tally)
    × (w.matrix ≡ w'.matrix)
as_full {rows} {cols} {s} {w₀} {w} {w'} {l₀} {l} {r} {r'} a a' =
    Told.as_full rows cols s w₀ l₀ r w l a.promise r' w' a'.promise

-- a settled answer is, list, U and V included, the same answer at every greater allowed limit n, all else equal
pub settled_in_order :
    {rows cols n : ℕ} {s s' : Settings} {w₀ w w' : Work} {l₀ l l' : List Float} {r r' : OrderedAnswer} →
    OrderedAllowed rows cols s w₀ l₀ r w l →
    OrderedAllowed rows cols s' w₀ l₀ r' w' l' →
    settings_of s' ≡ at_limit n (settings_of s) →
    s.limit ≤ n →
    n ≤ most_limit →
    (ordered_report r).word ≡ Report.settled →
    (r' ≡ r) × (w' ≡ w) × (l' ≡ l)
settled_in_order {rows} {cols} {n} {s} {s'} {w₀} {w} {w'} {l₀} {l} {l'} {r} {r'} a a' g more most e =
    let p = a.promise in
    let word = ap (λ (x : Report.Report). x.word) (sym (reports_of p)) ∙ e in
    let same = Laws.ordered-stays binary64 rows cols (settings_of s) w₀ l₀ n more most word in
    let q = rw g at a'.promise ∙ same ∙ sym p in
    (ordered_report_one r' r (reports_of q), lists_of q, values_of q)

-- ---- each station keeps its own row, and each pass: wherever the run was made (0, 12, 13)

-- Two calls with equal sizes, readings and settings: report and matrix are equal, and so is the list, where it is
-- written; where row i of the one U began as row j of the other, it ended as that one did, however the other rows and V
-- began. The same for V.
pub own_rows_in_order :
    {rows cols : ℕ} {s : Settings} {w₀ w₀' w w' : Work} {l₀ l₀' l l' : List Float} {r r' : OrderedAnswer} →
    OrderedAllowed rows cols s w₀ l₀ r w l →
    OrderedAllowed rows cols s w₀' l₀' r' w' l' →
    w₀.matrix ≡ w₀'.matrix →
    ((ordered_report r).refusal.number ≡ 0) ⊎ (12 ≤ (ordered_report r).refusal.number) →
    ((ordered_report r').refusal.number ≡ 0) ⊎ (12 ≤ (ordered_report r').refusal.number) →
    (r ≡ r') × OwnRows rows cols w₀ w₀' w w' × ((ordered_report r).refusal.number ≡ 0 → l ≡ l')
own_rows_in_order {rows} {cols} {s} {w₀} {w₀'} {w} {w'} {l₀} {l₀'} {l} {l'} {r} {r'} a a' m made made' =
    let p = a.promise in
    let p' = a'.promise in
    let e = told-run rows cols s w₀ l₀ r w l p made in
    let e' = told-run rows cols s w₀' l₀' r' w' l' p' made' in
    let k = orders_own binary64 rows cols (settings_of s) w₀ w₀' l₀ l₀' e e' m in (
      ordered_report_one r r' (reports_of p ∙ k.report ∙ sym (reports_of p')),
      rw (lists_of p, lists_of p') k.held,
      λ z.
          let none = ap (λ (x : Report.Report). x.refusal.number) (sym (reports_of p)) ∙ z in
          values_of p ∙ k.values none ∙ sym (values_of p'),
    )

-- a row of zeros, of either sign, and NaNs stays one
pub zero_row_in_order :
    {rows cols : ℕ} {s : Settings} {w₀ w : Work} {l₀ l : List Float} {r : OrderedAnswer} →
    OrderedAllowed rows cols s w₀ l₀ r w l →
    ((ordered_report r).refusal.number ≡ 0) ⊎ (12 ≤ (ordered_report r).refusal.number) →
    (side : Side) (i : ℕ) →
    i < size_of side rows cols →
    ZeroRow (row_at side rows cols i w₀) →
    ZeroRow (row_at side rows cols i w)
zero_row_in_order {rows} {cols} {s} {w₀} {w} {l₀} {l} {r} a made side i h z =
    rw (lists_of a.promise)
    (orders_zero binary64 rows cols (settings_of s) w₀ l₀ (told-run rows cols s w₀ l₀ r w l a.promise made) side i h z)

-- Two stations' starting rows exchanged: the second call has the same report and list, their final rows are exchanged,
-- and nothing else changes. The same for two passes.
pub rows_exchanged_in_order :
    {rows cols : ℕ} {s : Settings} {w₀ w w' : Work} {l₀ l l' : List Float} {r r' : OrderedAnswer} (side : Side) (i j : ℕ) →
    OrderedAllowed rows cols s w₀ l₀ r w l →
    OrderedAllowed rows cols s (exchanged side rows cols i j w₀) l₀ r' w' l' →
    ((ordered_report r).refusal.number ≡ 0) ⊎ (12 ≤ (ordered_report r).refusal.number) →
    i < size_of side rows cols →
    j < size_of side rows cols →
    (r' ≡ r) × (w' ≡ exchanged side rows cols i j w) × (l' ≡ l)
rows_exchanged_in_order {rows} {cols} {s} {w₀} {w} {w'} {l₀} {l} {l'} {r} {r'} side i j a a' made h g =
    let p = a.promise in
    let e = told-run rows cols s w₀ l₀ r w l p made in
    let q = a'.promise ∙ orders_exchanged binary64 rows cols (settings_of s) w₀ l₀ e side i j h g in (
      ordered_report_one r' r (reports_of q ∙ sym (reports_of p)),
      lists_of q ∙ ap (exchanged side rows cols i j) (sym (lists_of p)),
      values_of q ∙ sym (values_of p),
    )
