-- For the proofs of the two functions of the call: what each way out answers, over plain values. Assumes nothing.
use Rattle.std.specs.Prelude.{◌≡◌, refl, true, false, List, ℕ, ◌≤◌, length, take, Float}
use Rattle.std.proofs.Common.{sym, ap, ◌∙◌, inl, inr, mul-le-mul_right, le_of_eq, le_trans, get_or-take, arith}
use Rattle.std.specs.Float.{binary64}
use Rattle.method.specs.Work.{Work, work}
use Rattle.method.specs.Lengths.{SameLengths}
use Rattle.method.proofs.Lengths.{outcome-lengths}
use Rattle.method.specs.Settings.{Settings, most_size}
use Rattle.method.specs.Checks.{Refusal, first_of, refusal_of}
use Rattle.method.proofs.Checks.Tests.{few, equal}
use Rattle.method.specs.Report.{Report, refused}
use Rattle.method.specs.Outcome.{Outcome, outcome_of, card, full_outcome}
use Rattle.method.proofs.Outcome.Refused.{refused-outcome, accepted-outcome, outcome-number}
use Rattle.method.proofs.Outcome.Reports.{card-le}
use Rattle.method.specs.Order.{diagonal, old_positions, values_by, columns_moved}
use Rattle.method.specs.Order.Sizes.{Finite}
use Rattle.method.proofs.Order.Sizes.{positions_first}
use Rattle.method.specs.Ordered.{Ordered, ordered_of, lent_checks, ordered_refusal, run_checks, refused_after, put_in_order}
use Rattle.method.specs.Ordered.{ordered_outcome}
use Rattle.method.proofs.Ordered.Ways.{lent_refused, lent_passed, refused-before, ran_on, refused-after, put_in_order_lem}
use Rattle.method.proofs.Ordered.Numbers.{lent_fit, run-fine}
use Rattle.checks.specs.Refused.{refused_some}
use Rattle.order.specs.declared.ordered.Unordered.{Unordered}
use Rattle.order.specs.declared.ordered.Unordered.TheVariants.{Refused, NotSettled, NotFinite}
use Rattle.order.specs.Values.{unordered_report}
use Rattle.order.specs.Room.{Room, Within, Fits, listed, signs_by, Moved, in_order, in_order_by}

-- ---- sizes and room

-- c values of a table whose lists fit: its diagonal lies in it, and c is small
pub record Ready (rows cols c : ℕ) (b l : List Float) : Type 0 where
  pub room : Room cols c b
  pub in_rows : c ≤ rows
  pub in_cols : c ≤ cols
  pub in_list : c ≤ length l
  pub few : c ≤ most_size

pub ready :
    (rows cols c : ℕ) (w : Work) (l : List Float) → c ≡ card rows cols → Fits rows cols w l →
    Ready rows cols c w.matrix l
ready rows cols c w l e f =
    let less = card-le rows cols in
    record {
      room =
          record {
            wide = f.cols_few;
            narrow = rw e less.1;
            long = rw (f.matrix, e) (mul-le-mul_right cols less.0);
          };
      in_rows = rw e less.0;
      in_cols = rw e less.1;
      in_list = le_of_eq (e ∙ sym f.list);
      few = le_trans (rw e less.0) f.rows_few;
    }

pub within :
    (c : ℕ) (d : ℕ → Float) (p : List ℕ) → Finite c d → c ≤ length p → take c p ≡ old_positions c d → Within c p
within c d p fine long e =
    record {
      long = long;
      within = λ k h. rw (← get_or-take c p k 0 h, e) ((positions_first c d fine).within k h);
    }

-- both, of the list that `positions` leaves
pub moving :
    (rows cols c : ℕ) (w : Work) (l : List Float) (p : List ℕ) → c ≡ card rows cols → Fits rows cols w l →
    Finite c (diagonal cols w.matrix) → length p ≡ most_size → take c p ≡ old_positions c (diagonal cols w.matrix) →
    Ready rows cols c w.matrix l × Within c p
moving rows cols c w l p e f fine long o =
    let r = ready rows cols c w l e f in
    (r, within c (diagonal cols w.matrix) p fine (le_trans r.few (le_of_eq (sym long))) o)

-- ---- a run's lists put in order

module _ (rows cols c : ℕ) (report : Report) (w : Work) (l : List Float) (e : c ≡ card rows cols) {r : Refusal}
    (q : r ≡ first_of (run_checks c (diagonal cols w.matrix) report.word)) where
  -- the refusal is that of the definition
  found : r ≡ first_of (run_checks (card rows cols) (diagonal cols w.matrix) report.word)
  found = rw e at q

  pub way_after :
      (told : Report) → ¬ (r.number ≡ 0) → told ≡ refused_after r report →
      ordered_of (outcome_of told w) l ≡ put_in_order rows cols (outcome_of report w) l
  way_after told h t =
      rw (t, found)
      (sym (refused-after rows cols (outcome_of report w) l (λ z. h (ap (λ (x : Refusal). x.number) found ∙ z))))

  module _ (z : r.number ≡ 0) where
    pub fine : Finite c (diagonal cols w.matrix)
    fine = (run-fine c (diagonal cols w.matrix) report.word (ap (λ (x : Refusal). x.number) (sym q) ∙ z)).1

    pub way_put :
        (u v l' : List Float) →
        in_order (work w.matrix u v) l' ≡ in_order_by rows cols c w l (old_positions c (diagonal cols w.matrix)) →
        ordered_of (outcome_of report (work w.matrix u v)) l' ≡ put_in_order rows cols (outcome_of report w) l
    way_put u v l' m =
        let d = diagonal cols w.matrix in
        let told : Moved → Ordered = λ x. ordered_of (outcome_of report x.held) x.values in
        ap told m
        ∙ ap (λ (n : ℕ). told (in_order_by rows cols n w l (old_positions n d))) e
        ∙ sym (put_in_order_lem rows cols (outcome_of report w) l (ap (λ (x : Refusal). x.number) (sym found) ∙ z))

-- the four steps, one after the other, by the list that the first leaves
pub way_moved :
    (rows cols c : ℕ) (w : Work) (l : List Float) (p : List ℕ) (u v l' : List Float) →
    take c p ≡ old_positions c (diagonal cols w.matrix) →
    l' ≡ values_by c (listed c p) (diagonal cols w.matrix) l →
    u ≡ columns_moved rows c (listed c p) (signs_by true cols c p w.matrix) w.u →
    v ≡ columns_moved cols c (listed c p) (signs_by false cols c p w.matrix) w.v →
    in_order (work w.matrix u v) l' ≡ in_order_by rows cols c w l (old_positions c (diagonal cols w.matrix))
way_moved rows cols c w l p u v l' o el eu ev = rw (el, eu, ev) (ap (in_order_by rows cols c w l) o)

-- ---- the call

module _ (rows cols : ℕ) (s : Settings) (w : Work) (l : List Float) {r : Refusal}
    (e : r ≡ first_of (lent_checks rows cols w l)) where
  -- refused for what is lent
  pub way_lent :
      (report : Report) → ¬ (r.number ≡ 0) → report ≡ refused r →
      ordered_of (outcome_of report w) l ≡ ordered_outcome binary64 rows cols s w l
  way_lent report h q =
      let d = lent_refused rows cols s w l e h in
      rw (q, d) (sym (refused-before rows cols s w l binary64 (λ z. h (ap (λ (x : Refusal). x.number) d ∙ z))))

  module _ (z : r.number ≡ 0) (report : Report) (w' : Work)
      (run : outcome_of report w' ≡ full_outcome binary64 rows cols s w) where
    -- the refusal is the accumulating call's, and so is its number
    same : ordered_refusal rows cols s w l ≡ refusal_of true rows cols s w
    same = lent_passed rows cols s w l e z

    number : report.refusal.number ≡ (refusal_of true rows cols s w).number
    number =
        ap (λ (o : Outcome). o.report.refusal.number) run ∙ outcome-number binary64 true rows cols s w

    -- refused by the call beneath
    pub way_refused :
        ¬ (report.refusal.number ≡ 0) →
        ordered_of (outcome_of report w') l ≡ ordered_outcome binary64 rows cols s w l
    way_refused h =
        let some : ¬ ((refusal_of true rows cols s w).number ≡ 0) = λ x. h (number ∙ x) in
        ap (λ (o : Outcome). ordered_of o l) (run ∙ refused-outcome binary64 true rows cols s w some)
        ∙ ap (λ (x : Refusal). ordered_of (outcome_of (refused x) w) l) (sym same)
        ∙ sym
        (refused-before rows cols s w l binary64 (λ x. some (ap (λ (y : Refusal). y.number) (sym same) ∙ x)))

    -- or put in order
    pub way_ordered :
        (report' : Report) (w'' : Work) (l' : List Float) → report.refusal.number ≡ 0 →
        ordered_of (outcome_of report' w'') l' ≡ put_in_order rows cols (outcome_of report w') l →
        ordered_of (outcome_of report' w'') l' ≡ ordered_outcome binary64 rows cols s w l
    way_ordered report' w'' l' n q =
        let none : (refusal_of true rows cols s w).number ≡ 0 = sym number ∙ n in
        q
        ∙ ap (λ (o : Outcome). put_in_order rows cols o l) (run ∙ accepted-outcome binary64 true rows cols s w none)
        ∙ sym (ran_on rows cols s w l binary64 (ap (λ (y : Refusal). y.number) same ∙ none))

    -- the lengths are those of before
    pub way_fits : Fits rows cols w' l
    way_fits =
        let f = lent_fit rows cols w l (ap (λ (x : Refusal). x.number) (sym e) ∙ z) in
        let k : SameLengths w w' =
        rw (← ap (λ (o : Outcome). o.held) run) at (outcome-lengths binary64 true rows cols s w) in
        record {
          rows_few = few most_size rows (λ x. f.sizes.1.0 (inl x));
          cols_few = few most_size cols (λ x. f.sizes.1.0 (inr x));
          matrix = k.matrix ∙ equal _ _ f.lengths.0;
          u = k.u ∙ equal _ _ (λ n. f.lengths.1.0 (refl, n));
          v = k.v ∙ equal _ _ (λ n. f.lengths.1.1.0 (refl, n));
          list = f.list;
        }

-- ---- why a run has no order

-- every reason has a number
pub unordered_some : (e : Unordered) → ¬ ((unordered_report e).refusal.number ≡ 0)
unordered_some (Refused e) z = refused_some e z
unordered_some (NotSettled r) z = omega (arith, z)
unordered_some (NotFinite r) z = omega (arith, z)
