-- When the ordered call answers each number, before the run and after it; the place that 8 carries; and what an
-- acceptance tells. Assumes nothing.
use Rattle.std.specs.Prelude.{◌≡◌, refl, ◌↔◌, Bool, true, false, ◌&&◌, List, [], ◌∷◌, ◌++◌, ℕ, zero, suc, ◌+◌, ◌<◌, ◌≤◌, eqb, length, Float}
use Rattle.std.proofs.Common.{sym, ap, ◌∙◌, ⊎_elim, not-suc-le-zero, add-one, arith, eqb-true, le-leb}
use Rattle.std.proofs.lemmas.Bool.{false≢true, eqb-false, lt-leb}
use Rattle.std.specs.Float.{Format}
use Rattle.std.specs.Float.Ieee.Scale.{finite}
use Rattle.method.proofs.Repeated.{repeated-none, repeated-next, repeated-suc}
use Rattle.method.specs.Work.{Work}
use Rattle.method.specs.Settings.{Settings}
use Rattle.method.specs.Checks.{nowhere, Check, Refusal, not_refused, first_of, refusal_of}
use Rattle.method.specs.Checks.Tests.{Says}
use Rattle.method.proofs.Checks.Tests.{same, nor, both, holds, equal}
use Rattle.method.specs.Checks.First.{Meaning, means}
use Rattle.method.proofs.Checks.First.{first-here, first-beyond, first_below, first-placeless}
use Rattle.method.specs.Checks.First.{Means, done, ◌⨾◌, First}
use Rattle.method.proofs.Checks.First.{means-join, first-means, none-join}
use Rattle.method.proofs.Checks.First.{none-refused}
use Rattle.method.specs.Checks.Table.{size_meanings, length_meanings}
use Rattle.method.proofs.Checks.Table.{size_tests, length-tests, setting_tests, reading-tests}
use Rattle.method.specs.Checks.Table.{Fit}
use Rattle.method.proofs.Checks.Table.{TruePlace, true_place, fit}
use Rattle.method.specs.Report.{Word, none, settled, stopped, quiet, is_settled, word_number}
use Rattle.method.specs.Outcome.{Outcome, card, accepted}
use Rattle.method.proofs.Outcome.Refused.{accepted-refusal, accepted-number}
use Rattle.method.specs.Order.{diagonal}
use Rattle.method.specs.Order.Sizes.{Finite}
use Rattle.method.specs.Ordered.{lent_checks, ordered_checks, ordered_refusal, all_finite, run_checks}
use Rattle.method.specs.Ordered.{Ordered, put_in_order, ordered_outcome}
use Rattle.method.proofs.Ordered.Ways.{lent_refused, lent_passed, refused-before, ran_on, found_after}
use Rattle.method.proofs.Ordered.Ways.{refused-after, put_in_order_lem}
use Rattle.method.specs.Ordered.Numbers.{LentFit, WrongList, lent_meanings, ordered_meanings, run_meanings}

-- ---- the tests

-- a turn of the search for an entry that is not finite
pub finite_none : (d : ℕ → Float) → true ≡ all_finite 0 d
unfolding all_finite
finite_none d = repeated-none 0 _ true

pub finite_next : (i : ℕ) (d : ℕ → Float) → all_finite (i + 1) d ≡ (all_finite i d && finite (d i))
unfolding all_finite
finite_next i d = repeated-next _ i true

-- the test says that all are finite
all_finite_lem : (c : ℕ) (d : ℕ → Float) → all_finite c d ≡ true → Finite c d
unfolding all_finite
all_finite_lem zero d e i h = absurd (not-suc-le-zero h)
all_finite_lem (suc c) d e i h = go (eqb i c) refl (all_finite_lem c d p.0 i)
  where
    p : (all_finite c d ≡ true) × (finite (d c) ≡ true)
    p = (both (holds (all_finite c d)) (holds (finite (d c)))).0 (sym (repeated-suc _ c true) ∙ e)

    go : (t : Bool) → eqb i c ≡ t → (i < c → finite (d i) ≡ true) → finite (d i) ≡ true
    go true t ih = rw (eqb-true i c t) p.1
    go false t ih = let n = eqb-false i c t in ih (omega arith)

finite_all : (c : ℕ) (d : ℕ → Float) → Finite c d → all_finite c d ≡ true
finite_all zero d h = sym (finite_none d)
finite_all (suc c) d h =
    ap (λ (n : ℕ). all_finite n d) (sym (add-one c))
    ∙ finite_next c d
    ∙ rw (finite_all c d (λ i g. h i (omega arith)), h c (omega arith)) refl

pub finite_says : (c : ℕ) (d : ℕ → Float) → Says (all_finite c d) (Finite c d)
finite_says c d = (all_finite_lem c d, finite_all c d)

pub settled_says : (w : Word) → Says (is_settled w) (w ≡ settled)
settled_says none = (λ e. absurd (false≢true e), λ e. absurd (let z : 0 ≡ 1 = ap word_number e in omega (arith, z)))
settled_says settled = (λ e. refl, λ e. refl)
settled_says stopped = (λ e. absurd (false≢true e), λ e. absurd (let z : 2 ≡ 1 = ap word_number e in omega (arith, z)))
settled_says quiet = (λ e. absurd (false≢true e), λ e. absurd (let z : 3 ≡ 1 = ap word_number e in omega (arith, z)))

-- the smaller of rows and columns is the columns where they are at most the rows, else the rows
pub card-cols : (rows cols : ℕ) → cols ≤ rows → cols ≡ card rows cols
card-cols rows cols h = rw (le-leb cols rows h) refl

pub card-rows : (rows cols : ℕ) → rows < cols → rows ≡ card rows cols
card-rows rows cols h = rw (lt-leb cols rows h) refl

-- ---- the table: each number with its condition, in the order in which they are looked at

run-tests : (c : ℕ) (d : ℕ → Float) (word : Word) → Means (run_checks c d word) (run_meanings c d word)
run-tests c d word = nor (settled_says word) ⨾ nor (finite_says c d) ⨾ done

-- they are numbers from 12 on,
pub run-late :
    (c : ℕ) (d : ℕ → Float) (word : Word) → ¬ ((first_of (run_checks c d word)).number ≡ 0) →
    12 ≤ (first_of (run_checks c d word)).number
run-late c d word h =
    ⊎_elim (λ x. omega (arith, x.1))
    (λ x. ⊎_elim (λ y. omega (arith, y.1)) (λ y. absurd (h y.1)) x.1)
    ((first-means (run-tests c d word) _).0 refl)

-- and carry no place
run-placeless :
    (c : ℕ) (d : ℕ → Float) (word : Word) →
    ((first_of (run_checks c d word)).place ≡ nowhere) × (¬ ((first_of (run_checks c d word)).number ≡ 8))
run-placeless c d word = first-placeless 8 (run_checks c d word) (omega arith) refl

-- what is not refused after the run settled, and is finite
pub run-fine :
    (c : ℕ) (d : ℕ → Float) (word : Word) → (first_of (run_checks c d word)).number ≡ 0 → (word ≡ settled) × Finite c d
run-fine c d word e =
    let n = (none-refused (run-tests c d word) refl).0 e in (
      (settled_says word).0 (decided (is_settled word) (λ q. n.0 (λ z. q ((settled_says word).1 z)))),
      (finite_says c d).0 (decided (all_finite c d) (λ q. n.1.0 (λ z. q ((finite_says c d).1 z)))),
    )
  where
    decided : (b : Bool) → ((b ≡ true → ⊥) → ⊥) → b ≡ true
    decided true h = refl
    decided false h = absurd (h (λ e. false≢true e))

pub lent_tests :
    (rows cols : ℕ) (w : Work) (l : List Float) → Means (lent_checks rows cols w l) (lent_meanings rows cols w l)
lent_tests rows cols w l =
    means-join (size_tests rows cols)
    (means-join (length-tests true rows cols w) (nor (same (length l) (card rows cols)) ⨾ done))

pub lent_fit :
    (rows cols : ℕ) (w : Work) (l : List Float) → (first_of (lent_checks rows cols w l)).number ≡ 0 →
    LentFit rows cols w l
lent_fit rows cols w l e =
    let eleven = means 11 (WrongList rows cols l) ∷ [] in
    let lengths = length_meanings true rows cols w in
    let n = (none-refused (lent_tests rows cols w l) refl).0 e in
    let p = (none-join (size_meanings rows cols) (lengths ++ eleven)).0 n in
    let q = (none-join lengths eleven).0 p.1 in
    record { sizes = p.0; lengths = q.0; list = equal (length l) (card rows cols) q.1.0 }

module _ (rows cols : ℕ) (s : Settings) (w : Work) (l : List Float) where
  ordered-tests : Means (ordered_checks rows cols s w l) (ordered_meanings rows cols s w l)
  ordered-tests =
      means-join (lent_tests rows cols w l) (means-join (setting_tests s) (reading-tests rows cols w.matrix))

  -- what the accumulating call, besides, would not refuse
  pub lent_none :
      (ordered_refusal rows cols s w l).number ≡ 0 →
      ((first_of (lent_checks rows cols w l)).number ≡ 0) × ((refusal_of true rows cols s w).number ≡ 0)
  lent_none e = go (eqb (first_of (lent_checks rows cols w l)).number 0) refl
    where
      go :
          (b : Bool) → eqb (first_of (lent_checks rows cols w l)).number 0 ≡ b →
          ((first_of (lent_checks rows cols w l)).number ≡ 0) × ((refusal_of true rows cols s w).number ≡ 0)
      go true t =
          let z = eqb-true _ 0 t in
          (z, ap (λ (x : Refusal). x.number) (sym (lent_passed rows cols s w l refl z)) ∙ e)
      go false t =
          let h = eqb-false _ 0 t in
          absurd (h (ap (λ (x : Refusal). x.number) (lent_refused rows cols s w l refl h) ∙ e))

  -- a refusal by 8 carries the place of the first bad reading and how many there are, any other answer zeros
  pub ordered-place : TruePlace true rows cols s w (ordered_refusal rows cols s w l)
  ordered-place = go (eqb (first_of (lent_checks rows cols w l)).number 0) refl
    where
      go :
          (b : Bool) → eqb (first_of (lent_checks rows cols w l)).number 0 ≡ b →
          TruePlace true rows cols s w (ordered_refusal rows cols s w l)
      go true t = rw (lent_passed rows cols s w l refl (eqb-true _ 0 t)) (true_place true rows cols s w)
      go false t =
          let q = first-placeless 8 (lent_checks rows cols w l) (omega arith) refl in
          rw (← lent_refused rows cols s w l refl (eqb-false _ 0 t))
          record { eight = λ z. absurd (q.1 z); other = λ h. q.0 }

  -- ---- the number

  module _ (f : Format) where
    -- what the accumulating run leaves
    abbrev pub ran : Outcome
    ran = accepted f true rows cols s w

    -- what is checked after it, and what that means
    abbrev pub after_checks : List Check
    after_checks = run_checks (card rows cols) (diagonal cols ran.held.matrix) ran.report.word

    abbrev pub after_meanings : List Meaning
    after_meanings = run_meanings (card rows cols) (diagonal cols ran.held.matrix) ran.report.word

    pub after-tests : Means after_checks after_meanings
    after-tests = run-tests (card rows cols) (diagonal cols ran.held.matrix) ran.report.word

    all_tests : Means (ordered_checks rows cols s w l ++ after_checks) (ordered_meanings rows cols s w l ++ after_meanings)
    all_tests = means-join ordered-tests after-tests

    -- the number that is put on a run's report is that of the first check after it
    after-number : (put_in_order rows cols ran l).run.report.refusal.number ≡ (found_after rows cols ran l).number
    after-number = go (eqb (found_after rows cols ran l).number 0) refl
      where
        go :
            (b : Bool) → eqb (found_after rows cols ran l).number 0 ≡ b →
            (put_in_order rows cols ran l).run.report.refusal.number ≡ (found_after rows cols ran l).number
        go true t =
            let e = eqb-true _ 0 t in
            rw (put_in_order_lem rows cols ran l e) (accepted-number f true rows cols s w ∙ sym e)
        go false t = rw (refused-after rows cols ran l (eqb-false _ 0 t)) refl

    -- the number that the call answers is that of the first of all checks, before and after
    pub ordered-number :
        (ordered_outcome f rows cols s w l).run.report.refusal.number
        ≡ (first_of (ordered_checks rows cols s w l ++ after_checks)).number
    ordered-number = go (eqb (ordered_refusal rows cols s w l).number 0) refl
      where
        go :
            (b : Bool) → eqb (ordered_refusal rows cols s w l).number 0 ≡ b →
            (ordered_outcome f rows cols s w l).run.report.refusal.number
            ≡ (first_of (ordered_checks rows cols s w l ++ after_checks)).number
        go true t =
            let e = eqb-true _ 0 t in
            rw (ran_on rows cols s w l f e)
            (after-number
            ∙ ap (λ (x : Refusal). x.number) (first-beyond (ordered_checks rows cols s w l) after_checks refl refl e refl))
        go false t =
            let h = eqb-false _ 0 t in
            rw (refused-before rows cols s w l f h)
            (ap (λ (x : Refusal). x.number) (first-here (ordered_checks rows cols s w l) after_checks refl refl h))

    -- The number that the call answers is k exactly when k is the number of the first condition that holds, of those
    -- before the run and then of those after it, or when k is 0 and none holds.
    pub ordered-numbers :
        (k : ℕ) →
        ((ordered_outcome f rows cols s w l).run.report.refusal.number ≡ k)
        ↔ First k (ordered_meanings rows cols s w l ++ after_meanings)
    ordered-numbers k = rw ordered-number (first-means all_tests k)

    -- ---- before the run or after it

    -- the number of the answer, as one name
    abbrev pub answers : ℕ
    answers = (ordered_outcome f rows cols s w l).run.report.refusal.number

    before-number : ¬ ((ordered_refusal rows cols s w l).number ≡ 0) → answers ≡ (ordered_refusal rows cols s w l).number
    before-number h = ap (λ (o : Ordered). o.run.report.refusal.number) (refused-before rows cols s w l f h)

    ran-number : (ordered_refusal rows cols s w l).number ≡ 0 → answers ≡ (found_after rows cols ran l).number
    ran-number e = ap (λ (o : Ordered). o.run.report.refusal.number) (ran_on rows cols s w l f e) ∙ after-number

    -- a number below 12 was given before the run,
    pub ordered-before : ¬ (answers ≡ 0) → answers < 12 → ¬ ((ordered_refusal rows cols s w l).number ≡ 0)
    ordered-before h low e =
        let n = ran-number e in
        let late =
        run-late (card rows cols) (diagonal cols ran.held.matrix) ran.report.word (λ z. h (n ∙ z)) in
        omega (arith, low, n, late)

    -- any other after it
    pub ordered-after : 12 ≤ answers → (ordered_refusal rows cols s w l).number ≡ 0
    ordered-after high = go (eqb (ordered_refusal rows cols s w l).number 0) refl
      where
        go :
            (b : Bool) → eqb (ordered_refusal rows cols s w l).number 0 ≡ b →
            (ordered_refusal rows cols s w l).number ≡ 0
        go true t = eqb-true _ 0 t
        go false t =
            absurd
            (omega
            (arith, high, before-number (eqb-false _ 0 t), first_below 12 (ordered_checks rows cols s w l) refl))

    pub ordered-found : 12 ≤ answers → ¬ ((found_after rows cols ran l).number ≡ 0)
    ordered-found high e = omega (arith, high, ran-number (ordered-after high), e)

    -- the place of the answer
    pub answer-place : TruePlace true rows cols s w (ordered_outcome f rows cols s w l).run.report.refusal
    answer-place =
        go (eqb (ordered_refusal rows cols s w l).number 0) refl (eqb (found_after rows cols ran l).number 0) refl
      where
        none-placed : TruePlace true rows cols s w (not_refused)
        none-placed = record { eight = λ z. absurd (omega (arith, z)); other = λ h. refl }

        go :
            (b : Bool) → eqb (ordered_refusal rows cols s w l).number 0 ≡ b →
            (b' : Bool) → eqb (found_after rows cols ran l).number 0 ≡ b' →
            TruePlace true rows cols s w (ordered_outcome f rows cols s w l).run.report.refusal
        go true t true t' =
            rw (
              ran_on rows cols s w l f (eqb-true _ 0 t),
              put_in_order_lem rows cols ran l (eqb-true _ 0 t'),
              accepted-refusal f true rows cols s w,
            )
            none-placed
        go true t false t' =
            let q = run-placeless (card rows cols) (diagonal cols ran.held.matrix) ran.report.word in
            rw (ran_on rows cols s w l f (eqb-true _ 0 t), refused-after rows cols ran l (eqb-false _ 0 t'))
            record { eight = λ z. absurd (q.1 z); other = λ h. q.0 }
        go false t b' t' = rw (refused-before rows cols s w l f (eqb-false _ 0 t)) ordered-place

    -- ---- what an acceptance tells

    pub record Sorts : Type 0 where
      -- the accumulating call accepts what is lent, and the list has c entries
      pub fits : Fit true rows cols s w
      pub list : length l ≡ card rows cols
      -- its run settled, and left a finite diagonal
      pub settles : ran.report.word ≡ settled
      pub fine : Finite (card rows cols) (diagonal cols ran.held.matrix)
      -- so nothing was refused, before or after
      pub before : (ordered_refusal rows cols s w l).number ≡ 0
      pub after : (found_after rows cols ran l).number ≡ 0

    pub sorts : (ordered_outcome f rows cols s w l).run.report.refusal.number ≡ 0 → Sorts
    sorts e =
        let all = (none-refused all_tests refl).0 (sym ordered-number ∙ e) in
        let both = (none-join (ordered_meanings rows cols s w l) after_meanings).0 all in
        let free = (none-refused ordered-tests refl).1 both.0 in
        let lent = lent_none free in
        let c = card rows cols in
        let d = diagonal cols ran.held.matrix in
        let clear = (none-refused (run-tests c d ran.report.word) refl).1 both.1 in
        let ends = run-fine c d ran.report.word clear in
        record {
          fits = fit true rows cols s w lent.1;
          list = (lent_fit rows cols w l lent.0).list;
          settles = ends.0;
          fine = ends.1;
          before = free;
          after = clear;
        }
