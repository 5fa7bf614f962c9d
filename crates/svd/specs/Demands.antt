-- The three demands, as theorems of the two calls: on every input, of whatever a call's promise allows it to report
-- and to leave in what it was lent. (That every call ends, without a fault, is what the checker shows of all code.)
-- First the statements, `Demand1` to `Demand3`, then that they hold of every answer, and the laws of two calls; last,
-- that each row of U and V goes its own way. They lean on the definition: `outcome`, `accepted` (method's Outcome), the
-- list `meanings` (method's Checks.Table), `FirstBad` (Checks.Readings), on `QuietCorner`, `BoundsAbove`, `AllZero`
-- (method's Quiet), on `carried_out`, `moves_made` (method's Repeated, Outcome.Reports)
-- and on `OwnRows`, `row_alone`, `ZeroRow`, `exchanged` (method's Rows). Assumes nothing.
use Rattle.std.specs.Prelude.{◌≡◌, ◌↔◌, Bool, true, false, List, [], ℕ, ◌+◌, ◌-◌, ◌*◌, ◌≤◌, ◌<◌, length, Float}
use Rattle.std.proofs.Common.{sym, ap, ◌∙◌, arith}
use Rattle.std.specs.Float.{binary64}
use Rattle.std.specs.Float.Ieee.{lt}
use Rattle.std.specs.Float.Ieee.Scale.{finite}
use Rattle.float.specs.Root.{AnF64, RootIs}
use Rattle.float.proofs.Root.{root_is}
use Rattle.float.specs.Values.{line_in, start_in}
use Rattle.float.specs.Page.{PageShows}
use Rattle.float.proofs.Page.{page-shows}
use Rattle.float.specs.declared.paper.Line.{Line}
use Rattle.float.specs.declared.paper.Start.{Start}
use Rattle.method.specs.Floats.{plus_zero}
use Rattle.method.specs.Root.{square_root}
use Rattle.method.specs.Root.Paper.{rounded, halved, page}
use Rattle.method.specs.Work.{Work, work, packed}
use Rattle.method.specs.Walk.{Rules, State, start, going, run}
use Rattle.method.specs.Walk.Applied.{applied}
use Rattle.method.specs.Walk.Drops.{tally_down}
use Rattle.method.specs.Walk.Turns.{PassCounts}
use Rattle.method.specs.Repeated.{carried_out}
use Rattle.method.specs.Moves.{carried}
use Rattle.method.specs.Chase.{coupling}
use Rattle.method.specs.Quiet.{QuietCorner, BoundsAbove}
use Rattle.method.specs.Quiet.Calm.{AllZero, tally_calm, Calm}
use Rattle.method.proofs.Quiet.Calm.{calm}
use Rattle.method.specs.Settings.{most_limit, most_rotations}
use Rattle.method.specs.Checks.{nowhere, refusal_of}
use Rattle.method.specs.Checks.First.{First}
use Rattle.method.specs.Checks.Readings.{FirstBad}
use Rattle.method.specs.Checks.Table.{meanings}
use Rattle.method.proofs.Checks.Table.{numbers, none-counted}
use Rattle.method.specs.Report as Report
use Rattle.method.specs.Report.{refused}
use Rattle.method.specs.Outcome.{outcome_of, shown_by, card, is_upper, rules_for, form_of, accepted, outcome}
use Rattle.method.specs.Outcome.{plain_outcome, full_outcome}
use Rattle.method.specs.Outcome.Reports.{at_limit, settled_report, moves_made}
use Rattle.method.proofs.Outcome.Reports.{accepted-exposed}
use Rattle.method.proofs.Outcome.Calls.{calls_agree, settled_stays}
use Rattle.method.specs.Fill.{identity}
use Rattle.method.specs.View.{row_of}
use Rattle.method.specs.Rows.{Side, size_of, row_at, OwnRows, row_alone, ZeroRow, exchanged}
use Rattle.method.proofs.Rows.Calls.{calls_own, calls_alone, calls_zero, calls_exchanged}
use Rattle.checks.specs.declared.settings.Settings.{Settings}
use Rattle.checks.specs.Values.{settings_of}
use Rattle.svd.specs.Values.{Answer, report_of}
use Rattle.svd.specs.Answers.{report_one}
use Rattle.svd.specs.Told.{reports_of, lists_of, told-number, told-place, told-alone, told-refused, told-accepted}
use Rattle.svd.specs.Told.{told-true, told-made, told-due, told-done, told-spent, told-word}
use Rattle.svd.specs.Told.{worded-fine, told-settles, told-turns, told-moves, told-rotations}

-- ---- what a call may answer

-- On rows, cols, settings s and the lists w₀ a call may report r and leave the lists w. With U and V kept (`kept` true)
-- it is `full_svd_decomposition`; without, it is `svd_decomposition`, whose lists u and v are empty.
pub record Allowed (kept : Bool) (rows cols : ℕ) (s : Settings) (w₀ : Work) (r : Answer) (w : Work) : Type 0 where
  pub promise : outcome_of (report_of r) w ≡ outcome binary64 kept rows cols (settings_of s) w₀

module _ (rows cols : ℕ) (s : Settings) (r : Answer) where
  -- this is the promise of the accumulating call, as it stands on it
  pub full_allowed :
      (b₀ u₀ v₀ b u v : List Float) →
      outcome_of (report_of r) (work b u v) ≡ full_outcome binary64 rows cols (settings_of s) (work b₀ u₀ v₀) →
      Allowed true rows cols s (work b₀ u₀ v₀) r (work b u v)
  full_allowed b₀ u₀ v₀ b u v e = record { promise = e }

  -- and of the plain call
  pub plain-allowed :
      (b₀ b : List Float) →
      outcome_of (report_of r) (work b [] []) ≡ plain_outcome binary64 rows cols (settings_of s) b₀ →
      Allowed false rows cols s (work b₀ [] []) r (work b [] [])
  plain-allowed b₀ b e = record { promise = e }

-- what is left of the table is quiet: every coupling inside the corner of the range that is told
abbrev pub LeftQuiet : ℕ → ℕ → Answer → Work → Type 0
LeftQuiet rows cols r w = QuietCorner (is_upper rows cols) cols (report_of r).tally.range w.matrix

module _ (kept : Bool) (rows cols : ℕ) (s : Settings) (w₀ : Work) where
  -- where the definition's walk starts: with the bidiagonal form
  abbrev pub first : State Work
  first = start (card rows cols) (form_of binary64 (packed kept rows cols) rows cols (settings_of s) w₀)

  -- when its coupling is negligible, and what a sweep does
  abbrev pub rules : Rules Work
  rules = rules_for binary64 (packed kept rows cols) rows cols (settings_of s)

  -- after k passes
  abbrev pub after : ℕ → State Work
  after k = applied rules s.credit k first

module _ (kept : Bool) (rows cols : ℕ) (s : Settings) (w₀ : Work) (r : Answer) (w : Work) where
  -- ---- 1. what is unfit is refused, by number, in a fixed order, and nothing else is; a refused call writes nothing

  pub record Demand1 : Type 0 where
    -- the number is that of the first condition of the list that holds; 0 is answered exactly when none holds
    pub number : (k : ℕ) → ((report_of r).refusal.number ≡ k) ↔ First k (meanings kept rows cols (settings_of s) w₀)
    -- with 8 go the row and the column of the first reading that is not finite, and how many are not; with every other
    -- number three zeros; so the count is 0 exactly when the number is not 8
    pub bad_reading : (report_of r).refusal.number ≡ 8 → FirstBad cols rows cols w₀.matrix ((report_of r).refusal.place)
    pub no_place : ¬ ((report_of r).refusal.number ≡ 8) → (report_of r).refusal.place ≡ nowhere
    pub none-bad : ((report_of r).refusal.place.bad ≡ 0) ↔ (¬ ((report_of r).refusal.number ≡ 8))
    -- a refused call reports that alone: the word is `none`, and nothing is counted
    pub alone : ¬ ((report_of r).refusal.number ≡ 0) → report_of r ≡ refused (report_of r).refusal
    -- and it writes nothing
    pub untouched : ¬ ((report_of r).refusal.number ≡ 0) → w ≡ w₀

  -- ---- 2. what is accepted is the definition's, bit for bit

  pub record Demand2 : Type 0 where
    -- report, matrix, U and V are those of the definition's run: its bidiagonal form and then its walk
    pub equal : outcome_of (report_of r) w ≡ accepted binary64 kept rows cols (settings_of s) w₀
    -- at credit 0 the limit shows the state after as many passes: where any greater limit n would have gone on
    pub exposed :
        s.credit ≡ 0 → (n : ℕ) → s.limit ≤ n →
        outcome_of (report_of r) w ≡
        shown_by rows cols (run (rules kept rows cols s w₀) n 0 s.limit (first kept rows cols s w₀))

  -- (and of the root: `demand_2_root` and `demand_2_page` below)

  -- ---- 3. the report is true

  pub record Demand3 : Type 0 where
    -- the passes are those made: counts and lists are those after as many,
    pub made :
        let e = after kept rows cols s w₀ (report_of r).tally.passes in
        ((report_of r).tally ≡ e.walk.tally) × (w ≡ e.held)
    -- before each of them there was one to do, and then none
    pub due : (k : ℕ) → k < (report_of r).tally.passes → going s.limit (after kept rows cols s w₀ k).walk ≡ true
    pub done : going s.limit (after kept rows cols s w₀ (report_of r).tally.passes).walk ≡ false
    -- each pass is a sweep or a drop
    pub each : (report_of r).tally.passes ≡ (report_of r).tally.sweeps + (report_of r).tally.drops
    -- a drop takes one from the range, which begins as c and never falls below 1
    pub drops : (report_of r).tally.drops ≡ card rows cols - (report_of r).tally.range
    pub range : (1 ≤ (report_of r).tally.range) × ((report_of r).tally.range ≤ card rows cols)
    -- none when c is 1, otherwise at most the limit plus the credit times (c - 2)
    pub none : card rows cols ≡ 1 → (report_of r).tally.passes ≡ 0
    pub most : (report_of r).tally.passes ≤ s.limit + s.credit * (card rows cols - 2)
    -- of its rotations: a drop computes none, a sweep two for each coupling of its range,
    pub turns :
        (k : ℕ) → k < (report_of r).tally.passes →
        let t = (after kept rows cols s w₀ k).walk.tally in
        PassCounts (2 * (t.range - 1)) t (after kept rows cols s w₀ (k + 1)).walk.tally
    -- and those told are those computed, each counted once: the moves of its sweeps, carried out one after another on the
    -- bidiagonal form, give the lists, and the count is their number
    pub moves :
        let z = packed kept rows cols in
        let form = first kept rows cols s w₀ in
        let ms = moves_made binary64 z rows cols (settings_of s) (report_of r).tally.passes form in
        (w ≡ carried_out (carried binary64 z) ms form.held) × ((report_of r).tally.rotations ≡ length ms)
    -- they are at most 2 x (c - 1) for each sweep, and 13,724,000 in all
    pub turns-few : (report_of r).tally.rotations ≤ 2 * (card rows cols - 1) * (report_of r).tally.sweeps
    pub turns-most : (report_of r).tally.rotations ≤ most_rotations
    -- `settled` says that the range left is 1; where it is more, the limit ran out: `quiet` says that then every coupling
    -- inside the live corner of that range is +0 or -0, `stopped` that one is not
    pub settled : ((report_of r).word ≡ Report.settled) ↔ ((report_of r).tally.range ≡ 1)
    pub spent : 1 < (report_of r).tally.range → s.limit ≤ (after kept rows cols s w₀ (report_of r).tally.passes).walk.counter
    pub quiet : ((report_of r).word ≡ Report.quiet) ↔ ((1 < (report_of r).tally.range) × LeftQuiet rows cols r w)
    pub stopped : ((report_of r).word ≡ Report.stopped) ↔ ((1 < (report_of r).tally.range) × (¬ LeftQuiet rows cols r w))

-- ---- they hold of every answer

shown :
    (kept : Bool) (rows cols : ℕ) (s : Settings) (w₀ : Work) → s.credit ≡ 0 → (n : ℕ) → s.limit ≤ n →
    accepted binary64 kept rows cols (settings_of s) w₀ ≡
    shown_by rows cols (run (rules kept rows cols s w₀) n 0 s.limit (first kept rows cols s w₀))
unfolding accepted
shown kept rows cols s w₀ z n h =
    ap (shown_by rows cols) (accepted-exposed binary64 kept rows cols (settings_of s) w₀ s.limit n h z)

module _ {kept : Bool} {rows cols : ℕ} {s : Settings} {w₀ : Work} {r : Answer} {w : Work} where
  pub demand_1 : Allowed kept rows cols s w₀ r w → Demand1 kept rows cols s w₀ r w
  demand_1 a =
      let number = told-number kept rows cols s w₀ r w a.promise in
      let at = told-place kept rows cols s w₀ r w a.promise in
      record {
        number = λ k. rw number (numbers kept rows cols (settings_of s) w₀ k);
        bad_reading = at.eight;
        no_place = at.other;
        none-bad = none-counted kept rows cols (settings_of s) w₀ at;
        alone = told-alone kept rows cols s w₀ r w a.promise;
        untouched = λ h. lists_of (told-refused kept rows cols s w₀ r w a.promise h);
      }

  pub demand_2 : Allowed kept rows cols s w₀ r w → (report_of r).refusal.number ≡ 0 → Demand2 kept rows cols s w₀ r w
  demand_2 a e =
      let q = told-accepted kept rows cols s w₀ r w a.promise e in
      record { equal = q; exposed = λ z n h. q ∙ shown kept rows cols s w₀ z n h }

  pub demand_3 : Allowed kept rows cols s w₀ r w → (report_of r).refusal.number ≡ 0 → Demand3 kept rows cols s w₀ r w
  demand_3 a e =
      let t = told-true kept rows cols s w₀ r w a.promise e in
      let word = told-word kept rows cols s w₀ r w a.promise e in
      record {
        made = told-made kept rows cols s w₀ r w a.promise e;
        due = told-due kept rows cols s w₀ r w a.promise e;
        done = told-done kept rows cols s w₀ r w a.promise e;
        each = t.each;
        drops = t.drops;
        range = t.range;
        none = t.none;
        most = t.few;
        turns = told-turns kept rows cols s w₀ r w a.promise e;
        moves = told-moves kept rows cols s w₀ r w a.promise e;
        turns-few = t.turns;
        turns-most = told-rotations kept rows cols s w₀ r w a.promise e;
        settled = word.settled;
        spent = told-spent kept rows cols s w₀ r w a.promise e;
        quiet = word.quiet;
        stopped = word.stopped;
      }

-- The square root, of every f64 x and every answer r that the promise of `float::square_root` allows: where x is above
-- zero and finite, r is nearest in whole numbers, and no other value is; elsewhere r is as `RootIs` says.
pub demand_2_root : (x r : Float) → AnF64 x → r ≡ square_root binary64 x → RootIs x r
demand_2_root = root_is

-- The page of the root, of every f64 x above zero and finite and every answer that the promises of `halved`, `page`,
-- `rounded` and `square_root` allow: what 54 turns find is rounded to the answer, and the number lies between the squares
-- of the answer's two midpoints.
pub demand_2_page :
    (x r : Float) (many k : ℕ) (s : Start) (l : Line) → AnF64 x → finite x ≡ true → lt plus_zero x ≡ true → 54 ≤ many →
    start_in s ≡ halved binary64 x → line_in l ≡ page binary64 x many → k ≡ rounded l.root →
    r ≡ square_root binary64 x →
    PageShows x r s l k
demand_2_page = page-shows

-- where a call tells number 0, the definition refuses nothing
told-fine :
    {kept : Bool} {rows cols : ℕ} {s : Settings} {w₀ : Work} {r : Answer} {w : Work} →
    Allowed kept rows cols s w₀ r w → (report_of r).refusal.number ≡ 0 → (refusal_of kept rows cols (settings_of s) w₀).number ≡ 0
told-fine {kept} {rows} {cols} {s} {w₀} {r} {w} a e = sym (told-number kept rows cols s w₀ r w a.promise) ∙ e

-- with U and V kept or not, an accepted run has the same report and the same matrix
pub kept_or_not :
    {rows cols : ℕ} {s : Settings} {b₀ u₀ v₀ b u v b' : List Float} {r r' : Answer} →
    Allowed true rows cols s (work b₀ u₀ v₀) r (work b u v) →
    Allowed false rows cols s (work b₀ [] []) r' (work b' [] []) →
    (report_of r).refusal.number ≡ 0 →
    (r ≡ r') × (b ≡ b')
kept_or_not {rows} {cols} {s} {b₀} {u₀} {v₀} {r = r} {r' = r'} a a' e =
    let q = calls_agree binary64 rows cols (settings_of s) (work b₀ u₀ v₀) (told-fine a e) in
    let matrix : Work → List Float = λ w. w.matrix in (
      report_one r r' (reports_of a.promise ∙ q.0 ∙ sym (reports_of a'.promise)),
      ap matrix (lists_of a.promise) ∙ q.1 ∙ sym (ap matrix (lists_of a'.promise)),
    )

-- a settled answer is, U and V included, the same answer at every greater allowed limit n, all else equal
pub settled_stands :
    {kept : Bool} {rows cols n : ℕ} {s s' : Settings} {w₀ w w' : Work} {r r' : Answer} →
    Allowed kept rows cols s w₀ r w →
    Allowed kept rows cols s' w₀ r' w' →
    settings_of s' ≡ at_limit n (settings_of s) →
    s.limit ≤ n →
    n ≤ most_limit →
    (report_of r).word ≡ Report.settled →
    (r' ≡ r) × (w' ≡ w)
settled_stands {kept} {rows} {cols} {n} {s} {s'} {w₀} {w} {w'} {r} {r'} a a' g more most e =
    let p = a.promise in
    let fine = told-fine a (worded-fine kept rows cols s w₀ r w p Report.settled e (λ z. omega arith)) in
    let word = ap (λ (x : Report.Report). x.word) (sym (reports_of p)) ∙ e in
    let same = settled_stays binary64 kept rows cols (settings_of s) w₀ n more most fine word in
    let q = rw g at a'.promise ∙ same ∙ sym p in
    (report_one r' r (reports_of q), lists_of q)

-- which entries make what is left quiet: the couplings inside the corner, and no others
pub left-quiet_inside :
    (rows cols : ℕ) (r : Answer) (w w' : Work) →
    ((k : ℕ) → k + 1 < (report_of r).tally.range →
    coupling (is_upper rows cols) cols k w.matrix ≡ coupling (is_upper rows cols) cols k w'.matrix) →
    LeftQuiet rows cols r w → LeftQuiet rows cols r w'
left-quiet_inside rows cols r w w' same q k h = rw (← same k h) (q k h)

-- A quiet answer is not final. Where every bound inside its corner is above zero, a greater allowed limit n settles it by
-- drops alone, one for each coupling inside: table, U and V stay as they are, bit for bit. (A coupling of zero is dropped
-- exactly where its bound is above zero: method's Quiet.Drops, `zero_negligible`.)
pub quiet_settles :
    {kept : Bool} {rows cols n : ℕ} {s s' : Settings} {w₀ w w' : Work} {r r' : Answer} →
    Allowed kept rows cols s w₀ r w →
    Allowed kept rows cols s' w₀ r' w' →
    settings_of s' ≡ at_limit n (settings_of s) →
    s.limit < n →
    n ≤ most_limit →
    (s.credit ≡ 0 → s.limit + ((report_of r).tally.range - 1) ≤ n) →
    (report_of r).word ≡ Report.quiet →
    BoundsAbove binary64 s.tolerance s.absolute cols (report_of r).tally.range w.matrix →
    (report_of r' ≡ settled_report (tally_down ((report_of r).tally))) × (w' ≡ w)
quiet_settles {kept} {rows} {cols} {n} {s} {s'} {w₀} {w} {w'} {r} {r'} a a' g more most room e above =
    let p = a.promise in
    let fine = told-fine a (worded-fine kept rows cols s w₀ r w p Report.quiet e (λ z. omega arith)) in
    let q = rw g at a'.promise ∙ told-settles kept rows cols s w₀ n more most _ p room fine e above in
    (reports_of q, lists_of q)

-- A calm roadway. Where every reading is +0 or -0 and c is above 1, a call that is not refused answers quiet, at every
-- allowed setting: it swept as often as the limit says and dropped nothing, the whole range is left, and the table is
-- zeros still.
pub calm_quiet :
    {kept : Bool} {rows cols : ℕ} {s : Settings} {w₀ w : Work} {r : Answer} →
    Allowed kept rows cols s w₀ r w →
    (report_of r).refusal.number ≡ 0 →
    1 < card rows cols →
    AllZero w₀.matrix →
    ((report_of r).word ≡ Report.quiet)
    × ((report_of r).tally ≡ tally_calm s.limit (card rows cols))
    × AllZero w.matrix
calm_quiet {kept} {rows} {cols} {s} {w₀} {w} {r} a e more zeros =
    let k : Calm s.limit (card rows cols) (outcome_of (report_of r) w) =
    rw a.promise (calm binary64 kept rows cols (settings_of s) w₀ (told-fine a e) more zeros) in
    (k.word, k.tally, k.matrix)

-- ---- each station keeps its own row, and each pass (method's Rows)

-- Two accumulating calls, neither of them refused, with equal sizes, readings and settings: report and matrix are equal;
-- and where row i of the one U began as row j of the other, it ended as that one did, however the other rows and V
-- began. The same for V.
pub own_rows :
    {rows cols : ℕ} {s : Settings} {w₀ w₀' w w' : Work} {r r' : Answer} →
    Allowed true rows cols s w₀ r w →
    Allowed true rows cols s w₀' r' w' →
    w₀.matrix ≡ w₀'.matrix →
    (report_of r).refusal.number ≡ 0 →
    (report_of r').refusal.number ≡ 0 →
    (r ≡ r') × OwnRows rows cols w₀ w₀' w w'
own_rows {rows} {cols} {s} {w₀} {w₀'} {w} {w'} {r} {r'} a a' m e e' =
    let k = calls_own rows cols (settings_of s) w₀ (told-fine a e) binary64 w₀' (told-fine a' e') m in (
      report_one r r' (reports_of a.promise ∙ k.0 ∙ sym (reports_of a'.promise)),
      rw (lists_of a.promise, lists_of a'.promise) k.1,
    )

module _ {rows cols : ℕ} {s : Settings} {w₀ : Work} {r : Answer} {w : Work} (a : Allowed true rows cols s w₀ r w)
    (e : (report_of r).refusal.number ≡ 0) (side : Side) (i : ℕ) (h : i < size_of side rows cols) where
  -- A row turns on the readings, the settings and where it began, and on nothing else: it is what a run that keeps this
  -- row alone makes of it.
  pub own_row :
      row_at side rows cols i w
      ≡ row_alone binary64 side rows cols (settings_of s) w₀.matrix (row_at side rows cols i w₀)
  own_row = rw (lists_of a.promise) (calls_alone rows cols (settings_of s) w₀ (told-fine a e) binary64 side i h)

  -- so from the identity it turns on the readings, the settings and i
  pub from_identity :
      row_at side rows cols i w₀ ≡ row_of (size_of side rows cols) i (identity (size_of side rows cols)) →
      row_at side rows cols i w
      ≡ row_alone binary64 side rows cols (settings_of s) w₀.matrix
      (row_of (size_of side rows cols) i (identity (size_of side rows cols)))
  from_identity q = own_row ∙ ap (row_alone binary64 side rows cols (settings_of s) w₀.matrix) q

  -- a row of zeros, of either sign, and NaNs stays one
  pub zero_row : ZeroRow (row_at side rows cols i w₀) → ZeroRow (row_at side rows cols i w)
  zero_row z = rw (lists_of a.promise) (calls_zero rows cols (settings_of s) w₀ (told-fine a e) binary64 side i h z)

-- Two stations' starting rows exchanged: the second call is not refused either, their final rows are exchanged, and
-- nothing else changes. The same for two passes.
pub rows_exchanged :
    {rows cols : ℕ} {s : Settings} {w₀ w w' : Work} {r r' : Answer} (side : Side) (i j : ℕ) →
    Allowed true rows cols s w₀ r w →
    Allowed true rows cols s (exchanged side rows cols i j w₀) r' w' →
    (report_of r).refusal.number ≡ 0 →
    i < size_of side rows cols →
    j < size_of side rows cols →
    (r' ≡ r) × (w' ≡ exchanged side rows cols i j w)
rows_exchanged {rows} {cols} {s} {w₀} {w} {w'} {r} {r'} side i j a a' e h g =
    let q = a'.promise ∙ calls_exchanged rows cols (settings_of s) w₀ (told-fine a e) binary64 side i j h g in (
      report_one r' r (reports_of q ∙ sym (reports_of a.promise)),
      lists_of q ∙ ap (exchanged side rows cols i j) (sym (lists_of a.promise)),
    )
