-- What a call by a profile's number owes, as theorems: on every input, of whatever its promise allows it to report and to
-- leave in what it was lent. By one of 1 to 4 it may answer just what the call with that profile's settings may
-- (`as_settings`, `ordered-as_settings`), so that all demands on that call are demands on this one (svd's and order's
-- Demands). Before it what these settings are, after it which number is refused when, and how many passes and rotations
-- each profile allows. They lean on the definition: `profiles`, `settings_by`, `profile_outcome`, `profile_ordered` (method's
-- Profiles), on the lists `meanings_by`, `ordered_meanings_by` (Profiles.Numbers), on `SettingsNearest` (Profiles.Nearest)
-- and on `passes_most`, `rotations_most` (Profiles.Table). Assumes nothing.
use Rattle.std.specs.Prelude.{Result, Ok, ◌≡◌, refl, ◌↔◌, Bool, true, false, List, [], ◌++◌, ℕ, ◌+◌, ◌-◌, ◌*◌, ◌≤◌, ◌<◌, Float}
use Rattle.std.proofs.Common.{sym, ap, ◌∙◌, le_trans, mul-le-mul_left, arith}
use Rattle.std.specs.Float.{binary64}
use Rattle.method.specs.Work.{Work, work}
use Rattle.method.specs.Settings as Method
use Rattle.method.specs.Checks.{nowhere, Refusal}
use Rattle.method.specs.Checks.First.{First}
use Rattle.method.proofs.Checks.First.{none-refused, first_below}
use Rattle.method.specs.Checks.Readings.{FirstBad}
use Rattle.method.specs.Checks.Table.{OverLimit, UnfitBounds}
use Rattle.method.proofs.Checks.Table.{setting_tests, none-counted}
use Rattle.method.specs.Report as Report
use Rattle.method.specs.Report.{refused}
use Rattle.method.specs.Outcome.{Outcome, outcome_of, card, accepted}
use Rattle.method.specs.Ordered.{ordered_of, refused_after}
use Rattle.method.proofs.Ordered.Numbers.{after_meanings}
use Rattle.method.specs.Profiles.{no_profile, profile_at, picked, settings_in, settings_by, profile_outcome}
use Rattle.method.specs.Profiles.{profile_plain, profile_full, profile_ordered, refusal_by, ordered_checks_by, ordered_refusal_by}
use Rattle.method.specs.Profiles.Nearest.{SettingsNearest}
use Rattle.method.proofs.Profiles.Nearest.{settings_nearest}
use Rattle.method.specs.Profiles.Table.{passes_most, rotations_most}
use Rattle.method.proofs.Profiles.Table.{there, settings_there, profile-passes}
use Rattle.method.proofs.Profiles.Ways as Ways
use Rattle.method.specs.Profiles.Numbers.{meanings_by, ordered_meanings_by}
use Rattle.method.proofs.Profiles.Numbers.{refusal-told, numbers-by, place-by}
use Rattle.method.proofs.Profiles.Numbers.{ordered-numbers_by, ordered-place_by}
use Rattle.checks.specs.declared.settings.Settings.{Settings}
use Rattle.checks.specs.Values.{settings_of}
use Rattle.checks.specs.Answers.{from_settings}
use Rattle.checks.specs.declared.refusal.Refusal.{Refusal as Refused}
use Rattle.profiles.specs.Values.{picked_in}
use Rattle.profiles.specs.Answers.{picks}
use Rattle.svd.specs.Values.{Answer, report_of}
use Rattle.order.specs.Values.{OrderedAnswer, ordered_report}
use Rattle.svd.specs.Told.{reports_of, lists_of}
use Rattle.svd.specs.Demands.{Allowed, demand_3}
use Rattle.order.specs.Told as Told
use Rattle.order.specs.Demands.{OrderedAllowed, refuses}

-- ---- what a call may answer

-- On rows, cols, profile k and the lists w₀ a call may report r and leave the lists w. With U and V kept (`kept` true) it
-- is `profile_full_svd_decomposition`; without, it is `profile_svd_decomposition`, whose lists u and v are empty.
pub record AllowedBy (kept : Bool) (rows cols k : ℕ) (w₀ : Work) (r : Answer) (w : Work) : Type 0 where
  pub promise : outcome_of (report_of r) w ≡ profile_outcome binary64 kept rows cols k w₀

-- With the list of values l₀ as well, `profile_ordered_svd_decomposition` may report r and leave w and l.
pub record OrderedAllowedBy (rows cols k : ℕ) (w₀ : Work) (l₀ : List Float) (r : OrderedAnswer) (w : Work) (l : List Float) :
    Type 0 where
  pub promise : ordered_of (outcome_of (ordered_report r) w) l ≡ profile_ordered binary64 rows cols k w₀ l₀

module _ (rows cols k : ℕ) (r : Answer) where
  -- this is the promise of the accumulating call, as it stands on it
  pub full_allowed_by :
      (b₀ u₀ v₀ b u v : List Float) →
      outcome_of (report_of r) (work b u v) ≡ profile_full binary64 rows cols k (work b₀ u₀ v₀) →
      AllowedBy true rows cols k (work b₀ u₀ v₀) r (work b u v)
  full_allowed_by b₀ u₀ v₀ b u v e = record { promise = e }

  -- and of the plain call
  pub plain-allowed_by :
      (b₀ b : List Float) →
      outcome_of (report_of r) (work b [] []) ≡ profile_plain binary64 rows cols k b₀ →
      AllowedBy false rows cols k (work b₀ [] []) r (work b [] [])
  plain-allowed_by b₀ b e = record { promise = e }

-- ---- a call by number is the call with its settings

-- the settings of profile k
abbrev pub settings_for : ℕ → Settings
settings_for k = from_settings (settings_by binary64 k)

-- they are those that `pick` answers for a number from 1 to 4
pub picks_profile :
    {k : ℕ} {p : Result Settings Refused} → picked_in p ≡ picked binary64 k → 1 ≤ k → k ≤ 4 → p ≡ Ok (settings_for k)
picks_profile {k} {p} e low high = picks k p ((there k).1 (low, high)) e

-- The settings of profile k: limit and credit are the table's; tolerance, absolute and floor are the doubles nearest to
-- its decimal numbers; and no call refuses them, by 6 or by 7.
pub record Profiled (k : ℕ) : Type 0 where
  pub limit : (settings_for k).limit ≡ (profile_at k).limit
  pub credit : (settings_for k).credit ≡ (profile_at k).credit
  pub nearest : SettingsNearest binary64 (profile_at k) (settings_of (settings_for k))
  pub in_limits : ¬ OverLimit (settings_of (settings_for k))
  pub bounds_fit : ¬ UnfitBounds (settings_of (settings_for k))

pub profiled : (k : ℕ) → 1 ≤ k → k ≤ 4 → Profiled k
unfolding settings_in
profiled k low high =
    let n = (there k).1 (low, high) in
    let q = settings_there binary64 k n in
    let none = (none-refused (setting_tests (settings_by binary64 k)) refl).0 (profile-passes binary64 k n) in
    record {
      limit = ap (λ (x : Method.Settings). x.limit) q;
      credit = ap (λ (x : Method.Settings). x.credit) q;
      nearest = settings_nearest binary64 k n;
      in_limits = none.0;
      bounds_fit = none.1.0;
    }

module _ {kept : Bool} {rows cols k : ℕ} {w₀ : Work} {r : Answer} {w : Work} (low : 1 ≤ k) (high : k ≤ 4) where
  -- by one of 1 to 4 it may answer just what the call with the profile's settings may, on every input
  pub as_settings : AllowedBy kept rows cols k w₀ r w ↔ Allowed kept rows cols (settings_for k) w₀ r w
  as_settings =
      let q = Ways.as_settings binary64 kept rows cols k w₀ ((there k).1 (low, high)) in (
        λ a. record { promise = a.promise ∙ q },
        λ a. record { promise = a.promise ∙ sym q },
      )

-- the ordered call likewise
pub ordered-as_settings :
    {rows cols k : ℕ} {w₀ : Work} {l₀ : List Float} {r : OrderedAnswer} {w : Work} {l : List Float} → 1 ≤ k → k ≤ 4 →
    OrderedAllowedBy rows cols k w₀ l₀ r w l ↔ OrderedAllowed rows cols (settings_for k) w₀ l₀ r w l
ordered-as_settings {rows} {cols} {k} {w₀} {l₀} low high =
    let q = Ways.ordered-as_settings binary64 rows cols k w₀ l₀ ((there k).1 (low, high)) in (
      λ a. record { promise = a.promise ∙ q },
      λ a. record { promise = a.promise ∙ sym q },
    )

-- ---- what is unfit is refused, by number, in a fixed order, and nothing else is

module _ (kept : Bool) (rows cols k : ℕ) (w₀ : Work) (r : Answer) (w : Work) where
  pub record RefusesBy : Type 0 where
    -- the number is that of the first condition that holds (1, 2, 3, 4, 5, 10, 8); 0 is answered exactly when none holds
    pub number : (j : ℕ) → ((report_of r).refusal.number ≡ j) ↔ First j (meanings_by kept rows cols k w₀)
    -- so only a number from 1 to 4 is accepted
    pub profile : (report_of r).refusal.number ≡ 0 → (1 ≤ k) × (k ≤ 4)
    -- with 8 go the row and the column of the first reading that is not finite, and how many are not; with every other
    -- number three zeros; so the count is 0 exactly when the number is not 8
    pub bad_reading : (report_of r).refusal.number ≡ 8 → FirstBad cols rows cols w₀.matrix ((report_of r).refusal.place)
    pub no_place : ¬ ((report_of r).refusal.number ≡ 8) → (report_of r).refusal.place ≡ nowhere
    pub none-bad : ((report_of r).refusal.place.bad ≡ 0) ↔ (¬ ((report_of r).refusal.number ≡ 8))
    -- a refused call reports that alone, and writes nothing
    pub alone : ¬ ((report_of r).refusal.number ≡ 0) → report_of r ≡ refused (report_of r).refusal
    pub untouched : ¬ ((report_of r).refusal.number ≡ 0) → w ≡ w₀

module _ (rows cols k : ℕ) (w₀ : Work) (l₀ : List Float) (r : OrderedAnswer) (w : Work) (l : List Float) where
  -- the accumulating run with the profile's settings
  abbrev pub ran_by : Outcome
  ran_by = accepted binary64 true rows cols (settings_by binary64 k) w₀

  pub record OrderedRefusesBy : Type 0 where
    -- before the run 1, 2, 3, 4, 5, 11, 10, 8, and then after it 12, 13
    pub number :
        (j : ℕ) →
        ((ordered_report r).refusal.number ≡ j)
        ↔ First j
        (ordered_meanings_by rows cols k w₀ l₀ ++ after_meanings rows cols (settings_by binary64 k) w₀ l₀ binary64)
    pub profile : ((ordered_report r).refusal.number ≡ 0) → (1 ≤ k) × (k ≤ 4)
    pub bad_reading : (ordered_report r).refusal.number ≡ 8 → FirstBad cols rows cols w₀.matrix ((ordered_report r).refusal.place)
    pub no_place : ¬ ((ordered_report r).refusal.number ≡ 8) → (ordered_report r).refusal.place ≡ nowhere
    pub none-bad : ((ordered_report r).refusal.place.bad ≡ 0) ↔ (¬ ((ordered_report r).refusal.number ≡ 8))
    -- a call refused before the run reports that alone, and writes nothing
    pub alone : ¬ ((ordered_report r).refusal.number ≡ 0) → (ordered_report r).refusal.number < 12 → ordered_report r ≡ refused (ordered_report r).refusal
    pub untouched : ¬ ((ordered_report r).refusal.number ≡ 0) → (ordered_report r).refusal.number < 12 → (w ≡ w₀) × (l ≡ l₀)
    -- a call refused after it, by 12 or 13, has the run's report but for the number, leaves matrix, U and V as the run
    -- has them, and the list of values as it was
    pub after :
        12 ≤ (ordered_report r).refusal.number →
        (ordered_report r ≡ refused_after (ordered_report r).refusal ran_by.report) × (w ≡ ran_by.held) × (l ≡ l₀)

-- ---- they hold of every answer

-- a number has a profile, or it has none
either_way : (k : ℕ) → (b : Bool) → no_profile k ≡ b → {A : Type 0} → (1 ≤ k → k ≤ 4 → A) → (no_profile k ≡ true → A) → A
either_way k true e f g = g e
either_way k false e f g = let n = (there k).0 e in f n.0 n.1

module _ {kept : Bool} {rows cols k : ℕ} {w₀ : Work} {r : Answer} {w : Work} where
  pub refuses-by : AllowedBy kept rows cols k w₀ r w → RefusesBy kept rows cols k w₀ r w
  refuses-by a =
      let told : (report_of r).refusal ≡ refusal_by kept rows cols k w₀ =
      ap (λ (x : Report.Report). x.refusal) (reports_of a.promise) ∙ refusal-told binary64 kept rows cols k w₀ in
      let number : (report_of r).refusal.number ≡ (refusal_by kept rows cols k w₀).number = ap (λ (x : Refusal). x.number) told in
      let at = rw (sym told) at (place-by binary64 kept rows cols k w₀) in
      let out :
      ¬ ((report_of r).refusal.number ≡ 0) → outcome_of (report_of r) w ≡ outcome_of (refused (refusal_by kept rows cols k w₀)) w₀ =
      λ h. a.promise ∙ Ways.refused-by binary64 kept rows cols k w₀ (λ z. h (number ∙ z)) in
      record {
        number = λ j. rw number (numbers-by kept rows cols k w₀ j);
        profile =
            λ e. either_way k (no_profile k) refl (λ low high. (low, high))
            (λ n. absurd (Ways.none-some kept rows cols k w₀ n (sym number ∙ e)));
        bad_reading = at.eight;
        no_place = at.other;
        none-bad = none-counted kept rows cols (settings_by binary64 k) w₀ at;
        alone = λ h. reports_of (out h) ∙ ap refused (sym told);
        untouched = λ h. lists_of (out h);
      }

  -- passes and rotations of an accepted call: by its profile, and by the smaller of rows and columns
  pub few_by :
      AllowedBy kept rows cols k w₀ r w → (report_of r).refusal.number ≡ 0 →
      ((report_of r).tally.passes ≤ passes_most (card rows cols) (profile_at k))
      × ((report_of r).tally.rotations ≤ rotations_most (card rows cols) (profile_at k))
  few_by a e =
      let n = (refuses-by a).profile e in
      let d = demand_3 ((as_settings n.0 n.1).0 a) e in
      let p = profiled k n.0 n.1 in
      let c = card rows cols in
      let passes : (report_of r).tally.passes ≤ passes_most c (profile_at k) = rw (p.limit, p.credit) at d.most in
      (passes, le_trans d.turns-few (mul-le-mul_left (2 * (c - 1)) (le_trans (sweeps d.each) passes)))
    where
      sweeps : (report_of r).tally.passes ≡ (report_of r).tally.sweeps + (report_of r).tally.drops → (report_of r).tally.sweeps ≤ (report_of r).tally.passes
      sweeps g = omega arith

module _ {rows cols k : ℕ} {w₀ : Work} {l₀ : List Float} {r : OrderedAnswer} {w : Work} {l : List Float} where
  pub ordered-refuses_by : OrderedAllowedBy rows cols k w₀ l₀ r w l → OrderedRefusesBy rows cols k w₀ l₀ r w l
  ordered-refuses_by a =
      let told : ordered_report r ≡ (profile_ordered binary64 rows cols k w₀ l₀).run.report = Told.reports_of a.promise in
      let number = ap (λ (x : Report.Report). x.refusal.number) told in
      let at = rw (ap (λ (x : Report.Report). x.refusal) (sym told)) at (ordered-place_by binary64 rows cols k w₀ l₀) in
      record {
        number = λ j. rw number (ordered-numbers_by binary64 rows cols k w₀ l₀ j);
        profile =
            λ e. either_way k (no_profile k) refl (λ low high. (low, high))
            (λ n. absurd (Ways.ordered-none_some rows cols k w₀ l₀ n (sym (late n) ∙ e)));
        bad_reading = at.eight;
        no_place = at.other;
        none-bad = none-counted true rows cols (settings_by binary64 k) w₀ at;
        alone =
            λ h low.
            either_way k (no_profile k) refl (λ m n. (refuses ((ordered-as_settings m n).0 a)).alone h low)
            (λ n. let q = Told.reports_of (out n) in q ∙ ap refused (sym (ap (λ (x : Report.Report). x.refusal) q)));
        untouched =
            λ h low.
            either_way k (no_profile k) refl (λ m n. (refuses ((ordered-as_settings m n).0 a)).untouched h low)
            (λ n. (Told.lists_of (out n), Told.values_of (out n)));
        after =
            λ high.
            either_way k (no_profile k) refl (λ m n. (refuses ((ordered-as_settings m n).0 a)).after high)
            (λ n. absurd (below (late n) (first_below 12 (ordered_checks_by rows cols k w₀ l₀) refl) high));
      }
    where
      out :
          no_profile k ≡ true →
          ordered_of (outcome_of (ordered_report r) w) l
          ≡ ordered_of (outcome_of (refused (ordered_refusal_by rows cols k w₀ l₀)) w₀) l₀
      out n =
          a.promise
          ∙ Ways.ordered-refused_by binary64 rows cols k w₀ l₀ (Ways.ordered-none_some rows cols k w₀ l₀ n)

      late : no_profile k ≡ true → (ordered_report r).refusal.number ≡ (ordered_refusal_by rows cols k w₀ l₀).number
      late n = ap (λ (x : Report.Report). x.refusal.number) (Told.reports_of (out n))

      below : {m n : ℕ} → m ≡ n → n < 12 → 12 ≤ m → ⊥
      below e g h = omega arith
