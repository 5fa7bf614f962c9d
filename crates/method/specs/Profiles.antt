-- One profile per instrument (rule 9.6): the table of profiles, the settings that each stands for in a format, what a
-- profile's number picks, and the outcome of the calls by that number, for every input. Definitions only.
pub mod Table
pub mod Nearest
pub mod Numbers
use Rattle.std.specs.Prelude.{Bool, true, false, ◌||◌, List, [], ◌∷◌, ◌++◌, ℕ, ◌-◌, ◌^◌, eqb, ltb, length, get_or, Float}
use Rattle.std.specs.Float.{Format}
use Rattle.std.specs.Float.Ieee.{round}
use Rattle.method.specs.Floats.{plus_zero}
use Rattle.method.specs.Work.{Work, work}
use Rattle.method.specs.Settings.{Settings}
use Rattle.method.specs.Checks.{Check, check, Refusal, first_of, table_checks, reading_checks}
use Rattle.method.specs.Report.{refused}
use Rattle.method.specs.Outcome.{Outcome, outcome_of, accepted}
use Rattle.method.specs.Ordered.{Ordered, ordered_of, lent_checks, put_in_order}

-- ---- the table

-- a number as a fraction of two whole numbers
pub record Fraction : Type 0 where
  pub num : ℕ
  pub den : ℕ

-- 1 / 10 ^ n, which is written 1e-n
abbrev pub decimal : ℕ → Fraction
decimal n = record { num = 1; den = 10 ^ n }

-- what an instrument is given: limit, credit, tolerance and absolute
pub record Profile : Type 0 where
  pub limit : ℕ
  pub credit : ℕ
  pub tolerance : Fraction
  pub absolute : Fraction

abbrev pub profile : ℕ → ℕ → Fraction → Fraction → Profile
profile limit credit tolerance absolute =
    record { limit = limit; credit = credit; tolerance = tolerance; absolute = absolute }

-- number 1 is a vane's, 2 a hot wire's, 3 an ultrasonic anemometer's, 4 a smoke tube's
abbrev pub profiles : List Profile
profiles =
    profile 100 50 (decimal 10) (decimal 12)
    ∷ profile 200 50 (decimal 12) (decimal 13)
    ∷ profile 400 100 (decimal 13) (decimal 14)
    ∷ profile 50 25 (decimal 6) (decimal 8)
    ∷ []

-- all take the default floor, 1e-21
abbrev pub floor_of : Fraction
floor_of = decimal 21

-- ---- settings

-- the value of the format that is nearest to a fraction
abbrev pub value_in : Format → Fraction → Float
value_in f q = round f false q.num q.den

-- the settings that a profile stands for in a format
unfoldable pub settings_in : Format → Profile → Settings
unfolding round
settings_in f p =
    record {
      limit = p.limit;
      credit = p.credit;
      tolerance = value_in f p.tolerance;
      absolute = value_in f p.absolute;
      floor = value_in f floor_of;
    }

-- ---- what a number picks

-- there is no profile of this number: they are counted from 1
abbrev pub no_profile : ℕ → Bool
no_profile k = eqb k 0 || ltb (length profiles) k

-- 0 and the settings of the profile, or the number of a refusal and settings of zeros
pub record Picked : Type 0 where
  pub number : ℕ
  pub settings : Settings

abbrev pub picked_of : ℕ → Settings → Picked
picked_of n s = record { number = n; settings = s }

abbrev pub zeros : Settings
zeros = record { limit = 0; credit = 0; tolerance = plus_zero; absolute = plus_zero; floor = plus_zero }

-- profile k; where there is none nothing goes by what it is
abbrev pub profile_at : ℕ → Profile
profile_at k = get_or profiles (k - 1) (profile 0 0 (decimal 0) (decimal 0))

unfoldable pub picked : Format → ℕ → Picked
unfolding settings_in
picked f k =
    elim (no_profile k) [
      | true ↦ picked_of 10 zeros
      | false ↦ picked_of 0 (settings_in f (profile_at k))
    ]

-- the settings that a number picks
abbrev pub settings_by : Format → ℕ → Settings
settings_by f k = (picked f k).settings

-- ---- what a call by number checks: 10 in the place of 6 and 7

abbrev pub profile_checks : ℕ → List Check
profile_checks k = check 10 (no_profile k) ∷ []

abbrev pub checks_by : Bool → ℕ → ℕ → ℕ → Work → List Check
checks_by kept rows cols k w = table_checks kept rows cols w ++ profile_checks k ++ reading_checks rows cols w.matrix

abbrev pub refusal_by : Bool → ℕ → ℕ → ℕ → Work → Refusal
refusal_by kept rows cols k w = first_of (checks_by kept rows cols k w)

-- the same of the ordered call, which looks at its list of values after 5
abbrev pub ordered_checks_by : ℕ → ℕ → ℕ → Work → List Float → List Check
ordered_checks_by rows cols k w l = lent_checks rows cols w l ++ profile_checks k ++ reading_checks rows cols w.matrix

abbrev pub ordered_refusal_by : ℕ → ℕ → ℕ → Work → List Float → Refusal
ordered_refusal_by rows cols k w l = first_of (ordered_checks_by rows cols k w l)

-- ---- the calls

unfoldable pub profile_outcome : Format → Bool → ℕ → ℕ → ℕ → Work → Outcome
profile_outcome f kept rows cols k w =
    let r = refusal_by kept rows cols k w in
    elim (eqb r.number 0) [
      | true ↦ accepted f kept rows cols (settings_by f k) w
      | false ↦ outcome_of (refused r) w
    ]

-- the accumulating call
abbrev pub profile_full : Format → ℕ → ℕ → ℕ → Work → Outcome
profile_full f rows cols k w = profile_outcome f true rows cols k w

-- the plain call
abbrev pub profile_plain : Format → ℕ → ℕ → ℕ → List Float → Outcome
profile_plain f rows cols k b = profile_outcome f false rows cols k (work b [] [])

-- the ordered call
unfoldable pub profile_ordered : Format → ℕ → ℕ → ℕ → Work → List Float → Ordered
profile_ordered f rows cols k w l =
    let r = ordered_refusal_by rows cols k w l in
    elim (eqb r.number 0) [
      | true ↦ put_in_order rows cols (accepted f true rows cols (settings_by f k) w) l
      | false ↦ ordered_of (outcome_of (refused r) w) l
    ]
