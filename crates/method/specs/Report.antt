-- What a call reports: the refusal, the word, and what the walk counted. A refused call reports the refusal alone; an
-- accepted one, the state that its walk came to. Definitions only.
pub mod Words
use Rattle.std.specs.Prelude.{Bool, true, false, ℕ, eqb}
use Rattle.method.specs.Floats.{pick}
use Rattle.method.specs.Work.{Work}
use Rattle.method.specs.Walk.{Tally, State, tally_begun}
use Rattle.method.specs.Quiet.{quiet_corner}
use Rattle.method.specs.Checks.{Refusal, not_refused}

-- `none` goes with a refusal
pub data Word : Type 0 where
  none settled stopped quiet : Word

-- a word by its number
abbrev pub word_number : Word → ℕ
word_number none = 0
word_number settled = 1
word_number stopped = 2
word_number quiet = 3

-- whether it is `settled`
abbrev pub is_settled : Word → Bool
is_settled none = false
is_settled settled = true
is_settled stopped = false
is_settled quiet = false

pub record Report : Type 0 where
  pub refusal : Refusal
  pub word : Word
  pub tally : Tally

-- nothing was counted
abbrev pub no_tally : Tally
no_tally = tally_begun 0

abbrev pub refused : Refusal → Report
refused r = record { refusal = r; word = none; tally = no_tally }

-- Settled where the range left is 1. Where it is more, the limit ran out: quiet where every coupling inside the live
-- corner is zero, and else stopped. The table's rows start `stride` entries apart, and its form is the upper one or not.
abbrev pub word_of : Bool → ℕ → State Work → Word
word_of upper stride s =
    let r = s.walk.tally.range in
    pick (eqb r 1) settled (pick (quiet_corner upper stride r s.held.matrix) quiet stopped)

-- nothing is refused, and the walk's tally is reported as it is
abbrev pub reported : Bool → ℕ → State Work → Report
reported upper stride s = record { refusal = not_refused; word = word_of upper stride s; tally = s.walk.tally }
