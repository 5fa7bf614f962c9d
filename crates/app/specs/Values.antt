-- The method's answers as the structs that cross the border. Definitions only.
use Rattle.std.specs.Prelude.{List, ℕ, Float}
use Rattle.method.specs.Work.{Work}
use Rattle.method.specs.Settings.{Settings}
use Rattle.method.specs.Checks.{refusal, nowhere}
use Rattle.method.specs.Report as Report
use Rattle.method.specs.Outcome.{Outcome}
use Rattle.method.specs.Ordered.{Ordered}
use Rattle.method.specs.Profiles.{Picked, picked_of}
use Rattle.app.specs.declared.Answer.{Answer}
use Rattle.app.specs.declared.Choice.{Choice}
use Rattle.app.specs.declared.ProfileAnswer.{ProfileAnswer}

-- the report
abbrev pub answer_of : Report.Report → Answer
answer_of r =
    record {
      number = r.refusal.number;
      row = r.refusal.place.row;
      column = r.refusal.place.column;
      bad = r.refusal.place.bad;
      word = Report.word_number r.word;
      passes = r.tally.passes;
      sweeps = r.tally.sweeps;
      drops = r.tally.drops;
      range = r.tally.range;
      rotations = r.tally.rotations;
    }

-- the report of a run with the number of what it was refused by after it; 0 where it was not
abbrev pub numbered : ℕ → Report.Report → Report.Report
numbered n r = record { refusal = refusal n nowhere; word = r.word; tally = r.tally }

-- an answer, and every list that was lent, as the call leaves it
pub record Answered : Type 0 where
  pub answer : Answer
  pub held : Work

abbrev pub answered : Answer → Work → Answered
answered a w = record { answer = a; held = w }

-- what is told of an outcome
abbrev pub told : Outcome → Answered
told o = answered (answer_of o.report) o.held

-- the same with the lent list of values
pub record Listed : Type 0 where
  pub answered : Answered
  pub values : List Float

abbrev pub listed : Answered → List Float → Listed
listed a l = record { answered = a; values = l }

-- what is told of an outcome in order
abbrev pub told_in_order : Ordered → Listed
told_in_order o = listed (told o.run) o.values

-- five settings
abbrev pub chosen : ℕ → ℕ → Float → Float → Float → Settings
chosen limit credit tolerance absolute floor =
    record { limit = limit; credit = credit; tolerance = tolerance; absolute = absolute; floor = floor }

-- the settings that a choice stands for
abbrev pub of_choice : Choice → Settings
of_choice c = chosen c.limit c.credit c.tolerance c.absolute c.floor

-- what a profile's number picked
abbrev pub picked_by : ProfileAnswer → Picked
picked_by p = picked_of p.number (chosen p.limit p.credit p.tolerance p.absolute p.floor)

-- which layout of the structs that cross the border this is: it rises by one whenever one of them changes
abbrev pub layout : ℕ
layout = 3
