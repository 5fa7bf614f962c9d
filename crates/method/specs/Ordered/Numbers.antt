-- When the ordered call answers each number, before the run and after it. Definitions only.
use Rattle.std.specs.Prelude.{◌≡◌, true, List, [], ◌∷◌, ◌++◌, ℕ, length, Float}
use Rattle.method.specs.Work.{Work}
use Rattle.method.specs.Settings.{Settings}
use Rattle.method.specs.Checks.First.{Meaning, means}
use Rattle.method.specs.Checks.First.{None}
use Rattle.method.specs.Checks.Table.{size_meanings, length_meanings, setting_meanings, reading_meanings}
use Rattle.method.specs.Report.{Word, settled}
use Rattle.method.specs.Outcome.{card}
use Rattle.method.specs.Order.Sizes.{Finite}

-- ---- the table: each number with its condition, in the order in which they are looked at

-- 11: the list has not as many entries as the smaller of rows and columns
abbrev pub WrongList : ℕ → ℕ → List Float → Type 0
WrongList rows cols l = ¬ (length l ≡ card rows cols)

abbrev pub lent_meanings : ℕ → ℕ → Work → List Float → List Meaning
lent_meanings rows cols w l =
    size_meanings rows cols ++ length_meanings true rows cols w ++ means 11 (WrongList rows cols l) ∷ []

abbrev pub ordered_meanings : ℕ → ℕ → Settings → Work → List Float → List Meaning
ordered_meanings rows cols s w l =
    lent_meanings rows cols w l ++ setting_meanings s ++ reading_meanings rows cols w.matrix

-- 12: the run did not settle; 13: one of the first c entries of its diagonal is not finite
abbrev pub run_meanings : ℕ → (ℕ → Float) → Word → List Meaning
run_meanings c d word =
    means 12 (¬ (word ≡ settled))
    ∷ means 13 (¬ Finite c d)
    ∷ []

-- what is lent is fit
pub record LentFit (rows cols : ℕ) (w : Work) (l : List Float) : Type 0 where
  pub sizes : None (size_meanings rows cols)
  pub lengths : None (length_meanings true rows cols w)
  pub list : length l ≡ card rows cols
