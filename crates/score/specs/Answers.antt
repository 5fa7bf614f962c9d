-- Any two answers that the promise of a public function allows are equal. Assumes nothing.
use Rattle.std.specs.Io.KnownBytes.{Appends}
use Rattle.std.specs.Prelude.{◌≡◌, Bool, List, Some, ℕ}
use Rattle.std.proofs.Common.{sym, ◌∙◌}
use Rattle.score.specs.declared.Score.{Score}
use Rattle.score.specs.Counts.{none, counted, judged, summed}

pub new_one : (r r' : Score) → r ≡ none → r' ≡ none → r ≡ r'
new_one r r' e e' = e ∙ sym e'

pub counted-one :
    (s : Score) (wrong agrees : Bool) (r r' : Score) → r ≡ counted s wrong agrees → r' ≡ counted s wrong agrees → r ≡ r'
counted-one s wrong agrees r r' e e' = e ∙ sym e'

pub judge-one :
    (s : Score) (wrong agrees : Bool) (r r' : Score) → r ≡ counted s wrong agrees → r' ≡ counted s wrong agrees → r ≡ r'
judge-one = counted-one

-- and of a writer whose contents xs are known, what `Score::judge` prints
pub judge_prints-one :
    (s : Score) (wrong agrees : Bool) (xs ys zs : List ℕ) →
    Appends (Some xs) (Some ys) (judged s wrong agrees) → Appends (Some xs) (Some zs) (judged s wrong agrees) → ys ≡ zs
judge_prints-one s wrong agrees xs ys zs e e' = e ∙ sym e'

-- and what `Score::print` does
pub print-one :
    (s : Score) (xs ys zs : List ℕ) →
    Appends (Some xs) (Some ys) (summed s) → Appends (Some xs) (Some zs) (summed s) → ys ≡ zs
print-one s xs ys zs e e' = e ∙ sym e'
