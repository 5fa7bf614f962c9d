-- What is printed of an input whose bytes are known, and what is read of it.
use Rattle.std.specs.Prelude.{◌≡◌, ℕ, List, Option, Some, None, IfSome, Result, Ok, Err, ⊤, drop}
use Rattle.std.specs.Io.KnownBytes.{Appends}
use Rattle.survey.specs.Print.{split}
use Rattle.survey.specs.Sizes.{enough}
use Rattle.split.specs.declared.Failure.{Failure}
use Rattle.split.specs.declared.Failure.TheVariants.{Input, Output}

-- of a reader that had the bytes `input` left, and a writer that held `before` and holds `after`: where they are known,
-- what `split` prints of these bytes was appended
abbrev pub Prints : Option (List ℕ) → Option (List ℕ) → Option (List ℕ) → Type 0
Prints input before after = IfSome input (λ t. Appends before after (split t))

-- of a reader that had the bytes `input` left and has `rest` left: where they are known, those past the first `enough`
-- are left, and no others
abbrev pub Leaves : Option (List ℕ) → Option (List ℕ) → Type 0
Leaves None rest = ⊤
Leaves (Some t) None = ⊥
Leaves (Some t) (Some rest) = rest ≡ drop enough t

-- and that of an answer: nothing is said of a read that failed
abbrev pub Reads : Result (Unit {0}) Failure → Option (List ℕ) → Option (List ℕ) → Type 0
Reads (Ok x) input rest = Leaves input rest
Reads (Err Input) input rest = ⊤
Reads (Err Output) input rest = Leaves input rest
