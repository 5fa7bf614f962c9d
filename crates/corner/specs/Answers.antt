-- Any two answers that the promise of `is_quiet` allows are equal. Assumes nothing.
use Rattle.std.specs.Prelude.{◌≡◌, Bool, List, ℕ, Float}
use Rattle.std.proofs.Common.{sym, ◌∙◌}
use Rattle.method.specs.Quiet.{quiet_corner}

pub quiet_one :
    (upper : Bool) (stride range : ℕ) (b : List Float) (r r' : Bool) →
    r ≡ quiet_corner upper stride range b → r' ≡ quiet_corner upper stride range b → r ≡ r'
quiet_one upper stride range b r r' e e' = e ∙ sym e'
