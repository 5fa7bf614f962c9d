-- For the proof of the identity fill: what each way out answers. Assumes nothing.
use Rattle.std.specs.Prelude.{◌≡◌, List, ℕ, ◌<◌, Result, Ok, Err, Float}
use Rattle.std.proofs.Common.{sym, ap, ◌∙◌, arith}
use Rattle.method.specs.Fill.{identity, filled, fill_number, fill_outcome}
use Rattle.factors.specs.declared.identity.Unfit.{Unfit}
use Rattle.factors.specs.declared.identity.Unfit.TheVariants.{NoSize, TooLarge, WrongLength}
use Rattle.method.specs.Fill.Numbers.{FillFit}
use Rattle.method.proofs.Fill.Numbers.{fill_fit, fill_refused, fill_accepted}

-- the number of a refusal, and of an answer: 0 where nothing is refused
abbrev pub unfit_number : Unfit → ℕ
unfit_number NoSize = 1
unfit_number TooLarge = 2
unfit_number WrongLength = 4

abbrev pub fill_number_of : {A : Type 0} → Result A Unfit → ℕ
fill_number_of (Ok x) = 0
fill_number_of (Err e) = unfit_number e

-- a fill that is refused by number k
pub fill_with : (n k : ℕ) (a : List Float) → 0 < k → fill_number n a ≡ k → filled k a ≡ fill_outcome n a
fill_with n k a h e = sym (fill_refused n a (λ z. omega arith) ∙ ap (λ (m : ℕ). filled m a) e)

-- a fill that is accepted
pub fill_done : (n : ℕ) (a b : List Float) → FillFit n a → b ≡ identity n → filled 0 b ≡ fill_outcome n a
fill_done n a b f e = ap (λ (l : List Float). filled 0 l) e ∙ sym (fill_accepted n a ((fill_fit n a).1 f))
