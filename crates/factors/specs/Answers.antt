-- Any two answers that the promise of the identity fill or of the row view allows are equal. Assumes nothing.
use Rattle.std.specs.Prelude.{◌≡◌, refl, List, ℕ, Result, Ok, Err, Float}
use Rattle.std.proofs.Common.{sym, ap, ◌∙◌}
use Rattle.method.specs.Fill.{Filled, filled, fill_outcome}
use Rattle.method.specs.View.{row_viewed}
use Rattle.factors.specs.Fill.{unfit_number, fill_number_of}
use Rattle.factors.specs.View.{Place, view_place}
use Rattle.factors.specs.declared.identity.Unfit.{Unfit}
use Rattle.factors.specs.declared.identity.Unfit.TheVariants.{NoSize, TooLarge, WrongLength}

-- the number of an answer, and the slice
pub filled_one :
    (n : ℕ) (a : List Float) (r r' : ℕ) (l l' : List Float) →
    filled r l ≡ fill_outcome n a → filled r' l' ≡ fill_outcome n a → (r ≡ r') × (l ≡ l')
filled_one n a r r' l l' e e' =
    let d = e ∙ sym e' in
    (ap (λ (x : Filled). x.number) d, ap (λ (x : Filled). x.list) d)

-- each answer has its own number
number_own : (r r' : Result (Unit {0}) Unfit) → fill_number_of r ≡ fill_number_of r' → r ≡ r'
number_own (Ok x) (Ok y) e = refl
number_own (Ok x) (Err NoSize) e = cc
number_own (Ok x) (Err TooLarge) e = cc
number_own (Ok x) (Err WrongLength) e = cc
number_own (Err NoSize) (Ok y) e = cc
number_own (Err TooLarge) (Ok y) e = cc
number_own (Err WrongLength) (Ok y) e = cc
number_own (Err NoSize) (Err NoSize) e = refl
number_own (Err NoSize) (Err TooLarge) e = cc
number_own (Err NoSize) (Err WrongLength) e = cc
number_own (Err TooLarge) (Err NoSize) e = cc
number_own (Err TooLarge) (Err TooLarge) e = refl
number_own (Err TooLarge) (Err WrongLength) e = cc
number_own (Err WrongLength) (Err NoSize) e = cc
number_own (Err WrongLength) (Err TooLarge) e = cc
number_own (Err WrongLength) (Err WrongLength) e = refl

-- `identity_flat`: the answer and the slice
pub fill_one :
    (n : ℕ) (a : List Float) (r r' : Result (Unit {0}) Unfit) (l l' : List Float) →
    filled (fill_number_of r) l ≡ fill_outcome n a → filled (fill_number_of r') l' ≡ fill_outcome n a →
    (r ≡ r') × (l ≡ l')
fill_one n a r r' l l' e e' =
    let d = filled_one n a (fill_number_of r) (fill_number_of r') l l' e e' in (number_own r r' d.0, d.1)

-- `Unfit::number`
pub unfit_number-one : (e : Unfit) (r r' : ℕ) → r ≡ unfit_number e → r' ≡ unfit_number e → r ≡ r'
unfit_number-one e r r' p p' = p ∙ sym p'

-- `row_view`: the entries, and so how many there are, and the place in memory
pub view_one :
    (rows cols : ℕ) (u v : List Float) (side k : ℕ) (p q : Place) (l l' : List Float) (at at' : Place) →
    (l ≡ row_viewed rows cols u v side k) × (at ≡ view_place rows cols u v side k p q) →
    (l' ≡ row_viewed rows cols u v side k) × (at' ≡ view_place rows cols u v side k p q) →
    (l ≡ l') × (at ≡ at')
view_one rows cols u v side k p q l l' at at' e e' = (e.0 ∙ sym e'.0, e.1 ∙ sym e'.1)
