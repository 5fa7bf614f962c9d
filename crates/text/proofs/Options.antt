-- What was read, was read on the way: from what a reading gave to what its parts gave. Assumes nothing.
use Rattle.std.specs.Prelude.{◌≡◌, refl, Bool, true, false, ◌&&◌, ℕ, Option as Answer, Some, None}
use Rattle.std.proofs.Math.Option.{Option, none, some}
use Rattle.std.proofs.Common.{arith}
use Rattle.text.specs.Text.{◌>>=◌, when}
use Rattle.text.specs.Code.{option_of}

pub bind_some : {A B : Type 0} (o : Option A) (f : A → Option B) (b : B) → (o >>= f) ≡ some b
    → (a : A) × (o ≡ some a) × (f a ≡ some b)
unfolding ◌>>=◌
bind_some none f b e = absurd (let z : ◌≡◌ {A = ℕ} 0 1 = cc in omega arith)
bind_some (some a) f b e = (a, refl, e)

pub when-some : {A : Type 0} (t : Bool) (a b : A) → when t a ≡ some b → (t ≡ true) × (a ≡ b)
unfolding when
when-some true a b e = (refl, cc)
when-some false a b e = absurd (let z : ◌≡◌ {A = ℕ} 0 1 = cc in omega arith)

pub and_both : (s t : Bool) → (s && t) ≡ true → (s ≡ true) × (t ≡ true)
and_both true t e = (refl, e)
and_both false t e = absurd (let z : ◌≡◌ {A = ℕ} 0 1 = cc in omega arith)

-- answers of the code that say the same are the same
pub option_of-one : {A : Type 0} (r r' : Answer A) → option_of r ≡ option_of r' → r ≡ r'
option_of-one None None e = refl
option_of-one None (Some x) e = absurd (let z : ◌≡◌ {A = ℕ} 0 1 = cc in omega arith)
option_of-one (Some x) None e = absurd (let z : ◌≡◌ {A = ℕ} 0 1 = cc in omega arith)
option_of-one (Some x) (Some y) e = cc
