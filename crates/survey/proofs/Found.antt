-- What was read, was read on the way: from a reading to its parts. Assumes nothing.
use Rattle.std.specs.Prelude.{◌≡◌, refl, Bool, true, false, not, List, ℕ, ◌≤◌, leb, length}
use Rattle.std.proofs.Common.{subst, arith, leb-true, le-leb}
use Rattle.std.proofs.Math.Option.{Option, none, some}
use Rattle.survey.specs.declared.reading.Entry.{Entry}
use Rattle.text.specs.Text.{Bytes, space, ◌>>=◌, when, cut, number}
use Rattle.survey.specs.Form.{named, entry_line, most_line, short, Got, malformed, got, and_then}
use Rattle.text.proofs.Options.{bind_some, when-some}
use Rattle.text.proofs.NumeralLaws.{number-range}
use Rattle.survey.specs.Found.{InRange}

pub entry_range : (es : List Entry) (l : Bytes) (e : Entry) → entry_line es l ≡ some e → InRange e
unfolding entry_line
entry_range es l e h =
    let p₁ = bind_some (cut space l) _ e h in
    let p₂ = bind_some (cut space p₁.0.1) _ e p₁.2 in
    let p₃ = bind_some (number 65535 p₁.0.0) _ e p₂.2 in
    let p₄ = bind_some (number 48 p₂.0.0) _ e p₃.2 in
    let p₅ = bind_some (number 48 p₂.0.1) _ e p₄.2 in
    let p₆ = when-some (not (named p₃.0 es)) (record { id = p₃.0; rows = p₄.0; cols = p₅.0 }) e p₅.2 in
    subst InRange p₆.1 (record {
      id_least = (number-range 65535 p₁.0.0 p₃.0 p₃.1).0;
      id_most = (number-range 65535 p₁.0.0 p₃.0 p₃.1).1;
      rows_least = (number-range 48 p₂.0.0 p₄.0 p₄.1).0;
      rows_most = (number-range 48 p₂.0.0 p₄.0 p₄.1).1;
      cols_least = (number-range 48 p₂.0.1 p₅.0 p₅.1).0;
      cols_most = (number-range 48 p₂.0.1 p₅.0 p₅.1).1;
    })

-- a line that is short enough is read by its rule alone
pub short-some : {A : Type 0} (rule : Bytes → Option A) (l : Bytes) (a : A) → rule l ≡ some a → length l ≤ 815
    → (short l >>= rule) ≡ some a
unfolding short when ◌>>=◌
short-some rule l a e h = rw (le-leb (length l) most_line (omega arith)) e

-- and one that its rule refuses is refused, short or not
pub short_none : {A : Type 0} (rule : Bytes → Option A) (l : Bytes) → rule l ≡ none → (short l >>= rule) ≡ none
unfolding short when ◌>>=◌
short_none {A} rule l e = go (leb (length l) most_line)
  where
    go : (b : Bool) → (when b l >>= rule) ≡ none
    go true = e
    go false = refl

-- what a short line gave, its rule gave
pub short-was : {A : Type 0} (rule : Bytes → Option A) (l : Bytes) (a : A) → (short l >>= rule) ≡ some a
    → (rule l ≡ some a) × (length l ≤ 815)
unfolding short
short-was rule l a e =
    let p = bind_some (when (leb (length l) most_line) l) rule a e in
    let q = when-some (leb (length l) most_line) l p.0 p.1 in
    (rw q.1 p.2, omega (arith, leb-true (length l) most_line q.0))

-- what was read by two steps, the first of them read
pub then_got : {A B : Type 0} (g : Got A) (f : A → ℕ → Bytes → Got B) (b : B) (n : ℕ) (t : Bytes)
    → and_then g f ≡ got b n t
    → (a : A) × (n₁ : ℕ) × (t₁ : Bytes) × (g ≡ got a n₁ t₁) × (f a n₁ t₁ ≡ got b n t)
unfolding and_then
then_got (malformed k) f b n t e = absurd (let z : ◌≡◌ {A = ℕ} 0 1 = cc in omega arith)
then_got (got a n₁ t₁) f b n t e = (a, n₁, t₁, refl, e)
