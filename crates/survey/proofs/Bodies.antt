-- Laws of the bodies, as the proofs of the code use them. Assumes nothing.
use Rattle.std.specs.Prelude.{◌≡◌, refl, ℕ, zero, suc, ◌+◌, ◌-◌, ◌*◌, ◌<◌, ◌≤◌, Float, length}
use Rattle.std.proofs.Common.{sym, ap, ◌∙◌, suc-mul}
use Rattle.std.proofs.Math.Option.{Option, none, some}
use mathlib.Core.List.{List, [], ◌∷◌, ◌++◌}
use native.Mathlib.Omega.{arith}
use Rattle.std.specs.Float.{binary64}
use Rattle.std.specs.Float.Ieee.{of_bits}
use Rattle.std.proofs.Math.Seq.{sets}
use Rattle.text.specs.Text.{Bytes, LF, space, ◌>>=◌, cut, pattern}
use Rattle.text.proofs.Options.{bind_some}
use Rattle.text.proofs.Digits.{sets_append}
use Rattle.survey.specs.Form.{row_line, Got, malformed, got, line, and_then, body}
use Rattle.survey.specs.Code.{row_stored, body_into, body_stored}
use Rattle.survey.proofs.Found.{short-some, short_none}
use Rattle.survey.proofs.LineSize.{row_short, line-size}

-- ---- a line by its rule

module _ {A : Type 0} (rule : Bytes → Option A) (n : ℕ) (t : Bytes) where
  pub line-none : cut LF t ≡ none → line rule n t ≡ malformed n
  unfolding line
  line-none g = rw (line, g)

  module _ (l r : Bytes) (h : cut LF t ≡ some (l, r)) where
    pub line-bad : rule l ≡ none → line rule n t ≡ malformed n
    unfolding line
    line-bad g = rw (line, h, short_none rule l g)

    pub line-got : (a : A) → rule l ≡ some a → length l ≤ 815 → line rule n t ≡ got a (n + 1) r
    unfolding line
    line-got a g s = rw (line, h, short-some rule l a g s)

-- ---- a row

-- a row of c + 1 readings has c + 1 readings
pub row_length : (c : ℕ) (l : Bytes) (xs : List Float) → row_line c l ≡ some xs → length xs ≡ c + 1
unfolding row_line
row_length zero l xs e =
    let p = bind_some (pattern l) _ xs e in
    let q : some (of_bits binary64 p.0 ∷ []) ≡ some xs = p.2 in
    let z : of_bits binary64 p.0 ∷ [] ≡ xs = cc in
    rw (← z)
row_length (suc c) l xs e =
    let p₁ = bind_some (cut space l) _ xs e in
    let p₂ = bind_some (pattern p₁.0.0) _ xs p₁.2 in
    let p₃ = bind_some (row_line c p₁.0.1) _ xs p₂.2 in
    let q : some (of_bits binary64 p₂.0 ∷ p₃.0) ≡ some xs = p₃.2 in
    let z : of_bits binary64 p₂.0 ∷ p₃.0 ≡ xs = cc in
    rw (← z) (omega (arith, row_length c p₁.0.1 p₃.0 p₃.1))

-- what `row_line` answers
pub row_yes : (c : ℕ) (l : Bytes) (m m₁ : List Float) (at : ℕ) → some m₁ ≡ row_stored c l m at
    → (xs : List Float) × (row_line c l ≡ some xs) × (m₁ ≡ sets m at xs)
unfolding row_stored ◌>>=◌
row_yes c l m m₁ at e = go (row_line c l) refl
  where
    go : (o : Option (List Float)) → row_line c l ≡ o → (xs : List Float) × (row_line c l ≡ some xs) × (m₁ ≡ sets m at xs)
    go none h = let q : some m₁ ≡ none = rw h at e in absurd (let z : ◌≡◌ {A = ℕ} 0 1 = cc in omega arith)
    go (some xs) h = let q : some m₁ ≡ some (sets m at xs) = rw h at e in (xs, h, cc)

pub row_no : (c : ℕ) (l : Bytes) (m : List Float) (at : ℕ) → none ≡ row_stored c l m at → row_line c l ≡ none
unfolding row_stored ◌>>=◌
row_no c l m at e = go (row_line c l) refl
  where
    go : (o : Option (List Float)) → row_line c l ≡ o → row_line c l ≡ none
    go none h = h
    go (some xs) h = let q : none ≡ some (sets m at xs) = rw h at e in absurd (let z : ◌≡◌ {A = ℕ} 0 1 = cc in omega arith)

-- ---- a body

-- row by row is all at once
pub body-stored : (r c n : ℕ) (t : Bytes) (m : List Float) (at : ℕ) → body_into r c n t m at ≡ body_stored r c n t m at
unfolding body_into body_stored body and_then
body-stored zero c n t m at = refl
body-stored (suc r) c n t m at = go (line (row_line c) n t) refl (λ n₁ t₁ m₁. body-stored r c n₁ t₁ m₁ (at + (c + 1)))
  where
    tail : (xs : List Float) → length xs ≡ c + 1 → (g : Got (List Float))
        → and_then g (λ ys. got (sets (sets m at xs) (at + (c + 1)) ys))
        ≡ and_then (and_then g (λ ys. got (xs ++ ys))) (λ zs. got (sets m at zs))
    tail xs h (malformed k) = refl
    tail xs h (got ys n₂ t₂) = ap (λ (z : List Float). got z n₂ t₂) (sym (sets_append xs ys m at ∙ ap (λ (z : ℕ). sets (sets m at xs) (at + z) ys) h))

    go : (g : Got (List Float)) → line (row_line c) n t ≡ g
        → ((n₁ : ℕ) (t₁ : Bytes) (m₁ : List Float)
        → body_into r c n₁ t₁ m₁ (at + (c + 1)) ≡ body_stored r c n₁ t₁ m₁ (at + (c + 1)))
        → and_then g (λ xs n₁ t₁. body_into r c n₁ t₁ (sets m at xs) (at + (c + 1)))
        ≡ and_then (and_then g (λ xs n₁ t₁. and_then (body r c n₁ t₁) λ ys. got (xs ++ ys))) (λ zs. got (sets m at zs))
    go (malformed k) h ih = refl
    go (got xs n₁ t₁) h ih =
        let q = line-size (row_line c) n t xs n₁ t₁ h in
        ih n₁ t₁ (sets m at xs) ∙ tail xs (row_length c q.0 xs q.1) (body r c n₁ t₁)

-- a turn of the code's loop, j rows done
module _ (rows c n j : ℕ) (t : Bytes) (m : List Float) (k : ℕ) (h : j < rows) where
  less : rows - j ≡ suc (rows - (j + 1))
  less = omega arith

  pub body-none : cut LF t ≡ none → malformed n ≡ body_into (rows - j) c n t m k
  unfolding body_into and_then
  body-none g = rw (less, line-none (row_line c) n t g)

  module _ (l r : Bytes) (g : cut LF t ≡ some (l, r)) where
    pub body-bad : none ≡ row_stored c l m k → malformed n ≡ body_into (rows - j) c n t m k
    unfolding body_into and_then
    body-bad b = rw (less, line-bad (row_line c) n t l r g (row_no c l m k b))

    pub body-next : (m₁ : List Float) → c < 48 → some m₁ ≡ row_stored c l m k
        → body_into (rows - (j + 1)) c (n + 1) r m₁ (k + (c + 1)) ≡ body_into (rows - j) c n t m k
    unfolding body_into and_then
    body-next m₁ w b = let q = row_yes c l m m₁ k b in more q.0 q.1 q.2
      where
        more : (xs : List Float) → row_line c l ≡ some xs → m₁ ≡ sets m k xs
            → body_into (rows - (j + 1)) c (n + 1) r m₁ (k + (c + 1)) ≡ body_into (rows - j) c n t m k
        more xs x y = rw (y, less, line-got (row_line c) n t l r g xs x (row_short c l xs w x))

pub body_end : (rows c n j : ℕ) (t : Bytes) (m : List Float) (k : ℕ) → j ≡ rows
    → got m n t ≡ body_into (rows - j) c n t m k
unfolding body_into
body_end rows c n j t m k e = let z : rows - rows ≡ 0 = omega arith in rw (e, z)

pub room : (rows j w : ℕ) → j < rows → (rows - j) * w ≡ (rows - (j + 1)) * w + w
room rows j w h = let z : rows - j ≡ suc (rows - (j + 1)) = omega arith in rw z (suc-mul (rows - (j + 1)) w)
