-- How many bytes the lines have: a count 1, an entry at most 11, a row 17 a reading less 1. So none has more than 815.
-- Assumes nothing.
use Rattle.std.specs.Prelude.{◌≡◌, refl, List, ℕ, zero, suc, ◌+◌, ◌*◌, ◌<◌, ◌≤◌, Float, length}
use Rattle.std.proofs.Common.{ap, ◌∙◌, arith}
use Rattle.std.proofs.Math.Option.{Option, none, some}
use Rattle.survey.specs.declared.reading.Entry.{Entry}
use Rattle.text.specs.Text.{Bytes, LF, space, ◌>>=◌, cut, number, pattern}
use Rattle.text.proofs.Options.{bind_some}
use Rattle.survey.specs.Form.{count_line, entry_line, row_line, short, malformed, got, line}
use Rattle.survey.proofs.Found.{short-was}
use Rattle.text.proofs.Cuts.{cut-size}
use Rattle.text.proofs.NumeralLaws.{number_size, pattern-size}

pub count-size : (l : Bytes) (k : ℕ) → count_line l ≡ some k → length l ≤ 1
unfolding count_line
count-size l k e = number_size 8 l k 1 e (omega arith)

pub entry_size : (es : List Entry) (l : Bytes) (e : Entry) → entry_line es l ≡ some e → length l ≤ 11
unfolding entry_line
entry_size es l e h =
    let p₁ = bind_some (cut space l) _ e h in
    let p₂ = bind_some (cut space p₁.0.1) _ e p₁.2 in
    let p₃ = bind_some (number 65535 p₁.0.0) _ e p₂.2 in
    let p₄ = bind_some (number 48 p₂.0.0) _ e p₃.2 in
    let p₅ = bind_some (number 48 p₂.0.1) _ e p₄.2 in
    omega (
      arith,
      cut-size space l p₁.0 p₁.1,
      cut-size space p₁.0.1 p₂.0 p₂.1,
      number_size 65535 p₁.0.0 p₃.0 5 p₃.1 (omega arith),
      number_size 48 p₂.0.0 p₄.0 2 p₄.1 (omega arith),
      number_size 48 p₂.0.1 p₅.0 2 p₅.1 (omega arith),
    )

pub row_size : (c : ℕ) (l : Bytes) (xs : List Float) → row_line c l ≡ some xs → length l + 1 ≡ 17 * (c + 1)
unfolding row_line
row_size zero l xs e =
    let p = bind_some (pattern l) _ xs e in
    omega (arith, pattern-size l p.0 p.1)
row_size (suc c) l xs e =
    let p₁ = bind_some (cut space l) _ xs e in
    let p₂ = bind_some (pattern p₁.0.0) _ xs p₁.2 in
    let p₃ = bind_some (row_line c p₁.0.1) _ xs p₂.2 in
    omega (arith, cut-size space l p₁.0 p₁.1, pattern-size p₁.0.0 p₂.0 p₂.1, row_size c p₁.0.1 p₃.0 p₃.1)

-- a row of at most 48 readings has at most 815 bytes
pub row_short : (c : ℕ) (l : Bytes) (xs : List Float) → c < 48 → row_line c l ≡ some xs → length l ≤ 815
row_short c l xs h e = omega (arith, row_size c l xs e)

-- ---- a line by its rule

-- what a line gave, its rule gave, and it ended with its LF
pub line-size : {A : Type 0} (rule : Bytes → Option A) (n : ℕ) (t : Bytes) (a : A) (n₁ : ℕ) (t₁ : Bytes)
    → line rule n t ≡ got a n₁ t₁
    → (l : Bytes) × (rule l ≡ some a) × (length t ≡ length l + 1 + length t₁) × (n₁ ≡ n + 1) × (length l ≤ 815)
unfolding line
line-size {A} rule n t a n₁ t₁ e = go (cut LF t) refl
  where
    mid : (p : Bytes × Bytes) (o : Option A) → cut LF t ≡ some p → (short p.0 >>= rule) ≡ o
        → (l : Bytes) × (rule l ≡ some a) × (length t ≡ length l + 1 + length t₁) × (n₁ ≡ n + 1) × (length l ≤ 815)
    mid p none h k = let q : malformed n ≡ got a n₁ t₁ = rw (line, h, k) at e in absurd (let z : ◌≡◌ {A = ℕ} 0 1 = cc in omega arith)
    mid p (some b) h k =
        let q : got b (n + 1) p.1 ≡ got a n₁ t₁ = rw (line, h, k) at e in
        let z : p.1 ≡ t₁ = cc in
        let y : b ≡ a = cc in
        let s = short-was rule p.0 a (rw y at k) in
        (p.0, s.0, cut-size LF t p h ∙ ap (λ (y : Bytes). length p.0 + 1 + length y) z, cc, s.1)

    go : (o : Option (Bytes × Bytes)) → cut LF t ≡ o
        → (l : Bytes) × (rule l ≡ some a) × (length t ≡ length l + 1 + length t₁) × (n₁ ≡ n + 1) × (length l ≤ 815)
    go none h = let q : malformed n ≡ got a n₁ t₁ = rw (line, h) at e in absurd (let z : ◌≡◌ {A = ℕ} 0 1 = cc in omega arith)
    go (some p) h = mid p (short p.0 >>= rule) h refl
