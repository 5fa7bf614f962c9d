-- A text that is well-formed has at most 313,442 bytes. Assumes nothing.
use Rattle.std.specs.Prelude.{◌≡◌, refl, List, [], ◌∷◌, ◌++◌, ℕ, zero, suc, ◌+◌, ◌-◌, ◌*◌, ◌<◌, ◌≤◌, Float, length}
use Rattle.std.proofs.Common.{ap, arith, suc-mul, zero-mul, length-append}
use Rattle.std.proofs.Math.Option.{Option, none, some}
use Rattle.survey.specs.declared.reading.Entry.{Entry}
use Rattle.text.specs.Text.{Bytes, LF, ◌>>=◌, cut}
use Rattle.text.proofs.NumeralLaws.{number-range}
use Rattle.survey.specs.Sizes.{longest}
use Rattle.survey.specs.Form.{count_line, entry_line, row_line, short, Got, malformed, got, line, and_then, contents, head, body, bodies, reading}
use Rattle.survey.proofs.Found.{then_got}
use Rattle.survey.proofs.LineSize.{count-size, entry_size, row_size, line-size}
use Rattle.survey.proofs.Whole.{All, contents-all, area}

-- ---- line by line

pub contents-size : (k : ℕ) (es : List Entry) (n : ℕ) (t : Bytes) (es₁ : List Entry) (n₁ : ℕ) (t₁ : Bytes)
    → contents k es n t ≡ got es₁ n₁ t₁
    → (length t ≤ 12 * k + length t₁) × (length es₁ ≡ length es + k) × (n ≤ n₁)
unfolding contents
contents-size zero es n t es₁ n₁ t₁ e =
    let p : es ≡ es₁ = cc in
    let q : t ≡ t₁ = cc in
    let r : n ≡ n₁ = cc in
    (omega (arith, ap (λ (y : Bytes). length y) q), omega (arith, ap (λ (y : List Entry). length y) p), omega arith)
contents-size (suc k) es n t es₁ n₁ t₁ e =
    let p = then_got (line (entry_line es) n t) (λ x. contents k (es ++ (x ∷ []))) es₁ n₁ t₁ e in
    let l = line-size (entry_line es) n t p.0 p.1 p.2 p.3 in
    let s = entry_size es l.0 p.0 l.1 in
    let ih = contents-size k (es ++ (p.0 ∷ [])) p.1 p.2 es₁ n₁ t₁ p.4 in
    (omega (arith, l.2, s, ih.0), omega (arith, length-append es (p.0 ∷ []), ih.1), omega (arith, l.3, ih.2))

pub body-size : (r c n : ℕ) (t : Bytes) (xs : List Float) (n₁ : ℕ) (t₁ : Bytes) → body r c n t ≡ got xs n₁ t₁
    → (length t ≡ 17 * (r * (c + 1)) + length t₁) × (n ≤ n₁)
unfolding body
body-size zero c n t xs n₁ t₁ e =
    let q : t ≡ t₁ = cc in
    let r : n ≡ n₁ = cc in
    (omega (arith, ap (λ (y : Bytes). length y) q, zero-mul (c + 1)), omega arith)
body-size (suc r) c n t xs n₁ t₁ e =
    let p = then_got (line (row_line c) n t) (λ x m s. and_then (body r c m s) λ ys. got (x ++ ys)) xs n₁ t₁ e in
    let q = then_got (body r c p.1 p.2) (λ ys. got (p.0 ++ ys)) xs n₁ t₁ p.4 in
    let f : got (p.0 ++ q.0) q.1 q.2 ≡ got xs n₁ t₁ = q.4 in
    let f₁ : q.2 ≡ t₁ = cc in
    let f₂ : q.1 ≡ n₁ = cc in
    let l = line-size (row_line c) n t p.0 p.1 p.2 p.3 in
    let s = row_size c l.0 p.0 l.1 in
    let ih = body-size r c p.1 p.2 q.0 q.1 q.2 q.3 in
    (omega (arith, l.2, s, ih.0, suc-mul r (c + 1), ap (λ (y : Bytes). length y) f₁), omega (arith, l.3, ih.1))

-- ---- a malformed line's number is no smaller than the number of the line where reading began

line-bad_line : {A : Type 0} (rule : Bytes → Option A) (n : ℕ) (t : Bytes) (m : ℕ) → line rule n t ≡ malformed m → m ≡ n
unfolding line
line-bad_line {A} rule n t m e = go (cut LF t) refl
  where
    mid : (p : Bytes × Bytes) (o : Option A) → cut LF t ≡ some p → (short p.0 >>= rule) ≡ o → m ≡ n
    mid p none h k = let q : ◌≡◌ {A = Got A} (malformed n) (malformed m) = rw (line, h, k) at e in cc
    mid p (some b) h k = let q : got b (n + 1) p.1 ≡ malformed m = rw (line, h, k) at e in absurd (let z : ◌≡◌ {A = ℕ} 0 1 = cc in omega arith)

    go : (o : Option (Bytes × Bytes)) → cut LF t ≡ o → m ≡ n
    go none h = let q : ◌≡◌ {A = Got A} (malformed n) (malformed m) = rw (line, h) at e in cc
    go (some p) h = mid p (short p.0 >>= rule) h refl

pub body-bad_line : (r c n : ℕ) (t : Bytes) (m : ℕ) → body r c n t ≡ malformed m → n ≤ m
unfolding body and_then
body-bad_line zero c n t m e = absurd (let z : ◌≡◌ {A = ℕ} 0 1 = cc in omega arith)
body-bad_line (suc r) c n t m e = go (line (row_line c) n t) refl (λ k s. body-bad_line r c k s m)
  where
    mid : (x : List Float) (k : ℕ) (s : Bytes) (g : Got (List Float)) → body r c k s ≡ g
        → and_then g (λ ys. got (x ++ ys)) ≡ malformed m → (body r c k s ≡ malformed m → k ≤ m) → k ≤ m
    mid x k s (malformed j) h q ih = ih (let w : ◌≡◌ {A = Got (List Float)} (malformed j) (malformed m) = q in cc)
    mid x k s (got ys n₂ t₂) h q ih = absurd (let w : got (x ++ ys) n₂ t₂ ≡ malformed m = q in let z : ◌≡◌ {A = ℕ} 0 1 = cc in omega arith)

    go : (g : Got (List Float)) → line (row_line c) n t ≡ g → ((k : ℕ) (s : Bytes) → body r c k s ≡ malformed m → k ≤ m)
        → n ≤ m
    go (malformed k) h ih =
        let q : ◌≡◌ {A = Got (List Float)} (malformed k) (malformed m) = rw h at e in
        let z : k ≡ m = cc in
        omega (arith, line-bad_line (row_line c) n t k h)
    go (got x k s) h ih =
        let l = line-size (row_line c) n t x k s h in
        omega (arith, l.3, mid x k s (body r c k s) refl (rw h at e) (ih k s))

pub contents-bad_line : (k : ℕ) (es : List Entry) (n : ℕ) (t : Bytes) (m : ℕ) → contents k es n t ≡ malformed m → n ≤ m
unfolding contents and_then
contents-bad_line zero es n t m e = absurd (let z : ◌≡◌ {A = ℕ} 0 1 = cc in omega arith)
contents-bad_line (suc k) es n t m e = go (line (entry_line es) n t) refl (λ x j s. contents-bad_line k (es ++ (x ∷ [])) j s m)
  where
    go : (g : Got Entry) → line (entry_line es) n t ≡ g
        → ((x : Entry) (j : ℕ) (s : Bytes) → contents k (es ++ (x ∷ [])) j s ≡ malformed m → j ≤ m) → n ≤ m
    go (malformed j) h ih =
        let q : ◌≡◌ {A = Got (List Entry)} (malformed j) (malformed m) = rw h at e in
        let z : j ≡ m = cc in
        omega (arith, line-bad_line (entry_line es) n t j h)
    go (got x j s) h ih =
        let l = line-size (entry_line es) n t x j s h in
        omega (arith, l.3, ih x j s (rw h at e))

-- ---- the whole text

pub bodies-size : (es : List Entry) (n : ℕ) (t : Bytes) → All es → 0 < n → (bodies es n t).malformed_line ≡ 0
    → length t ≤ 39168 * length es
unfolding bodies
bodies-size [] n [] a h e = omega arith
bodies-size [] n (b ∷ t) a h e = absurd (omega arith)
bodies-size (x ∷ es) n t a h e = go (body x.rows (x.cols - 1) n t) refl (λ n₁ t₁. bodies-size es n₁ t₁ a.1)
  where
    go : (g : Got (List Float)) → body x.rows (x.cols - 1) n t ≡ g
        → ((n₁ : ℕ) (t₁ : Bytes) → 0 < n₁ → (bodies es n₁ t₁).malformed_line ≡ 0 → length t₁ ≤ 39168 * length es)
        → length t ≤ 39168 * suc (length es)
    go (malformed m) k ih =
        let q : m ≡ 0 = rw (bodies, k) at e in
        absurd (omega (arith, body-bad_line x.rows (x.cols - 1) n t m k))
    go (got xs n₁ t₁) k ih =
        let q : (bodies es n₁ t₁).malformed_line ≡ 0 = rw (bodies, k) at e in
        let s = body-size x.rows (x.cols - 1) n t xs n₁ t₁ k in
        omega (arith, s.0, (area x a.0).1, ih n₁ t₁ (omega (arith, s.1)) q)

-- a text without a malformed line has at most 313,442 bytes
pub text_size : (t : Bytes) → (reading t).malformed_line ≡ 0 → length t ≤ longest
unfolding reading head and_then count_line
text_size t e = go (line count_line 1 t) refl
  where
    no : (m : ℕ) → head 1 t ≡ malformed m → 1 ≤ m → ⊥
    no m h g = let q : m ≡ 0 = rw (reading, h) at e in omega arith

    mid : (k n : ℕ) (s : Bytes) (g : Got (List Entry)) → line count_line 1 t ≡ got k n s → contents k [] n s ≡ g
        → length t ≤ longest
    mid k n s (malformed m) h j =
        let d : head 1 t ≡ malformed m = rw (h, j) in
        let l = line-size count_line 1 t k n s h in
        absurd (no m d (omega (arith, l.3, contents-bad_line k [] n s m j)))
    mid k n s (got es n₁ t₁) h j =
        let d : head 1 t ≡ got es n₁ t₁ = rw (h, j) in
        let l = line-size count_line 1 t k n s h in
        let c = contents-size k [] n s es n₁ t₁ j in
        let q : (bodies es n₁ t₁).malformed_line ≡ 0 = rw (reading, d) at e in
        omega (arith, l.2, count-size l.0 k l.1, c.0, c.1, (number-range 8 l.0 k l.1).1, bodies-size es n₁ t₁ (contents-all k [] n s es n₁ t₁ j tt) (omega (arith, l.3, c.2)) q)

    go : (g : Got ℕ) → line count_line 1 t ≡ g → length t ≤ longest
    go (malformed m) h =
        let d : head 1 t ≡ malformed m = rw h in
        absurd (no m d (omega (arith, line-bad_line count_line 1 t m h)))
    go (got k n s) h = mid k n s (contents k [] n s) h refl
