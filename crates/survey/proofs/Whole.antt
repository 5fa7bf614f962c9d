-- Laws of the whole text, as the proof of `split` uses them. Assumes nothing.
use Rattle.std.specs.Prelude.{◌≡◌, refl, ℕ, zero, suc, ◌+◌, ◌-◌, ◌*◌, ◌<◌, ◌≤◌, Float, length, take, drop}
use Rattle.std.proofs.Math.Path.{sym}
use Rattle.std.proofs.Common.{ap, subst, add-one, arith, suc-mul, zero-mul, length-append, take_at}
use mathlib.Core.List.{List, [], ◌∷◌, ◌++◌, append_assoc}
use Rattle.std.proofs.Math.Nat.{mul-le-mul}
use Rattle.std.proofs.Math.ListN.{get_or}
use Rattle.std.proofs.Math.Seq.{drop-cons, sets, length-sets, drop-length}
use Rattle.std.proofs.lemmas.List.Edits.{sets-eq}
use Rattle.std.proofs.lemmas.List.{nil_from_length}
use Rattle.survey.specs.declared.reading.Entry.{Entry}
use Rattle.text.specs.Text.{Bytes}
use Rattle.survey.specs.Form.{entry_line, row_line, Got, malformed, got, line, and_then, contents, count_line, head, body, bodies, reading, Survey, Reading}
use Rattle.survey.specs.Print.{survey_text, surveys_text, malformed_text, printed, split}
use Rattle.survey.specs.Code.{body_stored, survey_of}
use Rattle.survey.proofs.Lines.{zeros}
use Rattle.survey.proofs.LineSize.{line-size}
use Rattle.survey.proofs.Bodies.{row_length}
use Rattle.survey.specs.Found.{InRange}
use Rattle.survey.proofs.Found.{entry_range, then_got}

-- ---- names

abbrev pub reading_of : List Survey → ℕ → Reading
reading_of ss n = record { surveys = ss; malformed_line = n }

-- ---- every entry of the contents is in range

abbrev pub All : List Entry → Type 0
All [] = Unit
All (e ∷ es) = InRange e × All es

all_more : (es : List Entry) (e : Entry) → All es → InRange e → All (es ++ (e ∷ []))
all_more [] e a r = (r, tt)
all_more (x ∷ es) e a r = (a.0, all_more es e a.1 r)

pub all_at : (es : List Entry) (i : ℕ) → All es → i < length es → InRange (get_or es i zeros)
all_at [] i a h = absurd (omega arith)
all_at (e ∷ es) zero a h = a.0
all_at (e ∷ es) (suc i) a h = all_at es i a.1 (omega arith)

pub contents-all : (k : ℕ) (es : List Entry) (n : ℕ) (t : Bytes) (es₁ : List Entry) (n₁ : ℕ) (t₁ : Bytes)
    → contents k es n t ≡ got es₁ n₁ t₁ → All es → All es₁
unfolding contents and_then
contents-all zero es n t es₁ n₁ t₁ e a = let q : es ≡ es₁ = cc in subst All q a
contents-all (suc k) es n t es₁ n₁ t₁ e a =
    let p = then_got (line (entry_line es) n t) (λ x. contents k (es ++ (x ∷ []))) es₁ n₁ t₁ e in
    let r = line-size (entry_line es) n t p.0 p.1 p.2 p.3 in
    contents-all k (es ++ (p.0 ∷ [])) p.1 p.2 es₁ n₁ t₁ p.4 (all_more es p.0 a (entry_range es r.0 p.0 r.1))

pub head-all : (t : Bytes) (es : List Entry) (n : ℕ) (t₁ : Bytes) → head 1 t ≡ got es n t₁ → All es
unfolding head and_then
head-all t es n t₁ e =
    let p = then_got (line count_line 1 t) (λ k. contents k []) es n t₁ e in
    contents-all p.0 [] p.1 p.2 es n t₁ p.4 tt

-- ---- a body has as many readings as it should

pub body-length : (r c n : ℕ) (t : Bytes) (xs : List Float) (n₁ : ℕ) (t₁ : Bytes) → body r c n t ≡ got xs n₁ t₁
    → length xs ≡ r * (c + 1)
unfolding body and_then
body-length zero c n t xs n₁ t₁ e = let q : [] ≡ xs = cc in omega (arith, ap length q, zero-mul (c + 1))
body-length (suc r) c n t xs n₁ t₁ e =
    let p = then_got (line (row_line c) n t) (λ x m s. and_then (body r c m s) λ ys. got (x ++ ys)) xs n₁ t₁ e in
    let q = then_got (body r c p.1 p.2) (λ ys. got (p.0 ++ ys)) xs n₁ t₁ p.4 in
    let f : got (p.0 ++ q.0) q.1 q.2 ≡ got xs n₁ t₁ = q.4 in
    let z : p.0 ++ q.0 ≡ xs = cc in
    let l = line-size (row_line c) n t p.0 p.1 p.2 p.3 in
    let ih = body-length r c p.1 p.2 q.0 q.1 q.2 q.3 in
    omega (arith, ap length z, length-append p.0 q.0, row_length c l.0 p.0 l.1, ih, suc-mul r (c + 1))

-- and so has that of an entry
pub survey_length : (e : Entry) → InRange e → (n : ℕ) (t : Bytes) (xs : List Float) (n₁ : ℕ) (t₁ : Bytes)
    → body e.rows (e.cols - 1) n t ≡ got xs n₁ t₁ → length xs ≡ e.rows * e.cols
survey_length e r n t xs n₁ t₁ h =
    let c₁ : e.cols - 1 + 1 ≡ e.cols = omega (arith, r.cols_least) in
    rw c₁ at (body-length e.rows (e.cols - 1) n t xs n₁ t₁ h)

-- ---- what the code's body says

pub body-yes : (r c n : ℕ) (t : Bytes) (m m₁ : List Float) (n₁ : ℕ) (t₁ : Bytes) → got m₁ n₁ t₁ ≡ body_stored r c n t m 0
    → (xs : List Float) × (body r c n t ≡ got xs n₁ t₁) × (m₁ ≡ sets m 0 xs)
unfolding body_stored and_then
body-yes r c n t m m₁ n₁ t₁ e = go (body r c n t) refl
  where
    go : (g : Got (List Float)) → body r c n t ≡ g
        → (xs : List Float) × (body r c n t ≡ got xs n₁ t₁) × (m₁ ≡ sets m 0 xs)
    go (malformed k) h = let q : got m₁ n₁ t₁ ≡ malformed k = rw h at e in absurd (let z : ◌≡◌ {A = ℕ} 0 1 = cc in omega arith)
    go (got xs n₂ t₂) h = let q : got m₁ n₁ t₁ ≡ got (sets m 0 xs) n₂ t₂ = rw h at e in (xs, cc, cc)

pub body-no : (r c n : ℕ) (t : Bytes) (m : List Float) (k : ℕ) → malformed k ≡ body_stored r c n t m 0
    → body r c n t ≡ malformed k
unfolding body_stored and_then
body-no r c n t m k e = go (body r c n t) refl
  where
    go : (g : Got (List Float)) → body r c n t ≡ g → body r c n t ≡ malformed k
    go (malformed j) h = let q : malformed k ≡ malformed j = rw h at e in cc
    go (got xs n₂ t₂) h = let q : malformed k ≡ got (sets m 0 xs) n₂ t₂ = rw h at e in absurd (let z : ◌≡◌ {A = ℕ} 0 1 = cc in omega arith)

-- ---- what is printed

-- a survey's text comes first, and then what is printed of the rest: the refusal stands behind every survey
pub printed-first : (s : Survey) (ss : List Survey) (n : ℕ)
    → printed (reading_of (s ∷ ss) n) ≡ survey_text s ++ printed (reading_of ss n)
unfolding printed surveys_text
printed-first s ss n = append_assoc (survey_text s) (surveys_text ss) (malformed_text n)

pub split-bad : (t : Bytes) (m : ℕ) → malformed m ≡ head 1 t → split t ≡ malformed_text m
unfolding split reading printed surveys_text
split-bad t m e = rw (reading, ← e)

pub split-got : (t : Bytes) (es : List Entry) (n : ℕ) (t₁ : Bytes) → got es n t₁ ≡ head 1 t
    → split t ≡ printed (bodies es n t₁)
unfolding split reading
split-got t es n t₁ e = rw (reading, ← e)

-- what is left to print of what is left of a text, which has the bodies of the entries
unfoldable pub left : List Entry → ℕ → Bytes → Bytes
left es n t = printed (bodies es n t)

module _ (es : List Entry) (i n : ℕ) (t : Bytes) (h : i < length es) where
  abbrev it : Entry
  it = get_or es i zeros

  next_bad : (k : ℕ) → body it.rows (it.cols - 1) n t ≡ malformed k → left (drop i es) n t ≡ malformed_text k
  unfolding left bodies printed surveys_text
  next_bad k e = rw (drop-cons es i zeros h, bodies, e)

  next_got : (xs : List Float) (n₁ : ℕ) (t₁ : Bytes) → body it.rows (it.cols - 1) n t ≡ got xs n₁ t₁
      → left (drop i es) n t ≡ survey_text (survey_of it xs) ++ left (drop (i + 1) es) n₁ t₁
  unfolding left bodies
  next_got xs n₁ t₁ e = rw (add-one i, drop-cons es i zeros h, bodies, e) (printed-first (survey_of it xs) _ _)

-- the readings that were stored stand first
pub stored-first : (n : ℕ) (m xs : List Float) → length xs ≡ n → n ≤ length m → take n (sets m 0 xs) ≡ xs
stored-first n m xs h g =
    let q : sets m 0 xs ≡ xs ++ drop (0 + length xs) m = sets-eq xs m 0 (omega arith) in
    rw q (take_at xs (drop (0 + length xs) m) n h)

-- ---- the code's loop over the surveys, i of them done

module _ (es : List Entry) (i n : ℕ) (t : Bytes) (h : i < length es) (a : All es)
    (m m₁ : List Float) (e : Entry) (is : e ≡ get_or es i zeros) where
  pub turn-bad : (k : ℕ) → malformed k ≡ body_stored e.rows (e.cols - 1) n t m 0 → left (drop i es) n t ≡ malformed_text k
  turn-bad k q = next_bad es i n t h k (rw (← is) (body-no e.rows (e.cols - 1) n t m k q))

  pub turn-got : length m₁ ≡ 2304 → (n₁ : ℕ) (t₁ : Bytes) → got m₁ n₁ t₁ ≡ body_stored e.rows (e.cols - 1) n t m 0
      → left (drop i es) n t ≡ survey_text (survey_of e (take (e.rows * e.cols) m₁)) ++ left (drop (i + 1) es) n₁ t₁
  turn-got w n₁ t₁ q = let y = body-yes e.rows (e.cols - 1) n t m m₁ n₁ t₁ q in more y.0 y.1 y.2
    where
      more : (xs : List Float) → body e.rows (e.cols - 1) n t ≡ got xs n₁ t₁ → m₁ ≡ sets m 0 xs
          → left (drop i es) n t ≡ survey_text (survey_of e (take (e.rows * e.cols) m₁)) ++ left (drop (i + 1) es) n₁ t₁
      more xs x y =
          let r : InRange e = rw is (all_at es i a h) in
          let z = survey_length e r n t xs n₁ t₁ x in
          let v : e.rows * e.cols ≤ 48 * 48 = mul-le-mul r.rows_most r.cols_most in
          let u : length m ≡ 2304 = rw (y, length-sets) at w in
          rw (y, stored-first (e.rows * e.cols) m xs z (omega (arith, v, u)), is) (next_got es i n t h xs n₁ t₁ (rw (← is) x))

pub area : (e : Entry) → InRange e → (e.rows * e.cols ≤ 2304) × (e.rows * (e.cols - 1 + 1) ≤ 2304)
area e r =
    let c₁ : e.cols - 1 + 1 ≡ e.cols = omega (arith, r.cols_least) in
    let v : e.rows * e.cols ≤ 48 * 48 = mul-le-mul r.rows_most r.cols_most in
    (omega arith, rw c₁ (omega arith))

-- where the loop begins
pub begin_got : (t : Bytes) (es : List Entry) (n : ℕ) (t₁ : Bytes) → got es n t₁ ≡ head 1 t
    → All es × (left es n t₁ ≡ split t)
unfolding left
begin_got t es n t₁ e = (head-all t es n t₁ (sym e), sym (split-got t es n t₁ e))

-- where the loop is left
module _ (es : List Entry) (i n : ℕ) (t : Bytes) (h : i ≡ length es) where
  pub done_whole : length t ≡ 0 → left (drop i es) n t ≡ []
  unfolding left bodies printed surveys_text malformed_text
  done_whole g = let z : t ≡ [] = nil_from_length t g in rw (h, drop-length, z)

  pub done_extra : (length t ≡ 0 → ⊥) → left (drop i es) n t ≡ malformed_text n
  unfolding left bodies printed surveys_text
  done_extra g = rw (h, drop-length) (more t g)
    where
      more : (t : Bytes) → (length t ≡ 0 → ⊥) → printed (bodies [] n t) ≡ malformed_text n
      more [] g = absurd (g refl)
      more (b ∷ t) g = refl
