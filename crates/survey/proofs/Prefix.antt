-- What `split` says of a text, it says of the text's first 313,443 bytes: no line that is read there reaches further.
-- Assumes nothing.
use Rattle.std.specs.Prelude.{◌≡◌, refl, Bool, true, false, List, [], ◌∷◌, ◌++◌, ℕ, zero, suc, ◌+◌, ◌-◌, ◌*◌, ◌<◌, ◌≤◌, ltb, eqb, Float, length, take, drop}
use Rattle.std.proofs.Common.{ap, ◌∙◌, arith, ltb-true, ltb-false, take-append-drop, length-take-le, take_all}
use Rattle.std.proofs.Math.Option.{Option, none, some}
use Rattle.std.proofs.lemmas.Bool.{lt-leb}
use Rattle.survey.specs.declared.reading.Entry.{Entry}
use Rattle.text.specs.Text.{Bytes, LF, ◌>>=◌, when, cut}
use Rattle.text.proofs.NumeralLaws.{number-range}
use Rattle.survey.specs.Sizes.{longest, enough}
use Rattle.survey.specs.Form.{count_line, entry_line, row_line, most_line, short, Got, malformed, got, line, and_then, contents, head, body, bodies, reading}
use Rattle.survey.specs.Print.{printed, split}
use Rattle.survey.proofs.LineSize.{line-size, count-size}
use Rattle.survey.proofs.Whole.{All, contents-all, area}
use Rattle.survey.proofs.TextSize.{contents-size, body-size}

-- what was read, with more after it
unfoldable pub further : {A : Type 0} → Bytes → Got A → Got A
further z (malformed n) = malformed n
further z (got a n t) = got a n (t ++ z)

-- ---- a cut

cut-further : (stop : ℕ) (s z : Bytes) (p : Bytes × Bytes) → cut stop s ≡ some p
    → cut stop (s ++ z) ≡ some (p.0, p.1 ++ z)
unfolding cut ◌>>=◌
cut-further stop [] z p e = absurd (let y : ◌≡◌ {A = ℕ} 0 1 = cc in omega arith)
cut-further stop (b ∷ s) z p e = go (eqb b stop) refl (cut-further stop s z)
  where
    mid : (o : Option (Bytes × Bytes)) → cut stop s ≡ o → eqb b stop ≡ false
        → (o >>= λ r. some (b ∷ r.0, r.1)) ≡ some p
        → ((q : Bytes × Bytes) → cut stop s ≡ some q → cut stop (s ++ z) ≡ some (q.0, q.1 ++ z))
        → cut stop (b ∷ (s ++ z)) ≡ some (p.0, p.1 ++ z)
    mid none h x q ih = absurd (let y : ◌≡◌ {A = ℕ} 0 1 = cc in omega arith)
    mid (some r) h x q ih =
        let w : (b ∷ r.0, r.1) ≡ p = cc in
        rw (cut, x, ih r h) (ap (λ (y : Bytes × Bytes). some (y.0, y.1 ++ z)) w)

    go : (x : Bool) → eqb b stop ≡ x
        → ((q : Bytes × Bytes) → cut stop s ≡ some q → cut stop (s ++ z) ≡ some (q.0, q.1 ++ z))
        → cut stop (b ∷ (s ++ z)) ≡ some (p.0, p.1 ++ z)
    go true x ih =
        let q : some ([], s) ≡ some p = rw (cut, x) at e in
        let w : ([], s) ≡ p = cc in
        rw (cut, x) (ap (λ (y : Bytes × Bytes). some (y.0, y.1 ++ z)) w)
    go false x ih = mid (cut stop s) refl x (rw (cut, x) at e) ih

-- a byte put before what was cut off
unfoldable before : ℕ → Bytes × Bytes → Option (Bytes × Bytes)
before b r = some (b ∷ r.0, r.1)

-- a stop that stands further on has all of s before it
cut-past : (stop : ℕ) (s z : Bytes) (p : Bytes × Bytes) → cut stop s ≡ none → cut stop (s ++ z) ≡ some p
    → length s ≤ length p.0
unfolding cut ◌>>=◌ before
cut-past stop [] z p e f = omega arith
cut-past stop (b ∷ s) z p e f = go (eqb b stop) refl (cut-past stop s z)
  where
    low : (o : Option (Bytes × Bytes)) → (o >>= before b) ≡ none → o ≡ none
    low none q = refl
    low (some r) q = absurd (let y : ◌≡◌ {A = ℕ} 0 1 = cc in omega arith)

    mid : (o : Option (Bytes × Bytes)) → cut stop (s ++ z) ≡ o → (o >>= before b) ≡ some p
        → ((q : Bytes × Bytes) → cut stop (s ++ z) ≡ some q → length s ≤ length q.0) → suc (length s) ≤ length p.0
    mid none h q ih = absurd (let y : ◌≡◌ {A = ℕ} 0 1 = cc in omega arith)
    mid (some r) h q ih =
        let w : (b ∷ r.0, r.1) ≡ p = cc in
        omega (arith, ih r h, ap (λ (y : Bytes × Bytes). length y.0) w)

    here : eqb b stop ≡ true → cut stop (b ∷ s) ≡ some ([], s)
    here x = rw (cut, x)

    go : (x : Bool) → eqb b stop ≡ x
        → ((q : Bytes × Bytes) → cut stop s ≡ none → cut stop (s ++ z) ≡ some q → length s ≤ length q.0)
        → suc (length s) ≤ length p.0
    go true x ih = let h = here x in absurd (let y : ◌≡◌ {A = ℕ} 0 1 = cc in omega arith)
    go false x ih = let n = low (cut stop s) (rw (cut, x) at e) in mid (cut stop (s ++ z)) refl (rw (cut, x) at f) (λ q. ih q n)

-- ---- a line

long : {A : Type 0} (rule : Bytes → Option A) (l : Bytes) → 815 < length l → (short l >>= rule) ≡ none
unfolding short when ◌>>=◌
long rule l h = rw (lt-leb (length l) most_line (omega arith))

-- one line is read alike with anything after more than 815 bytes
pub line-further : {A : Type 0} (rule : Bytes → Option A) (n : ℕ) (s z : Bytes) → 815 < length s
    → line rule n (s ++ z) ≡ further z (line rule n s)
unfolding line further
line-further {A} rule n s z h = go (cut LF s) refl
  where
    past : (o : Option (Bytes × Bytes)) → cut LF s ≡ none → cut LF (s ++ z) ≡ o → line rule n (s ++ z) ≡ malformed n
    past none e f = rw (line, f)
    past (some p) e f = rw (line, f, long rule p.0 (omega (arith, cut-past LF s z p e f)))

    mid : (p : Bytes × Bytes) (o : Option A) → cut LF s ≡ some p → (short p.0 >>= rule) ≡ o
        → line rule n (s ++ z) ≡ further z (line rule n s)
    mid p none e f = rw (line, cut-further LF s z p e, e, f)
    mid p (some a) e f = rw (line, cut-further LF s z p e, e, f)

    go : (o : Option (Bytes × Bytes)) → cut LF s ≡ o → line rule n (s ++ z) ≡ further z (line rule n s)
    go none e = past (cut LF (s ++ z)) e refl ∙ rw (line, e)
    go (some p) e = mid p (short p.0 >>= rule) e refl

-- ---- contents and bodies

pub contents-further : (k : ℕ) (es : List Entry) (n : ℕ) (s z : Bytes) → 816 * k ≤ length s
    → contents k es n (s ++ z) ≡ further z (contents k es n s)
unfolding contents further and_then
contents-further zero es n s z h = refl
contents-further (suc k) es n s z h = rw (line-further (entry_line es) n s z (omega arith)) (go (line (entry_line es) n s) refl (λ e m t. contents-further k (es ++ (e ∷ [])) m t z))
  where
    go : (g : Got Entry) → line (entry_line es) n s ≡ g
        → ((e : Entry) (m : ℕ) (t : Bytes) → 816 * k ≤ length t
        → contents k (es ++ (e ∷ [])) m (t ++ z) ≡ further z (contents k (es ++ (e ∷ [])) m t))
        → and_then (further z g) (λ e. contents k (es ++ (e ∷ [])))
        ≡ further z (and_then g (λ e. contents k (es ++ (e ∷ []))))
    go (malformed m) e ih = refl
    go (got x m t) e ih = let l = line-size (entry_line es) n s x m t e in ih x m t (omega (arith, l.2, l.4))

pub body-further : (r c n : ℕ) (s z : Bytes) → 816 * r ≤ length s → body r c n (s ++ z) ≡ further z (body r c n s)
unfolding body further and_then
body-further zero c n s z h = refl
body-further (suc r) c n s z h = rw (line-further (row_line c) n s z (omega arith)) (go (line (row_line c) n s) refl (λ m t. body-further r c m t z))
  where
    tail : (x : List Float) (g : Got (List Float))
        → and_then (further z g) (λ ys. got (x ++ ys)) ≡ further z (and_then g (λ ys. got (x ++ ys)))
    tail x (malformed m) = refl
    tail x (got ys m t) = refl

    go : (g : Got (List Float)) → line (row_line c) n s ≡ g
        → ((m : ℕ) (t : Bytes) → 816 * r ≤ length t → body r c m (t ++ z) ≡ further z (body r c m t))
        → and_then (further z g) (λ xs m t. and_then (body r c m t) λ ys. got (xs ++ ys))
        ≡ further z (and_then g (λ xs m t. and_then (body r c m t) λ ys. got (xs ++ ys)))
    go (malformed m) e ih = refl
    go (got x m t) e ih =
        let l = line-size (row_line c) n s x m t e in
        rw (ih m t (omega (arith, l.2, l.4))) (tail x (body r c m t))

pub bodies-further : (es : List Entry) (n : ℕ) (s z : Bytes) → All es → 39168 * length es < length s
    → bodies es n (s ++ z) ≡ bodies es n s
unfolding bodies further
bodies-further [] n [] z a h = absurd (omega arith)
bodies-further [] n (b ∷ s) z a h = refl
bodies-further (x ∷ es) n s z a h = go (body x.rows (x.cols - 1) n s) refl (λ m t. bodies-further es m t z a.1)
  where
    more : body x.rows (x.cols - 1) n (s ++ z) ≡ further z (body x.rows (x.cols - 1) n s)
    more = body-further x.rows (x.cols - 1) n s z (omega (arith, a.0.rows_most))

    go : (g : Got (List Float)) → body x.rows (x.cols - 1) n s ≡ g
        → ((m : ℕ) (t : Bytes) → 39168 * length es < length t → bodies es m (t ++ z) ≡ bodies es m t)
        → bodies (x ∷ es) n (s ++ z) ≡ bodies (x ∷ es) n s
    go (malformed m) e ih = rw (bodies, more, e)
    go (got xs m t) e ih =
        let b = body-size x.rows (x.cols - 1) n s xs m t e in
        rw (bodies, more, e, ih m t (omega (arith, b.0, (area x a.0).1)))

-- ---- the whole text

pub reading-further : (s z : Bytes) → enough ≤ length s → reading (s ++ z) ≡ reading s
unfolding reading head and_then further count_line
reading-further s z h = go (line count_line 1 s) refl
  where
    first : line count_line 1 (s ++ z) ≡ further z (line count_line 1 s)
    first = line-further count_line 1 s z (omega arith)

    mid : (k n : ℕ) (t : Bytes) (g : Got (List Entry)) → line count_line 1 s ≡ got k n t → contents k [] n t ≡ g
        → reading (s ++ z) ≡ reading s
    mid k n t g e f = more g e f (line-size count_line 1 s k n t e)
      where
        more : (g : Got (List Entry)) → line count_line 1 s ≡ got k n t → contents k [] n t ≡ g
            → (l : Bytes) × (count_line l ≡ some k) × (length s ≡ length l + 1 + length t) × (n ≡ 1 + 1) × (length l ≤ 815)
            → reading (s ++ z) ≡ reading s
        more g e f l =
            let i = (number-range 8 l.0 k l.1).1 in
            let c : contents k [] n (t ++ z) ≡ further z (contents k [] n t) = contents-further k [] n t z (omega (arith, l.2, l.4, i)) in
            last g e f c (omega (arith, l.2, count-size l.0 k l.1)) i
          where
            last : (g : Got (List Entry)) → line count_line 1 s ≡ got k n t → contents k [] n t ≡ g
                → contents k [] n (t ++ z) ≡ further z (contents k [] n t)
                → longest - 1 ≤ length t → k ≤ 8 → reading (s ++ z) ≡ reading s
            last (malformed m) e f c y i = rw (reading, first, e, c, f)
            last (got es m t₁) e f c y i =
                let d = contents-size k [] n t es m t₁ f in
                let b = bodies-further es m t₁ z (contents-all k [] n t es m t₁ f tt) (omega (arith, d.0, d.1)) in
                rw (reading, first, e, c, f) b

    go : (g : Got ℕ) → line count_line 1 s ≡ g → reading (s ++ z) ≡ reading s
    go (malformed m) e = rw (reading, first, e)
    go (got k n t) e = mid k n t (contents k [] n t) e refl

-- What is printed of a text is what is printed of its first 313,443 bytes.
pub split-prefix : (t : Bytes) → split t ≡ split (take enough t)
unfolding split
split-prefix t = go (ltb (length t) enough) refl
  where
    go : (b : Bool) → ltb (length t) enough ≡ b → printed (reading t) ≡ printed (reading (take enough t))
    go true e = let h = ltb-true (length t) enough e in rw (take_all enough t (omega arith))
    go false e =
        let h = ltb-false (length t) enough e in
        let f = reading-further (take enough t) (drop enough t) (omega (arith, length-take-le enough t h)) in
        ap printed (rw (take-append-drop enough t) at f)
