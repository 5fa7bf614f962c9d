-- The first of a list of checks that fails: of one list before another, and, where each check has its meaning, which
-- number is given when. Numbers need not rise along a list. Assumes nothing.
use Rattle.std.specs.Prelude.{◌≡◌, refl, ◌↔◌, ◌⊎◌, Bool, true, false, ◌&&◌, List, [], ◌∷◌, ◌++◌, ℕ, ◌<◌, eqb}
use Rattle.std.proofs.Common.{sym, ap, ◌∙◌, inl, inr, ⊎_elim, arith, eq-eqb, ne_eqb}
use Rattle.method.specs.Checks.{Place, place_of, nowhere, Check, placed, Refusal, refusal, not_refused, first_of}
use Rattle.method.specs.Checks.Tests.{Says}
use Rattle.method.proofs.Checks.Tests.{denies, less, same, nor, both, holds}
use Rattle.method.specs.Checks.First.{First, Meaning, Means, None, below, blank, done, means, numbered, or_else, placeless, ◌⨾◌}

-- where the first check fails, it is the refusal
pub first-hit : (c : Check) (cs : List Check) → c.fails ≡ true → first_of (c ∷ cs) ≡ refusal c.number c.place
unfolding first_of
first-hit c cs e = rw (e, first_of)

-- where the first check passes, the refusal is that of the rest
pub first-miss : (c : Check) (cs : List Check) → c.fails ≡ false → first_of (c ∷ cs) ≡ first_of cs
unfolding first_of
first-miss c cs e = rw (e, first_of)

-- where no check is left, there is no refusal
pub first-none : first_of [] ≡ not_refused
unfolding first_of
first-none = refl

-- ---- one list before another

-- the first of two lists of checks, one after the other, is the first of the one, or where there is none of the other
pub first-join : (xs ys : List Check) → numbered xs ≡ true → first_of (xs ++ ys) ≡ or_else (first_of xs) (first_of ys)
unfolding first_of
first-join [] ys e = refl
first-join (c ∷ xs) ys e = go c.fails refl (first-join xs ys n.1)
  where
    n : (0 < c.number) × (numbered xs ≡ true)
    n = (both (less 0 c.number) (holds (numbered xs))).0 e

    go :
        (b : Bool) → c.fails ≡ b → first_of (xs ++ ys) ≡ or_else (first_of xs) (first_of ys) →
        first_of (c ∷ (xs ++ ys)) ≡ or_else (first_of (c ∷ xs)) (first_of ys)
    go true t ih =
        let h = first-hit c xs t in
        rw (first-hit c (xs ++ ys) t, h, ne_eqb c.number 0 (λ z. omega (arith, n.0)), or_else) (sym h)
    go false t ih = rw (first-miss c (xs ++ ys) t, first-miss c xs t) ih

-- where no number is given, no place is
pub first-clear : (cs : List Check) → numbered cs ≡ true → (first_of cs).number ≡ 0 → first_of cs ≡ not_refused
unfolding first_of
first-clear [] e z = refl
first-clear (c ∷ cs) e z = go c.fails refl (first-clear cs n.1)
  where
    n : (0 < c.number) × (numbered cs ≡ true)
    n = (both (less 0 c.number) (holds (numbered cs))).0 e

    go :
        (b : Bool) → c.fails ≡ b → ((first_of cs).number ≡ 0 → first_of cs ≡ not_refused) →
        first_of (c ∷ cs) ≡ not_refused
    go true t ih = absurd (omega (arith, n.0, rw (first-hit c cs t) at z))
    go false t ih = first-miss c cs t ∙ ih (rw (first-miss c cs t) at z)

module _ (xs ys : List Check) (n : numbered xs ≡ true) {r : Refusal} (e : r ≡ first_of xs) where
  -- so the one's refusal is the refusal, where it has one,
  pub first-here : ¬ (r.number ≡ 0) → r ≡ first_of (xs ++ ys)
  first-here h = let d = rw e at (ne_eqb r.number 0 h) in e ∙ sym (rw (first-join xs ys n, d, or_else) refl)

  -- and where it has none the other's is
  pub first-beyond : r.number ≡ 0 → {q : Refusal} → q ≡ first_of ys → q ≡ first_of (xs ++ ys)
  first-beyond z f = let d = rw e at (eq-eqb r.number 0 z) in f ∙ sym (rw (first-join xs ys n, d, or_else) refl)

-- ---- each check with its meaning

-- of one list after another, too
pub means-join :
    {cs cs' : List Check} {ms ms' : List Meaning} → Means cs ms → Means cs' ms' → Means (cs ++ cs') (ms ++ ms')
means-join done t = t
means-join (s ⨾ ss) t = s ⨾ means-join ss t

-- the number given is k exactly when k is that of the first whose condition holds, or 0 and none does
pub first-means : {cs : List Check} {ms : List Meaning} → Means cs ms → (k : ℕ) → ((first_of cs).number ≡ k) ↔ First k ms
unfolding first_of
first-means done k = (sym, sym)
first-means (◌⨾◌ {n} {p} {t} {A} {cs} {ms} s ss) k = go t refl (first-means ss k)
  where
    go :
        (b : Bool) → t ≡ b → ((first_of cs).number ≡ k) ↔ First k ms →
        ((first_of (placed n t p ∷ cs)).number ≡ k) ↔ ((A × (k ≡ n)) ⊎ ((¬ A) × First k ms))
    go true e ih = (
      λ q. inl (s.0 e, sym (rw (first-hit (placed n t p) cs e) at q)),
      ⊎_elim (λ x. rw (first-hit (placed n t p) cs e) (sym x.1)) (λ x. absurd (x.0 (s.0 e))),
    )
    go false e ih = (
      λ q. inr (denies s e, ih.0 (rw (first-miss (placed n t p) cs e) at q)),
      ⊎_elim (λ x. absurd (denies s e x.0)) (λ x. rw (first-miss (placed n t p) cs e) (ih.1 x.1)),
    )

-- that is so of one list after another when it is so of both
pub none-join : (xs ys : List Meaning) → None (xs ++ ys) ↔ (None xs × None ys)
none-join [] ys = (λ x. (tt, x), λ x. x.1)
none-join (m ∷ xs) ys =
    let ih = none-join xs ys in
    (λ x. let y = ih.0 x.1 in ((x.0, y.0), y.1), λ x. (x.0.0, ih.1 (x.0.1, x.1)))

-- nothing is refused exactly when none of the conditions holds
pub none-refused :
    {cs : List Check} {ms : List Meaning} → Means cs ms → numbered cs ≡ true → ((first_of cs).number ≡ 0) ↔ None ms
unfolding first_of
none-refused done e = (λ q. tt, λ x. refl)
none-refused (◌⨾◌ {n} {p} {t} {A} {cs} {ms} s ss) e = go t refl (none-refused ss low.1)
  where
    low : (0 < n) × (numbered cs ≡ true)
    low = (both (less 0 n) (holds (numbered cs))).0 e

    go :
        (b : Bool) → t ≡ b → ((first_of cs).number ≡ 0) ↔ None ms →
        ((first_of (placed n t p ∷ cs)).number ≡ 0) ↔ ((¬ A) × None ms)
    go true f ih = (
      λ q. absurd (omega (arith, low.0, rw (first-hit (placed n t p) cs f) at q)),
      λ x. absurd (x.0 (s.0 f)),
    )
    go false f ih = (
      λ q. (denies s f, ih.0 (rw (first-miss (placed n t p) cs f) at q)),
      λ x. rw (first-miss (placed n t p) cs f) (ih.1 x.1),
    )

-- a number is given where its condition holds and none before it does
pub given : (xs : List Meaning) (n : ℕ) (A : Type 0) (ys : List Meaning) → A → None xs → First n (xs ++ means n A ∷ ys)
given [] n A ys a x = inl (a, refl)
given (m ∷ xs) n A ys a x = inr (x.0, given xs n A ys a x.1)

-- ---- what holds of every check that fails

blank-says : (p : Place) → Says (blank p) (p ≡ nowhere)
blank-says p = (λ e. zeros (three.0 e), λ e. three.1 (parts e))
  where
    Zeros : Type 0
    Zeros = (p.row ≡ 0) × ((p.column ≡ 0) × (p.bad ≡ 0))

    three : Says (eqb p.row 0 && (eqb p.column 0 && eqb p.bad 0)) Zeros
    three = both (same p.row 0) (both (same p.column 0) (same p.bad 0))

    zeros : Zeros → p ≡ nowhere
    zeros z =
        ap (λ (i : ℕ). place_of i p.column p.bad) z.0
        ∙ ap (λ (j : ℕ). place_of 0 j p.bad) z.1.0
        ∙ ap (place_of 0 0) z.1.1

    parts : p ≡ nowhere → Zeros
    parts e = (ap (λ (q : Place). q.row) e, (ap (λ (q : Place). q.column) e, ap (λ (q : Place). q.bad) e))

pub first_below : (n : ℕ) (cs : List Check) → below n cs ≡ true → (first_of cs).number < n
unfolding first_of
first_below n [] e = (less 0 n).0 e
first_below n (c ∷ cs) e = go c.fails refl (first_below n cs h.1)
  where
    h : (c.number < n) × (below n cs ≡ true)
    h = (both (less c.number n) (holds (below n cs))).0 e

    go : (b : Bool) → c.fails ≡ b → (first_of cs).number < n → (first_of (c ∷ cs)).number < n
    go true t ih = rw (first-hit c cs t) h.0
    go false t ih = rw (first-miss c cs t) ih

pub first-placeless :
    (n : ℕ) (cs : List Check) → 0 < n → placeless n cs ≡ true →
    ((first_of cs).place ≡ nowhere) × (¬ ((first_of cs).number ≡ n))
unfolding first_of
first-placeless n [] some e = (refl, λ z. omega arith)
first-placeless n (c ∷ cs) some e = go c.fails refl (first-placeless n cs some h.1)
  where
    h : ((c.place ≡ nowhere) × (¬ (c.number ≡ n))) × (placeless n cs ≡ true)
    h = (both (both (blank-says c.place) (nor (same c.number n))) (holds (placeless n cs))).0 e

    go :
        (b : Bool) → c.fails ≡ b → ((first_of cs).place ≡ nowhere) × (¬ ((first_of cs).number ≡ n)) →
        ((first_of (c ∷ cs)).place ≡ nowhere) × (¬ ((first_of (c ∷ cs)).number ≡ n))
    go true t ih = rw (first-hit c cs t) h.0
    go false t ih = rw (first-miss c cs t) ih
