-- Laws of a counted loop, `repeated lo hi step s`, and of a list of steps: what the proofs of the code and of the
-- lengths go by. Assumes nothing.
use Rattle.std.specs.Prelude.{◌≡◌, refl, Bool, true, false, List, [], ◌∷◌, ◌++◌, eqb}
use Rattle.std.proofs.Common.{sym, ap, ◌∙◌, zero-add, add-one, eqb-true}
use Prim.Native.Nat.{ℕ, zero, suc, ◌+◌, ◌-◌, ◌<◌, ◌≤◌, zero-le}
use native.Mathlib.Omega.{arith}
use Rattle.std.proofs.lemmas.Bool.{eqb-false}
use Rattle.method.specs.Repeated.{carried_out, go, repeated}

-- what each turn from lo to hi - 1 of two loops keeps between them, the whole loops keep
pub repeated-both :
    {S S' : Type 0} (R : S → S' → Type 0) (lo hi : ℕ) (step : ℕ → S → S) (step' : ℕ → S' → S') →
    ((k : ℕ) (s : S) (s' : S') → lo ≤ k → k < hi → R s s' → R (step k s) (step' k s')) →
    (s : S) (s' : S') → R s s' → R (repeated lo hi step s) (repeated lo hi step' s')
unfolding repeated go
repeated-both R lo hi step step' both s s' r = walk (hi - lo) (omega arith)
  where
    walk : (n : ℕ) → n ≤ hi - lo → R (go lo step n s) (go lo step' n s')
    walk zero h = r
    walk (suc n) h =
        both (lo + n) (go lo step n s) (go lo step' n s') (omega arith) (omega arith) (walk n (omega arith))

-- what each turn from lo to hi - 1 keeps, the loop keeps
pub repeated-within :
    {S : Type 0} (P : S → Type 0) (lo hi : ℕ) (step : ℕ → S → S) →
    ((k : ℕ) (s : S) → lo ≤ k → k < hi → P s → P (step k s)) → (s : S) → P s → P (repeated lo hi step s)
repeated-within P lo hi step keeps s p =
    repeated-both (λ s s'. P s) lo hi step step (λ k s s' l h q. keeps k s l h q) s s p

module _ {S : Type 0} (lo : ℕ) (step : ℕ → S → S) where
  -- where the loop begins
  pub repeated-none : (s : S) → s ≡ repeated lo lo step s
  unfolding repeated go
  repeated-none s = let e : lo - lo ≡ 0 = omega arith in rw e

  -- a loop's turn: from the state that the invariant gives to the state after one more
  pub repeated-more : (k : ℕ) (s₀ s : S) → lo ≤ k → s ≡ repeated lo k step s₀ → step k s ≡ repeated lo (k + 1) step s₀
  unfolding repeated go
  repeated-more k s₀ s h e =
      let d : k + 1 - lo ≡ suc (k - lo) = omega arith in
      let b : lo + (k - lo) ≡ k = omega arith in
      rw (d, b, e)

  -- what each turn keeps, whichever it is, the whole loop keeps
  pub repeated-keep :
      (P : S → Type 0) → ((k : ℕ) (s : S) → P s → P (step k s)) → (hi : ℕ) (s : S) → P s → P (repeated lo hi step s)
  repeated-keep P keeps hi s p = repeated-within P lo hi step (λ k s l h q. keeps k s q) s p

-- from 0 no side condition is left: a goal is rewritten by the bare name
pub repeated-next :
    {S : Type 0} (step : ℕ → S → S) (k : ℕ) (s : S) → repeated 0 (k + 1) step s ≡ step k (repeated 0 k step s)
repeated-next step k s = sym (repeated-more 0 step k s (repeated 0 k step s) zero-le refl)

-- the last turn of suc k
pub repeated-suc :
    {S : Type 0} (step : ℕ → S → S) (k : ℕ) (s : S) → repeated 0 (suc k) step s ≡ step k (repeated 0 k step s)
repeated-suc step k s = ap (λ (n : ℕ). repeated 0 n step s) (sym (add-one k)) ∙ repeated-next step k s

-- what turn k takes from k to k + 1, the loop takes from 0 to its end
pub repeated-along :
    {S : Type 0} (P : ℕ → S → Type 0) (step : ℕ → S → S) (hi : ℕ) →
    ((k : ℕ) (s : S) → k < hi → P k s → P (k + 1) (step k s)) → (s : S) → P 0 s → P hi (repeated 0 hi step s)
repeated-along P step zero turn s p = rw (← repeated-none 0 step s) p
repeated-along P step (suc k) turn s p =
    let ih = repeated-along P step k (λ i t h. turn i t (omega arith)) s p in
    let next = turn k (repeated 0 k step s) (omega arith) ih in
    rw (repeated-suc step k s, ← add-one k) next

-- steps that do the same do the same together
pub repeated-same :
    {S : Type 0} (step step' : ℕ → S → S) (hi : ℕ) (s : S) →
    ((k : ℕ) (t : S) → k < hi → step k t ≡ step' k t) → repeated 0 hi step s ≡ repeated 0 hi step' s
repeated-same step step' zero s h = sym (repeated-none 0 step s) ∙ repeated-none 0 step' s
repeated-same step step' (suc k) s h =
    repeated-suc step k s
    ∙ h k (repeated 0 k step s) (omega arith)
    ∙ ap (step' k) (repeated-same step step' k s (λ i t l. h i t (omega arith)))
    ∙ sym (repeated-suc step' k s)

-- a loop of which turn k alone changes what is looked at
pub repeated-one :
    {S T : Type 0} (look : S → T) (change : T → T) (k hi : ℕ) (step : ℕ → S → S) →
    k < hi →
    ((s : S) → look (step k s) ≡ change (look s)) →
    ((l : ℕ) (s : S) → ¬ (l ≡ k) → look (step l s) ≡ look s) →
    (s : S) → look (repeated 0 hi step s) ≡ change (look s)
unfolding repeated go
repeated-one look change k hi step within here else s = after (hi - 0) (omega arith)
  where
    before : (n : ℕ) → n ≤ k → look (go 0 step n s) ≡ look s
    before zero h = refl
    before (suc n) h = else (0 + n) (go 0 step n s) (λ e. omega arith) ∙ before n (omega arith)

    after : (n : ℕ) → k < n → look (go 0 step n s) ≡ change (look s)
    after zero h = absurd (omega arith)
    after (suc n) h = choose (eqb n k) refl (λ l. after n l)
      where
        choose :
            (t : Bool) → eqb n k ≡ t → (k < n → look (go 0 step n s) ≡ change (look s)) →
            look (step (0 + n) (go 0 step n s)) ≡ change (look s)
        choose true e more =
            let q : n ≡ k = eqb-true n k e in
            rw (zero-add n, q) (here (go 0 step k s) ∙ ap change (before k (omega arith)))
        choose false e more =
            let q : ¬ (n ≡ k) = eqb-false n k e in
            else (0 + n) (go 0 step n s) (λ p. q (sym (zero-add n) ∙ p)) ∙ more (omega arith)

-- ---- a list of steps, carried out one after another

pub carried_out-append :
    {S M : Type 0} (step : M → S → S) (ms ns : List M) (s : S) →
    carried_out step (ms ++ ns) s ≡ carried_out step ns (carried_out step ms s)
unfolding carried_out
carried_out-append step [] ns s = refl
carried_out-append step (m ∷ ms) ns s = carried_out-append step ms ns (step m s)
