-- A loop that writes one entry in each turn: where the written entries are read back, and what stays. Assumes nothing.
use Rattle.std.specs.Prelude.{◌≡◌, refl, Bool, true, false, List, ℕ, zero, suc, ◌+◌, ◌<◌, eqb, length, get_or, set}
use Rattle.std.proofs.Common.{sym, ap, ◌∙◌, not-suc-le-zero, arith, length-set, get_or-set_same, get_or-set_other, eqb-true}
use Rattle.std.proofs.lemmas.Bool.{eqb-false}
use Rattle.method.specs.Repeated.{repeated}
use Rattle.method.proofs.Repeated.{repeated-none, repeated-next, repeated-keep, repeated-suc}

module _ {A : Type 0} (f : ℕ → ℕ) (v : ℕ → A) where
  -- entry f i set to v i, for i = 0 .. c - 1
  abbrev pub writes : ℕ → List A → List A
  writes c l = repeated 0 c (λ i s. set s (f i) (v i)) l

  -- a loop's turn: one entry more
  pub writes_more : (k : ℕ) (s s₀ : List A) (x : A) → x ≡ v k → s ≡ writes k s₀ → set s (f k) x ≡ writes (k + 1) s₀
  writes_more k s s₀ x ex e = rw (ex, e) (sym (repeated-next (λ i s. set s (f i) (v i)) k s₀))

  pub length-writes : (c : ℕ) (l : List A) → length (writes c l) ≡ length l
  length-writes c l = repeated-keep 0 _ (λ (s : List A). length s ≡ length l) (λ i s e. simp length-set e) c l refl

  module _ (d : A) (l : List A) where
    -- an entry that no turn sets stays
    pub untouched : (c x : ℕ) → ((i : ℕ) → i < c → ¬ (x ≡ f i)) → get_or (writes c l) x d ≡ get_or l x d
    untouched zero x h = ap (λ (s : List A). get_or s x d) (sym (repeated-none 0 _ l))
    untouched (suc c) x h =
        ap (λ (s : List A). get_or s x d) (repeated-suc _ c l)
        ∙ get_or-set_other (writes c l) (f c) x (v c) d (h c (omega arith))
        ∙ untouched c x (λ i g. h i (omega arith))

    -- an entry that one turn sets is what it set
    pub written :
        (c j : ℕ) → j < c → ((i : ℕ) → i < c → f i < length l) →
        ((i i' : ℕ) → i < c → i' < c → f i ≡ f i' → i ≡ i') → get_or (writes c l) (f j) d ≡ v j
    written zero j h fits once = absurd (not-suc-le-zero h)
    written (suc c) j h fits once =
        ap (λ (s : List A). get_or s (f j) d) (repeated-suc _ c l)
        ∙ go (eqb j c) refl
        (λ g. written c j g (λ i b. fits i (omega arith)) (λ i i' b b'. once i i' (omega arith) (omega arith)))
      where
        go :
            (b : Bool) → eqb j c ≡ b → (j < c → get_or (writes c l) (f j) d ≡ v j) →
            get_or (set (writes c l) (f c) (v c)) (f j) d ≡ v j
        go true t ih =
            let e = eqb-true j c t in
            rw e (get_or-set_same (writes c l) (f c) (v c) d (rw length-writes (fits c (omega arith))))
        go false t ih =
            let n = eqb-false j c t in
            get_or-set_other (writes c l) (f c) (f j) (v c) d (λ e. n (once j c h (omega arith) e)) ∙ ih (omega arith)
