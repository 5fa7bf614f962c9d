-- Laws of the lines, as the proofs of the code use them. Assumes nothing.
use Rattle.std.specs.Prelude.{◌≡◌, refl, Bool, true, false, not, ◌||◌, List, [], ◌∷◌, Float, eqb, set}
use Rattle.std.specs.List.{list_any}
use Rattle.std.proofs.Common.{◌∙◌}
use Rattle.std.proofs.Math.Option.{Option, none, some}
use Prim.Native.Nat.{ℕ, zero, suc, ◌+◌, ◌-◌, ◌<◌}
use native.Mathlib.Omega.{arith}
use Rattle.std.specs.Float.{binary64}
use Rattle.std.specs.Float.Ieee.{of_bits}
use Rattle.std.proofs.lemmas.List.Edits.{sets}
use Rattle.survey.specs.declared.reading.Entry.{Entry}
use Rattle.text.specs.Text.{Bytes, space, ◌>>=◌, when, cut, number, pattern}
use Rattle.survey.specs.Form.{named, entry_line, row_line}
use Rattle.survey.specs.Code.{row_into, row_stored}

-- ---- an id among the entries
abbrev pub zeros : Entry
zeros = record { id = 0; rows = 0; cols = 0 }

-- the library's search is that search
pub named-any : (id : ℕ) (es : List Entry) → list_any (λ e. eqb e.id id) es ≡ named id es
unfolding named
named-any id [] = refl
named-any id (e ∷ es) = go (eqb e.id id) refl (named-any id es)
  where
    go : (x : Bool) → eqb e.id id ≡ x → list_any (λ e. eqb e.id id) es ≡ named id es
        → (x || list_any (λ e. eqb e.id id) es) ≡ named id (e ∷ es)
    go true x ih = rw (named, x)
    go false x ih = rw (named, x) ih

-- ---- a line of readings

-- reading by reading is all at once
pub row_stored_lem : (n : ℕ) (l : Bytes) (m : List Float) (at : ℕ) → row_into n l m at ≡ row_stored n l m at
unfolding row_into row_stored row_line ◌>>=◌
row_stored_lem zero l m at = go (pattern l)
  where
    go : (o : Option ℕ)
        → (o >>= λ p. some (set m at (of_bits binary64 p)))
        ≡ ((o >>= λ p. some (of_bits binary64 p ∷ [])) >>= λ xs. some (sets m at xs))
    go none = refl
    go (some p) = refl
row_stored_lem (suc n) l m at = go (cut space l) (λ l₁ m₁. row_stored_lem n l₁ m₁ (suc at))
  where
    tail : (b : ℕ) (o : Option (List Float))
        → (o >>= λ xs. some (sets (set m at (of_bits binary64 b)) (suc at) xs))
        ≡ ((o >>= λ xs. some (of_bits binary64 b ∷ xs)) >>= λ xs. some (sets m at xs))
    tail b none = refl
    tail b (some xs) = refl

    mid : (o : Option ℕ) (l₁ : Bytes)
        → ((l₁ : Bytes) (m₁ : List Float) → row_into n l₁ m₁ (suc at) ≡ row_stored n l₁ m₁ (suc at))
        → (o >>= λ p. row_into n l₁ (set m at (of_bits binary64 p)) (suc at))
        ≡ ((o >>= λ p. row_line n l₁ >>= λ xs. some (of_bits binary64 p ∷ xs)) >>= λ xs. some (sets m at xs))
    mid none l₁ ih = refl
    mid (some b) l₁ ih = ih l₁ (set m at (of_bits binary64 b)) ∙ tail b (row_line n l₁)

    go : (o : Option (Bytes × Bytes))
        → ((l₁ : Bytes) (m₁ : List Float) → row_into n l₁ m₁ (suc at) ≡ row_stored n l₁ m₁ (suc at))
        → (o >>= λ q. pattern q.0 >>= λ p. row_into n q.1 (set m at (of_bits binary64 p)) (suc at))
        ≡ ((o >>= λ q. pattern q.0 >>= λ p. row_line n q.1 >>= λ xs. some (of_bits binary64 p ∷ xs)) >>= λ xs. some (sets m at xs))
    go none ih = refl
    go (some q) ih = mid (pattern q.0) q.1 ih

module _ (l : Bytes) (c k at : ℕ) (m : List Float) where
  module _ (h : k < c) where
    less : c - k ≡ suc (c - (k + 1))
    less = omega arith

    pub row_none : none ≡ cut space l → none ≡ row_into (c - k) l m (at + k)
    unfolding row_into ◌>>=◌
    row_none e = rw (less, ← e)

    module _ (a r : Bytes) (g : some (a, r) ≡ cut space l) where
      pub row_bad : none ≡ pattern a → none ≡ row_into (c - k) l m (at + k)
      unfolding row_into ◌>>=◌
      row_bad e = rw (less, ← g, ← e)

      pub row_next : (b : ℕ) → some b ≡ pattern a
          → row_into (c - (k + 1)) r (set m (at + k) (of_bits binary64 b)) (at + (k + 1)) ≡ row_into (c - k) l m (at + k)
      unfolding row_into ◌>>=◌
      row_next b e = let y : suc (at + k) ≡ at + (k + 1) = omega arith in rw (less, ← g, ← e, y)

  module _ (h : k ≡ c) where
    none-left : c - c ≡ 0
    none-left = omega arith

    pub row_last : (b : ℕ) → some b ≡ pattern l
        → some (set m (at + c) (of_bits binary64 b)) ≡ row_into (c - k) l m (at + k)
    unfolding row_into ◌>>=◌
    row_last b e = rw (h, none-left, ← e)

    pub row_last_bad : none ≡ pattern l → none ≡ row_into (c - k) l m (at + k)
    unfolding row_into ◌>>=◌
    row_last_bad e = rw (h, none-left, ← e)

-- ---- a line of the contents

-- the code's ways out
module _ (es : List Entry) (l : Bytes) where
  pub entry_none : none ≡ cut space l → none ≡ entry_line es l
  unfolding entry_line ◌>>=◌
  entry_none e = rw (← e)

  module _ (a r : Bytes) (g : some (a, r) ≡ cut space l) where
    pub entry_none_2 : none ≡ cut space r → none ≡ entry_line es l
    unfolding entry_line ◌>>=◌
    entry_none_2 e = rw (← g, ← e)

    module _ (b c : Bytes) (h : some (b, c) ≡ cut space r) where
      pub entry_id : none ≡ number 65535 a → none ≡ entry_line es l
      unfolding entry_line ◌>>=◌
      entry_id e = rw (← g, ← h, ← e)

      module _ (i : ℕ) (ei : some i ≡ number 65535 a) where
        pub entry_rows : none ≡ number 48 b → none ≡ entry_line es l
        unfolding entry_line ◌>>=◌
        entry_rows e = rw (← g, ← h, ← ei, ← e)

        module _ (n : ℕ) (er : some n ≡ number 48 b) where
          pub entry_cols : none ≡ number 48 c → none ≡ entry_line es l
          unfolding entry_line ◌>>=◌
          entry_cols e = rw (← g, ← h, ← ei, ← er, ← e)

          -- x says whether the id is an earlier entry's
          pub entry_last : (k : ℕ) → some k ≡ number 48 c → (x : Bool) → x ≡ named i es
              → when (not x) (record { id = i; rows = n; cols = k }) ≡ entry_line es l
          unfolding entry_line ◌>>=◌
          entry_last k ek x e = rw (← g, ← h, ← ei, ← er, ← ek, e)
