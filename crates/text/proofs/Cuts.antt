-- Laws of fields: what stands before the first `stop`, by the position that the code finds. Assumes nothing.
use Rattle.std.specs.Prelude.{◌≡◌, Bool, [], ◌∷◌, ◌++◌, ltb, eqb, take}
use Rattle.std.proofs.Math.Path.{refl, ap}
use Rattle.std.proofs.Common.{sym, ◌∙◌, arith, take_all}
use Rattle.std.proofs.Math.Bool.{true, false}
use Rattle.std.proofs.Math.Option.{none, some}
use Prim.Native.Nat.{ℕ, suc, ◌+◌, ◌-◌, ◌<◌, ◌≤◌}
use borrow.Author.Tests.{le-ltb, lt-ltb, le-leb, lt-leb, eq-eqb, ne_eqb, ltb-true, ltb-false, leb-true, leb-false}
use Rattle.std.proofs.Math.Dec.{leb}
use Rattle.std.proofs.Math.ListN.{length, drop, length-drop}
use Rattle.std.proofs.Math.Seq.{drop-drop}
use Rattle.std.specs.List.{position_or_len}
use Rattle.text.specs.Text.{Bytes, ◌>>=◌, cut, found, index_of, index_after}
use Rattle.text.specs.Code.{cut_at}
use Rattle.text.proofs.Options.{bind_some}

-- ---- where the first `stop` stands

pub index_most : (stop : ℕ) (s : Bytes) → index_of stop s ≤ length s
unfolding index_of index_after
index_most stop [] = omega arith
index_most stop (b ∷ t) = go (eqb b stop) (index_most stop t)
  where
    go : (x : Bool) → index_of stop t ≤ length t → index_after x (index_of stop t) ≤ suc (length t)
    go true ih = omega arith
    go false ih = omega arith

module _ (stop at : ℕ) (s : Bytes) where
  pub found_inside : at ≤ length s → found stop at s ≡ at + index_of stop (drop at s)
  unfolding found
  found_inside h = rw (found, le-leb at (length s) h)

  pub found-outside : length s < at → found stop at s ≡ length s
  unfolding found
  found-outside h = rw (found, lt-leb at (length s) h)

  pub found-least : at ≤ length s → at ≤ found stop at s
  found-least h = omega (arith, found_inside h)

-- the library's search is that search
pub index_of-position : (stop : ℕ) (s : Bytes) → index_of stop s ≡ position_or_len (λ b. eqb b stop) s
unfolding index_of index_after
index_of-position stop [] = refl
index_of-position stop (b ∷ t) = go (eqb b stop) refl (index_of-position stop t)
  where
    go : (x : Bool) → eqb b stop ≡ x → index_of stop t ≡ position_or_len (λ c. eqb c stop) t
        → index_of stop (b ∷ t) ≡ position_or_len (λ c. eqb c stop) (b ∷ t)
    go true x ih = rw (index_of, x)
    go false x ih = rw (index_of, x) (omega arith)

-- ---- the bytes before the first stop

cut-index : (stop : ℕ) (l : Bytes) → cut stop l ≡ cut_at l (index_of stop l)
unfolding cut index_of index_after cut_at ◌>>=◌
cut-index stop [] = refl
cut-index stop (b ∷ t) = go (eqb b stop) refl (cut-index stop t)
  where
    go : (x : Bool) → eqb b stop ≡ x → cut stop t ≡ cut_at t (index_of stop t)
        → cut stop (b ∷ t) ≡ cut_at (b ∷ t) (index_of stop (b ∷ t))
    go true x ih =
        let z : index_of stop (b ∷ t) ≡ 0 = rw (index_of, x) in
        let p : cut stop (b ∷ t) ≡ some ([], t) = rw (cut, x) in
        let q : cut_at (b ∷ t) 0 ≡ some ([], t) = rw (cut_at, lt-ltb 0 (suc (length t)) (omega arith)) in
        p ∙ sym q ∙ ap (cut_at (b ∷ t)) (sym z)
    go false x ih = rw (cut, index_of, x, ih) (at (ltb (index_of stop t) (length t)) refl)
      where
        at : (y : Bool) → ltb (index_of stop t) (length t) ≡ y
            → (cut_at t (index_of stop t) >>= λ p. some (b ∷ p.0, p.1)) ≡ cut_at (b ∷ t) (suc (index_of stop t))
        at true y = rw (cut_at, y, lt-ltb (suc (index_of stop t)) (suc (length t)) (omega (arith, ltb-true (index_of stop t) (length t) y)))
        at false y = rw (cut_at, y, le-ltb (suc (index_of stop t)) (suc (length t)) (omega (arith, ltb-false (index_of stop t) (length t) y)))

-- the code's search from p: the piece, and where the next one begins
module _ (stop : ℕ) (l : Bytes) (p e : ℕ) (f : e ≡ found stop p l) where
  pub cut-some : e < length l → cut stop (drop p l) ≡ some (take (e - p) (drop p l), drop (e + 1) l)
  unfolding cut_at
  cut-some h = go (leb p (length l)) refl
    where
      go : (x : Bool) → leb p (length l) ≡ x → cut stop (drop p l) ≡ some (take (e - p) (drop p l), drop (e + 1) l)
      go true x =
          let b = leb-true p (length l) x in
          let r : index_of stop (drop p l) ≡ e - p = omega (arith, found_inside stop p l b) in
          let g : e - p < length (drop p l) = simp length-drop (omega (arith, found-least stop p l b)) in
          let n : p + suc (e - p) ≡ e + 1 = omega (arith, found-least stop p l b) in
          cut-index stop (drop p l) ∙ ap (cut_at (drop p l)) r ∙ rw (cut_at, lt-ltb (e - p) (length (drop p l)) g, drop-drop, n)
      go false x = absurd (omega (arith, found-outside stop p l (leb-false p (length l) x)))

  pub cut-none : e ≡ length l → cut stop (drop p l) ≡ none
  unfolding cut_at
  cut-none h = go (leb p (length l)) refl
    where
      past : length (drop p l) ≤ index_of stop (drop p l) → cut stop (drop p l) ≡ none
      past g = cut-index stop (drop p l) ∙ rw (cut_at, le-ltb (index_of stop (drop p l)) (length (drop p l)) g)

      go : (x : Bool) → leb p (length l) ≡ x → cut stop (drop p l) ≡ none
      go true x = past (omega (arith, found_inside stop p l (leb-true p (length l) x), length-drop p l))
      go false x = past (omega (arith, leb-false p (length l) x, length-drop p l))

-- the part from p to the end
pub rest_of : (l : Bytes) (p : ℕ) → take (length l - p) (drop p l) ≡ drop p l
rest_of l p = take_all (length l - p) (drop p l) (simp length-drop (omega arith))

pub cut-size : (stop : ℕ) (l : Bytes) (p : Bytes × Bytes) → cut stop l ≡ some p
    → length l ≡ length p.0 + 1 + length p.1
unfolding cut
cut-size stop [] p e = absurd (let z : ◌≡◌ {A = ℕ} 0 1 = cc in omega arith)
cut-size stop (b ∷ t) p e = go (eqb b stop) refl (λ q. cut-size stop t q)
  where
    go : (x : Bool) → eqb b stop ≡ x
        → ((q : Bytes × Bytes) → cut stop t ≡ some q → length t ≡ length q.0 + 1 + length q.1)
        → suc (length t) ≡ length p.0 + 1 + length p.1
    go true x ih =
        let q : some ([], t) ≡ some p = rw (cut, x) at e in
        let z : ([], t) ≡ p = cc in
        omega (arith, ap (λ (y : Bytes × Bytes). length y.0) z, ap (λ (y : Bytes × Bytes). length y.1) z)
    go false x ih =
        let q : (cut stop t >>= λ r. some (b ∷ r.0, r.1)) ≡ some p = rw (cut, x) at e in
        let r = bind_some (cut stop t) (λ r. some (b ∷ r.0, r.1)) p q in
        let s : some (b ∷ r.0.0, r.0.1) ≡ some p = r.2 in
        let z : (b ∷ r.0.0, r.0.1) ≡ p = cc in
        omega (arith, ih r.0 r.1, ap (λ (y : Bytes × Bytes). length y.0) z, ap (λ (y : Bytes × Bytes). length y.1) z)

-- ---- what has no `stop` in it is cut whole

abbrev pub Free : ℕ → Bytes → Type 0
Free stop [] = Unit
Free stop (b ∷ t) = (b ≡ stop → ⊥) × Free stop t

pub free_append : (stop : ℕ) (s t : Bytes) → Free stop s → Free stop t → Free stop (s ++ t)
free_append stop [] t f g = g
free_append stop (b ∷ s) t f g = (f.0, free_append stop s t f.1 g)

pub cut-free : (stop : ℕ) (s t : Bytes) → Free stop s → cut stop (s ++ (stop ∷ t)) ≡ some (s, t)
unfolding cut ◌>>=◌
cut-free stop [] t f = rw (cut, eq-eqb stop stop refl)
cut-free stop (b ∷ s) t f = rw (cut, ne_eqb b stop f.0, cut-free stop s t f.1)
