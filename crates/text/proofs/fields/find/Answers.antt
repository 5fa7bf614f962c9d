-- `text::fields::find` meets its contract: the library's search of what `at` leaves is the search. Assumes nothing.
use Rattle.std.proofs.Common.{◌≡◌, ◌≤◌, ◌<◌, ◌+◌, ◌⊎◌, ℕ, Bool, true, false, cond, refl, sym, ap, ◌∙◌, eqb, ltb, List, length, drop, arith, rules, tests, Option, Some, None, length-drop}
use Rattle.std.specs.List.{position_or_len, slice_range}
use Rattle.std.proofs.lemmas.Iterator.{YieldsList-from_slice}
use Rattle.std.proofs.lemmas.Iterator.Search.{position_from_yields_List}
use Rattle.std.proofs.lemmas.Option.{cond_some}
use Rattle.std.proofs.lemmas.Slice.{between_to_end}
use borrow.Author.Tests.{ltb-false}
use Rattle.text.specs.Text.{found}
use Rattle.text.proofs.Cuts.{index_most, index_of-position, found_inside, found-outside}
use Rattle.text.proofs.fields.find.Goals as goal

-- the place at which the library's search ends, in what `at` leaves
abbrev first : ℕ → List ℕ → ℕ
first stop rest = position_or_len (λ b. eqb b stop) rest

module _ (stop at : ℕ) (s rest : List ℕ) (h : at ≤ length s) (q : rest ≡ slice_range s at (length s)) where
  left : rest ≡ drop at s
  left = q ∙ between_to_end s at (length s) (omega arith)

  first-found : at + first stop rest ≡ found stop at s
  first-found = omega (arith, ap (first stop) left, index_of-position stop (drop at s), found_inside stop at s h)

  module _ (r : Option ℕ) (e : r ≡ cond (ltb (first stop rest) (length rest)) (Some (first stop rest)) None) where
    some-found : (i : ℕ) → r ≡ Some i → at + i ≡ found stop at s
    some-found i p = omega (arith, first-found, (cond_some (ltb (first stop rest) (length rest)) (first stop rest) i (sym e ∙ p)).1)

    none-found : r ≡ None → length s ≡ found stop at s
    none-found p = go (ltb (first stop rest) (length rest)) refl (sym e ∙ p)
      where
        go : (x : Bool) → ltb (first stop rest) (length rest) ≡ x → cond x (Some (first stop rest)) None ≡ None
            → length s ≡ found stop at s
        go true x f = absurd (let z : ◌≡◌ {A = ℕ} 0 1 = cc in omega arith)
        go false x f =
            omega (arith, first-found, ap length left, length-drop at s, index_of-position stop rest, index_most stop rest, ltb-false (first stop rest) (length rest) x)

past : (n at : ℕ) → (n < at) ⊎ (n < n) → n < at
past n at h = grind arith

pub returns-in_err-rest-clause-found : goal.returns-in_err-rest-clause-found
returns-in_err-rest-clause-found c =
    let h = past _ _ c.in_err-rest.ensures.lookup.0 in
    rw c.from_residual.ensures (sym (found-outside _ _ _ h))

pub returns-in_err-i-clause-found : goal.returns-in_err-i-clause-found
returns-in_err-i-clause-found c =
    let l = c.in_ok-rest.ensures.lookup.0 in
    let rest = c.in_ok-rest.rest.now in
    let e = position_from_yields_List (λ b. eqb b c.args.stop) _ _ c.position.result c.position.ensures.ran (YieldsList-from_slice rest cc) (λ x b q k. search (rules, tests)) in
    rw c.from_residual-in_err-i.ensures (none-found c.args.stop _ _ rest l.0 l.2 _ e c.in_err-i.was)

pub returns-clause-found : goal.returns-clause-found
returns-clause-found c =
    let l = c.in_ok-rest.ensures.lookup.0 in
    let rest = c.in_ok-rest.rest.now in
    let e = position_from_yields_List (λ b. eqb b c.args.stop) _ _ c.position.result c.position.ensures.ran (YieldsList-from_slice rest cc) (λ x b q k. search (rules, tests)) in
    some-found c.args.stop _ _ rest l.0 l.2 _ e _ c.in_ok-i.was
