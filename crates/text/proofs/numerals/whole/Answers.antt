-- `text::numerals::whole` meets its contract: a law for each way out. Assumes nothing.
use Rattle.std.proofs.Common.{◌≡◌, ◌<◌, ◌^◌, ℕ, List, length, get_or, leb, Bool, true, false, Option, Some, None, MatchOption, refl, sym, arith, rules, tests}
use Rattle.std.specs.Bool.{then_some}
use Rattle.text.specs.Text.{numeral, number, when}
use Rattle.text.specs.Code.{option_of}
use Rattle.text.proofs.NumeralLaws.{number-empty, number-zero, number-none, number-some}
use Rattle.text.proofs.numerals.whole.Goals as goal

-- the numeral, where it is at most `most`
filtered : (most : ℕ) (l : List ℕ) (o r : Option ℕ) → 0 < length l → (get_or l 0 0 ≡ 48 → ⊥) → most < 2 ^ 64
    → option_of o ≡ numeral 10 l → MatchOption o (r ≡ None) (λ v. r ≡ then_some (leb v most) v) → option_of r ≡ number most l
unfolding when
filtered most l None r p h k e f = rw f (sym (number-none most l p h (sym e) k))
filtered most l (Some v) r p h k e f = rw (f, number-some most l p h v (sym e)) (go (leb v most))
  where
    go : (x : Bool) → option_of (then_some x v) ≡ when x v
    go true = refl
    go false = refl

pub returns-in_err-first : goal.returns-in_err-first
returns-in_err-first c = rw c.from_residual.ensures (number-empty _ _ (omega (arith, c.in_err-first.ensures.item.3)))

pub returns-then-branch-eq48 : goal.returns-then-branch-eq48
returns-then-branch-eq48 c = number-zero _ _ (omega (arith, c.in_ok-first.ensures.item.3.1 0))

pub returns : goal.returns
returns c =
    let item = c.in_ok-first.ensures.item.3 in
    let f : MatchOption c.value.result (c.filter.result ≡ None) (λ v. c.filter.result ≡ then_some (leb v c.args.most) v) = search (rules, tests) in
    filtered _ _ _ _ item.0 (λ e. c.if-branch-eq48.false (omega (arith, item.1 0))) (omega arith) c.value.ensures f
