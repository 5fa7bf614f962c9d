-- `float::paper::root_bits` meets its contract: the halved power and the rounded root, joined, are the root's pattern.
-- Assumes nothing.
use mathlib.Core.Path.{◌≡◌, ap, ◌∙◌}
use Prim.Native.Nat.{ℕ, ◌+◌, ◌*◌, ◌%◌, ◌^◌, ◌≤◌, ◌<◌}
use native.Mathlib.Nat.{le_trans, le_of_eq}
use native.Mathlib.Omega.{arith}
use Rattle.method.specs.Root.Paper.{Line, Start, first, turns, rounded}
use Rattle.float.proofs.Turns.{last_room}
use Rattle.float.proofs.Joined.{joined}
use Rattle.float.proofs.paper.root_bits.Goals as goal

-- what the root is rounded to is what the page's last line is
rounded-is :
    (c : goal.After-rounded) →
    c.rounded.result ≡ rounded (turns 54 (first 54 c.of-start.result.number)).root
rounded-is c = c.rounded.ensures ∙ ap (λ (l : Line). rounded l.root) c.after-last.ensures

-- and no more than 53 digits and a carry
kept : (c : goal.After-rounded) → c.rounded.result ≤ 2 ^ 53
kept c =
    le_trans (le_of_eq (rounded-is c))
    (last_room c.of-start.result.number c.of-start.ensures.0)

pub after-last-requires : goal.after-last-requires
after-last-requires c = (c.of-start.ensures.0, omega arith)

pub overflow_add-result : goal.overflow_add-result
overflow_add-result c = omega (arith, kept c, c.of-start.ensures.1)

pub returns : goal.returns
returns c =
    let s = c.of-start.result in
    let e = c.of-start.ensures in
    let b = c.args.bits in (
      omega (arith, kept c, e.1),
      joined b _ c.requires.1 e.2
          (all s.power c.rounded.result e.1 ∙ ap (λ (z : ℕ). s.power * 2 ^ 52 + z) (rounded-is c)
          ∙ ap (λ (h : Start). h.power * 2 ^ 52 + rounded (turns 54 (first 54 h.number)).root) e.3),
    )
  where
    all : (p r : ℕ) → p < 1534 → p * 2 ^ 52 % 2 ^ 64 + r ≡ p * 2 ^ 52 + r
    all p r h = omega arith
