-- `decompose` meets its contract: the bidiagonal form, and then passes enough. Assumes nothing.
use borrow.Author.Rules.{rules}
use native.Mathlib.Omega.{arith}
use Rattle.checks.specs.Values.{settings_of}
use Rattle.svd.specs.Values.{sizes}
use Rattle.svd.specs.Calls.{values-inside}
use Rattle.svd.specs.Passes.{first-standing, decomposed}
use Rattle.svd.proofs.interface.decompose.Goals as goal

pub decomp_givens-requires : goal.decomp_givens-requires
decomp_givens-requires c =
    let same = c.bidiagonal.ensures.same in
    let i = (values-inside (sizes c.args.z) _ c.smaller_size-card.ensures c.requires.0).1 in
    rw (same.shape, same.upper) (first-standing (sizes c.args.z) _ _ _ i (omega (arith, i.in_rows, c.requires.3.table.rows_few)) c.new-first.ensures.0 c.new-first.ensures.1)

pub returns : goal.returns
returns c =
    let same = c.bidiagonal.ensures.same in
    let walked = c.decomp_givens.ensures.walked in
    let done = decomposed (sizes c.args.z) (settings_of c.args.s) _ _ _ _ _ _ c.smaller_size-card.ensures (omega (arith, (values-inside (sizes c.args.z) _ c.smaller_size-card.ensures c.requires.0).1.in_rows, c.requires.3.table.rows_few)) c.requires.1 c.requires.2 (rw c.is_upper-upper.ensures at c.bidiagonal.ensures.bidiagonal) c.new-first.ensures.0 (rw (same.shape, same.upper, c.is_upper-upper.ensures) at walked) in
    search (rules, done)
