-- `survey::reading::contents` meets its contract: a law for each way out. Assumes nothing.
use Rattle.std.proofs.Common.{◌≡◌, sym, ◌∙◌, arith, rules, Err}
use Rattle.std.proofs.Math.Option.{none, some}
use Rattle.text.specs.Text.{number}
use Rattle.text.proofs.NumeralLaws.{number-range}
use Rattle.survey.proofs.Heads.{head-none, head-bad, head-got}
use Rattle.survey.proofs.reading.contents.Goals as goal

pub returns-in_err-first : goal.returns-in_err-first
returns-in_err-first c =
    let e : c.from_residual.result ≡ Err c.in_err-first.field-0.0 = search rules in
    let n : c.in_err-first.field-0.0.line ≡ 1 = c.in_err-first.ensures.1 in
    rw (e, n) (head-none _ c.in_err-first.ensures.0, tt, omega arith)

pub returns-in_err-count : goal.returns-in_err-count
returns-in_err-count c =
    let bad : none ≡ number 8 c.in_ok-first.first.now = rw c.in_err-count.ensures.ok_part at c.whole.ensures in
    let e : c.from_residual-in_err-count.result ≡ Err (record { line = 1 }) = search rules in
    rw e (head-bad _ _ _ c.in_ok-first.ensures.0 bad, tt, omega arith)

pub entries-requires : goal.entries-requires
entries-requires c =
    let got : some c.in_ok-count.count ≡ number 8 c.in_ok-first.first.now = rw c.in_ok-count.ensures.ok_part at c.whole.ensures in
    let r = number-range 8 c.in_ok-first.first.now c.in_ok-count.count (sym got) in
    (c.in_ok-first.ensures.1, r.0, r.1)

pub returns : goal.returns
returns c =
    let got : some c.in_ok-count.count ≡ number 8 c.in_ok-first.first.now = rw c.in_ok-count.ensures.ok_part at c.whole.ensures in
    (c.entries.ensures.0 ∙ head-got _ _ _ c.in_ok-first.ensures.0 _ got, c.entries.ensures.1, c.entries.ensures.2)
