-- `survey::put_surveys` meets its contract: a law for each way out, and for one survey more. Assumes nothing.
use Rattle.std.proofs.Common.{◌≡◌, ◌+◌, ◌-◌, ◌*◌, ◌<◌, ◌≤◌, ℕ, List, length, get_or, take, refl, sym, ◌∙◌, eqb-true, length-take, arith, rules, Err}
use Rattle.std.proofs.lemmas.Bool.{eqb-false}
use Rattle.std.specs.Prelude.{Float}
use Rattle.text.specs.Text.{Bytes}
use Rattle.text.specs.declared.page.Page.{Page}
use Rattle.text.specs.Page.{Writes}
use Rattle.text.proofs.WritingLaws.{then}
use Rattle.survey.specs.declared.reading.Entry.{Entry}
use Rattle.survey.specs.declared.reading.Head.{Head}
use Rattle.survey.specs.Form.{malformed, got, head}
use Rattle.survey.specs.Print.{malformed_text, survey_text}
use Rattle.survey.specs.Found.{InRange}
use Rattle.survey.specs.Code.{HeadFits, LeavesLine, body_stored, survey_of}
use Rattle.survey.proofs.Lines.{zeros}
use Rattle.survey.proofs.Whole.{all_at, area, begin_got, done_whole, done_extra, split-bad, turn-bad, turn-got}
use Rattle.survey.proofs.put_surveys.Invariants.{Held}
use Rattle.survey.proofs.put_surveys.Goals as goal

-- what is known at the survey i, whose bodies begin at line n
module _ {text t : Bytes} {p₀ p : Page} {es : List Entry} {n i : ℕ} (h : Held text p₀ p es n t i) where
  module _ (k : i < length es) where
    in-range : InRange (get_or es i zeros)
    in-range = all_at es i h.all k

    fits : (n + (get_or es i zeros).rows < 1000000) × ((get_or es i zeros).cols - 1 < 48)
        × ((get_or es i zeros).rows * ((get_or es i zeros).cols - 1 + 1) ≤ 2304)
    fits = (omega (arith, in-range.rows_most, h.line-most, h.few), omega (arith, in-range.cols_most), (area _ in-range).1)

    refused : (m : List Float) (r : ℕ)
        → malformed r ≡ body_stored (get_or es i zeros).rows ((get_or es i zeros).cols - 1) n t m 0
        → LeavesLine text p₀ p r
    refused m r e = record { same_reference = h.same_reference; same = h.same; goes = λ o z w. h.goes o z (rw (turn-bad es i n t k h.all m m _ refl r e) w) }

    module _ (m m₁ : List Float) (n₁ : ℕ) (t₁ : Bytes)
        (e : got m₁ n₁ t₁ ≡ body_stored (get_or es i zeros).rows ((get_or es i zeros).cols - 1) n t m 0) where
      next : (q : Page) → n₁ ≡ n + (get_or es i zeros).rows → length m₁ ≡ 2304
          → Writes p (survey_text (survey_of (get_or es i zeros) (take ((get_or es i zeros).rows * (get_or es i zeros).cols) m₁))) q
          → Held text p₀ q es n₁ t₁ (i + 1)
      next q k₁ l w = record {
        all = h.all;
        few = h.few;
        line-least = omega (arith, h.line-least);
        line-most = omega (arith, h.line-most, in-range.rows_most);
        same_reference = w.same_reference ∙ h.same_reference;
        same = w.wrote.kept ∙ h.same;
        goes = λ o z v. h.goes o z (rw (turn-got es i n t k h.all m m₁ _ refl l n₁ t₁ e) (then w.wrote v));
      }

  module _ (k : i ≡ length es) where
    extra : (length t ≡ 0 → ⊥) → LeavesLine text p₀ p n
    extra g = record { same_reference = h.same_reference; same = h.same; goes = λ o z w. h.goes o z (rw (done_extra es i n t k g) w) }

    whole : length t ≡ 0 → LeavesLine text p₀ p 0
    unfolding malformed_text
    whole g = record { same_reference = h.same_reference; same = h.same; goes = λ o z w. h.goes o z (rw (done_whole es i n t k g) w) }

-- where the loop begins
begin : (text : Bytes) (p : Page) (h : Head) → got (take h.count h.es) h.bodies.line h.bodies.text.now ≡ head 1 text
    → HeadFits h → p.at ≡ 0
    → Held text p p (take h.count h.es) h.bodies.line h.bodies.text.now 0
begin text p h e f z =
    let g = begin_got text _ _ _ e in
    record {
      all = g.0;
      few = omega (arith, length-take h.count h.es, f.count);
      line-least = f.line_least;
      line-most = omega (arith, f.line_most);
      same_reference = refl;
      same = refl;
      goes = λ o r w. rw (g.1, z) at w;
    }

pub returns-in_err-head : goal.returns-in_err-head
returns-in_err-head c =
    let known = c.in_err-head.ensures in
    let e : c.from_residual.result ≡ Err c.in_err-head.field-0.0 = search rules in
    let l : LeavesLine c.args.text.now c.args.page.now c.args.page.now c.in_err-head.field-0.0.line =
    record { same_reference = refl; same = refl; goes = λ o z w. rw (split-bad _ _ known.0, ← c.requires) w } in
    rw e (record { line = l; malformed = known.2 })

pub loop-e-init : goal.loop-e-init
loop-e-init c = begin _ _ c.in_ok-head.head c.in_ok-head.ensures.0 c.in_ok-head.ensures.1 c.requires

pub overflow_sub-e : goal.overflow_sub-e
overflow_sub-e c = (in-range c.loop-e.invariant c.loop-e-test.true).cols_least

pub body-requires : goal.body-requires
body-requires c = fits c.loop-e.invariant c.loop-e-test.true

pub returns-in_err-left : goal.returns-in_err-left
returns-in_err-left c =
    let known = c.in_err-left.ensures in
    let e : c.from_residual-in_err-left.result ≡ Err c.in_err-left.field-0.0 = search rules in
    rw e (record {
      line = refused c.loop-e.invariant c.loop-e-test.true _ _ known.body;
      malformed = omega (arith, known.malformed, c.loop-e.invariant.line-least);
    })

pub put_survey-requires : goal.put_survey-requires
put_survey-requires c = in-range c.loop-e.invariant c.loop-e-test.true

pub loop-e-preserved : goal.loop-e-preserved
loop-e-preserved c =
    let known = c.in_ok-left.ensures in
    let put = c.put_survey.ensures in
    next c.loop-e.invariant c.loop-e-test.true _ _ _ _ known.body _ known.line (search rules) put

pub returns-then-not-is_empty : goal.returns-then-not-is_empty
returns-then-not-is_empty c =
    record { line = extra c.loop-e.invariant (omega arith) (eqb-false _ 0 (sym c.if-not-is_empty.ensures)); malformed = c.loop-e.invariant.line-least }

pub returns : goal.returns
returns c = record { line = whole c.loop-e.invariant (omega arith) (eqb-true _ 0 (sym c.if-not-is_empty.ensures)); malformed = tt }
