-- What the promises of `page`, `halved` and `rounded` say of every f64 above zero and finite: each line follows from the
-- one before it by one turn, and what the last is rounded to is the answer of `square_root`, with the two comparisons
-- that show it nearest. Assumes nothing.
use Rattle.std.specs.Prelude.{◌≡◌, true, ℕ, suc, ◌+◌, ◌-◌, ◌*◌, ◌^◌, ◌≤◌, ◌<◌, Float}
use Rattle.std.proofs.Common.{sym, ap, ◌∙◌, subst, le_refl}
use Rattle.std.specs.Float.{binary64}
use Rattle.std.specs.Float.Ieee.{fits, lt, of_bits}
use Rattle.std.specs.Float.Ieee.Scale.{finite}
use denote.Floats.{passes}
use Rattle.method.specs.Floats.{plus_zero}
use Rattle.method.specs.Root.{square_root}
use Rattle.method.specs.Root.Paper as Paper
use Rattle.method.specs.Root.Paper.{first, turn, turns, rounded, halved, page}
use Rattle.method.specs.Root.Turns.{Found}
use Rattle.method.proofs.Root.Turns.{midpoints}
use Rattle.method.proofs.Root.Page.{page-first, page-turn, page-last, page-found, page-digits, page-root, number-exact, number_bound}
use Rattle.float.specs.Values.{line_in, start_in}
use Rattle.float.specs.Root.{AnF64}
use Rattle.float.proofs.Root.{f64_fits, is_positive}
use Rattle.float.specs.declared.paper.Line.{Line}
use Rattle.float.specs.declared.paper.Start.{Start}
use Rattle.float.specs.Page.{LineIs, PageShows}

-- ---- every line, of every f64

pub line-is :
    (x : Float) (k : ℕ) (s : Start) (l : Line) → AnF64 x → k ≤ 54 → start_in s ≡ halved binary64 x →
    line_in l ≡ page binary64 x k →
    LineIs s.number k l
line-is x k s l a h e g =
    let held = passes (fits binary64 x) (f64_fits x a) in
    let f =
    subst
    (λ (t : Paper.Start). Found (4 * (t.number * 2 ^ 54)) (2 ^ 55) (54 - k) (line_in l)) (sym e)
    (subst (λ (m : Paper.Line). Found (4 * ((halved binary64 x).number * 2 ^ 54)) (2 ^ 55) (54 - k) m) (sym g)
    (page-found binary64 x k held h)) in
    record { bit_is = f.place; all_there = f.value; none-greater = f.small }

-- the first line is the number, and each other is one turn of the line before it
pub line_first :
    (x : Float) (s : Start) (l : Line) → start_in s ≡ halved binary64 x → line_in l ≡ page binary64 x 0 →
    line_in l ≡ first 54 s.number
line_first x s l e g =
    g ∙ page-first binary64 x ∙ ap (λ (t : Paper.Start). first 54 t.number) (sym e)

pub line-turned :
    (x : Float) (k : ℕ) (l m : Line) → k < 54 → line_in l ≡ page binary64 x k → line_in m ≡ page binary64 x (suc k) →
    line_in m ≡ turn (line_in l)
line-turned x k l m h e g = g ∙ page-turn binary64 x k h ∙ ap turn (sym e)

-- ---- the result, of every f64 above zero and finite

pub page-shows :
    (x r : Float) (many k : ℕ) (s : Start) (l : Line) → AnF64 x → finite x ≡ true → lt plus_zero x ≡ true → 54 ≤ many →
    start_in s ≡ halved binary64 x → line_in l ≡ page binary64 x many → k ≡ rounded l.root →
    r ≡ square_root binary64 x →
    PageShows x r s l k
page-shows x r many k s l a h p g es el ek er =
    let held = passes (fits binary64 x) (f64_fits x a) in
    let above = is_positive x h p in
    let n = (halved binary64 x).number in
    let last : k ≡ rounded (turns 54 (first 54 n)).root =
    ek ∙ ap (λ (m : Paper.Line). rounded m.root) (el ∙ page-last binary64 x many g) in
    let kept : rounded (page binary64 x 54).root ≡ k =
    ap (λ (m : Paper.Line). rounded m.root) (page-last binary64 x 54 (le_refl 54)) ∙ sym last in
    record {
      start_is =
          number-exact binary64 x held above ∙ ap (λ (t : Paper.Start). t.number * (2 ^ 52 * 4 ^ t.power)) (sym es);
      last_line =
          line-is x 54 s l a (le_refl 54) es
          (el ∙ page-last binary64 x many g ∙ sym (page-last binary64 x 54 (le_refl 54)));
      result =
          er ∙ page-root binary64 x held above
          ∙ ap (λ (t : Paper.Start). of_bits binary64 (t.power * 2 ^ 52 + rounded (page binary64 x 54).root)) (sym es)
          ∙ ap (λ (z : ℕ). of_bits binary64 (s.power * 2 ^ 52 + z)) kept;
      few_digits = subst (λ (z : ℕ). z < 2 ^ 53) kept (page-digits binary64 x held above);
      between = λ m e.
          subst
          (λ (t : Paper.Start). (m * m < 4 * (t.number * 2 ^ 54)) × (4 * (t.number * 2 ^ 54) < (m + 4) * (m + 4)))
          (sym es)
          (midpoints 53 n m (number_bound binary64 x held) (e ∙ ap (λ (z : ℕ). 4 * z) last));
    }
