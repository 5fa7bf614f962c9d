-- The two ways out of a call, and what the kernels may lean on where the checks were passed. Assumes nothing.
use Rattle.std.specs.Prelude.{◌≡◌, Bool, true, false, ℕ, ◌*◌, ◌≤◌, leb, length, Float}
use Rattle.std.proofs.Math.Path.{refl, ap}
use Rattle.std.proofs.Common.{sym, ◌∙◌, zero-le, le_refl, le_of_eq, zero-mul, leb-true, leb-false, arith}
use mathlib.Core.List.{List, [], ◌∷◌}
use Rattle.std.specs.Float.Ieee.{binary64}
use Rattle.method.specs.Floats.{pick}
use Rattle.method.specs.Work.{Work, Shape, work, packed}
use Rattle.method.specs.Lengths.{SameLengths}
use Rattle.method.proofs.Lengths.{outcome-lengths}
use Rattle.method.specs.Walk.{Walk, stands}
use Rattle.method.specs.Settings.{Settings, most_size}
use Rattle.method.specs.Checks.{Refusal, refusal_of}
use Rattle.method.specs.Checks.Table.{Fit}
use Rattle.method.proofs.Checks.Table.{fit}
use Rattle.method.specs.Report.{Report, refused, reported}
use Rattle.method.proofs.Report.Words.{reported-same}
use Rattle.method.specs.Outcome.{Outcome, outcome_of, shown_by, card, is_upper, walked_from, accepted, outcome}
use Rattle.method.proofs.Outcome.Refused.{refused-outcome, accepted-outcome}
use Rattle.svd.specs.Values.{Lent, Lending, Inside}

-- ---- the two ways out of a call

module _ (kept : Bool) (rows cols : ℕ) (s : Settings) (w : Work) where
  -- a refused call reports the refusal, and leaves the lists as they were
  pub refused-call :
      (r : Refusal) (report : Report) →
      r ≡ refusal_of kept rows cols s w →
      (r.number ≡ 0 → ⊥) →
      report ≡ refused r →
      outcome_of report w ≡ outcome binary64 kept rows cols s w
  refused-call r report e some q =
      let h : (refusal_of kept rows cols s w).number ≡ 0 → ⊥ = λ z. some (ap (λ (x : Refusal). x.number) e ∙ z) in
      rw (q, e) (sym (refused-outcome binary64 kept rows cols s w h))

  -- an accepted call reports the state that its walk came to, by its record and its table
  pub accepted-call :
      (r : Refusal) (report : Report) (last : Walk) (w' : Work) →
      r ≡ refusal_of kept rows cols s w →
      r.number ≡ 0 →
      report ≡ reported (is_upper rows cols) cols (stands last (work w'.matrix [] [])) →
      stands last w' ≡ walked_from binary64 (packed kept rows cols) rows cols s w →
      outcome_of report w' ≡ outcome binary64 kept rows cols s w
  unfolding accepted
  accepted-call r report last w' e none q d =
      let h : (refusal_of kept rows cols s w).number ≡ 0 = ap (λ (x : Refusal). x.number) (sym e) ∙ none in
      let told : report ≡ reported (is_upper rows cols) cols (stands last w') =
      q ∙ reported-same (is_upper rows cols) cols (stands last (work w'.matrix [] [])) (stands last w') refl refl in
      rw (told, accepted-outcome binary64 kept rows cols s w h) (ap (shown_by rows cols) d)

  -- what a call that is not refused may lean on
  pub call_fit : (r : Refusal) → r ≡ refusal_of kept rows cols s w → r.number ≡ 0 → Fit kept rows cols s w
  call_fit r e none = fit kept rows cols s w (ap (λ (x : Refusal). x.number) (sym e) ∙ none)

-- a square factor of which all rows are kept, or none, lies in its list
kept_lent :
    (kept : Bool) (n : ℕ) (a : List Float) →
    n ≤ most_size → (kept ≡ true → length a ≡ n * n) → Lent n (pick kept n 0) a
kept_lent true n a h e = record { few = h; whole = le_of_eq (sym (e refl)) }
kept_lent false n a h e = record { few = zero-le; whole = rw zero-mul zero-le }

-- and so do the packed table and both factors
pub fit_lending :
    (kept : Bool) (rows cols : ℕ) (s : Settings) (w : Work) →
    Fit kept rows cols s w → Lending (packed kept rows cols) w
fit_lending kept rows cols s w f =
    record {
      table =
          record {
            rows_few = f.rows_few;
            cols_few = f.cols_few;
            stride_few = omega (arith, f.cols_few);
            wide = le_refl cols;
            whole = le_of_eq (sym f.matrix_length);
          };
      u = kept_lent kept rows w.u f.rows_few f.u_length;
      v = kept_lent kept cols w.v f.cols_few f.v_length;
    }

-- ---- a table has as many values as the smaller of rows and columns

pub values-inside :
    (z : Shape) (c : ℕ) → c ≡ card z.rows z.cols → Inside z 1 → (1 ≤ c) × Inside z c
values-inside z c e i = go (leb z.cols z.rows) refl
  where
    go : (b : Bool) → leb z.cols z.rows ≡ b → (1 ≤ c) × Inside z c
    go true t =
        let n : c ≡ z.cols = e ∙ rw t refl in
        let less = leb-true z.cols z.rows t in
        (omega (arith, n, i.in_cols), record { in_rows = omega (arith, n, less); in_cols = omega (arith, n) })
    go false t =
        let n : c ≡ z.rows = e ∙ rw t refl in
        let more = leb-false z.cols z.rows t in
        (omega (arith, n, i.in_rows), record { in_rows = omega (arith, n); in_cols = omega (arith, n, more) })

-- ---- the plain call lends two empty lists of its own

empty : (a : List Float) → length a ≡ 0 → a ≡ []
empty [] e = refl
empty (x ∷ a) e = absurd (let z : ⊥ = omega arith in z)

-- and they come back empty
pub plain-call :
    (rows cols : ℕ) (s : Settings) (report : Report) (b b' u' v' : List Float) →
    outcome_of report (work b' u' v') ≡ outcome binary64 false rows cols s (work b [] []) →
    outcome_of report (work b' [] []) ≡ outcome binary64 false rows cols s (work b [] [])
plain-call rows cols s report b b' u' v' e =
    let l : SameLengths (work b [] []) (work b' u' v') = rw (← ap (λ (o : Outcome). o.held) e) at (outcome-lengths binary64 false rows cols s (work b [] [])) in
    rw (empty u' l.u, empty v' l.v) at e
