-- Runs over equal matrices: for any relation between the factors that the operations on factors keep, and so with the
-- factors kept or not. Assumes nothing.
use Rattle.std.specs.Prelude.{◌≡◌, refl, Bool, true, false, [], ℕ, ◌+◌, ◌≤◌}
use Rattle.std.proofs.Common.{arith}
use Rattle.std.specs.Float.{Format}
use Rattle.method.specs.Floats.{pick}
use Rattle.method.specs.Work.{Work, work, packed}
use Rattle.method.specs.Walk.Alike.{Alike}
use Rattle.method.proofs.Report.Words.{reported-same}
use Rattle.method.specs.Outcome.{card, is_upper, walked_from, accepted}
use Rattle.method.specs.Settings.{Settings}
use Rattle.method.proofs.Relation.{run-kept}
use Rattle.method.specs.Relation.Parts.{Between, Parts, FactorKept, Equal, Any}
use Rattle.method.proofs.Relation.Parts.{parts_kept, equal_kept, any_kept}

pub runs-kept :
    {f : Format} {c : ℕ} {Q P : Between} (kept kept' : Bool) (rows cols : ℕ) (s : Settings) (w w' : Work) →
    1 ≤ c →
    card rows cols ≤ c →
    FactorKept f rows (pick kept rows 0) (pick kept' rows 0) c Q →
    FactorKept f cols (pick kept cols 0) (pick kept' cols 0) c P →
    Parts Equal Q P w w' →
    Alike (Parts Equal Q P) (walked_from f (packed kept rows cols) rows cols s w)
    (walked_from f (packed kept' rows cols) rows cols s w')
runs-kept {f} {c} kept kept' rows cols s w w' some within u v r =
    run-kept rows cols s (parts_kept (equal_kept f s.floor rows cols cols c) u v) some within w w' r

-- two runs over equal matrices have the same record and the same matrix, with the factors kept or not
pub runs-agree :
    (f : Format) (kept kept' : Bool) (rows cols : ℕ) (s : Settings) (w w' : Work) → w.matrix ≡ w'.matrix →
    Alike (Parts Equal Any Any) (walked_from f (packed kept rows cols) rows cols s w)
    (walked_from f (packed kept' rows cols) rows cols s w')
runs-agree f kept kept' rows cols s w w' e =
    runs-kept {c = card rows cols + 1} kept kept' rows cols s w w' (omega arith) (omega arith) (any_kept f rows _ _ _)
    (any_kept f cols _ _ _) (record { matrix = e; u = tt; v = tt })

-- so the two calls report the same and leave the same matrix, however U and V began
pub accepted-agree :
    (f : Format) (rows cols : ℕ) (s : Settings) (w : Work) →
    let full = accepted f true rows cols s w in
    let plain = accepted f false rows cols s (work w.matrix [] []) in
    (full.report ≡ plain.report) × (full.held.matrix ≡ plain.held.matrix)
unfolding accepted
accepted-agree f rows cols s w =
    let w' = work w.matrix [] [] in
    let a = runs-agree f true false rows cols s w w' refl in
    let e = walked_from f (packed true rows cols) rows cols s w in
    let e' = walked_from f (packed false rows cols) rows cols s w' in
    (reported-same (is_upper rows cols) cols e e' a.walk a.held.matrix, a.held.matrix)
