-- One law for the run: what clearing a column, clearing a row and turning two lines keep between two works, the
-- bidiagonal form, a sweep and the whole walk keep between them, with the same record of the walk. The two works may
-- have different strides and keep different rows of their factors. Assumes nothing.
pub mod Parts
pub mod Alone
use Rattle.std.specs.Prelude.{◌≡◌, Bool, not, ℕ, ◌+◌, ◌-◌, ◌<◌, ◌≤◌, Float}
use Rattle.std.proofs.Math.Path.{refl, sym, ap}
use Rattle.std.proofs.Common.{◌∙◌, arith}
use Rattle.std.proofs.Math.Bool.{true, false}
use Rattle.std.proofs.Math.Dec.{eqb}
use Rattle.std.specs.Float.{Format}
use Rattle.method.proofs.Repeated.{repeated-both}
use Rattle.method.specs.Work.{Work, Shape}
use Rattle.method.specs.Bidiagonal.{first_zeroed, then_zeroed, places_zeroed, bidiagonal}
use Rattle.method.specs.Chase.{along, pushed, stepped, steps, swept, negligible, first_rotation}
use Rattle.method.specs.Walk.{Walk, run, enough, begun, stands}
use Rattle.method.specs.Walk.Alike.{Alike}
use Rattle.method.proofs.Walk.Alike.{run-alike}
use Rattle.method.specs.Outcome.{card, is_upper, rules_of, walked_from}
use Rattle.method.specs.Settings.{Settings}
use Rattle.method.specs.Relation.{Kept}

module _ {f : Format} {floor : Float} {z z' : Shape} {c : ℕ} {R : Work → Work → Type 0}
    (q : Kept f floor z z' c R) where
  -- ---- the bidiagonal form

  first-kept :
      (upper : Bool) (k : ℕ) (w w' : Work) → k < c → R w w' →
      R (first_zeroed f floor z upper k w) (first_zeroed f floor z' upper k w')
  first-kept true k w w' h r = q.column k k w w' h h r
  first-kept false k w w' h r = q.row k k w w' h h r

  then_kept :
      (upper : Bool) (k : ℕ) (w w' : Work) → k + 1 < c → R w w' →
      R (then_zeroed f floor z upper k w) (then_zeroed f floor z' upper k w')
  then_kept true k w w' h r = q.row k (k + 1) w w' (omega arith) h r
  then_kept false k w w' h r = q.column (k + 1) k w w' h (omega arith) r

  places-kept :
      (upper : Bool) (n : ℕ) (w w' : Work) → n < c → R w w' →
      R (places_zeroed f floor z upper n w) (places_zeroed f floor z' upper n w')
  unfolding places_zeroed
  places-kept upper n w w' h r =
      repeated-both R 0 n _ _
      (λ k s s' l m e. then_kept upper k _ _ (omega arith) (first-kept upper k s s' (omega arith) e)) w w' r

  -- over a diagonal of d entries
  pub bidiagonal-kept :
      (upper : Bool) (d : ℕ) (w w' : Work) → d - 1 < c → R w w' →
      R (bidiagonal f floor z upper d w) (bidiagonal f floor z' upper d w')
  unfolding bidiagonal
  bidiagonal-kept upper d w w' h r =
      choose (eqb z.rows z.cols) refl (ap (λ (n : ℕ). eqb n z.cols) q.rows ∙ ap (eqb z'.rows) q.cols)
    where
      choose :
          (t : Bool) → eqb z.rows z.cols ≡ t → eqb z.rows z.cols ≡ eqb z'.rows z'.cols →
          R (bidiagonal f floor z upper d w) (bidiagonal f floor z' upper d w')
      choose true e s = rw (e, sym s ∙ e, bidiagonal) (places-kept upper (d - 1) w w' h r)
      choose false e s =
          rw (e, sym s ∙ e, bidiagonal) (first-kept upper (d - 1) _ _ h (places-kept upper (d - 1) w w' h r))

  -- ---- a sweep

  along-same :
      (by_row : Bool) (i j : ℕ) (w w' : Work) → i < c → j < c → R w w' →
      along by_row z.stride i j w.matrix ≡ along by_row z'.stride i j w'.matrix
  along-same true i j w w' h g r = q.reads i j w w' h g r
  along-same false i j w w' h g r = q.reads j i w w' g h r

  pushed-kept :
      (by_row : Bool) (i j n : ℕ) (w w' : Work) → i + 1 < c → j < c → j + n ≤ c → R w w' →
      R (pushed f z by_row i j n w) (pushed f z' by_row i j n w')
  pushed-kept by_row i j n w w' h g l r =
      rw (along-same by_row i j w w' (omega arith) g r, along-same by_row (i + 1) j w w' h g r)
      (q.turn _ by_row i j n w w' h l r)

  first_rotation-same :
      (upper : Bool) (k : ℕ) (w w' : Work) → k + 1 < c → R w w' →
      first_rotation f z.stride upper k w.matrix ≡ first_rotation f z'.stride upper k w'.matrix
  first_rotation-same upper k w w' h r =
      rw (
        q.reads 0 0 w w' (omega arith) (omega arith) r,
        along-same (not upper) 1 0 w w' (omega arith) (omega arith) r,
        q.reads k k w w' (omega arith) (omega arith) r,
        q.reads k (k + 1) w w' (omega arith) h r,
        q.reads (k + 1) k w w' h (omega arith) r,
        q.reads (k + 1) (k + 1) w w' h h r,
      )

  pub steps-kept :
      (upper : Bool) (n : ℕ) (w w' : Work) → n + 1 < c → R w w' → R (steps f z upper n w) (steps f z' upper n w')
  unfolding steps
  steps-kept upper n w w' h r =
      repeated-both R 0 n (stepped f z upper) (stepped f z' upper)
      (λ l s s' a b e.
      pushed-kept (not upper) (l + 1) l 3 _ _ (omega arith) (omega arith) (omega arith)
      (pushed-kept upper l l 3 s s' (omega arith) (omega arith) (omega arith) e))
      w
      w'
      r

  pub swept_kept :
      (upper : Bool) (k : ℕ) (w w' : Work) → k + 1 < c → R w w' → R (swept f z upper k w) (swept f z' upper k w')
  unfolding swept
  swept_kept upper k w w' h r =
      pushed-kept upper k k 2 _ _ h (omega arith) (omega arith)
      (steps-kept upper k _ _ h
      (rw (first_rotation-same upper k w w' h r) (q.turn _ (not upper) 0 0 2 w w' (omega arith) (omega arith) r)))

  -- ---- the walk's test

  pub negligible-same :
      (tolerance absolute : Float) (upper : Bool) (k : ℕ) (w w' : Work) → k + 1 < c → R w w' →
      negligible f tolerance absolute z.stride upper k w.matrix ≡
      negligible f tolerance absolute z'.stride upper k w'.matrix
  unfolding negligible
  negligible-same tolerance absolute upper k w w' h r =
      rw (
        along-same (not upper) (k + 1) k w w' h (omega arith) r,
        q.reads k k w w' (omega arith) (omega arith) r,
        q.reads (k + 1) (k + 1) w w' h h r,
      )

-- ---- the run

-- n passes from one record, whose range is c or less: so for a run that was stopped and goes on
pub passes_kept :
    {f : Format} {floor : Float} {z z' : Shape} {c : ℕ} {R : Work → Work → Type 0} (upper : Bool)
    (tolerance absolute : Float) (limit credit n : ℕ) (k : Walk) →
    Kept f floor z z' c R →
    k.tally.range ≤ c →
    (w w' : Work) →
    R w w' →
    Alike R (run (rules_of f z upper tolerance absolute) limit credit n (stands k w))
    (run (rules_of f z' upper tolerance absolute) limit credit n (stands k w'))
passes_kept {f} {floor} {z} {z'} {c} {R} upper tolerance absolute limit credit n k q within w w' r =
    run-alike (rules_of f z upper tolerance absolute) (rules_of f z' upper tolerance absolute) limit credit c R
    (record {
      tests = λ m d d' wide below e. negligible-same q tolerance absolute upper (m - 2) d d' (omega arith) e;
      sweeps = λ m d d' wide below e. swept_kept q upper (m - 2) d d' (omega arith) e;
      turns = λ m wide below. refl;
    })
    n
    k
    w
    w'
    within
    r

-- The law: two runs over related works have the same record, and end at related works. `c` is the diagonal's length, or
-- more.
pub run-kept :
    {f : Format} {z z' : Shape} {c : ℕ} {R : Work → Work → Type 0} (rows cols : ℕ) (s : Settings) →
    Kept f s.floor z z' c R →
    1 ≤ c →
    card rows cols ≤ c →
    (w w' : Work) →
    R w w' →
    Alike R (walked_from f z rows cols s w) (walked_from f z' rows cols s w')
run-kept rows cols s q some within w w' r =
    passes_kept (is_upper rows cols) s.tolerance s.absolute s.limit s.credit
    (enough s.limit s.credit (card rows cols)) (begun (card rows cols)) q within _ _
    (bidiagonal-kept q (is_upper rows cols) (card rows cols) w w' (omega arith) r)
