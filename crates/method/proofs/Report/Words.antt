-- What the word says of the range left and of the table, and that walk and matrix alone decide the report. Assumes
-- nothing.
use Rattle.std.specs.Prelude.{◌≡◌, refl, Bool, true, false, ℕ, ◌≤◌, eqb}
use Rattle.std.proofs.Common.{ap, arith, eqb-true, eq-eqb, ne_eqb}
use Rattle.std.proofs.lemmas.Bool.{eqb-false}
use Rattle.method.specs.Floats.{pick}
use Rattle.method.specs.Work.{Work}
use Rattle.method.specs.Walk.{State}
use Rattle.method.proofs.Checks.Tests.{denies}
use Rattle.method.specs.Quiet.{quiet_corner}
use Rattle.method.proofs.Quiet.Laws.{quiet_says}
use Rattle.method.specs.Checks.{Refusal, not_refused}
use Rattle.method.specs.Report.{Word, settled, stopped, quiet, word_number, word_of, Report, reported}
use Rattle.method.specs.Report.Words.{TrueWord}

module _ (upper : Bool) (stride : ℕ) (s : State Work) where
  abbrev range : ℕ
  range = s.walk.tally.range

  -- by their numbers two words differ
  apart : {w v : Word} {A : Type 0} → w ≡ v → (word_number w ≡ word_number v → ⊥) → A
  apart e differ = absurd (differ (ap word_number e))

  -- settled is range 1 alone
  pub settled_one : word_of upper stride s ≡ settled → range ≡ 1
  settled_one = go (eqb range 1) refl (quiet_corner upper stride range s.held.matrix)
    where
      go : (b : Bool) → eqb range 1 ≡ b → (q : Bool) → pick b settled (pick q quiet stopped) ≡ settled → range ≡ 1
      go true t q w = eqb-true range 1 t
      go false t true w = apart w (λ z. omega arith)
      go false t false w = apart w (λ z. omega arith)

  -- the word of a state whose range is 1 or more is true
  pub word_true : 1 ≤ range → TrueWord upper stride range s.held.matrix (word_of upper stride s)
  word_true some = go (eqb range 1) refl (quiet_corner upper stride range s.held.matrix) refl
    where
      go :
          (b : Bool) → eqb range 1 ≡ b → (q : Bool) → quiet_corner upper stride range s.held.matrix ≡ q →
          TrueWord upper stride range s.held.matrix (pick b settled (pick q quiet stopped))
      go true t q u =
          let e = eqb-true range 1 t in
          record {
            settled = (λ w. e, λ w. refl);
            quiet = (λ w. apart w (λ z. omega arith), λ h. absurd (let z : ⊥ = omega (arith, h.0) in z));
            stopped = (λ w. apart w (λ z. omega arith), λ h. absurd (let z : ⊥ = omega (arith, h.0) in z));
          }
      go false t true u =
          let n = eqb-false range 1 t in
          let still = (quiet_says upper stride s.held.matrix range).0 u in
          record {
            settled = (λ w. apart w (λ z. omega arith), λ e. absurd (n e));
            quiet = (λ w. (omega arith, still), λ h. refl);
            stopped = (λ w. apart w (λ z. omega arith), λ h. absurd (h.1 still));
          }
      go false t false u =
          let n = eqb-false range 1 t in
          let loud = denies (quiet_says upper stride s.held.matrix range) u in
          record {
            settled = (λ w. apart w (λ z. omega arith), λ e. absurd (n e));
            quiet = (λ w. apart w (λ z. omega arith), λ h. absurd (loud h.1));
            stopped = (λ w. (omega arith, loud), λ h. refl);
          }

  -- ---- as the code finds it

  abbrev named : Refusal → Word → Report
  named r w = record { refusal = r; word = w; tally = s.walk.tally }

  module _ (r : Refusal) (e : r ≡ not_refused) where
    by_word : (w : Word) → word_of upper stride s ≡ w → named r w ≡ reported upper stride s
    by_word w q = rw (e, ← q) refl

    pub reported-settled : range ≡ 1 → named r settled ≡ reported upper stride s
    reported-settled one = by_word settled (rw (eq-eqb range 1 one) refl)

    pub reported-quiet :
        ¬ (range ≡ 1) → true ≡ quiet_corner upper stride range s.held.matrix →
        named r quiet ≡ reported upper stride s
    reported-quiet more q = by_word quiet (rw (ne_eqb range 1 more, ← q) refl)

    pub reported-stopped :
        ¬ (range ≡ 1) → false ≡ quiet_corner upper stride range s.held.matrix →
        named r stopped ≡ reported upper stride s
    reported-stopped more q = by_word stopped (rw (ne_eqb range 1 more, ← q) refl)

-- two states with the same walk and the same matrix, whatever their factors, are reported alike
pub reported-same :
    (upper : Bool) (stride : ℕ) (s s' : State Work) →
    s.walk ≡ s'.walk → s.held.matrix ≡ s'.held.matrix → reported upper stride s ≡ reported upper stride s'
reported-same upper stride s s' e m = rw (e, m)
