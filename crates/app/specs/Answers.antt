-- An answer tells its outcome, and any two answers that an export's promise allows are equal, with every slice that was
-- lent. Assumes nothing.
use Rattle.std.specs.Prelude.{◌≡◌, List, [], ℕ, Float}
use Rattle.std.proofs.Common.{sym, ap, ◌∙◌}
use Rattle.std.specs.Float.{binary64}
use Rattle.method.specs.Work.{Work, work}
use Rattle.method.specs.Report.{Report}
use Rattle.method.specs.Root.{square_root}
use Rattle.method.specs.Fill.{filled, fill_outcome}
use Rattle.method.specs.Defaults.{defaults}
use Rattle.method.specs.Outcome.{Outcome, outcome_of, full_outcome, plain_outcome}
use Rattle.method.specs.Ordered.{Ordered, ordered_of, ordered_outcome}
use Rattle.method.specs.Profiles.{Picked, picked, profile_plain, profile_full, profile_ordered}
use Rattle.method.specs.Settings.{Settings}
use Rattle.float.specs.Root.{RootIs}
use Rattle.float.specs.Answers.{OneAnswer, equated_one}
use Rattle.factors.specs.Answers as Factors
use Rattle.app.specs.declared.Answer.{Answer}
use Rattle.app.specs.declared.Choice.{Choice}
use Rattle.app.specs.declared.Part.{Part}
use Rattle.app.specs.declared.ProfileAnswer.{ProfileAnswer}
use Rattle.app.specs.Values.{answer_of, Answered, answered, told, Listed, listed, told_in_order}
use Rattle.app.specs.Values.{chosen, of_choice, picked_by, layout}
use Rattle.app.specs.Row.{part_of}

-- the report of the call beneath, told
pub told_of :
    (r : Report) (a : Answer) (w : Work) (o : Outcome) → a ≡ answer_of r → outcome_of r w ≡ o → answered a w ≡ told o
told_of r a w o e h = ap (λ (x : Answer). answered x w) e ∙ ap told h

-- and of a call in order
pub told-in_order :
    (r : Report) (a : Answer) (w : Work) (l : List Float) (o : Ordered) →
    a ≡ answer_of r → ordered_of (outcome_of r w) l ≡ o → listed (answered a w) l ≡ told_in_order o
told-in_order r a w l o e h = ap (λ (x : Answer). listed (answered x w) l) e ∙ ap told_in_order h

-- what is told of one outcome is one answer and the same lists
told-one :
    (o : Answered) (r r' : Answer) (w w' : Work) → answered r w ≡ o → answered r' w' ≡ o → (r ≡ r') × (w ≡ w')
told-one o r r' w w' e e' =
    let d = e ∙ sym e' in
    (ap (λ (x : Answered). x.answer) d, ap (λ (x : Answered). x.held) d)

-- ---- the calls, by settings and by a profile's number

-- a call on the table alone, of which o is told
pub plain-told_one :
    (o : Answered) (r r' : Answer) (b b' : List Float) →
    answered r (work b [] []) ≡ o → answered r' (work b' [] []) ≡ o → (r ≡ r') × (b ≡ b')
plain-told_one o r r' b b' e e' =
    let one = told-one o r r' (work b [] []) (work b' [] []) e e' in
    (one.0, ap (λ (w : Work). w.matrix) one.1)

-- with U and V
pub full_told_one :
    (o : Answered) (r r' : Answer) (b b' u u' v v' : List Float) →
    answered r (work b u v) ≡ o → answered r' (work b' u' v') ≡ o → (r ≡ r') × (b ≡ b') × (u ≡ u') × (v ≡ v')
full_told_one o r r' b b' u u' v v' e e' =
    let one = told-one o r r' (work b u v) (work b' u' v') e e' in
    let held = one.1 in
    (one.0, ap (λ (w : Work). w.matrix) held, ap (λ (w : Work). w.u) held, ap (λ (w : Work). w.v) held)

-- and with the list of values
pub ordered-told_one :
    (o : Listed) (r r' : Answer) (b b' u u' v v' l l' : List Float) →
    listed (answered r (work b u v)) l ≡ o → listed (answered r' (work b' u' v')) l' ≡ o →
    (r ≡ r') × (b ≡ b') × (u ≡ u') × (v ≡ v') × (l ≡ l')
ordered-told_one o r r' b b' u u' v v' l l' e e' =
    let told : Listed → Answered = λ x. x.answered in
    let one = full_told_one o.answered r r' b b' u u' v v' (ap told e) (ap told e') in
    (one.0, one.1, one.2, one.3, ap (λ (x : Listed). x.values) (e ∙ sym e'))

module _ (rows cols limit credit : ℕ) (tolerance absolute floor : Float) where
  abbrev s : Settings
  s = chosen limit credit tolerance absolute floor

  -- `merotunki_svd`
  pub svd_one :
      (b₀ : List Float) (r r' : Answer) (b b' : List Float) →
      answered r (work b [] []) ≡ told (plain_outcome binary64 rows cols s b₀) →
      answered r' (work b' [] []) ≡ told (plain_outcome binary64 rows cols s b₀) →
      (r ≡ r') × (b ≡ b')
  svd_one b₀ = plain-told_one (told (plain_outcome binary64 rows cols s b₀))

  -- `merotunki_full_svd`
  pub full_svd_one :
      (w₀ : Work) (r r' : Answer) (b b' u u' v v' : List Float) →
      answered r (work b u v) ≡ told (full_outcome binary64 rows cols s w₀) →
      answered r' (work b' u' v') ≡ told (full_outcome binary64 rows cols s w₀) →
      (r ≡ r') × (b ≡ b') × (u ≡ u') × (v ≡ v')
  full_svd_one w₀ = full_told_one (told (full_outcome binary64 rows cols s w₀))

  -- `merotunki_ordered_svd`
  pub ordered-svd_one :
      (w₀ : Work) (l₀ : List Float) (r r' : Answer) (b b' u u' v v' l l' : List Float) →
      listed (answered r (work b u v)) l ≡ told_in_order (ordered_outcome binary64 rows cols s w₀ l₀) →
      listed (answered r' (work b' u' v')) l' ≡ told_in_order (ordered_outcome binary64 rows cols s w₀ l₀) →
      (r ≡ r') × (b ≡ b') × (u ≡ u') × (v ≡ v') × (l ≡ l')
  ordered-svd_one w₀ l₀ = ordered-told_one (told_in_order (ordered_outcome binary64 rows cols s w₀ l₀))

module _ (rows cols k : ℕ) where
  -- `merotunki_profile_svd`
  pub profile-svd_one :
      (b₀ : List Float) (r r' : Answer) (b b' : List Float) →
      answered r (work b [] []) ≡ told (profile_plain binary64 rows cols k b₀) →
      answered r' (work b' [] []) ≡ told (profile_plain binary64 rows cols k b₀) →
      (r ≡ r') × (b ≡ b')
  profile-svd_one b₀ = plain-told_one (told (profile_plain binary64 rows cols k b₀))

  -- `merotunki_profile_full_svd`
  pub profile_full-svd_one :
      (w₀ : Work) (r r' : Answer) (b b' u u' v v' : List Float) →
      answered r (work b u v) ≡ told (profile_full binary64 rows cols k w₀) →
      answered r' (work b' u' v') ≡ told (profile_full binary64 rows cols k w₀) →
      (r ≡ r') × (b ≡ b') × (u ≡ u') × (v ≡ v')
  profile_full-svd_one w₀ = full_told_one (told (profile_full binary64 rows cols k w₀))

  -- `merotunki_profile_ordered_svd`
  pub profile_ordered-svd_one :
      (w₀ : Work) (l₀ : List Float) (r r' : Answer) (b b' u u' v v' l l' : List Float) →
      listed (answered r (work b u v)) l ≡ told_in_order (profile_ordered binary64 rows cols k w₀ l₀) →
      listed (answered r' (work b' u' v')) l' ≡ told_in_order (profile_ordered binary64 rows cols k w₀ l₀) →
      (r ≡ r') × (b ≡ b') × (u ≡ u') × (v ≡ v') × (l ≡ l')
  profile_ordered-svd_one w₀ l₀ = ordered-told_one (told_in_order (profile_ordered binary64 rows cols k w₀ l₀))

-- ---- the others

-- `merotunki_identity`
pub identity-one :
    (n : ℕ) (a₀ : List Float) (r r' : ℕ) (a a' : List Float) →
    filled r a ≡ fill_outcome n a₀ → filled r' a' ≡ fill_outcome n a₀ → (r ≡ r') × (a ≡ a')
identity-one = Factors.filled_one

-- `merotunki_row`
pub row_one :
    (rows cols : ℕ) (u v : List Float) (side k : ℕ) → OneAnswer (λ (r : Part). r ≡ part_of rows cols u v side k)
row_one rows cols u v side k = equated_one (part_of rows cols u v side k)

-- `merotunki_square_root`
pub square_root-one : (x : Float) → OneAnswer (λ (r : Float). (r ≡ square_root binary64 x) × RootIs x r)
square_root-one x r r' p p' = equated_one (square_root binary64 x) r r' p.0 p'.0

-- a choice by the settings it stands for
abbrev from_settings : Settings → Choice
from_settings s =
    record {
      limit = s.limit;
      credit = s.credit;
      tolerance = s.tolerance;
      absolute = s.absolute;
      floor = s.floor;
    }

-- `merotunki_defaults`
pub defaults-one : OneAnswer (λ (r : Choice). of_choice r ≡ defaults)
defaults-one r r' e e' = ap from_settings (e ∙ sym e')

-- what was picked, by what it stands for
abbrev from_picked : Picked → ProfileAnswer
from_picked p =
    record {
      number = p.number;
      limit = p.settings.limit;
      credit = p.settings.credit;
      tolerance = p.settings.tolerance;
      absolute = p.settings.absolute;
      floor = p.settings.floor;
    }

-- `merotunki_profile`
pub profile-one : (k : ℕ) → OneAnswer (λ (r : ProfileAnswer). picked_by r ≡ picked binary64 k)
profile-one k r r' e e' = ap from_picked (e ∙ sym e')

-- `merotunki_layout`
pub layout-one : OneAnswer (λ (r : ℕ). r ≡ layout)
layout-one = equated_one layout
