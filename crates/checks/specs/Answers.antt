-- Any two answers that the promise of a public function allows are equal: `first_refusal`, `table_refusal`, `lent_refusal`,
-- `Refusal::number`, `Refusal::place`, `Place::nowhere`, `smaller_size`, `Settings::new`. Assumes nothing.
use Rattle.std.specs.Prelude.{◌≡◌, refl, Bool, List, Float, ℕ, eqb, Result, Ok, Err}
use Rattle.std.proofs.Common.{sym, ap, ◌∙◌}
use Rattle.method.specs.Floats.{pick}
use Rattle.method.specs.Work.{Work}
use Rattle.method.specs.Defaults.{defaults}
use Rattle.method.specs.Settings as Method
use Rattle.method.specs.Checks as Checks
use Rattle.method.specs.Checks.{nowhere, refusal, first_of, table_checks, refusal_of}
use Rattle.method.specs.Outcome.{card}
use Rattle.method.specs.Ordered.{lent_checks}
use Rattle.checks.specs.declared.settings.Settings.{Settings}
use Rattle.checks.specs.declared.place.Place.{Place}
use Rattle.checks.specs.declared.refusal.Refusal.{Refusal}
use Rattle.checks.specs.declared.refusal.Refusal.TheVariants.{NoSize, TooLarge, TableLength, ULength, VLength, OverLimit, UnfitBounds, BadReadings, NoProfile, ListLength}
use Rattle.checks.specs.Refused.{refused_some}
use Rattle.checks.specs.Values.{settings_of, place_in, refusal_in, checked, number_of, place_of}

-- a place is told by the method's place, a refusal by the method's refusal, and settings by the method's settings
abbrev pub from_place : Checks.Place → Place
from_place p = record { row = p.row; column = p.column; bad = p.bad }

-- a refusal is told by its number, 8 with the place
abbrev pub from_refusal : Checks.Refusal → Refusal
from_refusal r =
    let n = r.number in
    pick (eqb n 2) TooLarge
    (pick (eqb n 3) TableLength
    (pick (eqb n 4) ULength
    (pick (eqb n 5) VLength
    (pick (eqb n 6) OverLimit
    (pick (eqb n 7) UnfitBounds
    (pick (eqb n 8) (BadReadings (from_place r.place))
    (pick (eqb n 10) NoProfile
    (pick (eqb n 11) ListLength NoSize))))))))

pub from_refusal_lem : (e : Refusal) → from_refusal (refusal_in e) ≡ e
from_refusal_lem NoSize = refl
from_refusal_lem TooLarge = refl
from_refusal_lem TableLength = refl
from_refusal_lem ULength = refl
from_refusal_lem VLength = refl
from_refusal_lem OverLimit = refl
from_refusal_lem UnfitBounds = refl
from_refusal_lem (BadReadings p) = refl
from_refusal_lem NoProfile = refl
from_refusal_lem ListLength = refl

-- so two refusals that say the same are the same
pub refused_one : (e e' : Refusal) → refusal_in e ≡ refusal_in e' → e ≡ e'
refused_one e e' d = sym (from_refusal_lem e) ∙ ap from_refusal d ∙ from_refusal_lem e'

-- and so are two answers of a check
pub checked_one : (r r' : Result (Unit {0}) Refusal) → checked r ≡ checked r' → r ≡ r'
checked_one (Ok a) (Ok b) d = refl
checked_one (Ok a) (Err e) d = absurd (refused_some e (ap (λ (x : Checks.Refusal). x.number) (sym d)))
checked_one (Err e) (Ok b) d = absurd (refused_some e (ap (λ (x : Checks.Refusal). x.number) d))
checked_one (Err e) (Err e') d = ap Err (refused_one e e' d)

abbrev pub from_settings : Method.Settings → Settings
from_settings s =
    record {
      limit = s.limit;
      credit = s.credit;
      tolerance = s.tolerance;
      absolute = s.absolute;
      floor = s.floor;
    }

-- `Place::nowhere`
pub nowhere-one : (p p' : Place) → place_in p ≡ nowhere → place_in p' ≡ nowhere → p ≡ p'
nowhere-one p p' e e' = ap from_place (e ∙ sym e')

-- a refusal of number n that carries no place
pub refusal_by-one :
    (n : ℕ) (r r' : Refusal) → refusal_in r ≡ refusal n nowhere → refusal_in r' ≡ refusal n nowhere → r ≡ r'
refusal_by-one n r r' e e' = refused_one r r' (e ∙ sym e')

-- `Refusal::number`
pub number_one : (e : Refusal) (r r' : ℕ) → r ≡ number_of (refusal_in e) → r' ≡ number_of (refusal_in e) → r ≡ r'
number_one e r r' d d' = d ∙ sym d'

-- `Refusal::place`
pub place_one :
    (e : Refusal) (p p' : Place) → place_in p ≡ place_of (refusal_in e) → place_in p' ≡ place_of (refusal_in e) → p ≡ p'
place_one e p p' d d' = ap from_place (d ∙ sym d')

-- `first_refusal`: number and place
pub refusal-one :
    (kept : Bool) (rows cols : ℕ) (s : Settings) (w : Work) (r r' : Result (Unit {0}) Refusal) →
    checked r ≡ refusal_of kept rows cols (settings_of s) w →
    checked r' ≡ refusal_of kept rows cols (settings_of s) w → r ≡ r'
refusal-one kept rows cols s w r r' e e' = checked_one r r' (e ∙ sym e')

-- `table_refusal`: number and place
pub table-refusal_one :
    (kept : Bool) (rows cols : ℕ) (w : Work) (r r' : Result (Unit {0}) Refusal) →
    checked r ≡ first_of (table_checks kept rows cols w) → checked r' ≡ first_of (table_checks kept rows cols w) → r ≡ r'
table-refusal_one kept rows cols w r r' e e' = checked_one r r' (e ∙ sym e')

-- `lent_refusal`: number and place
pub lent_refusal_one :
    (rows cols : ℕ) (w : Work) (l : List Float) (r r' : Result (Unit {0}) Refusal) →
    checked r ≡ first_of (lent_checks rows cols w l) → checked r' ≡ first_of (lent_checks rows cols w l) → r ≡ r'
lent_refusal_one rows cols w l r r' e e' = checked_one r r' (e ∙ sym e')

-- `smaller_size`
pub smaller-size_one : (rows cols r r' : ℕ) → r ≡ card rows cols → r' ≡ card rows cols → r ≡ r'
smaller-size_one rows cols r r' e e' = e ∙ sym e'

-- `Settings::new`: the five default settings
pub settings_one : (s s' : Settings) → settings_of s ≡ defaults → settings_of s' ≡ defaults → s ≡ s'
settings_one s s' e e' = ap from_settings (e ∙ sym e')
