-- Any two answers that the promise of `pick` allows are equal. Assumes nothing.
use Rattle.std.specs.Prelude.{◌≡◌, refl, Bool, true, false, ℕ, Result, Ok, Err}
use Rattle.std.proofs.Common.{sym, ap, ◌∙◌, arith}
use Rattle.std.specs.Float.{binary64}
use Rattle.method.specs.Profiles as Profiles
use Rattle.method.specs.Profiles.{no_profile, picked}
use Rattle.method.proofs.Profiles.Table.{picked-there, picked_none}
use Rattle.checks.specs.declared.refusal.Refusal.{Refusal}
use Rattle.checks.specs.declared.refusal.Refusal.TheVariants.{NoProfile}
use Rattle.checks.specs.declared.settings.Settings.{Settings}
use Rattle.checks.specs.Values.{refusal_in}
use Rattle.checks.specs.Refused.{refused_some}
use Rattle.checks.specs.Answers.{from_settings, from_refusal_lem}
use Rattle.profiles.specs.Values.{picked_in}

-- by 10 there is no such profile
by_ten : (e : Refusal) → (refusal_in e).number ≡ 10 → e ≡ NoProfile
by_ten e z = sym (from_refusal_lem e) ∙ rw z refl

-- a number that has a profile picks its settings
pub picks : (k : ℕ) (p : Result Settings Refusal) → no_profile k ≡ false → picked_in p ≡ picked binary64 k → p ≡ Ok (from_settings (picked binary64 k).settings)
picks k (Ok s) n e = ap (λ (x : Profiles.Picked). Ok (from_settings x.settings)) e
picks k (Err r) n e = absurd (refused_some r (ap (λ (x : Profiles.Picked). x.number) (e ∙ picked-there binary64 k n)))

-- one that has none is refused by 10
pub refused_by_ten : (k : ℕ) (e : Refusal) → no_profile k ≡ true → picked_in (Err e) ≡ picked binary64 k → e ≡ NoProfile
refused_by_ten k e n d = by_ten e (ap (λ (x : Profiles.Picked). x.number) (d ∙ picked_none binary64 k n))

pub picks_none : (k : ℕ) (p : Result Settings Refusal) → no_profile k ≡ true → picked_in p ≡ picked binary64 k → p ≡ Err NoProfile
picks_none k (Ok s) n e =
    let z : 0 ≡ 10 = ap (λ (x : Profiles.Picked). x.number) (e ∙ picked_none binary64 k n) in absurd (omega (arith, z))
picks_none k (Err r) n e = ap Err (refused_by_ten k r n e)

pub pick-one :
    (k : ℕ) (p p' : Result Settings Refusal) →
    picked_in p ≡ picked binary64 k → picked_in p' ≡ picked binary64 k → p ≡ p'
pick-one k p p' e e' = go (no_profile k) refl
  where
    go : (b : Bool) → no_profile k ≡ b → p ≡ p'
    go true n = picks_none k p n e ∙ sym (picks_none k p' n e')
    go false n = picks k p n e ∙ sym (picks k p' n e')
