-- The table of profiles: what holds of every entry is shown once, by a computed test over all of them, in either format.
-- Every profile passes checks 6 and 7; the vane's are the default settings; the patterns of the doubles. Assumes nothing.
use Rattle.std.specs.Prelude.{◌≡◌, refl, ◌↔◌, Bool, true, false, List, [], ◌∷◌, map, ℕ, zero, suc, ◌-◌, ◌≤◌, ◌<◌, eqb, length, get_or}
use Rattle.std.proofs.Common.{ap, inl, inr, not-suc-le-zero, le_of_suc-le-suc, arith, eqb-true}
use Rattle.std.specs.Float.{Format, binary32, binary64}
use Rattle.std.specs.Float.Ieee.{lt, of_bits, to_bits}
use Rattle.method.specs.Settings.{Settings, most_size}
use Rattle.method.specs.Checks.{first_of, setting_checks}
use Rattle.method.specs.Checks.Tests.{Says}
use Rattle.method.proofs.Checks.Tests.{both, holds, same, less, either, denies}
use Rattle.method.specs.Defaults.{default_tolerance, default_absolute, default_floor, defaults}
use Rattle.method.specs.Profiles.{Profile, profile, decimal, profiles, settings_in, no_profile, profile_at, Picked}
use Rattle.method.specs.Profiles.{picked_of, zeros, picked, settings_by}
use Rattle.method.specs.Profiles.Table.{NoProfile, every, passes_most, rotations_most}

-- ---- a test of all entries, and of each

pub every-at :
    {A : Type 0} (t : A → Bool) (xs : List A) (d : A) (i : ℕ) → every t xs ≡ true → i < length xs →
    t (get_or xs i d) ≡ true
every-at t [] d i e h = absurd (not-suc-le-zero h)
every-at t (x ∷ xs) d zero e h = ((both (holds (t x)) (holds (every t xs))).0 e).0
every-at t (x ∷ xs) d (suc i) e h =
    every-at t xs d i ((both (holds (t x)) (holds (every t xs))).0 e).1 (le_of_suc-le-suc h)

-- ---- which numbers have a profile

pub none-says : (k : ℕ) → Says (no_profile k) (NoProfile k)
none-says k = either (same k 0) (less (length profiles) k)

-- the numbers from 1 to 4 have one
pub there : (k : ℕ) → (no_profile k ≡ false) ↔ ((1 ≤ k) × (k ≤ 4))
there k = (λ e. let n = denies (none-says k) e in (some (λ z. n (inl z)), few (λ l. n (inr l))), λ h. go (no_profile k) refl h)
  where
    some : ¬ (k ≡ 0) → 1 ≤ k
    some h = omega arith

    few : ¬ (4 < k) → k ≤ 4
    few h = omega arith

    go : (b : Bool) → no_profile k ≡ b → (1 ≤ k) × (k ≤ 4) → b ≡ false
    go true e h = absurd (out ((none-says k).0 e) h.0 h.1)
      where
        out : NoProfile k → 1 ≤ k → k ≤ 4 → ⊥
        out (inl z) l m = omega arith
        out (inr g) l m = omega arith
    go false e h = refl

-- what holds of every entry holds of the profile of a number
pub of_profile : (t : Profile → Bool) → every t profiles ≡ true → (k : ℕ) → no_profile k ≡ false → t (profile_at k) ≡ true
of_profile t e k h =
    let n = (there k).0 h in
    every-at t profiles (profile 0 0 (decimal 0) (decimal 0)) (k - 1) e (below n.0 n.1)
  where
    below : 1 ≤ k → k ≤ 4 → k - 1 < 4
    below l m = omega arith

-- ---- what a number picks

module _ (f : Format) (k : ℕ) where
  pub picked-there : no_profile k ≡ false → picked f k ≡ picked_of 0 (settings_in f (profile_at k))
  unfolding picked
  picked-there e = rw (e, picked)

  pub settings_there : no_profile k ≡ false → settings_by f k ≡ settings_in f (profile_at k)
  settings_there e = ap (λ (p : Picked). p.settings) (picked-there e)

  pub picked_none : no_profile k ≡ true → picked f k ≡ picked_of 10 zeros
  unfolding picked
  picked_none e = rw (e, picked)

-- ---- every profile passes checks 6 and 7

abbrev passes_checks : Format → Profile → Bool
passes_checks f p = eqb (first_of (setting_checks (settings_in f p))).number 0

all_pass : (f : Format) → every (passes_checks f) profiles ≡ true
unfolding settings_in first_of lt
all_pass binary32 = refl
all_pass binary64 = refl

pub profile-passes : (f : Format) (k : ℕ) → no_profile k ≡ false → (first_of (setting_checks (settings_by f k))).number ≡ 0
profile-passes f k e = rw (settings_there f k e) (eqb-true _ 0 (of_profile (passes_checks f) (all_pass f) k e))

-- ---- as doubles

-- the vane's are the default settings
pub vane_defaults : settings_by binary64 1 ≡ defaults
unfolding picked of_bits default_tolerance default_absolute default_floor
vane_defaults = refl

-- limit and credit, and the patterns of tolerance, absolute and floor
abbrev numbers : Settings → List ℕ
numbers s =
    s.limit ∷ s.credit ∷ to_bits binary64 s.tolerance ∷ to_bits binary64 s.absolute ∷ to_bits binary64 s.floor ∷ []

pub as_doubles :
    map (λ p. numbers (settings_in binary64 p)) profiles
    ≡ (100 ∷ 50 ∷ 0x3ddb_7cdf_d9d7_bdbb ∷ 0x3d71_9799_812d_ea11 ∷ 0x3b92_e3b4_0a0e_9b4f ∷ [])
    ∷ (200 ∷ 50 ∷ 0x3d71_9799_812d_ea11 ∷ 0x3d3c_25c2_6849_7682 ∷ 0x3b92_e3b4_0a0e_9b4f ∷ [])
    ∷ (400 ∷ 100 ∷ 0x3d3c_25c2_6849_7682 ∷ 0x3d06_849b_86a1_2b9b ∷ 0x3b92_e3b4_0a0e_9b4f ∷ [])
    ∷ (50 ∷ 25 ∷ 0x3eb0_c6f7_a0b5_ed8d ∷ 0x3e45_798e_e230_8c3a ∷ 0x3b92_e3b4_0a0e_9b4f ∷ [])
    ∷ []
unfolding settings_in to_bits
as_doubles = refl

-- ---- the bounds of each: at most limit + credit x (c - 2) passes, and 2 x (c - 1) rotations for each

-- of the largest tables, and of those with ten passes or stations and with five
pub passes_told :
    map (λ c. map (passes_most c) profiles) (most_size ∷ 10 ∷ 5 ∷ [])
    ≡ (2400 ∷ 2500 ∷ 5000 ∷ 1200 ∷ [])
    ∷ (500 ∷ 600 ∷ 1200 ∷ 250 ∷ [])
    ∷ (250 ∷ 350 ∷ 700 ∷ 125 ∷ [])
    ∷ []
passes_told = refl

pub rotations_told :
    map (λ c. map (rotations_most c) profiles) (most_size ∷ 10 ∷ 5 ∷ [])
    ≡ (225600 ∷ 235000 ∷ 470000 ∷ 112800 ∷ [])
    ∷ (9000 ∷ 10800 ∷ 21600 ∷ 4500 ∷ [])
    ∷ (2000 ∷ 2800 ∷ 5600 ∷ 1000 ∷ [])
    ∷ []
rotations_told = refl
