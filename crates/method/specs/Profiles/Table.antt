-- A test over every entry of the table of profiles, what no profile is, and the most passes and rotations of a profile.
-- Definitions only.
use Rattle.std.specs.Prelude.{◌≡◌, ◌⊎◌, Bool, true, ◌&&◌, List, [], ◌∷◌, ℕ, ◌+◌, ◌-◌, ◌*◌, ◌<◌, length}
use Rattle.method.specs.Profiles.{Profile, profiles}

-- ---- a test of all entries, and of each

abbrev pub every : {A : Type 0} → (A → Bool) → List A → Bool
every t [] = true
every t (x ∷ xs) = t x && every t xs

-- ---- which numbers have a profile

-- 10: the number is 0, or above that of the last profile
abbrev pub NoProfile : ℕ → Type 0
NoProfile k = (k ≡ 0) ⊎ (length profiles < k)

-- ---- the bounds of each: at most limit + credit x (c - 2) passes, and 2 x (c - 1) rotations for each

abbrev pub passes_most : ℕ → Profile → ℕ
passes_most c p = p.limit + p.credit * (c - 2)

abbrev pub rotations_most : ℕ → Profile → ℕ
rotations_most c p = 2 * (c - 1) * passes_most c p
