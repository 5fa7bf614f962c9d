-- For the proof of `pick`: the profiles as the code's table, and that its entry, with the floor, is what a number picks.
-- Assumes nothing.
use Rattle.std.specs.Prelude.{◌≡◌, refl, false, List, [], ◌∷◌, map, ℕ, zero, suc, ◌-◌, ◌≤◌, ◌<◌, length, get_or, Float}
use Rattle.std.proofs.Common.{sym, ap, ◌∙◌, not-suc-le-zero, le_of_suc-le-suc, arith}
use Rattle.std.proofs.Math.ListN.{get_or-map}
use Rattle.std.specs.Float.{nan, binary64}
use Rattle.method.specs.Profiles as Method
use Rattle.method.specs.Profiles.{profile, decimal, profiles, floor_of, value_in, settings_in, no_profile, picked_of, picked}
use Rattle.method.proofs.Profiles.Table.{there, picked-there}
use Rattle.checks.specs.declared.settings.Settings.{Settings}
use Rattle.checks.specs.Values.{settings_of}
use Rattle.profiles.specs.declared.Profile.{Profile}

-- an entry that is there turns on no default
within : {A : Type 0} (xs : List A) (d e : A) (i : ℕ) → i < length xs → get_or xs i d ≡ get_or xs i e
within [] d e i h = absurd (not-suc-le-zero h)
within (x ∷ xs) d e zero h = refl
within (x ∷ xs) d e (suc i) h = within xs d e i (le_of_suc-le-suc h)

-- a number that has a profile is from 1 to 4
pub numbered : (k : ℕ) → no_profile k ≡ false → (1 ≤ k) × (k - 1 < 4)
numbered k e = let n = (there k).0 e in go n.0 n.1
  where
    go : 1 ≤ k → k ≤ 4 → (1 ≤ k) × (k - 1 < 4)
    go l m = (l, omega arith)

-- a profile as the code has it
abbrev stored : Method.Profile → Profile
stored p =
    record {
      limit = p.limit;
      credit = p.credit;
      tolerance = value_in binary64 p.tolerance;
      absolute = value_in binary64 p.absolute;
    }

-- its settings, with a floor
abbrev pub settings_with : Float → Profile → Settings
settings_with floor p =
    record {
      limit = p.limit;
      credit = p.credit;
      tolerance = p.tolerance;
      absolute = p.absolute;
      floor = floor;
    }

-- the table, and what an index out of it would give
abbrev pub table : List Profile
table = map stored profiles

abbrev pub beyond : Profile
beyond = record { limit = 0; credit = 0; tolerance = nan; absolute = nan }

-- the entry of a number, with the floor of all, is what it picks
pub entry :
    (k : ℕ) → no_profile k ≡ false →
    picked_of 0 (settings_of (settings_with (value_in binary64 floor_of) (get_or table (k - 1) beyond))) ≡ picked binary64 k
unfolding settings_in
entry k h =
    let none : Method.Profile = profile 0 0 (decimal 0) (decimal 0) in
    ap (λ (x : Profile). picked_of 0 (settings_of (settings_with (value_in binary64 floor_of) x)))
    (within table beyond (stored none) (k - 1) (numbered k h).1 ∙ get_or-map stored profiles (k - 1) none)
    ∙ sym (picked-there binary64 k h)
