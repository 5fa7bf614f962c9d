-- Two walks over related data, whose tests and sweeps go together, have the same record and related data. Assumes
-- nothing.
use Prim.Native.Nat.{ℕ, zero, suc, ◌-◌, ◌≤◌}
use Rattle.std.proofs.Common.{arith, sym, ◌∙◌}
use Rattle.std.specs.Prelude.{◌≡◌, Bool, true, false}
use Rattle.std.proofs.Math.Path.{refl}
use Rattle.method.specs.Walk.{Walk, Rules, State, after_drop, after_sweep, going, run}
use Rattle.method.specs.Walk.Run.{Going}
use Rattle.method.proofs.Walk.Run.{going-true, pass-drop, pass-sweep, run_more, run_end}
use Rattle.method.specs.Walk.Alike.{Alike, Follows}

-- ---- two walks over related data have the same record and related data

module _ {D D' : Type 0} (rules : Rules D) (rules' : Rules D') (limit credit c : ℕ) (R : D → D' → Type 0)
    (f : Follows rules rules' c R) where
  pub run-alike :
      (n : ℕ) (w : Walk) (d : D) (d' : D') → w.tally.range ≤ c → R d d' →
      Alike R (run rules limit credit n (record { walk = w; held = d }))
      (run rules' limit credit n (record { walk = w; held = d' }))
  unfolding run
  run-alike zero w d d' h r = record { walk = refl; held = r }
  run-alike (suc n) w d d' h r =
      go (going limit w) refl (rules.negligible w.tally.range d) refl (run-alike n (after_drop credit w) d d')
      (run-alike n (after_sweep (rules.rotations w.tally.range) w) (rules.sweep w.tally.range d) (rules'.sweep w.tally.range d'))
    where
      s : State D
      s = record { walk = w; held = d }

      s' : State D'
      s' = record { walk = w; held = d' }

      go :
          (b : Bool) → going limit w ≡ b → (t : Bool) → rules.negligible w.tally.range d ≡ t →
          (w.tally.range - 1 ≤ c →
          R d d' →
          Alike R (run rules limit credit n (record { walk = after_drop credit w; held = d }))
          (run rules' limit credit n (record { walk = after_drop credit w; held = d' }))) →
          (w.tally.range ≤ c →
          R (rules.sweep w.tally.range d) (rules'.sweep w.tally.range d') →
          let w' = after_sweep (rules.rotations w.tally.range) w in
          Alike R (run rules limit credit n (record { walk = w'; held = rules.sweep w.tally.range d }))
          (run rules' limit credit n (record { walk = w'; held = rules'.sweep w.tally.range d' }))) →
          Alike R (run rules limit credit (suc n) s) (run rules' limit credit (suc n) s')
      go false e t q dr sw =
          rw (run_end rules credit limit (suc n) s e, run_end rules' credit limit (suc n) s' e)
          (record { walk = refl; held = r })
      go true e true q dr sw =
          let g : Going limit w = going-true limit w e in
          let q' : rules'.negligible w.tally.range d' ≡ true =
          sym (f.tests w.tally.range d d' g.wide h r) ∙ q in
          rw (
            run_more rules credit limit n s e,
            run_more rules' credit limit n s' e,
            pass-drop rules credit s q,
            pass-drop rules' credit s' q',
          )
          (dr (omega arith) r)
      go true e false q dr sw =
          let g : Going limit w = going-true limit w e in
          let q' : rules'.negligible w.tally.range d' ≡ false =
          sym (f.tests w.tally.range d d' g.wide h r) ∙ q in
          rw (
            run_more rules credit limit n s e,
            run_more rules' credit limit n s' e,
            pass-sweep rules credit s q,
            pass-sweep rules' credit s' q',
            ← f.turns w.tally.range g.wide h,
          )
          (sw h (f.sweeps w.tally.range d d' g.wide h r))
