-- `bad_readings` meets its contract: before entry (i, j) it has found what the definition has found. Assumes nothing.
use Prim.Native.Nat.{◌-◌, ◌≤◌}
use mathlib.Core.Path.{◌≡◌}
use Rattle.method.specs.Work.{at}
use Rattle.method.specs.Repeated.{repeated}
use Rattle.method.specs.Checks.{looked, bad_readings}
use Rattle.checks.specs.Values.{place_in}
use Rattle.checks.proofs.search.bad_readings.Given as goal

abbrev pub invariant-loop-j : goal.invariant-loop-j
invariant-loop-j l =
    (l.j ≤ l.cols) × (place_in l.found ≡ repeated 0 l.j (λ j'. looked l.i j' (at l.cols l.i j' l.b)) (place_in l.initial.found))

abbrev pub decreases-loop-j : goal.decreases-loop-j
decreases-loop-j l = l.cols - l.j

abbrev pub invariant-loop-i : goal.invariant-loop-i
invariant-loop-i l =
    (l.i ≤ l.rows) × (place_in l.found ≡ bad_readings l.cols l.i l.cols l.b)

abbrev pub decreases-loop-i : goal.decreases-loop-i
decreases-loop-i l = l.rows - l.i
