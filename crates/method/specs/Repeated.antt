-- A counted loop as a function: `repeated lo hi step s` is s after step was made for lo, lo + 1, .., hi - 1, in that
-- order. Every loop of the method is written so. Definitions only.
use Rattle.std.specs.Prelude.{List, [], ◌∷◌}
use Prim.Native.Nat.{ℕ, zero, suc, ◌+◌, ◌-◌}

-- n turns, the first of which is numbered lo
unfoldable pub go : {S : Type 0} → ℕ → (ℕ → S → S) → ℕ → S → S
go lo step zero s = s
go lo step (suc n) s = step (lo + n) (go lo step n s)

unfoldable pub repeated : {S : Type 0} → ℕ → ℕ → (ℕ → S → S) → S → S
unfolding go
repeated lo hi step s = go lo step (hi - lo) s

-- ---- a list of steps, carried out one after another

unfoldable pub carried_out : {S M : Type 0} → (M → S → S) → List M → S → S
carried_out step [] s = s
carried_out step (m ∷ ms) s = carried_out step ms (step m s)
