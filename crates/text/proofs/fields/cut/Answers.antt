-- `text::fields::cut` meets its contract: a law for each way out. Assumes nothing.
use Rattle.std.proofs.Common.{◌≡◌, ◌<◌, ◌+◌, ◌-◌, ℕ, length, take, drop, refl, sym, arith}
use Rattle.std.proofs.Math.Option.{some}
use Rattle.text.specs.Text.{Bytes, cut, found}
use Rattle.text.proofs.Cuts.{cut-none, cut-some, rest_of}
use Rattle.text.proofs.fields.cut.Goals as goal

-- the code's two parts
cut-parts : (stop : ℕ) (s : Bytes) (i : ℕ) → i ≡ found stop 0 s → i < length s
    → some (take i s, take (length s - (i + 1)) (drop (i + 1) s)) ≡ cut stop s
cut-parts stop s i f h = let z : i - 0 ≡ i = omega arith in rw (rest_of s (i + 1)) (sym (rw z at (cut-some stop s 0 i f h)))

pub returns-in_err-i-clause-parts : goal.returns-in_err-i-clause-parts
returns-in_err-i-clause-parts c = rw c.from_residual.ensures (sym (cut-none c.args.stop c.args.s.now 0 _ c.in_err-i.ensures.found refl))

pub returns-clause-parts : goal.returns-clause-parts
returns-clause-parts c = cut-parts _ _ _ c.in_ok-i.ensures.found c.in_ok-i.ensures.within.1
