-- That any two answers which a promise allows are equal, in number and in bytes, and what the lent slice holds then.
-- Assumes nothing.
use Rattle.std.specs.Prelude.{◌≡◌, ◌++◌, ℕ, ◌+◌, ◌≤◌, length, take, drop}
use Rattle.std.proofs.Common.{sym, ap, ◌∙◌, arith, take_at, drop_at}
use Rattle.std.proofs.Math.Seq.{length-sets}
use Rattle.std.proofs.lemmas.List.Edits.{sets-eq}
use Rattle.text.specs.Text.{Bytes, Written}
use Rattle.survey.proofs.Prefix.{split-prefix}
use Rattle.survey.specs.Answers.{InputPromised, Promised}

-- ---- the promises

-- what is printed of the bytes that were read is printed of every such input
pub input_promised : {s out o : Bytes} {r : ℕ} → Promised s out o r → InputPromised s out o r
input_promised p = (p, λ t e. rw (split-prefix t, e) p)

-- ---- one answer

-- the answered number is one, and so is every byte of the lent slice afterwards, those that follow the printed ones too
pub split_one : (t out o o' : Bytes) (r r' : ℕ) → Promised t out o r → Promised t out o' r' → (r ≡ r') × (o ≡ o')
split_one t out o o' r r' x y = (x.0.ends ∙ sym y.0.ends, x.0.stored ∙ sym y.0.stored)

pub input_one : (s out o o' : Bytes) (r r' : ℕ) → InputPromised s out o r → InputPromised s out o' r'
    → (r ≡ r') × (o ≡ o')
input_one s out o o' r r' x y = split_one s out o o' r r' x.0 y.0

-- ---- what the lent slice holds then

-- the bytes that were printed stand first,
pub begins : {out s o : Bytes} {r : ℕ} → Written out 0 s o r → r ≤ length out → take r o ≡ s
begins {out} {s} {o} {r} w h =
    let l : length s ≡ r = omega (arith, w.ends) in
    let q : o ≡ s ++ drop (0 + length s) out = w.stored ∙ sets-eq s out 0 (omega arith) in
    rw q (take_at s (drop (0 + length s) out) r l)

-- what follows them is as it was,
pub beyond : {out s o : Bytes} {r : ℕ} → Written out 0 s o r → r ≤ length out → drop r o ≡ drop r out
beyond {out} {s} {o} {r} w h =
    let l : length s ≡ r = omega (arith, w.ends) in
    let z : 0 + length s ≡ r = omega arith in
    let q : o ≡ s ++ drop (0 + length s) out = w.stored ∙ sets-eq s out 0 (omega arith) in
    rw q (drop_at s (drop (0 + length s) out) r l ∙ ap (λ (k : ℕ). drop k out) z)

-- and the slice is as long as it was
pub same_long : {out s o : Bytes} {r : ℕ} → Written out 0 s o r → length o ≡ length out
same_long w = ap length w.stored ∙ simp length-sets
