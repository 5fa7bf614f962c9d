-- `split::split` meets its contract: what was read settles what is printed of the input. Assumes nothing.
use Rattle.std.proofs.Common.{◌≡◌, ◌≤◌, ◌<◌, ◌++◌, ℕ, Bool, true, false, [], length, take, refl, subst, sym, ◌∙◌, leb, leb-true, leb-false, arith, Option, Some, None, OnOk, Ok, Err, Result, ap, take_all, take_at, length-take-le, append-nil}
use Rattle.std.specs.Prelude.{MatchResult, IfOk, is_ok, drop}
use Rattle.std.specs.Io.{ReadsAtMost}
use Rattle.std.specs.Io.KnownBytes.{Appends, Consumes, IsAtEnd}
use Rattle.text.specs.Text.{Bytes}
use Rattle.survey.specs.Sizes.{enough, room}
use Rattle.survey.specs.Answers.{InputPromised}
use Rattle.survey.proofs.Answers.{begins}
use Rattle.std.proofs.lemmas.List.{drop_at, drop_all}
use Rattle.split.specs.declared.Failure.{Failure}
use Rattle.split.specs.declared.Failure.TheVariants.{Input, Output}
use Rattle.split.specs.Printing.{Prints, Leaves, Reads}
use Rattle.split.proofs.split.Goals as goal

-- what was read settles what is printed: it is all that there was, or enough; and no more was read than that
settles : (enough : ℕ) (t rest read : Bytes) (n : ℕ) → length read ≡ enough → n ≤ length read → t ≡ take n read ++ rest
    → (n < length read → rest ≡ []) → (take enough t ≡ take n read) × (rest ≡ drop enough t)
settles enough t rest read n e h q last = go (leb enough n) refl
  where
    long : length (take n read) ≡ n
    long = length-take-le n read h

    go : (x : Bool) → leb enough n ≡ x → (take enough t ≡ take n read) × (rest ≡ drop enough t)
    go true x =
        let w : length (take n read) ≡ enough = omega (arith, long, leb-true enough n x) in
        (rw q (take_at (take n read) rest enough w), rw q (sym (drop_at (take n read) rest enough w)))
    go false x =
        let few : n < enough = leb-false enough n x in
        let z : rest ≡ [] = last (omega (arith, few)) in
        let short : length t ≤ enough = rw (q, z, append-nil) (omega (arith, long, few)) in
        (rw (q, z, append-nil) (take_all enough (take n read) (omega (arith, long, few))), z ∙ sym (drop_all enough t short))

left : (old mid : Option Bytes) (read : Bytes) (n : ℕ) → length read ≡ enough → n ≤ length read
    → Consumes old mid (take n read) → (n < length read → IsAtEnd mid) → Leaves old mid
left None mid read n e h c l = tt
left (Some t) None read n e h c l = c
left (Some t) (Some rest) read n e h c l = (settles enough t rest read n e h c l).1

reads : (r : Result (Unit {0}) Failure) (old mid : Option Bytes) → Leaves old mid → Reads r old mid
reads (Ok x) old mid l = l
reads (Err Input) old mid l = tt
reads (Err Output) old mid l = l

printed : (old mid before after : Option Bytes) (read out₀ out : Bytes) (n k : ℕ) → length read ≡ enough → length out₀ ≡ room
    → n ≤ length read → Consumes old mid (take n read) → (n < length read → IsAtEnd mid)
    → InputPromised (take n read) out₀ out k → Appends before after (take k out) → Prints old before after
printed None mid before after read out₀ out n k e r h c l p a = tt
printed (Some t) None before after read out₀ out n k e r h c l p a = absurd c
printed (Some t) (Some rest) before after read out₀ out n k e r h c l p a =
    let w = p.1 t (settles enough t rest read n e h c l).0 in
    subst (Appends before after) (begins w.0 (omega (arith, w.1))) a

was : {T E : Type 0} (D : Type 0) (P : E → Type 0) (r : Result T E) (x : T) → MatchResult r (λ y. ◌≡◌ {A = Result T D} (Ok x) (Ok y)) P → true ≡ is_ok r → r ≡ Ok x
was D P (Ok y) x e v = let z : x ≡ y = cc in ap Ok (sym z)
was D P (Err y) x e v = absurd (let z : true ≡ false = v in cc)

where-ok : {T E D P Q : Type 0} (R : E → Type 0) (r : Result T E) (s : Result T D) → MatchResult r (λ y. s ≡ Ok y) R → is_ok s ≡ is_ok r → OnOk r P → (P → Q) → OnOk s Q
where-ok R (Ok y) s e v p f = rw e (f p)
where-ok R (Err y) (Ok z) e v p f = absurd (let w : true ≡ false = v in cc)
where-ok R (Err y) (Err z) e v p f = tt

-- what a read that was made says, of the bytes that it answers
was_read : {E : Type 0} (old mid : Option Bytes) (text : Bytes) (r : Result ℕ E) (n : ℕ) → r ≡ Ok n → ReadsAtMost r text
    → IfOk r (λ n. Consumes old mid (take n text)) → IfOk r (λ n. n < length text → IsAtEnd mid)
    → (n ≤ length text) × Consumes old mid (take n text) × (n < length text → IsAtEnd mid)
was_read old mid text r n e bound bytes end =
    let b : (n ≤ length text) × (n ≡ length (take n text)) = rw e at bound in
    let s : Consumes old mid (take n text) = rw e at bytes in
    let l : n < length text → IsAtEnd mid = rw e at end in
    (b.0, s, l)

pub returns-clause-ok : goal.returns-clause-ok
returns-clause-ok g c =
    let r = was _ _ c.read_full.result c.in_ok-n.n c.in_ok-n.ensures.cases c.in_ok-n.ensures.variant in
    let k = was_read _ _ _ _ _ r c.read_full.ensures.bound c.read_full.ensures.bytes c.read_full.ensures.end in
    let long : length c.read_full.new.buf ≡ enough = omega (arith, c.read_full.auto.buf) in
    where-ok _ _ _ c.map_err-2.ensures.cases c.map_err-2.ensures.variant c.write_all.ensures.bytes
    (printed _ _ _ _ c.read_full.new.buf _ _ _ _ long refl k.0 k.1 k.2 c.split_input-k.ensures)

pub returns-clause-reads : goal.returns-clause-reads
returns-clause-reads g c =
    let r = was _ _ c.read_full.result c.in_ok-n.n c.in_ok-n.ensures.cases c.in_ok-n.ensures.variant in
    let k = was_read _ _ _ _ _ r c.read_full.ensures.bound c.read_full.ensures.bytes c.read_full.ensures.end in
    let long : length c.read_full.new.buf ≡ enough = omega (arith, c.read_full.auto.buf) in
    reads _ _ _ (left _ _ c.read_full.new.buf _ long k.0 k.1 k.2)
