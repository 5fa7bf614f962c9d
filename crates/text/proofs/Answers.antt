-- Any two answers that a public function's promise allows are equal. The others' promises are equations for the answer
-- itself. Assumes nothing.
use Rattle.std.specs.Prelude.{◌≡◌, ℕ, ◌<◌, ◌≤◌, ◌+◌, [], Option as Answer, Some, None, IfSome, unwrap_or, length}
use Rattle.std.proofs.Common.{refl, sym, ap, arith, ◌∙◌}
use Rattle.std.proofs.Math.Option.{Option, none, some, none-ne-some}
use denote.Ref.{Bor}
use Rattle.text.specs.Text.{Bytes, worth, found, cut, Put, leaves, put_at}
use Rattle.text.specs.Code.{option_of, parts_of, places_of, byte_at, lie_in}
use Rattle.text.specs.declared.page.Page.{Page}
use Rattle.text.specs.Page.{Puts}
use Rattle.text.proofs.Options.{option_of-one}

-- what stands for None is no answer: two that agree where None does not stand are equal
one : (none : ℕ) (r r' : Answer ℕ) → unwrap_or r none ≡ unwrap_or r' none → IfSome r (λ i. i < none) → IfSome r' (λ i. i < none)
    → r ≡ r'
one n None None e h h' = cc
one n None (Some x) e h h' = absurd (omega arith)
one n (Some x) None e h h' = absurd (omega arith)
one n (Some x) (Some y) e h h' = ap Some e

-- what a digit is worth
pub worth-one :
    (b : ℕ) (r r' : Answer ℕ) → unwrap_or r 16 ≡ worth b → IfSome r (λ d. d < 16)
    → unwrap_or r' 16 ≡ worth b → IfSome r' (λ d. d < 16) → r ≡ r'
worth-one b r r' e h e' h' = one 16 r r' (e ∙ sym e') h h'

-- what a numeral, a number or a pattern says: o is what the definition says of it
pub numeral-one : (o : Option ℕ) (r r' : Answer ℕ) → option_of r ≡ o → option_of r' ≡ o → r ≡ r'
numeral-one o r r' e e' = option_of-one r r' (e ∙ sym e')

-- where a byte was found
pub found-one :
    (stop at : ℕ) (s : Bytes) (r r' : Answer ℕ) →
    unwrap_or r (length s) ≡ found stop at s → IfSome r (λ i. (at ≤ i) × (i < length s)) →
    unwrap_or r' (length s) ≡ found stop at s → IfSome r' (λ i. (at ≤ i) × (i < length s)) → r ≡ r'
found-one stop at s r r' e h e' h' = one (length s) r r' (e ∙ sym e') (below r h) (below r' h')
  where
    below : (r : Answer ℕ) → IfSome r (λ i. (at ≤ i) × (i < length s)) → IfSome r (λ i. i < length s)
    below None h = tt
    below (Some x) h = h.1

-- the two parts of what was cut: their bytes, and where they lie, p being where the bytes lie that were cut
first : Option (Bytes × Bytes) → Bytes
first none = []
first (some x) = x.0

pub cut-one :
    (stop : ℕ) (s : Bytes) (p : ℕ × ℕ) (r r' : Answer (Bor Bytes × Bor Bytes)) →
    parts_of r ≡ cut stop s → IfSome r (lie_in p) → parts_of r' ≡ cut stop s → IfSome r' (lie_in p) →
    (parts_of r ≡ parts_of r') × (places_of r ≡ places_of r')
unfolding first
cut-one stop s p None None e h e' h' = (refl, refl)
cut-one stop s p None (Some b) e h e' h' = absurd (none-ne-some (b.0.now, b.1.now) (e ∙ sym e'))
cut-one stop s p (Some a) None e h e' h' = absurd (none-ne-some (a.0.now, a.1.now) (e' ∙ sym e))
cut-one stop s p (Some a) (Some b) e h e' h' =
    let d : parts_of (Some a) ≡ parts_of (Some b) = e ∙ sym e' in
    let n : a.0.now ≡ b.0.now = ap first d in
    let second : a.1.ref_ptr ≡ b.1.ref_ptr = h.1 ∙ ap (λ (l : Bytes). byte_at p (length l + 1)) n ∙ sym h'.1 in
    (d, both (h.0 ∙ sym h'.0) second)
  where
    both : a.0.ref_ptr ≡ b.0.ref_ptr → a.1.ref_ptr ≡ b.1.ref_ptr → places_of (Some a) ≡ places_of (Some b)
    both i j = rw (i, j) refl

-- where what a writer wrote ends, and its slice: s are the bytes of `put`, of `put_hex`, of `put_decimal` or of
-- `put_field`
pub put_one :
    (at : ℕ) (s l : Bytes) (r r' : ℕ) (o o' : Bytes) →
    leaves o r ≡ put_at at s l → leaves o' r' ≡ put_at at s l → (r ≡ r') × (o ≡ o')
put_one at s l r r' o o' e e' = let d = e ∙ sym e' in (ap (λ (p : Put). p.end) d, ap (λ (p : Put). p.bytes) d)

-- and a page: it is the same again but for where its slice lies
pub page-one :
    (s : Bytes) (p q q' : Page) → Puts p s q → Puts p s q' →
    (q.at ≡ q'.at) × (q.out.now ≡ q'.out.now) × (q.out.ghost_name ≡ q'.out.ghost_name)
page-one s p q q' h h' =
    let e = put_one p.at s p.out.now q.at q'.at q.out.now q'.out.now h.put h'.put in
    (e.0, e.1, h.same_reference ∙ sym h'.same_reference)
