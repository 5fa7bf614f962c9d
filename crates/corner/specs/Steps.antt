-- The search through the corner, as the code goes: from one coupling to the next, a row and an entry further. Assumes
-- nothing.
use Rattle.std.specs.Prelude.{◌≡◌, refl, Bool, true, false, List, ℕ, ◌+◌, ◌-◌, ◌^◌, ◌≤◌, ◌<◌, min, ltb, leb, length, get_or, Float}
use Rattle.std.proofs.Common.{sym, ap, ◌∙◌, arith, ltb-true, ltb-false, leb-true, leb-false}
use Rattle.std.proofs.lemmas.Bool.{false≢true}
use Rattle.std.proofs.Math.ListN.{get_or-eq_default}
use Rattle.std.specs.Float.{nan}
use Rattle.method.specs.Floats.{pick, is_zero}
use Rattle.method.proofs.Index.{row_next}
use Rattle.method.specs.Work.{coupling_place}
use Rattle.method.specs.Chase.{coupling}
use Rattle.method.specs.Quiet.{quiet_corner}
use Rattle.method.proofs.Quiet.Laws.{quiet_none, quiet_next, quiet_says, not_quiet}

-- behind the end of a list stands no zero
pub behind : (b : List Float) (i : ℕ) → length b ≤ i → is_zero (get_or b i nan) ≡ false
unfolding is_zero
behind b i h = rw (get_or-eq_default b nan h) refl

-- so where a zero stands, it stands in the list
pub inside : (b : List Float) (i : ℕ) → is_zero (get_or b i nan) ≡ true → i < length b
inside b i z = go (ltb i (length b)) refl
  where
    go : (t : Bool) → ltb i (length b) ≡ t → i < length b
    go true t = ltb-true i (length b) t
    go false t = absurd (false≢true (sym (behind b i (ltb-false i (length b) t)) ∙ z))

module _ (upper : Bool) (stride : ℕ) (b : List Float) where
  -- where the couplings stand
  at_place : (k : ℕ) → coupling upper stride k b ≡ get_or b (coupling_place upper stride k) nan
  at_place k = go upper
    where
      go : (upper : Bool) → coupling upper stride k b ≡ get_or b (coupling_place upper stride k) nan
      go true = refl
      go false = refl

  next_place : (k : ℕ) → coupling_place upper stride (k + 1) ≡ coupling_place upper stride k + stride + 1
  next_place k = go upper
    where
      go : (upper : Bool) → coupling_place upper stride (k + 1) ≡ coupling_place upper stride k + stride + 1
      go true = omega (arith, row_next k stride)
      go false = omega (arith, row_next k stride, row_next (k + 1) stride)

  -- the corner of range `known` is quiet, and its next coupling stands at `at`, or where `at` is the greatest number there
  -- or beyond
  pub record Inv (at known : ℕ) : Type 0 where
    pub some : 1 ≤ known
    pub place : at ≡ min (coupling_place upper stride (known - 1)) (2 ^ 64 - 1)
    pub quiet : quiet_corner upper stride known b ≡ true

  pub inv_start : (at : ℕ) → at ≡ pick upper 1 stride → at ≤ 2 ^ 64 - 1 → Inv at 1
  inv_start at e h = record {
    some = omega arith;
    place = go (coupling_place upper stride (1 - 1)) (2 ^ 64 - 1) (e ∙ first upper) h;
    quiet = quiet_none upper stride b 1 (omega arith);
  }
    where
      first : (upper : Bool) → pick upper 1 stride ≡ coupling_place upper stride (1 - 1)
      first true = omega arith
      first false = omega arith

      go : (p top : ℕ) → at ≡ p → at ≤ top → at ≡ min p top
      go p top e h = omega arith

  module _ {at known : ℕ} (i : Inv at known) (room : length b ≤ 2 ^ 64 - 1) where
    -- behind the list's end the one is as good as the other
    here : get_or b at nan ≡ coupling upper stride (known - 1) b
    here = rw i.place (go (coupling_place upper stride (known - 1)) (2 ^ 64 - 1) room) ∙ sym (at_place (known - 1))
      where
        go : (p top : ℕ) → length b ≤ top → get_or b (min p top) nan ≡ get_or b p nan
        go p top h = by (leb p top) refl
          where
            by : (t : Bool) → leb p top ≡ t → get_or b (min p top) nan ≡ get_or b p nan
            by true t =
                let inner : min p top ≡ p = omega (arith, leb-true p top t) in
                ap (λ (k : ℕ). get_or b k nan) inner
            by false t =
                let outer : length b ≤ p = omega (arith, leb-false p top t) in
                let end : length b ≤ min p top = omega (arith, leb-false p top t) in
                get_or-eq_default b nan end ∙ sym (get_or-eq_default b nan outer)

    -- the coupling is zero, and with it one more
    more : is_zero (get_or b at nan) ≡ true → quiet_corner upper stride (known + 1) b ≡ true
    more z =
        let e : known + 1 ≡ known - 1 + 2 = omega (arith, i.some) in
        let d : known - 1 + 1 ≡ known = omega (arith, i.some) in
        let before : quiet_corner upper stride (known - 1 + 1) b ≡ true = rw d i.quiet in
        let one : is_zero (coupling upper stride (known - 1) b) ≡ true = rw (← here) z in
        rw (e, quiet_next upper stride b (known - 1), before, one) refl

    pub inv_next :
        is_zero (get_or b at nan) ≡ true → (next : ℕ) → next ≡ min (min (at + stride) (2 ^ 64 - 1) + 1) (2 ^ 64 - 1) →
        Inv next (known + 1)
    inv_next z next e =
        let d : known + 1 - 1 ≡ known - 1 + 1 = omega (arith, i.some) in
        record {
          some = omega arith;
          place =
              rw (d, next_place (known - 1))
              (e ∙ go at (coupling_place upper stride (known - 1)) (2 ^ 64 - 1) i.place);
          quiet = more z;
        }
      where
        go :
            (at p top : ℕ) → at ≡ min p top →
            min (min (at + stride) top + 1) top ≡ min (p + stride + 1) top
        go at p top e = omega arith

    -- it is not, and the corner is not quiet
    pub inv_loud :
        (range : ℕ) → known < range → is_zero (get_or b at nan) ≡ false → false ≡ quiet_corner upper stride range b
    inv_loud range h z =
        sym (not_quiet upper stride b range (known - 1) (omega (arith, i.some)) (rw (← here) z))

  -- all were looked at
  pub inv_done : {at known : ℕ} → Inv at known → (range : ℕ) → range ≤ known → true ≡ quiet_corner upper stride range b
  inv_done {known = known} i range h =
      sym
      ((quiet_says upper stride b range).1
      (λ k l. (quiet_says upper stride b known).0 i.quiet k (omega arith)))
