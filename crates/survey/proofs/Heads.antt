-- Laws of the count and the contents. Assumes nothing.
use Rattle.std.specs.Prelude.{◌≡◌, List, [], ◌∷◌, ◌++◌, ℕ, suc, ◌+◌, ◌-◌, ◌<◌, length, set}
use Rattle.std.proofs.Common.{sym, add-one, take-suc-set}
use Rattle.std.proofs.Math.Option.{none, some}
use native.Mathlib.Omega.{arith}
use Rattle.std.proofs.Math.ListN.{take}
use Rattle.survey.specs.declared.reading.Entry.{Entry}
use Rattle.text.specs.Text.{Bytes, LF, cut, number}
use Rattle.survey.specs.Form.{entry_line, count_line, malformed, got, and_then, contents, head}
use Rattle.survey.proofs.LineSize.{count-size, entry_size}
use Rattle.survey.proofs.Bodies.{line-none, line-bad, line-got}

-- a turn of the code's loop, i entries read
module _ (count i n : ℕ) (es : List Entry) (t : Bytes) (h : i < count) where
  less : count - i ≡ suc (count - (i + 1))
  less = omega arith

  pub contents-none : cut LF t ≡ none → malformed n ≡ contents (count - i) (take i es) n t
  unfolding contents and_then
  contents-none g = rw (less, line-none (entry_line (take i es)) n t g)

  module _ (l r : Bytes) (g : cut LF t ≡ some (l, r)) where
    pub contents-bad : none ≡ entry_line (take i es) l → malformed n ≡ contents (count - i) (take i es) n t
    unfolding contents and_then
    contents-bad b = rw (less, line-bad (entry_line (take i es)) n t l r g (sym b))

    pub contents-next : (x : Entry) → some x ≡ entry_line (take i es) l → i < length es
        → contents (count - (i + 1)) (take (i + 1) (set es i x)) (n + 1) r ≡ contents (count - i) (take i es) n t
    unfolding contents and_then
    contents-next x w k =
        let z : take (i + 1) (set es i x) ≡ take i es ++ (x ∷ []) = rw (add-one i) (take-suc-set es i x k) in
        let s = entry_size (take i es) l x (sym w) in
        rw (z, less, line-got (entry_line (take i es)) n t l r g x (sym w) (omega (arith, s)))

pub contents-end : (count i n : ℕ) (es : List Entry) (t : Bytes) → i ≡ count
    → got (take count es) n t ≡ contents (count - i) (take i es) n t
unfolding contents
contents-end count i n es t e = let z : count - count ≡ 0 = omega arith in rw (e, z)

-- the first line
module _ (t : Bytes) where
  pub head-none : cut LF t ≡ none → malformed 1 ≡ head 1 t
  unfolding head and_then
  head-none g = rw (line-none count_line 1 t g)

  module _ (l r : Bytes) (g : cut LF t ≡ some (l, r)) where
    pub head-bad : none ≡ number 8 l → malformed 1 ≡ head 1 t
    unfolding head and_then count_line
    head-bad b = rw (line-bad count_line 1 t l r g (sym b))

    pub head-got : (k : ℕ) → some k ≡ number 8 l → contents k [] 2 r ≡ head 1 t
    unfolding head and_then count_line
    head-got k b = rw (line-got count_line 1 t l r g k (sym b) (omega (arith, count-size l k (sym b))))
