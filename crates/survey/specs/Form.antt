-- The survey text: its lines, and for any bytes the surveys that are complete before the first malformed line, with
-- that line's number. Definitions only.
use Rattle.std.specs.Prelude.{Bool, true, false, not, List, [], ◌∷◌, ◌++◌, ℕ, zero, suc, ◌+◌, ◌-◌, leb, eqb, length, Float}
use Rattle.std.proofs.Math.Option.{Option, none, some}
use Rattle.std.specs.Float.{binary64}
use Rattle.std.specs.Float.Ieee.{of_bits}
use Rattle.survey.specs.declared.reading.Entry.{Entry}
use Rattle.text.specs.Text.{Bytes, LF, space, ◌>>=◌, when, cut, number, pattern}

-- ---- the lines

-- the first line: how many surveys, 1 to 8
unfoldable pub count_line : Bytes → Option ℕ
count_line l = number 8 l

-- whether one of the entries has this id
unfoldable pub named : ℕ → List Entry → Bool
named id [] = false
named id (e ∷ es) = elim (eqb e.id id) [ true ↦ true | false ↦ named id es ]

-- a survey's line of the contents, after the entries es: an id that none of them has, from 1 to 65535, then rows and
-- columns, each from 1 to 48
unfoldable pub entry_line : List Entry → Bytes → Option Entry
entry_line es l = do
  (a, l₁) ← cut space l
  (b, c) ← cut space l₁
  i ← number 65535 a
  r ← number 48 b
  k ← number 48 c
  when (not (named i es)) (record { id = i; rows = r; cols = k })

-- a row of a body: n + 1 readings, each 16 hex digits
unfoldable pub row_line : ℕ → Bytes → Option (List Float)
row_line zero l = do
  p ← pattern l
  some (of_bits binary64 p ∷ [])
row_line (suc n) l = do
  (a, l₁) ← cut space l
  p ← pattern a
  xs ← row_line n l₁
  some (of_bits binary64 p ∷ xs)

-- ---- line by line

-- What is read from line n on: it, the number of the next line and what is left; or the number of the first malformed
-- line.
pub data Got (A : Type 0) : Type 0 where
  malformed : ℕ → Got A
  got : A → ℕ → Bytes → Got A

-- how many bytes a line has at most, before its LF
abbrev pub most_line : ℕ
most_line = 815

-- the line itself, where it has no more
unfoldable pub short : Bytes → Option Bytes
short l = when (leb (length l) most_line) l

-- one line by its rule: malformed where the line is missing or has no LF, where it has more than 815 bytes, or where
-- the rule refuses it
unfoldable pub line : {A : Type 0} → (Bytes → Option A) → ℕ → Bytes → Got A
line rule n t =
    elim (cut LF t) [
      | none ↦ malformed n
      | some p ↦ elim (short p.0 >>= rule) [ none ↦ malformed n | some a ↦ got a (n + 1) p.1 ]
    ]

-- what f does with what was read
unfoldable pub and_then : {A B : Type 0} → Got A → (A → ℕ → Bytes → Got B) → Got B
and_then (malformed n) f = malformed n
and_then (got a n t) f = f a n t

-- k lines of the contents, after the lines es
unfoldable pub contents : ℕ → List Entry → ℕ → Bytes → Got (List Entry)
contents zero es n t = got es n t
contents (suc k) es n t = and_then (line (entry_line es) n t) λ e. contents k (es ++ (e ∷ []))

-- the count and the contents
unfoldable pub head : ℕ → Bytes → Got (List Entry)
head n t = and_then (line count_line n t) λ k. contents k []

-- a body: r rows of c + 1 readings, row after row
unfoldable pub body : ℕ → ℕ → ℕ → Bytes → Got (List Float)
body zero c n t = got [] n t
body (suc r) c n t = and_then (line (row_line c) n t) λ xs n₁ t₁. and_then (body r c n₁ t₁) λ ys. got (xs ++ ys)

-- a survey: its line of the contents, and its readings row by row
pub record Survey : Type 0 where
  pub entry : Entry
  pub readings : List Float

-- The surveys that are complete before the first malformed line, and that line's number; 0 where no line is.
pub record Reading : Type 0 where
  pub surveys : List Survey
  pub malformed_line : ℕ

-- the bodies of the entries in their order, and nothing after them: what follows the last is an extra line
unfoldable pub bodies : List Entry → ℕ → Bytes → Reading
bodies [] n [] = record { surveys = []; malformed_line = 0 }
bodies [] n (b ∷ t) = record { surveys = []; malformed_line = n }
bodies (e ∷ es) n t =
    elim (body e.rows (e.cols - 1) n t) [
      | malformed m ↦ record { surveys = []; malformed_line = m }
      | got xs n₁ t₁ ↦
          let r = bodies es n₁ t₁ in
          record { surveys = record { entry = e; readings = xs } ∷ r.surveys; malformed_line = r.malformed_line }
    ]

-- the whole text
unfoldable pub reading : Bytes → Reading
reading t =
    elim (head 1 t) [
      | malformed m ↦ record { surveys = []; malformed_line = m }
      | got es n t₁ ↦ bodies es n t₁
    ]
