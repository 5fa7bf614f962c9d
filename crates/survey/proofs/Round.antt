-- What is written reads back. Assumes nothing.
use Rattle.std.specs.Prelude.{◌≡◌, refl, false, List, [], ◌∷◌, ◌++◌, map, ℕ, zero, suc, ◌+◌, ◌-◌, ◌*◌, ◌<◌, ◌≤◌, T, Float, length, take, drop}
use Rattle.std.proofs.Common.{sym, ap, ◌∙◌, append_assoc, append-nil, arith, zero-mul, suc-mul, length-drop, take-append-drop, length-take-le}
use Rattle.std.proofs.Math.Option.{some}
use Rattle.std.specs.Float.{nan, binary64}
use Rattle.std.specs.Float.Ieee.{fits, of_bits, to_bits}
use Rattle.std.specs.Float.Ieee.Bits.{of_bits-to_bits, to_bits-lt, of_bits-fits}
use Rattle.std.proofs.lemmas.List.{length-map}
use Rattle.text.specs.Text.{Bytes, LF, space, ◌>>=◌, when, pattern, digit, digits, shown, ending, line_text}
use Rattle.survey.specs.declared.reading.Entry.{Entry}
use Rattle.survey.specs.Form.{count_line, row_line, entry_line, named, got, line, and_then, contents, body, bodies, head, reading, Survey}
use Rattle.survey.specs.Found.{InRange}
use Rattle.survey.proofs.Found.{short-some}
use Rattle.survey.proofs.LineSize.{row_short, entry_size, count-size}
use Rattle.survey.proofs.Whole.{All}
use Rattle.survey.specs.Print.{hex, row_text, rows_text}
use Rattle.text.proofs.Cuts.{Free, cut-free, free_append}
use Rattle.text.proofs.Round.{pattern-round, digits-free, number-round, shown-free}

-- ---- a reading's 16 digits

pub hex-pattern : (x : Float) → T (fits binary64 x) → pattern (hex x) ≡ some (to_bits binary64 x)
unfolding hex
hex-pattern x f = pattern-round (to_bits binary64 x) (to_bits-lt binary64 x f)

-- every NaN is printed as 7FF8000000000000
pub hex-nan :
    hex nan ≡
    55 ∷ 70 ∷ 70 ∷ 56 ∷ 48 ∷ 48 ∷ 48 ∷ 48 ∷ 48 ∷ 48 ∷ 48 ∷ 48 ∷ 48 ∷ 48 ∷ 48 ∷ 48 ∷ []
unfolding hex digits digit to_bits
hex-nan = refl

pub hex-round : (x : Float) → T (fits binary64 x) → (pattern (hex x) >>= λ p. some (of_bits binary64 p)) ≡ some x
unfolding ◌>>=◌
hex-round x f = rw (hex-pattern x f, of_bits-to_bits binary64 x f)

-- ---- a line of readings

abbrev pub Fit : List Float → Type 0
Fit [] = Unit
Fit (x ∷ xs) = T (fits binary64 x) × Fit xs

-- a line's text without its LF
pub fields : Float → List Float → Bytes
fields x [] = hex x
fields x (y ∷ ys) = hex x ++ (space ∷ fields y ys)

pub row_fields : (x : Float) (xs : List Float) → row_text (x ∷ xs) ≡ fields x xs ++ (LF ∷ [])
unfolding fields row_text line_text ending
row_fields x [] = refl
row_fields x (y ∷ ys) = rw (row_fields y ys) (sym (append_assoc (hex x) (space ∷ fields y ys) (LF ∷ [])))

pub fields_free : (x : Float) (xs : List Float) → Free LF (fields x xs)
unfolding fields hex
fields_free x [] = digits-free LF 16 16 (to_bits binary64 x) (omega arith)
fields_free x (y ∷ ys) = free_append LF (hex x) (space ∷ fields y ys) (digits-free LF 16 16 (to_bits binary64 x) (omega arith)) ((λ e. omega arith), fields_free y ys)

pub fields_read : (x : Float) (xs : List Float) → Fit (x ∷ xs) → row_line (length xs) (fields x xs) ≡ some (x ∷ xs)
unfolding fields row_line ◌>>=◌ hex
fields_read x [] f = rw (hex-pattern x f.0, of_bits-to_bits binary64 x f.0)
fields_read x (y ∷ ys) f =
    rw (cut-free space (hex x) (fields y ys) (digits-free space 16 16 (to_bits binary64 x) (omega arith)), hex-pattern x f.0, of_bits-to_bits binary64 x f.0, fields_read y ys f.1)

-- a written row reads back as the same readings
pub row_round : (n : ℕ) (x : Float) (xs : List Float) (t : Bytes) → length xs < 48 → Fit (x ∷ xs)
    → line (row_line (length xs)) n (row_text (x ∷ xs) ++ t) ≡ got (x ∷ xs) (n + 1) t
unfolding line
row_round n x xs t w f =
    let r = fields_read x xs f in
    let s = short-some (row_line (length xs)) (fields x xs) (x ∷ xs) r (row_short (length xs) (fields x xs) (x ∷ xs) w r) in
    rw (row_fields x xs, append_assoc) (rw (line, cut-free LF (fields x xs) t (fields_free x xs), s))

-- ---- a line of the contents

pub entry_text : Entry → Bytes
entry_text e = shown e.id ++ (space ∷ (shown e.rows ++ (space ∷ shown e.cols)))

entry_free : (e : Entry) → Free LF (entry_text e)
unfolding entry_text
entry_free e =
    free_append LF (shown e.id) _ (shown-free LF e.id (omega arith)) (
      (λ z. omega arith),
      free_append LF (shown e.rows) _ (shown-free LF e.rows (omega arith)) ((λ z. omega arith), shown-free LF e.cols (omega arith)),
    )

pub entry_round : (es : List Entry) (e : Entry) → InRange e → named e.id es ≡ false
    → entry_line es (entry_text e) ≡ some e
unfolding entry_text entry_line ◌>>=◌ when
entry_round es e r f =
    rw (
      cut-free space (shown e.id) (shown e.rows ++ (space ∷ shown e.cols)) (shown-free space e.id (omega arith)),
      cut-free space (shown e.rows) (shown e.cols) (shown-free space e.rows (omega arith)),
      number-round 65535 e.id r.id_least r.id_most,
      number-round 48 e.rows r.rows_least r.rows_most,
      number-round 48 e.cols r.cols_least r.cols_most,
      f,
    )

-- ---- the contents

pub contents_text : List Entry → Bytes
contents_text [] = []
contents_text (e ∷ es) = entry_text e ++ (LF ∷ contents_text es)

-- ids that none before them has
abbrev pub Fresh : List Entry → List Entry → Type 0
Fresh before [] = Unit
Fresh before (e ∷ es) = (named e.id before ≡ false) × Fresh (before ++ (e ∷ [])) es

entry_line_lem : (before : List Entry) (e : Entry) (n : ℕ) (t : Bytes) → InRange e → named e.id before ≡ false
    → line (entry_line before) n (entry_text e ++ (LF ∷ t)) ≡ got e (n + 1) t
unfolding line
entry_line_lem before e n t r f =
    let g = entry_round before e r f in
    let s = short-some (entry_line before) (entry_text e) e g (omega (arith, entry_size before (entry_text e) e g)) in
    rw (line, cut-free LF (entry_text e) t (entry_free e), s)

pub contents-round : (before es : List Entry) (n : ℕ) (t : Bytes) → All es → Fresh before es
    → contents (length es) before n (contents_text es ++ t) ≡ got (before ++ es) (n + length es) t
unfolding contents contents_text and_then
contents-round before [] n t a f = let z : n + 0 ≡ n = omega arith in rw (z, append-nil)
contents-round before (e ∷ es) n t a f =
    let l = entry_line_lem before e n (contents_text es ++ t) a.0 f.0 in
    let z : n + 1 + length es ≡ n + suc (length es) = omega arith in
    let s : (before ++ (e ∷ [])) ++ es ≡ before ++ (e ∷ es) = append_assoc before (e ∷ []) es in
    let ih = contents-round (before ++ (e ∷ [])) es (n + 1) t a.1 f.1 in
    rw append_assoc (rw l (rw (z, s) at ih))

-- ---- the bodies

empty : {A : Type 0} (xs : List A) → length xs ≡ 0 → [] ≡ xs
empty [] h = refl
empty (x ∷ xs) h = absurd (omega arith)

fit_take : (k : ℕ) (xs : List Float) → Fit xs → Fit (take k xs)
fit_take zero xs f = tt
fit_take (suc k) [] f = tt
fit_take (suc k) (x ∷ xs) f = (f.0, fit_take k xs f.1)

fit_drop : (k : ℕ) (xs : List Float) → Fit xs → Fit (drop k xs)
fit_drop zero xs f = f
fit_drop (suc k) [] f = tt
fit_drop (suc k) (x ∷ xs) f = fit_drop k xs f.1

row_line-round : (c n : ℕ) (ys : List Float) (t : Bytes) → c < 48 → length ys ≡ c + 1 → Fit ys
    → line (row_line c) n (row_text ys ++ t) ≡ got ys (n + 1) t
row_line-round c n [] t w l f = absurd (omega arith)
row_line-round c n (x ∷ xs) t w l f = let z : c ≡ length xs = omega arith in rw z (row_round n x xs t (omega arith) f)

pub body-round : (r c n : ℕ) (xs : List Float) (t : Bytes) → c < 48 → length xs ≡ r * (c + 1) → Fit xs
    → body r c n (rows_text r (c + 1) xs ++ t) ≡ got xs (n + r) t
unfolding body rows_text and_then
body-round zero c n xs t w l f =
    let z : n + 0 ≡ n = omega arith in
    rw (z, ← empty xs (omega (arith, zero-mul (c + 1))))
body-round (suc r) c n xs t w l f =
    let m : suc r * (c + 1) ≡ r * (c + 1) + (c + 1) = suc-mul r (c + 1) in
    let lt : length (take (c + 1) xs) ≡ c + 1 = length-take-le (c + 1) xs (omega arith) in
    let ld : length (drop (c + 1) xs) ≡ r * (c + 1) = length-drop (c + 1) xs ∙ omega arith in
    let z : n + 1 + r ≡ n + suc r = omega arith in
    let h = row_line-round c n (take (c + 1) xs) (rows_text r (c + 1) (drop (c + 1) xs) ++ t) w lt (fit_take (c + 1) xs f) in
    let ih = body-round r c (n + 1) (drop (c + 1) xs) t w ld (fit_drop (c + 1) xs f) in
    rw append_assoc (rw h (rw ih (rw (take-append-drop, z))))

-- every table of floats that bit patterns give is fit
pub bits_fit : (ps : List ℕ) → Fit (map (of_bits binary64) ps)
bits_fit [] = tt
bits_fit (p ∷ ps) = (of_bits-fits binary64 p, bits_fit ps)

-- A table that is printed as a body reads back with the same bits, and each NaN as the NaN: r rows of c columns,
-- whatever follows.
pub table-round : (r c n : ℕ) (ps : List ℕ) (t : Bytes) → 1 ≤ c → c ≤ 48 → length ps ≡ r * c
    → body r (c - 1) n (rows_text r c (map (of_bits binary64) ps) ++ t) ≡ got (map (of_bits binary64) ps) (n + r) t
table-round r c n ps t h g l =
    let e : c - 1 + 1 ≡ c = omega arith in
    let m : length (map (of_bits binary64) ps) ≡ r * (c - 1 + 1) = rw e (length-map ps (of_bits binary64) ∙ l) in
    let b = body-round r (c - 1) n (map (of_bits binary64) ps) t (omega arith) m (bits_fit ps) in
    rw e at b

-- ---- the whole text

pub entries : List Survey → List Entry
entries [] = []
entries (s ∷ ss) = s.entry ∷ entries ss

pub bodies_text : List Survey → Bytes
bodies_text [] = []
bodies_text (s ∷ ss) = rows_text s.entry.rows s.entry.cols s.readings ++ bodies_text ss

-- the text of surveys
pub written : List Survey → Bytes
written ss = shown (length ss) ++ (LF ∷ (contents_text (entries ss) ++ bodies_text ss))

-- what the surveys of a text are held to
pub record Sound (s : Survey) : Type 0 where
  pub range : InRange s.entry
  pub size : length s.readings ≡ s.entry.rows * s.entry.cols
  pub fit : Fit s.readings

abbrev pub AllSound : List Survey → Type 0
AllSound [] = Unit
AllSound (s ∷ ss) = Sound s × AllSound ss

sound_all : (ss : List Survey) → AllSound ss → All (entries ss)
unfolding entries
sound_all [] a = tt
sound_all (s ∷ ss) a = (a.0.range, sound_all ss a.1)

entries_length : (ss : List Survey) → length (entries ss) ≡ length ss
unfolding entries
entries_length [] = refl
entries_length (s ∷ ss) = ap suc (entries_length ss)

pub bodies-round : (ss : List Survey) (n : ℕ) → AllSound ss
    → bodies (entries ss) n (bodies_text ss) ≡ record { surveys = ss; malformed_line = 0 }
unfolding bodies entries bodies_text
bodies-round [] n a = refl
bodies-round (s ∷ ss) n a =
    let c₁ : s.entry.cols - 1 + 1 ≡ s.entry.cols = omega (arith, a.0.range.cols_least) in
    let l : length s.readings ≡ s.entry.rows * (s.entry.cols - 1 + 1) = rw c₁ a.0.size in
    let b = body-round s.entry.rows (s.entry.cols - 1) n s.readings (bodies_text ss) (omega (arith, a.0.range.cols_most, a.0.range.cols_least)) l a.0.fit in
    let b₁ : body s.entry.rows (s.entry.cols - 1) n (rows_text s.entry.rows s.entry.cols s.readings ++ bodies_text ss) ≡ got s.readings (n + s.entry.rows) (bodies_text ss) = rw c₁ at b in
    rw (bodies, b₁, bodies-round ss (n + s.entry.rows) a.1)

count-line : (k : ℕ) (t : Bytes) → 0 < k → k ≤ 8 → line count_line 1 (shown k ++ (LF ∷ t)) ≡ got k 2 t
unfolding line count_line
count-line k t p q =
    let g = number-round 8 k p q in
    let s = short-some count_line (shown k) k g (omega (arith, count-size (shown k) k g)) in
    rw (line, cut-free LF (shown k) t (shown-free LF k (omega arith)), s)

-- A text that was written from one to eight sound surveys with different ids is read as these surveys, and no line of
-- it is malformed.
pub text_round : (ss : List Survey) → 0 < length ss → length ss ≤ 8 → AllSound ss → Fresh [] (entries ss)
    → reading (written ss) ≡ record { surveys = ss; malformed_line = 0 }
unfolding reading written head and_then
text_round ss p q a f =
    let t = contents_text (entries ss) ++ bodies_text ss in
    let l : line count_line 1 (written ss) ≡ got (length ss) 2 t = count-line (length ss) t p q in
    let c : contents (length ss) [] 2 t ≡ got (entries ss) (2 + length ss) (bodies_text ss) = rw (entries_length ss) at (contents-round [] (entries ss) 2 (bodies_text ss) (sound_all ss a) f) in
    let h : head 1 (written ss) ≡ got (entries ss) (2 + length ss) (bodies_text ss) = rw (l, c) in
    rw (reading, h) (bodies-round ss (2 + length ss) a)
