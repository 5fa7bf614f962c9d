-- What the counts are of no rows, and after one row more. Assumes nothing.
use Rattle.std.specs.Prelude.{Bool, true, false, List, [], ◌∷◌, ◌++◌, ℕ, ◌+◌, ltb, decimal}
use Rattle.score.specs.declared.Score.{Score}

abbrev pub pick : Bool → ℕ → ℕ → ℕ
pick true a b = a
pick false a b = b

-- one more, but no more than the largest number of 64 bits
abbrev pub more : ℕ → ℕ
more n = pick (ltb n 18446744073709551615) (n + 1) n

abbrev pub none : Score
none = record { right = 0; differ = 0; wrong = 0; found = 0 }

-- with one row more: whether it is wrong on purpose, and whether it agrees
abbrev pub counted : Score → Bool → Bool → Score
counted s false true = record { right = more s.right; differ = s.differ; wrong = s.wrong; found = s.found }
counted s false false =
    record { right = more s.right; differ = more s.differ; wrong = s.wrong; found = s.found }
counted s true true = record { right = s.right; differ = s.differ; wrong = more s.wrong; found = s.found }
counted s true false = record { right = s.right; differ = s.differ; wrong = more s.wrong; found = more s.found }

-- ` is wrong on purpose and was not found`, and ` differs`, each with its line's end
abbrev pub not_found : List ℕ
not_found = 32 ∷ 105 ∷ 115 ∷ 32 ∷ 119 ∷ 114 ∷ 111 ∷ 110 ∷ 103 ∷ 32 ∷ 111 ∷ 110 ∷ 32 ∷ 112 ∷ 117 ∷ 114 ∷ 112 ∷ 111 ∷ 115 ∷ 101 ∷ 32 ∷ 97 ∷ 110 ∷ 100 ∷ 32 ∷ 119 ∷ 97 ∷ 115 ∷ 32 ∷ 110 ∷ 111 ∷ 116 ∷ 32 ∷ 102 ∷ 111 ∷ 117 ∷ 110 ∷ 100 ∷ 10 ∷ []

abbrev pub differs : List ℕ
differs = 32 ∷ 100 ∷ 105 ∷ 102 ∷ 102 ∷ 101 ∷ 114 ∷ 115 ∷ 10 ∷ []

-- what is printed of a row by the counts after it: its number, among the wrong or the right ones, where it is not as told
abbrev pub judged : Score → Bool → Bool → List ℕ
judged s true true = decimal s.wrong ++ not_found
judged s false false = decimal s.right ++ differs
judged s true false = []
judged s false true = []

-- the words behind the counts of a line, the last with its line's end
abbrev pub differ_words : List ℕ
differ_words = 32 ∷ 100 ∷ 105 ∷ 102 ∷ 102 ∷ 101 ∷ 114 ∷ 59 ∷ 32 ∷ []

abbrev pub wrong_words : List ℕ
wrong_words = 32 ∷ 119 ∷ 114 ∷ 111 ∷ 110 ∷ 103 ∷ 32 ∷ 111 ∷ 110 ∷ 32 ∷ 112 ∷ 117 ∷ 114 ∷ 112 ∷ 111 ∷ 115 ∷ 101 ∷ 44 ∷ 32 ∷ []

abbrev pub found_words : List ℕ
found_words = 32 ∷ 102 ∷ 111 ∷ 117 ∷ 110 ∷ 100 ∷ 10 ∷ []

-- what is printed of all rows: how many right ones differ, how many are wrong on purpose, and how many of these were found
abbrev pub summed : Score → List ℕ
summed s = decimal s.differ ++ differ_words ++ decimal s.wrong ++ wrong_words ++ decimal s.found ++ found_words
