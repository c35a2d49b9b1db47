-- Names of tables, listed.
use Rattle.std.specs.Prelude.{ℕ, List, [], ◌∷◌, ◌++◌, codes}

-- each name after a comma
abbrev pub listed_after : List (List ℕ) → List ℕ
listed_after [] = []
listed_after (name ∷ names) = codes ", " ++ name ++ listed_after names

-- names with commas between them
abbrev pub listed : List (List ℕ) → List ℕ
listed [] = []
listed (first ∷ names) = first ++ listed_after names
