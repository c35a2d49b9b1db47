-- How hints begin and end.
use Rattle.std.specs.Prelude.{ℕ, List, ◌++◌, ◌==◌, codes, if◌then◌else◌}
use Rattle.std.specs.Fmt.{decimal}

-- two spaces, the name of a file and a colon
abbrev pub file_head : List ℕ → List ℕ
file_head name = codes "  " ++ name ++ codes ":"

-- the same, and a line's number and a colon, where there is a line
abbrev pub head_of : List ℕ → ℕ → List ℕ
head_of name line =
    if line == 0 then file_head name else file_head name ++ decimal line ++ codes ":"

-- what has to stand between a set and a script
abbrev pub separator_told : List ℕ
separator_told = codes "  a line that is exactly -- stands between the set and the script\n"
