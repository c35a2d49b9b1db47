-- What is told of stores that are given to a set.
use Rattle.std.specs.Prelude.{ℕ, List, ◌++◌, codes, if◌then◌else◌}
use Rattle.std.specs.Fmt.{decimal}
use Rattle.lynx_lex.specs.Lines.{with_feed}
use Rattle.lynx_store.specs.declared.extending.Extended.{Extended}

-- the line of a store that was made for a new server
abbrev pub made_line : ℕ → List ℕ
made_line server = codes "made " ++ with_feed (decimal server)

-- the line of a store that is given to the set, with the count of its entries, or was of it before
abbrev pub given_line : ℕ → Extended → List ℕ
given_line server done =
    if done.was_same
    then codes "same " ++ with_feed (decimal server)
    else codes "extended " ++ decimal server ++ codes " " ++ with_feed (decimal done.entries)
