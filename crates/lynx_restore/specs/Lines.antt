-- The lines of what was restored.
use Rattle.std.specs.Prelude.{ℕ, List, ◌++◌, ◌∷◌, codes, decimal}
use Rattle.std.specs.List.{flat_map}
use Rattle.lynx_lex.specs.Lines.{with_feed}
use Rattle.lynx_restore.specs.declared.restored.RestoredServer.{RestoredServer}

-- the line of a server
abbrev pub restored_line : RestoredServer → List ℕ
restored_line restored =
    with_feed (codes "restored " ++ decimal restored.server ++ 32 ∷ decimal restored.taken
    ++ codes " of " ++ decimal restored.of)

-- a line for each
abbrev pub restored_lines : List RestoredServer → List ℕ
restored_lines restored = flat_map restored_line restored
