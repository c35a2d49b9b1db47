-- What is told of the folder that follows.
use Rattle.std.specs.Prelude.{ℕ, ◌==◌, List, [], ◌++◌, codes, decimal, length, if◌then◌else◌}
use Rattle.std.specs.List.{flat_map}
use Rattle.lynx_status.specs.declared.copies.CopyFigures.{CopyFigures}
use Rattle.lynx_status.specs.Families.{head}

-- the line of one number of a server
unfoldable pub figure_line : List ℕ → ℕ → ℕ → List ℕ
figure_line name server figure =
    name ++ codes "{server=\"" ++ decimal server ++ codes "\"} " ++ decimal figure ++ codes "\n"

abbrev pub follows_line : CopyFigures → List ℕ
follows_line copy =
    figure_line (codes "lynx_copy_follows") copy.server (if copy.follows then 1 else 0)

abbrev pub behind_line : CopyFigures → List ℕ
behind_line copy = figure_line (codes "lynx_copy_behind_entries") copy.server copy.behind

abbrev pub follows_text : List CopyFigures → List ℕ
follows_text copies =
    head (codes "lynx_copy_follows") (codes "gauge")
    (codes "Whether the store that follows the server does (1), or is closed or failed (0).")
    ++ flat_map follows_line copies

abbrev pub behind_text : List CopyFigures → List ℕ
behind_text copies =
    head (codes "lynx_copy_behind_entries") (codes "gauge")
    (codes "Entries of the server that the store which follows it doesn't have yet.")
    ++ flat_map behind_line copies

-- two families, nothing where no folder follows
abbrev pub copies_text : List CopyFigures → List ℕ
copies_text copies =
    if length copies == 0 then [] else follows_text copies ++ behind_text copies
