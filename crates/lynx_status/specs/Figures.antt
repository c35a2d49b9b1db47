-- Figures of servers, and of the stores that follow them.
use Rattle.std.specs.Prelude.{Bool, List, false, if◌then◌else◌}
use Rattle.std.specs.List.{list_all}
use Rattle.lynx_status.specs.declared.copies.CopyFigures.{CopyFigures}
use Rattle.lynx_status.specs.declared.figures.ServerFigures.{ServerFigures}

-- no server is stopped
abbrev pub all_run : List ServerFigures → Bool
all_run servers = list_all (λ server. server.is_running) servers

-- no store that follows a server is gone
abbrev pub all_there : List CopyFigures → Bool
all_there copies = list_all (λ copy. copy.is_there) copies

-- both
abbrev pub is_well : List ServerFigures → List CopyFigures → Bool
is_well servers copies = if all_run servers then all_there copies else false
