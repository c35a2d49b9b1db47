-- What is told of the health of a service.
use Rattle.std.specs.Prelude.{ℕ, List, [], ◌++◌, codes, decimal, if◌then◌else◌}
use Rattle.std.specs.List.{flat_map}
use Rattle.lynx_status.specs.declared.copies.CopyFigures.{CopyFigures}
use Rattle.lynx_status.specs.declared.figures.ServerFigures.{ServerFigures}
use Rattle.lynx_status.specs.Figures.{is_well}

-- the line of a server, where it is stopped
abbrev pub stopped_line : ServerFigures → List ℕ
stopped_line server =
    if server.is_running then [] else codes "server " ++ decimal server.server ++ codes " stopped\n"

abbrev pub stopped_lines : List ServerFigures → List ℕ
stopped_lines servers = flat_map stopped_line servers

-- the line of the store that follows a server, where it is gone
abbrev pub gone_line : CopyFigures → List ℕ
gone_line copy =
    if copy.is_there then [] else codes "copy " ++ decimal copy.server ++ codes " gone\n"

abbrev pub gone_lines : List CopyFigures → List ℕ
gone_lines copies = flat_map gone_line copies

abbrev pub health_text : List ServerFigures → List CopyFigures → List ℕ
health_text servers copies =
    if is_well servers copies then codes "ok\n" else stopped_lines servers ++ gone_lines copies

-- the status of HTTP
abbrev pub health_status : List ServerFigures → List CopyFigures → ℕ
health_status servers copies = if is_well servers copies then 200 else 503
