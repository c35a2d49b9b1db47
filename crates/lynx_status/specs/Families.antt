-- Families of Prometheus' text format 0.0.4, and lines of one number each.
use Rattle.std.specs.Prelude.{ℕ, ◌-◌, Bool, true, false, List, ◌++◌, codes, decimal, if◌then◌else◌}
use Rattle.std.specs.List.{flat_map}
use Rattle.lynx_names.specs.declared.limits.TheConstants.{MAX_ENTRIES}
use Rattle.lynx_status.specs.declared.figures.ServerFigures.{ServerFigures}
use Rattle.lynx_status.specs.declared.gauges.Gauge.{Gauge}
use Rattle.lynx_status.specs.declared.gauges.Gauge.TheVariants.{Running, Entries, Room, Owed, Held, Clock}
use Rattle.lynx_status.specs.declared.begins.Begins.{Begins}
use Rattle.lynx_status.specs.declared.deliveries.Deliveries.{Deliveries}

-- what stands before the lines of a family: its name, its kind and what it is
unfoldable pub head : List ℕ → List ℕ → List ℕ → List ℕ
head name kind help =
    codes "# HELP " ++ name ++ codes " " ++ help ++ codes "\n# TYPE " ++ name ++ codes " " ++ kind
    ++ codes "\n"

-- a family of one number
unfoldable pub single : List ℕ → List ℕ → List ℕ → ℕ → List ℕ
single name kind help figure =
    head name kind help ++ name ++ codes " " ++ decimal figure ++ codes "\n"

-- ---- a number of each server

abbrev pub gauge_name : Gauge → List ℕ
gauge_name Running = codes "lynx_server_running"
gauge_name Entries = codes "lynx_entries"
gauge_name Room = codes "lynx_room_entries"
gauge_name Owed = codes "lynx_owed_hops"
gauge_name Held = codes "lynx_held_messages"
gauge_name Clock = codes "lynx_clock_stamp"

abbrev pub gauge_help : Gauge → List ℕ
gauge_help Running = codes "Whether the server runs (1) or is stopped (0)."
gauge_help Entries = codes "Entries of the server's history."
gauge_help Room = codes "Entries that the server's history may still get."
gauge_help Owed = codes "Hops of begun chains that are owed to the server."
gauge_help Held = codes "Messages that the server holds until it is their turn."
gauge_help Clock = codes "The stamp of the server's last entry."

abbrev pub gauge_of : Gauge → ServerFigures → ℕ
gauge_of Running server = if server.is_running then 1 else 0
gauge_of Entries server = server.entries
gauge_of Room server = MAX_ENTRIES - server.entries
gauge_of Owed server = server.owed
gauge_of Held server = server.held
gauge_of Clock server = server.clock

unfoldable pub gauge_line : Gauge → ServerFigures → List ℕ
gauge_line gauge server =
    gauge_name gauge ++ codes "{server=\"" ++ decimal server.server ++ codes "\"} "
    ++ decimal (gauge_of gauge server) ++ codes "\n"

abbrev pub gauge_text : Gauge → List ServerFigures → List ℕ
gauge_text gauge servers =
    head (gauge_name gauge) (codes "gauge") (gauge_help gauge)
    ++ flat_map (gauge_line gauge) servers

-- ---- answers of begins

abbrev pub bool_text : Bool → List ℕ
bool_text true = codes "true"
bool_text false = codes "false"

unfoldable pub begin_line : ℕ → List ℕ → Bool → ℕ → List ℕ
begin_line server answer again count =
    codes "lynx_begins_total{server=\"" ++ decimal server ++ codes "\",answer=\"" ++ answer
    ++ codes "\",again=\"" ++ bool_text again ++ codes "\"} " ++ decimal count ++ codes "\n"

-- those that come with an entry, now or earlier
abbrev pub served_lines : ℕ → Begins → List ℕ
served_lines server begins =
    begin_line server (codes "begun") false begins.begun
    ++ begin_line server (codes "begun") true begins.begun_again
    ++ begin_line server (codes "refused") false begins.refused
    ++ begin_line server (codes "refused") true begins.refused_again

-- those that say that the request fits no program or record
abbrev pub unfit_lines : ℕ → Begins → List ℕ
unfit_lines server begins =
    begin_line server (codes "clash") false begins.clash
    ++ begin_line server (codes "unknown-program") false begins.unknown_program
    ++ begin_line server (codes "wrong-origin") false begins.wrong_origin
    ++ begin_line server (codes "arg-count") false begins.arg_count
    ++ begin_line server (codes "outside-range") false begins.outside_range
    ++ begin_line server (codes "wrong-shard") false begins.wrong_shard

-- those that say that the server can't now
abbrev pub unable_lines : ℕ → Begins → List ℕ
unable_lines server begins =
    begin_line server (codes "full") false begins.full
    ++ begin_line server (codes "busy") false begins.busy
    ++ begin_line server (codes "stopped") false begins.stopped
    ++ begin_line server (codes "memory") false begins.memory

abbrev pub begins_lines : ServerFigures → List ℕ
begins_lines server =
    served_lines server.server server.begins ++ unfit_lines server.server server.begins
    ++ unable_lines server.server server.begins

-- ---- answers of deliveries

unfoldable pub delivery_line : ℕ → List ℕ → ℕ → List ℕ
delivery_line server kind count =
    codes "lynx_deliveries_total{server=\"" ++ decimal server ++ codes "\",kind=\"" ++ kind
    ++ codes "\"} " ++ decimal count ++ codes "\n"

-- those that say where the message is now
abbrev pub kept_lines : ℕ → Deliveries → List ℕ
kept_lines server deliveries =
    delivery_line server (codes "done") deliveries.done
    ++ delivery_line server (codes "repeat") deliveries.repeat
    ++ delivery_line server (codes "held") deliveries.held
    ++ delivery_line server (codes "dropped") deliveries.dropped

-- those that say that the server can't take it
abbrev pub untaken_lines : ℕ → Deliveries → List ℕ
untaken_lines server deliveries =
    delivery_line server (codes "malformed") deliveries.malformed
    ++ delivery_line server (codes "full") deliveries.full
    ++ delivery_line server (codes "stopped") deliveries.stopped
    ++ delivery_line server (codes "memory") deliveries.memory

abbrev pub deliveries_lines : ServerFigures → List ℕ
deliveries_lines server =
    kept_lines server.server server.deliveries ++ untaken_lines server.server server.deliveries
