-- The figures of a service in Prometheus' text format 0.0.4.
use Rattle.std.specs.Prelude.{ℕ, List, ◌++◌, codes}
use Rattle.std.specs.List.{flat_map}
use Rattle.std.specs.Fmt.{digits}
use Rattle.std.specs.Prelude.{false}
use Rattle.lynx_status.specs.declared.figures.Figures.{Figures}
use Rattle.lynx_status.specs.declared.figures.ServerFigures.{ServerFigures}
use Rattle.lynx_status.specs.declared.gauges.Gauge.TheVariants.{Running, Entries, Room, Owed, Held, Clock}
use Rattle.lynx_status.specs.Copies.{copies_text}
use Rattle.lynx_status.specs.Families.{begins_lines, deliveries_lines, gauge_text, head, single}
use Rattle.lynx_status.specs.Histograms.{commits_lines, filled}

-- the numbers of servers
abbrev pub gauges_text : List ServerFigures → List ℕ
gauges_text servers =
    gauge_text Running servers ++ gauge_text Entries servers ++ gauge_text Room servers
    ++ gauge_text Owed servers ++ gauge_text Held servers ++ gauge_text Clock servers

abbrev pub begins_text : List ServerFigures → List ℕ
begins_text servers =
    head (codes "lynx_begins_total") (codes "counter")
    (codes "Begins that the server answered, by answer.") ++ flat_map begins_lines servers

abbrev pub deliveries_text : List ServerFigures → List ℕ
deliveries_text servers =
    head (codes "lynx_deliveries_total") (codes "counter")
    (codes "Deliveries that the server answered, by kind.") ++ flat_map deliveries_lines servers

abbrev pub commits_text : List ServerFigures → List ℕ
commits_text servers =
    head (codes "lynx_commit_seconds") (codes "histogram")
    (codes "Seconds that commits of the server's store took.") ++ flat_map commits_lines servers

-- the numbers of the service
abbrev pub service_text : Figures → List ℕ
service_text figures =
    single (codes "lynx_connections") (codes "gauge")
    (codes "Connections of clients that are open.") figures.connections
    ++ single (codes "lynx_sessions_total") (codes "counter") (codes "Sessions that were made.")
    figures.sessions
    ++ single (codes "lynx_told_bytes") (codes "gauge")
    (codes "Bytes of the answers that clients were told.") figures.told_bytes
    ++ single (codes "lynx_uptime_seconds") (codes "gauge")
    (codes "Seconds since the service listens.") figures.uptime_seconds
    ++ single (codes "lynx_log_dropped_total") (codes "counter")
    (codes "Lines of the log that were dropped, since nobody read those before them.")
    figures.log_dropped

-- the sixteen digits of a hash
unfoldable pub hash_text : ℕ → List ℕ
hash_text hash = filled 16 (digits 16 false hash)

-- which program runs, and over which set
unfoldable pub build_text : ℕ → List ℕ → List ℕ
build_text hash version =
    head (codes "lynx_build_info") (codes "gauge")
    (codes "The version of the program and the hash of its set; the value is 1.")
    ++ codes "lynx_build_info{version=\"" ++ version ++ codes "\",set=\"" ++ hash_text hash
    ++ codes "\"} 1\n"

-- all of them
abbrev pub metrics_text : Figures → ℕ → List ℕ → List ℕ
metrics_text figures hash version =
    gauges_text figures.servers.items ++ begins_text figures.servers.items
    ++ deliveries_text figures.servers.items ++ commits_text figures.servers.items
    ++ service_text figures ++ copies_text figures.copies.items ++ build_text hash version
