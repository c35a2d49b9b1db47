-- The text of the file by which clients find a service.
use Rattle.std.specs.Prelude.{ℕ, List, [], ◌++◌, codes, decimal, Option, Some, None}
use Rattle.lynx_lex.specs.Lines.{with_feed}

-- a line of these words and the number of a port
abbrev pub port_line : List ℕ → ℕ → List ℕ
port_line words port = with_feed (words ++ decimal port)

-- the line of the port at which the status is told, where there is one
abbrev pub status_line : Option ℕ → List ℕ
status_line None = []
status_line (Some port) = port_line (codes "status 127.0.0.1:") port

-- the port of clients, that of the status where there is one, a line `--`, and the set's text
abbrev pub notice_text : ℕ → Option ℕ → List ℕ → List ℕ
notice_text port status set =
    port_line (codes "listening 127.0.0.1:") port ++ (status_line status ++ (codes "--\n" ++ set))
