-- The tests that decide whether two hops may conflict, and whether a program has been at a hop's
-- server.
use Rattle.std.specs.Prelude.{Bool, true, false, ◌==◌, ◌&&◌, ℕ, nat_le, List, Option, Some, None}
use Rattle.std.specs.List.{enumerate_from, list_any}
use Rattle.std.specs.Option.{option_map_or}
use Rattle.lynx_set.specs.declared.program.Hop.{Hop}
use Rattle.lynx_set.specs.Set.{Set}
use Rattle.lynx_set.specs.Lookups.{hops_of, server_at}
use Rattle.lynx_foot.specs.Reaches.{reaches_of}
use Rattle.lynx_foot.specs.Tests.{some_may_collide}
use Rattle.lynx_graph.specs.declared.meeting.Place.{Place}

-- whether the servers are one, or both are wanting
abbrev pub same_server : Option ℕ → Option ℕ → Bool
same_server (Some left) (Some right) = left == right
same_server (Some left) None = false
same_server None (Some right) = false
same_server None None = true

-- whether the hops may conflict
abbrev pub joins : Set → Place → Place → Bool
joins set left right =
    same_server (server_at set left.program left.hop) (server_at set right.program right.hop)
    && some_may_collide (reaches_of set left.program left.hop)
    (reaches_of set right.program right.hop)

abbrev pub server_of : Set → Place → Option ℕ
server_of set place = server_at set place.program place.hop

-- one of the hops, of that number or a lower one, is at the server
abbrev pub serves_upto : List Hop → ℕ → ℕ → Bool
serves_upto hops server last =
    list_any (λ numbered. nat_le numbered.0 last && numbered.1.server == server)
    (enumerate_from 0 hops)

-- a hop of the program, of that number or a lower one, is at the server of the place
abbrev pub has_come : Set → Place → ℕ → ℕ → Bool
has_come set place program last =
    option_map_or (λ server. serves_upto (hops_of set program) server last) (server_of set place)
    false
