-- Which servers a program visits, and in which hops.
use Rattle.std.specs.Prelude.{ℕ, ◌≡◌, ◌<◌, ◌==◌, ◌&&◌, Bool, false, not, List, [], ◌∷◌, drop, filter}
use Rattle.std.specs.List.{list_any, range_with_len}
use Rattle.lynx_names.specs.declared.limits.TheConstants.{MAX_SERVERS}
use Rattle.lynx_names.specs.ServerList.{is_marked}
use Rattle.lynx_set.specs.declared.program.Hop.{Hop}
use Rattle.lynx_set.specs.Set.{Set}
use Rattle.lynx_set.specs.Lookups.{hops_of}

-- the first of these hops is at the server
abbrev pub starts_at : List Hop → ℕ → Bool
starts_at [] server = false
starts_at (hop ∷ hops) server = hop.server == server

-- the server is the program's origin: that of its first hop
abbrev pub is_origin : Set → ℕ → ℕ → Bool
is_origin set program server = starts_at (hops_of set program) server

-- one of these hops is at the server
abbrev pub visits : List Hop → ℕ → Bool
visits hops server = list_any (λ hop. hop.server == server) hops

-- for each server there is a mark, whether one of these hops is there
abbrev pub MarksVisits : List Hop → List Bool → Type 0
MarksVisits hops marks =
    (server : ℕ) → server < MAX_SERVERS → is_marked marks server ≡ visits hops server

-- the servers that a program visits, rising
unfoldable pub visited : Set → ℕ → List ℕ
visited set program =
    filter (λ server. visits (hops_of set program) server) (range_with_len 0 MAX_SERVERS)

-- the first of these hops is at the server, and no later one is
abbrev pub leaves_by_first : List Hop → ℕ → Bool
leaves_by_first [] server = false
leaves_by_first (hop ∷ hops) server = (hop.server == server) && not (visits hops server)

-- the hop of the program is at the server, and no later one is
abbrev pub is_last_at : Set → ℕ → ℕ → ℕ → Bool
is_last_at set server program hop = leaves_by_first (drop hop (hops_of set program)) server
