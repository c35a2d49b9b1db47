-- Numbers, by which chains of one origin keep their order at each server, and turns.
use Rattle.std.specs.Prelude.{ℕ, ◌==◌, ◌&&◌, Bool, true, false, List, map, count_by}
use Rattle.lynx_set.specs.Set.{Set}
use Rattle.lynx_entry.specs.declared.entry.Entry.{Entry}
use Rattle.lynx_entry.specs.declared.entry.Entry.TheVariants.{Begun, Refused, Hop}
use Rattle.lynx_names.specs.declared.numbers.NumberAt.{NumberAt}
use Rattle.lynx_entry.specs.Entry.{History}
use Rattle.lynx_rules.specs.Visits.{visits, visited, is_last_at}
use Rattle.lynx_set.specs.Lookups.{hops_of}

abbrev pub is_begun : Entry → Bool
is_begun (Begun begun) = true
is_begun (Refused refused) = false
is_begun (Hop ran) = false

-- how many chains began
abbrev pub begun_count : History → ℕ
begun_count history = count_by is_begun history

-- a chain began that visits the server
abbrev pub begins_visiting : Set → ℕ → Entry → Bool
begins_visiting set server (Begun begun) = visits (hops_of set begun.request.program) server
begins_visiting set server (Refused refused) = false
begins_visiting set server (Hop ran) = false

-- The number that a chain which begins after this history has for a server that it visits: how many
-- chains that visit this server began here before it.
abbrev pub number_for : Set → History → ℕ → ℕ
number_for set history server = count_by (begins_visiting set server) history

-- the number for a server, with the server
abbrev pub numbered : Set → History → ℕ → NumberAt
numbered set history server = record { server = server; number = number_for set history server }

-- one number for each server that the program visits
abbrev pub numbers_of : Set → History → ℕ → List NumberAt
numbers_of set history program = map (numbered set history) (visited set program)

-- a chain of that origin ran its last hop at the server
abbrev pub ends_visit : Set → ℕ → ℕ → Entry → Bool
ends_visit set server origin (Begun begun) =
    (begun.chain.origin == origin) && is_last_at set server begun.request.program 0
ends_visit set server origin (Refused refused) = false
ends_visit set server origin (Hop ran) =
    (ran.message.chain.origin == origin) && is_last_at set server ran.message.program
    ran.message.hop

-- Whose turn it is at the server, among the chains of that origin: as many of them are through
-- here.
abbrev pub turn_of : Set → ℕ → History → ℕ → ℕ
turn_of set server history origin = count_by (ends_visit set server origin) history
