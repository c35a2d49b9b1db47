-- The histories of a world's servers.
use Rattle.std.specs.Prelude.{List, map}
use Rattle.std.specs.List.{range_with_len}
use Rattle.lynx_entry.specs.Entry.{History}
use Rattle.lynx_world.specs.Worlds.{WorldState, history_of}

-- the history of each server of the set, in order
abbrev pub histories_of : WorldState → List History
histories_of world =
    map (λ server. history_of server world.list) (range_with_len 0 world.set.servers)
