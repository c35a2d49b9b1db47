-- Lists of servers.
use Rattle.std.specs.Prelude.{ℕ, Bool, false, List, filter, slice_index_or}
use Rattle.std.specs.List.{range_with_len}
use Rattle.lynx_names.specs.declared.limits.TheConstants.{MAX_SERVERS}

-- the server has a mark
abbrev pub is_marked : List Bool → ℕ → Bool
is_marked marks server = slice_index_or marks server false

-- the servers with a mark, rising
abbrev pub marked_servers : List Bool → List ℕ
marked_servers marks = filter (is_marked marks) (range_with_len 0 MAX_SERVERS)
