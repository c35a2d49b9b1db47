use Rattle.std.proofs.Common.{◌≡◌, ◌≤◌, filter, length, take}
use Rattle.std.specs.List.{range_with_len}
use Rattle.lynx_names.specs.declared.limits.TheConstants.{MAX_SERVERS}
use Rattle.lynx_names.specs.ServerList.{is_marked}
use Rattle.lynx_names.proofs.server_list.ServerList.marked.Given as goal

-- the marked servers so far
abbrev pub invariant-loop-number : goal.invariant-loop-number
invariant-loop-number l = (take l.len l.servers ≡ filter (is_marked l.marks) (range_with_len 0 l.number))
    × (length l.servers ≡ MAX_SERVERS) × (l.len ≤ l.number)
