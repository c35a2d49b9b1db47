use Rattle.std.proofs.Common.{◌≡◌, map}
use Rattle.std.specs.List.{range_with_len}
use Rattle.lynx_weave.specs.Rebuilt.{histories_in}
use Rattle.lynx_world.specs.Worlds.{history_of}
use Rattle.lynx_carry.proofs.server_histories.histories.Given as goal

-- the histories of the servers so far
abbrev pub invariant-loop-number : goal.invariant-loop-number
invariant-loop-number l =
    histories_in l.histories.items ≡ map (λ server. history_of server l.world.list) (range_with_len 0 l.number)
