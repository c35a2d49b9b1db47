use Rattle.std.proofs.Common.{◌≡◌, take}
use Rattle.lynx_world.specs.Worlds.{history_of}
use Rattle.lynx_carry.proofs.server_histories.history_of.Given as goal

-- the entries so far are those of the server
abbrev pub invariant-loop-place : goal.invariant-loop-place
invariant-loop-place l = l.history.items ≡ history_of l.server (take l.place l.world.list)
