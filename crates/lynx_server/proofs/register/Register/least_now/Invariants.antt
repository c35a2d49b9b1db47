use Rattle.std.proofs.Common.{◌≡◌, take, filter, option_copied}
use Rattle.lynx_turn.specs.Held.{least_of}
use Rattle.lynx_server.specs.inner.Sorting.{stands_here}
use Rattle.lynx_server.proofs.register.Register.least_now.Given as goal

-- the least of those so far whose turn it is
abbrev pub invariant-loop-message : goal.invariant-loop-message
invariant-loop-message l =
    option_copied l.least ≡ least_of (filter (stands_here l.self) (take l.message-index l.held))
