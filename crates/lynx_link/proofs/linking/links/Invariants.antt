use Rattle.lynx_link.specs.inner.Linking.{AreSoFar}
use Rattle.lynx_link.proofs.linking.links.Given as goal

-- the rings of this server to those before
abbrev pub invariant-loop-receiver : goal.invariant-loop-receiver
invariant-loop-receiver l = AreSoFar l.servers l.sender l.receiver l.ends.items

-- the rings of the servers before
abbrev pub invariant-loop-sender : goal.invariant-loop-sender
invariant-loop-sender l = AreSoFar l.servers l.sender 0 l.ends.items
