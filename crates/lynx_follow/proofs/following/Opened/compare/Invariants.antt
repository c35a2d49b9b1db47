use Rattle.std.proofs.Common.{◌≡◌, ◌++◌, take}
use Rattle.lynx_follow.proofs.following.Opened.compare.Given as goal

abbrev pub invariant-loop-entry : goal.invariant-loop-entry
invariant-loop-entry g l = record {
  follower : l.self.follower ≡ l.fn.self.follower;
  rest : l.fn.self.rest.items ≡ take l.entry-index l.did ++ l.self.rest.items;
}
