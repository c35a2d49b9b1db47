use Rattle.lynx_codec.proofs.Feeds.{added-kept}
use Rattle.lynx_codec.proofs.feed.Feed.push.Goals as goal

pub invariant_of-self-2 : goal.invariant_of-self-2
invariant_of-self-2 c = rw c.in_ok-extend_from_slice.ensures.items (added-kept c.self.inside.bytes.items c.args.piece.now c.self.inside.given c.self.inside.failed c.self.invariant)
