use Rattle.lynx_shards.proofs.Chain.{EachCovers-push}
use Rattle.lynx_shards.proofs.map.ShardMap.add_table.Goals as goal

pub invariant_of-self-2 : goal.invariant_of-self-2
invariant_of-self-2 c = rw (c.in_ok-push.ensures.ok, c.into_shards.ensures) (EachCovers-push c.self.inside.tables c.args.table c.self.invariant c.requires)
