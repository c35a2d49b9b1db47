use Rattle.lynx_shards.proofs.Chain.{whole_is, whole_test}
use Rattle.lynx_shards.proofs.table.TableShards.is_whole.Goals as goal

pub returns-clause-covers : goal.returns-clause-covers
returns-clause-covers c = rw (← c.self.view_is) (whole_is c.self.inside.last c.self.inside.shards c.eq.result c.self.invariant.1 c.eq.ensures)

pub returns-clause-test : goal.returns-clause-test
returns-clause-test c = rw (← c.self.view_is) (whole_test c.self.inside.last c.self.inside.shards c.eq.result c.self.invariant.0 c.eq.ensures)
