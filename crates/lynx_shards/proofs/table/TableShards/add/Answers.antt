use Rattle.std.proofs.Common.{None, sym, arith}
use Rattle.lynx_shards.specs.Ranges.{next_key}
use Rattle.lynx_shards.proofs.Chain.{last_key-push, Cuts-push, next_if_no_fault}
use Rattle.lynx_shards.proofs.table.TableShards.add.Goals as goal

pub invariant_of-self-2 : goal.invariant_of-self-2
invariant_of-self-2 c =
    let next = next_if_no_fault c.args.servers c.self.inside.last c.args.range.low c.args.range.high c.args.range.server (sym c.in_default.ensures) in
    rw (c.in_ok-push.ensures.ok) (sym (last_key-push None c.self.inside.shards _), Cuts-push 0 c.self.inside.shards (next_key c.self.inside.last) _ c.self.invariant.1 next.begins (omega (arith, next.within, next.begins)))
