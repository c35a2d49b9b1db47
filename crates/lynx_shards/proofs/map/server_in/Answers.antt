use Rattle.std.proofs.Common.{◌^◌, ◌∙◌, sym, ap, ltb, rules}
use Rattle.std.proofs.lemmas.Bool.{ltb-true, ltb-false}
use Rattle.std.proofs.lemmas.List.Sorted.{IsPartitionPoint-from_clause, IsPartitionedBy-ltb}
use Rattle.lynx_shards.proofs.Search.{Parts, ends_rise, server_in-found, server_in-none}
use Rattle.lynx_shards.proofs.map.server_in.Goals as goal
use Rattle.lynx_shards.proofs.map.server_in.Goals.{After-partition_point-place}

parts : (c : After-partition_point-place) → Parts c.args.shards.now c.args.key c.partition_point-place.result
parts c =
    let shards = c.args.shards.now in
    IsPartitionPoint-from_clause (λ shard. ltb shard.high c.args.key) shards c.partition_point-place.result c.partition_point-place.ensures.partitioned
    (IsPartitionedBy-ltb (λ shard. shard.high) shards c.args.key (ends_rise 0 shards (2 ^ 64) c.requires)) (λ a r q k. search rules)

pub returns-in-Some : goal.returns-in-Some
returns-in-Some c =
    let h = c.in-Some.ensures.lookup in
    ap (λ shard. shard.server) h.1 ∙ sym (server_in-found c.args.shards.now c.args.key c.partition_point-place.result _ (ltb-true _ _ (sym h.0)) (parts (goal.at.returns-in-Some c).After-partition_point-place))

pub returns-in-None : goal.returns-in-None
returns-in-None c =
    c.first.ensures ∙ sym (server_in-none c.args.shards.now c.args.key c.partition_point-place.result (ltb-false _ _ (sym c.in-None.ensures.lookup.0)) (parts (goal.at.returns-in-None c).After-partition_point-place))
