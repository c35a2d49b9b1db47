use Rattle.std.proofs.Common.{◌≡◌, take, drop}
use Rattle.lynx_shards.specs.Ranges.{shards_of, tables_fault, lists}
use Rattle.lynx_shards.proofs.map.ShardMap.from_ranges.Given as goal

-- the fault is one of the tables that are left
abbrev pub invariant-loop-ranges : goal.invariant-loop-ranges
invariant-loop-ranges l = record {
  shards : l.map ≡ shards_of (lists (take l.ranges-index l.ranges-items));
  rest : tables_fault l.servers (lists (drop l.ranges-index l.ranges-items)) ≡ tables_fault l.servers (lists l.ranges-items);
}
