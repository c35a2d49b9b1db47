use Rattle.std.proofs.Common.{◌≡◌, None, map, take, drop}
use Rattle.lynx_shards.specs.Ranges.{shard_of, table_fault, last_key}
use Rattle.lynx_shards.proofs.map.whole_table.Given as goal

-- the fault is one of the ranges that are left
abbrev pub invariant-loop-range : goal.invariant-loop-range
invariant-loop-range l = record {
  shards : l.table ≡ map shard_of (take l.range-index l.ranges);
  rest : table_fault l.servers (last_key None l.table) (drop l.range-index l.ranges) ≡ table_fault l.servers None l.ranges;
}
