use Rattle.std.proofs.Common.{◌≡◌, ◌-◌, ◌≤◌, [], length}
use Rattle.lynx_text.specs.Parts.{parts, goes_shard, next_shard}
use Rattle.lynx_text.proofs.table_lines.read_shards.Given as goal

-- what is left decides
abbrev pub invariant-shards : goal.invariant-shards
invariant-shards l = record {
  few : length l.shards ≤ 64;
  shrinks : length l.lines ≤ length l.fn.lines;
  rest : parts goes_shard (next_shard l.servers) (64 - length l.shards) l.shards l.lines ≡ parts goes_shard (next_shard l.servers) 64 [] l.fn.lines;
}

abbrev pub decreases-shards : goal.decreases-shards
decreases-shards l = length l.lines
