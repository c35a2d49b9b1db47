use Rattle.std.proofs.Common.{◌≡◌, ◌++◌, drop, map}
use Rattle.lynx_set.specs.Text.{text, shard_words, table_lines}
use Rattle.lynx_text.proofs.printing.put_table.Given as goal

abbrev pub invariant-loop-shard : goal.invariant-loop-shard
invariant-loop-shard l = l.out.items ++ text (map shard_words (drop l.shard-index l.shards)) ≡ l.fn.out.items ++ text (table_lines l.fn.name l.shards)
