use Rattle.std.proofs.Common.{◌+◌, None, refl, subst, get_or, drop, sym, ◌∙◌, ap, arith}
use Rattle.std.proofs.lemmas.Grind.{common_steps}
use Rattle.std.proofs.lemmas.List.{at_drop_all}
use Rattle.lynx_shards.specs.Ranges.{shard_of, last_key, table_fault, Covers}
use Rattle.lynx_shards.proofs.Chain.{last_key-push, fault_after, no_gap_if_whole}
use Rattle.lynx_shards.proofs.map.whole_table.Goals as goal

pub loop-range-preserved : goal.loop-range-preserved
loop-range-preserved c =
    let range = get_or c.args.ranges.now c.loop-range.range-index record { low = 0; high = 0; server = 0 } in
    record {
      shards = grind (arith, common_steps);
      rest = ap (λ table. table_fault c.args.servers (last_key None table) (drop (c.loop-range.range-index + 1) c.args.ranges.now)) c.in_ok-add.ensures.ok
          ∙ ap (λ last. table_fault c.args.servers last (drop (c.loop-range.range-index + 1) c.args.ranges.now)) (last_key-push None c.loop-range.table (shard_of range))
          ∙ sym (fault_after c.args.servers (last_key None c.loop-range.table) c.args.ranges.now c.loop-range.range-index record { low = 0; high = 0; server = 0 } c.loop-range-test.true c.in_ok-add.ensures.judged)
          ∙ c.loop-range.invariant.rest;
    }

pub returns-clause-judged : goal.returns-clause-judged
returns-clause-judged c =
    sym c.loop-range.invariant.rest
    ∙ at_drop_all (table_fault c.args.servers (last_key None c.loop-range.table)) c.args.ranges.now c.loop-range.range-index c.loop-range-test.false
    ∙ rw (← c.table-2.view_is) (no_gap_if_whole c.args.servers c.table-2.inside.last c.table-2.inside.shards c.table-2.invariant.0 c.table-2.invariant.1 (subst Covers (sym c.table-2.view_is) (c.if-not-is_whole.ensures.covers.0 refl)))
