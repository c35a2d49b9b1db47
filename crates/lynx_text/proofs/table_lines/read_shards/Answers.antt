use Rattle.std.proofs.Common.{◌≡◌, ap, sym, ◌∙◌, length, arith}
use Rattle.std.proofs.lemmas.Result.{err_from_is_err_and}
use Rattle.lynx_text.specs.Pieces.{begins}
use Rattle.lynx_text.specs.Parts.{goes_shard, next_shard}
use Rattle.lynx_text.proofs.Loops.{parts_more, parts_fail, parts_done, Fails-from}
use Rattle.lynx_text.proofs.table_lines.read_shards.Goals as goal
use Rattle.lynx_text.proofs.table_lines.read_shards.Goals.{After-begins_with}

asked : (c : After-begins_with) → c.begins_with.result ≡ goes_shard c.shards.lines
asked c = c.begins_with.ensures ∙ ap (begins c.shards.lines) c.as_slice.ensures

pub shards-preserved : goal.shards-preserved
shards-preserved c = record {
  few = c.in_ok-read_shard.ensures.few;
  shrinks = omega (arith, c.in_ok-read_shard.ensures.shrinks, c.shards.invariant.shrinks);
  rest = parts_more goes_shard (next_shard c.args.servers) 64 (length c.shards.shards) (length c.read_shard.new.shards) c.shards.shards c.read_shard.new.shards c.shards.lines c.read_shard.new.lines _
      (sym (asked (goal.at.shards-preserved c).After-begins_with) ∙ c.shards-test.true) c.in_ok-read_shard.ensures.value c.in_ok-read_shard.ensures.count c.in_ok-read_shard.ensures.few c.shards.invariant.rest;
}

pub returns-in_err-read_shard-clause-value : goal.returns-in_err-read_shard-clause-value
returns-in_err-read_shard-clause-value c =
    let p = err_from_is_err_and c.from_residual.result c.from_residual.ensures.1 in
    rw (p.1, p.2) (Fails-from c.in_err-read_shard.field-0.0 (next_shard c.args.servers c.shards.shards c.shards.lines) _
    (λ none. parts_fail goes_shard (next_shard c.args.servers) _ c.shards.shards c.shards.lines _ (sym (asked (goal.at.returns-in_err-read_shard-clause-value c).After-begins_with) ∙ c.shards-test.true) none c.shards.invariant.rest)
    c.in_err-read_shard.ensures.value)

pub returns-clause-value : goal.returns-clause-value
returns-clause-value c =
    parts_done goes_shard (next_shard c.args.servers) _ c.shards.shards c.shards.lines _ (sym (asked (goal.at.returns-clause-value c).After-begins_with) ∙ c.shards-test.false) c.shards.invariant.rest
