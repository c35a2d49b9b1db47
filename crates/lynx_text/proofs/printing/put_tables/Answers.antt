use Rattle.std.proofs.Common.{◌++◌, ◌+◌, drop, ap, sym, ◌∙◌}
use Rattle.std.proofs.lemmas.Bool.{ltb-true}
use Rattle.lynx_set.specs.Text.{text, table_lines, tables_lines}
use Rattle.lynx_text.proofs.Texts.{next_written, tables_lines-more, tables_lines-past}
use Rattle.lynx_text.proofs.printing.put_tables.Goals as goal
use Rattle.lynx_text.proofs.printing.put_tables.Goals.{in-Some+in_ok-put_table, in_default}

pub loop-place-preserved : goal.loop-place-preserved
loop-place-preserved c =
    let names = c.args.names.now in
    let tables = c.args.tables.now in
    let i = c.loop-place.place in
    elim c.match-get.branch [
      | in-Some+in_ok-put_table w ↦
          let shards = w.as_slice.result.now in
          let found = w.in-Some.ensures.lookup in
          ap (λ out. out.items ++ text (tables_lines (drop (i + 1) names) (drop (i + 1) tables))) w.out-is
          ∙ next_written w.put_table.new.out.items c.loop-place.out.items _ (table_lines c.index-names-place.result shards) (tables_lines (drop (i + 1) names) (drop (i + 1) tables)) (tables_lines (drop i names) (drop i tables))
          c.loop-place.invariant w.in_ok-put_table.ensures
          (tables_lines-more names tables i c.index-names-place.result shards c.loop-place-test.true (ltb-true _ _ (sym found.0)) c.index-names-place.is (w.as_slice.ensures ∙ found.3.1 shards))
      | in_default w ↦
          ap (λ out. out.items ++ text (tables_lines (drop (i + 1) names) (drop (i + 1) tables))) w.out-is
          ∙ ap (λ ls. c.loop-place.out.items ++ text ls) (sym (tables_lines-past (drop i names) (drop (i + 1) names) tables i w.in_default.ensures.lookup.3))
          ∙ c.loop-place.invariant
    ]
