use Rattle.std.proofs.Common.{[], ◌++◌, ap, ◌∙◌}
use Rattle.lynx_set.specs.Text.{head_lines, tables_lines, programs_lines, text}
use Rattle.lynx_text.proofs.Texts.{three_written}
use Rattle.lynx_text.proofs.printing.print.Goals as goal

pub returns : goal.returns
returns c =
    let set = c.args.set.now in
    three_written c.put_head.new.out.items c.put_tables.new.out.items c.put_programs.new.out.items [] (head_lines set.version set.servers) (tables_lines set.tables set.shards) (programs_lines set.tables set.programs)
    (c.in_ok-put_head.ensures ∙ ap (λ before. before ++ text (head_lines c.version.result c.servers.result)) c.new-out.ensures.items ∙ ap (λ v. text (head_lines v c.servers.result)) c.version.ensures ∙ ap (λ n. text (head_lines set.version n)) c.servers.ensures.value)
    (c.in_ok-put_tables.ensures
    ∙ ap (λ names. c.put_head.new.out.items ++ text (tables_lines names c.tables-2.result.now)) (c.as_slice.ensures.keys ∙ c.tables.ensures)
    ∙ ap (λ tables. c.put_head.new.out.items ++ text (tables_lines set.tables tables)) (c.tables-2.ensures.value ∙ c.shards.ensures))
    (c.in_ok-put_programs.ensures
    ∙ ap (λ names. c.put_tables.new.out.items ++ text (programs_lines names c.programs.result.now.entries)) (c.as_slice-2.ensures.keys ∙ c.tables-3.ensures)
    ∙ ap (λ programs. c.put_tables.new.out.items ++ text (programs_lines set.tables programs)) c.programs.ensures.value)
