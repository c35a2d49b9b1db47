use Rattle.std.proofs.Common.{length, ap, ◌∙◌, arith}
use Rattle.lynx_set.specs.Text.{tables_lines}
use Rattle.lynx_reasons.proofs.HopLines.{few_lines, line_of-is, lines_to_hop-le}
use Rattle.lynx_reasons.proofs.hop_lines.line_of.Goals as goal

pub lines_of_tables-tables-requires : goal.lines_of_tables-tables-requires
lines_of_tables-tables-requires c =
    let set = c.args.set.now in
    let few = few_lines set c.requires c.args.place.now.program in
    let tables =
    ap (λ names. length (tables_lines names c.tables-2.result.now)) (c.as_slice.ensures.keys ∙ c.tables.ensures)
    ∙ ap (λ shards. length (tables_lines set.tables shards)) (c.tables-2.ensures.value ∙ c.shards.ensures) in
    omega (arith, few, tables)

pub lines_of_programs-programs-requires : goal.lines_of_programs-programs-requires
lines_of_programs-programs-requires c =
    let few = few_lines c.args.set.now c.requires c.args.place.now.program in
    omega (arith, few)

pub lines_in_program-requires : goal.lines_in_program-requires
lines_in_program-requires c =
    let few = few_lines c.args.set.now c.requires c.args.place.now.program in
    omega (arith, few)

pub overflow_add-result : goal.overflow_add-result
overflow_add-result c =
    let set = c.args.set.now in
    let few = few_lines set c.requires c.args.place.now.program in
    let tables =
    ap (λ names. length (tables_lines names c.tables-2.result.now)) (c.as_slice.ensures.keys ∙ c.tables.ensures)
    ∙ ap (λ shards. length (tables_lines set.tables shards)) (c.tables-2.ensures.value ∙ c.shards.ensures) in
    omega (arith, few, tables, c.lines_of_tables-tables.ensures)

pub overflow_add-result-2 : goal.overflow_add-result-2
overflow_add-result-2 c =
    let set = c.args.set.now in
    let few = few_lines set c.requires c.args.place.now.program in
    let tables =
    ap (λ names. length (tables_lines names c.tables-2.result.now)) (c.as_slice.ensures.keys ∙ c.tables.ensures)
    ∙ ap (λ shards. length (tables_lines set.tables shards)) (c.tables-2.ensures.value ∙ c.shards.ensures) in
    omega (arith, few, tables, c.lines_of_tables-tables.ensures, c.lines_of_programs-programs.ensures)

pub overflow_add-result-3 : goal.overflow_add-result-3
overflow_add-result-3 c =
    let set = c.args.set.now in
    let place = c.args.place.now in
    let few = few_lines set c.requires place.program in
    let own = lines_to_hop-le set place in
    let tables =
    ap (λ names. length (tables_lines names c.tables-2.result.now)) (c.as_slice.ensures.keys ∙ c.tables.ensures)
    ∙ ap (λ shards. length (tables_lines set.tables shards)) (c.tables-2.ensures.value ∙ c.shards.ensures) in
    omega (arith, few, own, tables, c.lines_of_tables-tables.ensures, c.lines_of_programs-programs.ensures, c.lines_in_program.ensures)

pub returns : goal.returns
returns c =
    let set = c.args.set.now in
    let is = line_of-is set c.args.place.now in
    let tables =
    ap (λ names. length (tables_lines names c.tables-2.result.now)) (c.as_slice.ensures.keys ∙ c.tables.ensures)
    ∙ ap (λ shards. length (tables_lines set.tables shards)) (c.tables-2.ensures.value ∙ c.shards.ensures) in
    omega (arith, is, tables, c.lines_of_tables-tables.ensures, c.lines_of_programs-programs.ensures, c.lines_in_program.ensures)
