use Rattle.std.proofs.Common.{rules, IsTrue, subst}
use Rattle.lynx_sql.proofs.SameTable.{same_index, parts_of_index}
use Rattle.lynx_sql.proofs.schema.is_cell_index.Goals as goal

pub returns-then-is_index_named : goal.returns-then-is_index_named
returns-then-is_index_named c =
    let named : IsTrue c.is_index_named.result = search rules in (
      λ over. same_index c.args.index.now (c.is_index_named.ensures.0 named) (c.is_over_cells.ensures.0 over),
      λ is. c.is_over_cells.ensures.1 (parts_of_index c.args.index.now is).1,
    )

pub returns-else-is_index_named : goal.returns-else-is_index_named
returns-else-is_index_named c =
    (λ named. absurd (let no = subst IsTrue c.if-is_index_named.false named in cc), λ is. c.is_index_named.ensures.1 (parts_of_index c.args.index.now is).0)
