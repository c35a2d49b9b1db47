use Rattle.std.proofs.Common.{rules, IsTrue, subst}
use Rattle.lynx_sql.proofs.SameTable.{same_place, parts_of_place}
use Rattle.lynx_sql.proofs.schema.is_place_index.Goals as goal

pub returns-then-is_acted_index : goal.returns-then-is_acted_index
returns-then-is_acted_index c =
    let named : IsTrue c.is_acted_index.result = search rules in (
      λ over. same_place c.args.index.now (c.is_acted_index.ensures.0 named) (c.is_place_key.ensures.0 over),
      λ is. c.is_place_key.ensures.1 (parts_of_place c.args.index.now is).1,
    )

pub returns-else-is_acted_index : goal.returns-else-is_acted_index
returns-else-is_acted_index c =
    (λ named. absurd (let no = subst IsTrue c.if-is_acted_index.false named in cc), λ is. c.is_acted_index.ensures.1 (parts_of_place c.args.index.now is).0)
