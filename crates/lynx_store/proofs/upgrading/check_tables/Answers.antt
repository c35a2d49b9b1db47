use Rattle.std.proofs.Common.{rules, IsTrue, ℕ, List, ◌<◌, length, All, subst, ◌∙◌}
use Rattle.lynx_store.proofs.upgrading.check_tables.Goals as goal

pub returns-clause-ok : goal.returns-clause-ok
returns-clause-ok c =
    let all : IsTrue c.are_in_tables.result = search rules in
    let P : List (ℕ × ℕ × ℕ) → Type 0 = λ cells. All (λ cell. cell.0 < length c.args.held.now.set.tables) cells in
    subst P (c.as_slice.ensures.value ∙ c.in_ok-cells.ensures.entries) (c.are_in_tables.ensures.0 all)
