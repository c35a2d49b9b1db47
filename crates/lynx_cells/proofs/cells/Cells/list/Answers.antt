use Rattle.std.proofs.Common.{◌++◌, ℕ, List, sym, ap, ◌∙◌, subst, append-nil}
use Rattle.std.specs.FinMap as map
use Rattle.lynx_cells.specs.Database.{IsZeroFree}
use Rattle.lynx_cells.specs.Contents.{Contents}
use Rattle.lynx_cells.specs.Triples.{triples_of}
use Rattle.lynx_cells.proofs.Slots.{shown, entries-database, IsZeroFree-database}
use Rattle.lynx_cells.proofs.cells.Cells.list.Goals as goal

pub returns-in_err-push-clause-zero_free : goal.returns-in_err-push-clause-zero_free
returns-in_err-push-clause-zero_free c =
    subst (λ (contents : Contents). IsZeroFree contents.database) c.self.view_is (IsZeroFree-database c.self.inside.slots.entries)

-- no slot is left
pub returns-clause-entries : goal.returns-clause-entries
returns-clause-entries c =
    let list = c.loop-table.list.items in
    let gives = c.into_iter-table-iterator.ensures.into_iter_gives in
    sym (append-nil list)
    ∙ ap (λ (rest : List ((ℕ × ℕ) × ℕ)). list ++ triples_of (shown rest)) (sym c.in-None.ensures.steps.0)
    ∙ c.loop-table.invariant
    ∙ ap (λ (slots : List ((ℕ × ℕ) × ℕ)). triples_of (shown slots)) gives.0
    ∙ ap triples_of (sym (entries-database c.self.inside.slots gives.5))
    ∙ ap (λ (contents : Contents). triples_of (map.entries contents.database)) c.self.view_is

pub returns-clause-zero_free : goal.returns-clause-zero_free
returns-clause-zero_free c =
    subst (λ (contents : Contents). IsZeroFree contents.database) c.self.view_is (IsZeroFree-database c.self.inside.slots.entries)
