use Rattle.std.proofs.Common.{◌≡◌, ℕ, Result, Ok, Err, OnOk, OnErr, T, is_some, sym, ap, ◌∙◌, subst}
use Rattle.std.specs.FinMap as map
use Rattle.std.specs.FinMap.Entries.{is_sorted-put}
use Rattle.std.proofs.lemmas.Result.{on_ok_weaker}
use Rattle.lynx_cells.specs.Database.{cell_cmp, applied}
use Rattle.lynx_cells.proofs.CellOrder.{cell_cmp_total}
use Rattle.lynx_cells.specs.Triples.{entries_of, RisesByCell}
use Rattle.lynx_cells.proofs.Writes.{applied-insert}
use Rattle.lynx_cells.proofs.Maps.{from_entries-put}
use Rattle.lynx_cells.proofs.changes.Changes.put.Goals as goal

-- an outcome either way
either : {X E A B P : Type 0} (r : Result X E) → (A → P) → (B → P) → OnOk r A → OnErr r B → P
either (Ok x) f g a b = f a
either (Err e) f g a b = g b

pub invariant_of-self : goal.invariant_of-self
invariant_of-self c =
    let old = c.self.inside.items.items in
    let new = c.put_change.new.changes.items in
    let cell : ℕ × ℕ = (c.args.table, c.args.key) in
    either c.put_change.result
    (λ (put : entries_of new ≡ map.put cell_cmp cell c.args.value (entries_of old)). subst (λ es. T (map.is_sorted cell_cmp es)) (sym put) (is_sorted-put cell_cmp cell_cmp_total cell c.args.value (entries_of old) c.self.invariant))
    (λ (same : new ≡ old). subst RisesByCell (sym same) c.self.invariant)
    c.put_change.ensures.ok c.put_change.ensures.err

pub returns-clause-ok : goal.returns-clause-ok
returns-clause-ok c =
    let old = c.self.inside.items.items in
    let cell : ℕ × ℕ = (c.args.table, c.args.key) in
    on_ok_weaker c.put_change.result
    (λ put. ap map.from_entries put ∙ from_entries-put (entries_of old) cell c.args.value ∙ ap (λ m. map.insert m cell c.args.value) c.self.view_is)
    c.put_change.ensures.ok

pub returns-clause-writes : goal.returns-clause-writes
returns-clause-writes c =
    on_ok_weaker c.put_change.result
    (λ put db. ap (λ m. applied m db) put ∙ applied-insert c.args.self.now db c.args.table c.args.key c.args.value)
    (returns-clause-ok c)

pub returns-clause-changed_already : goal.returns-clause-changed_already
returns-clause-changed_already c found =
    let cell : ℕ × ℕ = (c.args.table, c.args.key) in
    c.put_change.ensures.changed_already
    (ap is_some (sym (map.get-from_entries cell_cmp_total (entries_of c.self.inside.items.items) cell) ∙ ap (λ m. map.get m cell) c.self.view_is) ∙ found)
