use Rattle.std.proofs.Common.{◌∙◌, ◌++◌, List, ℕ, ap}
use Rattle.lynx_cells.specs.Database.{applied}
use Rattle.lynx_entry.specs.Entry.{History}
use Rattle.lynx_keep.specs.Kept.{KeptState, with_entries}
use Rattle.lynx_keep.specs.Stored.{entries_in}
use Rattle.lynx_keep.proofs.Keeping.{same_kept}
use Rattle.lynx_keep.proofs.Stored.{stored-both}
use Rattle.lynx_keep.proofs.memory_keeper.MemoryKeeper.keep_all.Goals as goal

pub invariant_of-self-2 : goal.invariant_of-self-2
invariant_of-self-2 c =
    (stored-both c.self.inside.encodings.items c.in_ok-encodings.encodings.items c.extend_from_slice.new.self.items c.self.invariant c.in_ok-encodings.ensures.0
    (c.in_ok-extend_from_slice.ensures.items ∙ ap (λ (bytes : List ℕ). c.self.inside.encodings.items ++ bytes) c.as_slice.ensures.value)).0

pub returns-clause-ok : goal.returns-clause-ok
returns-clause-ok c =
    let both = stored-both c.self.inside.encodings.items c.in_ok-encodings.encodings.items c.extend_from_slice.new.self.items c.self.invariant c.in_ok-encodings.ensures.0
    (c.in_ok-extend_from_slice.ensures.items ∙ ap (λ (bytes : List ℕ). c.self.inside.encodings.items ++ bytes) c.as_slice.ensures.value) in
    same_kept _ (entries_in c.self.inside.encodings.items ++ c.args.entries.now) _ (applied c.args.changes.now c.self.inside.cells.database)
    (both.1 ∙ ap (λ (entries : History). entries_in c.self.inside.encodings.items ++ entries) c.in_ok-encodings.ensures.1)
    (c.apply.ensures.database ∙ ap (applied c.args.changes.now) c.stage.ensures.database)
    ∙ ap (λ (kept : KeptState). with_entries kept c.args.entries.now c.args.changes.now) c.self.view_is
