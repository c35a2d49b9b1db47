use Rattle.std.proofs.Common.{sym, subst, arith}
use Rattle.sqlite.specs.Files.{file_state}
use Rattle.sqlite_wal.specs.Files.{image_at}
use Rattle.lynx_store.specs.Crashes.{FindsEither}
use Rattle.lynx_store.specs.Premise.{IsUndisturbed}
use Rattle.lynx_store.specs.Stored.{owner_for}
use Rattle.lynx_store.proofs.CrashLemmas.{found_in_next}
use Rattle.lynx_store_files.proofs.files.open_made.Goals as goal

pub returns-in-Ok-open-clause-kept : goal.returns-in-Ok-open-clause-kept
returns-in-Ok-open-clause-kept g c = rw c.new.ensures c.in-Ok-open.ensures.kept

pub returns-in-Ok-open-clause-either : goal.returns-in-Ok-open-clause-either
returns-in-Ok-open-clause-either g c =
    rw c.new.ensures (λ clean one other formed others holds.
    let early : IsUndisturbed (file_state c.in-Ok.conn) = omega (arith, clean, c.in-Ok-open.ensures.clean) in
    let owner = owner_for c.args.server c.args.set.now in
    let found = found_in_next c.in-Ok.conn owner one other (image_at g.S.Start) (c.in-Ok.ensures.opened early) (c.in-Ok.ensures.found early) formed others holds in
    c.in-Ok-open.ensures.either clean one other (subst (λ own. FindsEither (file_state c.in-Ok.conn) own one other) (sym c.in-Ok-open.ensures.owner) found))
