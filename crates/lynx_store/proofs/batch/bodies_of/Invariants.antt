use Rattle.std.proofs.Common.{◌≡◌, take}
use Rattle.std.specs.List.{AllByRecursion}
use Rattle.lynx_keep.specs.Stored.{HasEncoding}
use Rattle.lynx_sql.specs.Contents.{bodies_in}
use Rattle.lynx_store.specs.Stored.{bodies_of}
use Rattle.lynx_store.proofs.batch.bodies_of.Given as goal

-- the encodings of the entries so far
abbrev pub invariant-loop-entry : goal.invariant-loop-entry
invariant-loop-entry l = record {
  encodings : bodies_in l.bodies.items ≡ bodies_of (take l.entry-index l.entries);
  formed : AllByRecursion HasEncoding (take l.entry-index l.entries);
}
