use Rattle.std.proofs.Common.{ap, subst, sym, take, ◌∙◌, arith}
use Rattle.std.specs.List.{AllByRecursion}
use Rattle.lynx_keep.specs.Stored.{HasEncoding}
use Rattle.lynx_store.specs.Stored.{bodies_of}
use Rattle.lynx_store.proofs.Batches.{encodings_more}
use Rattle.lynx_store.proofs.Kept.{formed-append}
use Rattle.lynx_store.proofs.RowsRead.{take_next, take_whole}
use Rattle.lynx_store.proofs.batch.bodies_of.Goals as goal

pub loop-entry-preserved : goal.loop-entry-preserved
loop-entry-preserved c =
    let so_far = c.loop-entry.invariant in
    let entries = c.args.entries.now in
    let i = c.loop-entry.entry-index in
    let next = take_next entries i c.entry-item.result c.loop-entry-test.true c.entry-item.is in
    record {
      encodings = encodings_more entries i c.entry-item.result c.loop-entry.bodies.items _ _ c.loop-entry-test.true c.entry-item.is c.in_ok-push.ensures.items c.in_ok-body_of.ensures.encoding so_far.encodings;
      formed = subst (AllByRecursion HasEncoding) (sym next) (formed-append (take i entries) c.entry-item.result so_far.formed c.in_ok-body_of.ensures.formed);
    }

pub returns : goal.returns
returns c =
    let past = c.loop-entry-test.false in
    let whole = take_whole c.args.entries.now c.loop-entry.entry-index (omega arith) in
    record {
      encodings = c.loop-entry.invariant.encodings ∙ ap bodies_of whole;
      formed = subst (AllByRecursion HasEncoding) whole c.loop-entry.invariant.formed;
    }
