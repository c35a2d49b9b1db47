use Rattle.std.proofs.Common.{◌∙◌, Some, max, take, sym, ap, arith}
use Rattle.std.proofs.lemmas.Option.{slice_get-get_or}
use Rattle.lynx_weave.specs.Servers.{histories_of}
use Rattle.lynx_weave.specs.Told.{greatest_told}
use Rattle.lynx_weave.proofs.Marking.{bad_at, greatest_more, marked_all, stepped, well_all}
use Rattle.lynx_weave.proofs.judging.judge_items.Goals as goal

pub returns-then-not-branch : goal.returns-then-not-branch
returns-then-not-branch c =
    bad_at (histories_of c.args.servers.now) c.args.starts.now c.args.marks.now c.loop-place.marks c.judge_item.new.marks c.args.items.now c.loop-place.place
    c.loop-place.greatest c.index-items-place.result c.in_ok-judge_item.field-0
    (slice_get-get_or c.args.items.now c.loop-place.place c.index-items-place.result (omega arith) ∙ ap Some (sym c.index-items-place.is))
    c.loop-place.invariant.greatest c.loop-place.invariant.marked c.in_ok-judge_item.ensures c.if-not-branch.true

pub loop-place-preserved : goal.loop-place-preserved
loop-place-preserved c =
    let there = slice_get-get_or c.args.items.now c.loop-place.place c.index-items-place.result (omega arith) ∙ ap Some (sym c.index-items-place.is) in
    let next = stepped (histories_of c.args.servers.now) c.args.starts.now c.args.marks.now c.loop-place.marks c.judge_item.new.marks c.args.items.now c.loop-place.place
    c.loop-place.greatest c.index-items-place.result c.in_ok-judge_item.field-0 there
    c.loop-place.invariant.greatest c.loop-place.invariant.well c.loop-place.invariant.marked c.in_ok-judge_item.ensures c.if-not-branch.false in
    record {
      well = next.well;
      greatest =
          c.later-greatest.ensures ∙ ap (λ n. max n c.stamp.result) c.loop-place.invariant.greatest
          ∙ ap (max (greatest_told (take c.loop-place.place c.args.items.now))) c.stamp.ensures
          ∙ sym (greatest_more c.args.items.now c.loop-place.place c.index-items-place.result there);
      marked = next.marked;
    }

pub returns : goal.returns
returns c = (
  well_all (histories_of c.args.servers.now) c.args.starts.now c.args.items.now c.loop-place.place (omega arith) c.loop-place.invariant.well,
  marked_all (histories_of c.args.servers.now) c.args.marks.now c.loop-place.marks c.args.items.now c.loop-place.place (omega arith) c.loop-place.invariant.marked,
)
