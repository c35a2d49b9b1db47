use Rattle.std.proofs.Common.{◌<◌, ◌∙◌, length, sym, subst, arith}
use Rattle.lynx_entry.specs.declared.entry.Entry.{Entry}
use Rattle.lynx_keep.specs.HeldBack.{held_terms}
use Rattle.lynx_restore.specs.Refills.{WasAsked}
use Rattle.lynx_restore.proofs.Refillings.{refilling_more, refilling_still}
use Rattle.lynx_restore.proofs.refilling.refill.Goals as goal

pub loop-place-preserved : goal.loop-place-preserved
loop-place-preserved g c =
    let terms = held_terms g.K.Keeper.terms in
    let first = c.args.server in
    let all = c.args.entries.now in
    let place = c.loop-place.place in
    let old = c.loop-place.server in
    let settled = c.settle_before.new.server in
    let new = c.ask_again.new.server in
    let entry = c.index-entries-place.result in
    let test = c.loop-place-test.true in
    let inside : place < length all = omega (arith, test) in
    refilling_more terms first all place entry settled new inside
    (refilling_still terms first all place old settled c.loop-place.invariant c.in_ok-settle_before.ensures.runs)
    (subst (λ (e : Entry). WasAsked terms settled e new) c.index-entries-place.is c.in_ok-ask_again.ensures.runs)

pub returns-clause-filled : goal.returns-clause-filled
returns-clause-filled g c =
    let still = refilling_still (held_terms g.K.Keeper.terms) c.args.server c.args.entries.now c.loop-place.place c.loop-place.server c.settle.new.server
    c.loop-place.invariant c.in_ok-settle.ensures.runs in
    record {
      goes_on = still.goes_on;
      history_is = sym c.history.ensures.value ∙ c.are_same.ensures.0 c.if-not-are_same.false;
      settled = c.in_ok-settle.ensures.settled;
    }
