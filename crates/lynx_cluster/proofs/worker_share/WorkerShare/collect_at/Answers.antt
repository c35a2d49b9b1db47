use Rattle.std.proofs.Common.{get_or, ℕ, Option, sym, subst}
use Rattle.std.proofs.lemmas.Option.{slice_get-get_or}
use Rattle.lynx_entry.specs.declared.message.Message.{Message}
use Rattle.lynx_server.specs.Owed.{IsFirstOwed}
use Rattle.lynx_resting.specs.Resting.{settled_part}
use Rattle.lynx_set.specs.Set.{Set}
use Rattle.lynx_cluster.specs.inner.Serving.{AddsFound}
use Rattle.lynx_cluster.proofs.Owings.{gone_all, gone_by, gone_on, gone_past}
use Rattle.lynx_cluster.proofs.worker_share.WorkerShare.collect_at.Goals as goal

pub loop-place-preserved-then-place-clear : goal.loop-place-preserved-then-place-clear
loop-place-preserved-then-place-clear g c =
    let loop = c.loop-place in
    gone_by (settled_part c.args.state.now) c.args.places.now loop.place-index loop.clear loop.dues.items _
    (slice_get-get_or c.args.places.now loop.place-index 0 c.loop-place-test.true) c.if-place-clear.true loop.invariant

pub returns-in_default-clause-all : goal.returns-in_default-clause-all
returns-in_default-clause-all g c =
    let loop = c.loop-place in
    let state = settled_part c.args.state.now in
    let here = get_or c.args.places.now loop.place-index 0 in
    gone_past state c.args.places.now loop.place-index loop.clear loop.dues.items _ (slice_get-get_or c.args.places.now loop.place-index 0 c.loop-place-test.true)
    (subst (λ (found : Option (ℕ × Message)). IsFirstOwed state here found) c.in_default.is c.in_ok-found.ensures) loop.invariant

pub loop-place-preserved : goal.loop-place-preserved
loop-place-preserved g c =
    let loop = c.loop-place in
    let state = settled_part c.args.state.now in
    let here = get_or c.args.places.now loop.place-index 0 in
    let first = subst (λ (found : Option (ℕ × Message)). IsFirstOwed state here found) c.in-Some.is c.in_ok-found.ensures in
    gone_on state c.args.places.now loop.place-index loop.clear loop.dues.items c.add_found.new.dues.items _ c.in-Some.found c.in-Some.message
    (slice_get-get_or c.args.places.now loop.place-index 0 c.loop-place-test.true) first.0 first.1 first.2
    (subst (λ (set : Set). AddsFound set here c.in-Some.found c.in-Some.message loop.dues.items c.add_found.new.dues.items) (sym c.requires) c.in_ok-add_found.ensures)
    loop.invariant

pub returns-clause-all : goal.returns-clause-all
returns-clause-all g c =
    let loop = c.loop-place in
    gone_all (settled_part c.args.state.now) c.args.places.now loop.place-index loop.clear loop.dues.items c.loop-place-test.false loop.invariant
