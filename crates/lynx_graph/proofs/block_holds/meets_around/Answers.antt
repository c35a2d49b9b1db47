use Rattle.std.proofs.Common.{◌≡◌, ◌∷◌, ◌+◌, Bool, true, false, ◌&&◌, drop, ap, sym, ◌∙◌}
use Rattle.std.proofs.lemmas.List.{at_drop_all, at_drop_more}
use Rattle.lynx_graph.specs.declared.meeting.Place.{Place}
use Rattle.lynx_graph.specs.Blocks.{entrance_of, exit_of}
use Rattle.lynx_graph.specs.inner.BlockTests.{meets, meets_around}
use Rattle.lynx_graph.proofs.block_holds.meets_around.Goals as goal
use Rattle.lynx_graph.proofs.block_holds.meets_around.Goals.{After-meets}

-- whether the block meets the next one decides with what is left behind it
asked : (c : After-meets) → meets_around c.args.set.now c.args.first.now c.args.first.now c.args.rest.now ≡ (c.meets.result && meets_around c.args.set.now c.args.first.now c.next-item.result (drop (c.loop-next.next-index + 1) c.args.rest.now))
asked c =
    let set = c.args.set.now in
    let first = c.args.first.now in
    let rest = c.args.rest.now in
    let block = c.loop-next.block.now in
    let next = c.next-item.result in
    let left = drop (c.loop-next.next-index + 1) rest in
    sym c.loop-next.invariant
    ∙ at_drop_more (meets_around set first block) rest c.loop-next.next-index next c.loop-next-test.true
    ∙ ap (λ n. meets_around set first block (n ∷ left)) (sym c.next-item.is)
    ∙ ap (λ b. b && meets_around set first next left)
    (ap (λ (e : Place). meets set e (entrance_of next)) (sym c.exit_of.ensures) ∙ ap (λ (e : Place). meets set c.exit_of.result e) (sym c.entrance_of.ensures) ∙ sym c.meets.ensures)

pub returns-then-not-meets : goal.returns-then-not-meets
returns-then-not-meets c =
    sym (asked (goal.at.returns-then-not-meets c).After-meets ∙ ap (λ b. b && meets_around c.args.set.now c.args.first.now c.next-item.result (drop (c.loop-next.next-index + 1) c.args.rest.now)) c.if-not-meets.true)

pub loop-next-preserved : goal.loop-next-preserved
loop-next-preserved c =
    sym (asked (goal.at.loop-next-preserved c).After-meets ∙ ap (λ b. b && meets_around c.args.set.now c.args.first.now c.next-item.result (drop (c.loop-next.next-index + 1) c.args.rest.now)) c.if-not-meets.false)

pub returns : goal.returns
returns c =
    let set = c.args.set.now in
    let first = c.args.first.now in
    c.meets-2.ensures ∙ ap (λ (e : Place). meets set e c.entrance_of-2.result) c.exit_of-2.ensures ∙ ap (λ (e : Place). meets set (exit_of c.loop-next.block.now) e) c.entrance_of-2.ensures
    ∙ sym (at_drop_all (meets_around set first c.loop-next.block.now) c.args.rest.now c.loop-next.next-index c.loop-next-test.false) ∙ c.loop-next.invariant
