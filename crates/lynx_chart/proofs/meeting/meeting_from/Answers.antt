use Rattle.std.proofs.Common.{◌≡◌, ◌+◌, List, [], drop, sym, ap, ◌∙◌}
use Rattle.std.specs.Option.{option_and_then}
use Rattle.std.proofs.lemmas.Bool.{eqb-true}
use Rattle.std.proofs.lemmas.List.{nil_from_length}
use Rattle.lynx_foot.specs.declared.touch.Touch.{Touch}
use Rattle.lynx_order.specs.Precedence.{touches_in}
use Rattle.lynx_world.specs.Placed.{Placed}
use Rattle.lynx_chart.specs.Meetings.{meeting_behind, meeting_from, node_of}
use Rattle.lynx_chart.proofs.Linked.{no_meeting}
use Rattle.lynx_chart.proofs.meeting.meeting_from.Goals as goal

pub returns-then-is_empty : goal.returns-then-is_empty
returns-then-is_empty c =
    let set = c.args.world.now.set in
    let one = c.args.one.now in
    let other = c.args.other.now in
    let rest = drop (c.args.place + 1) c.args.world.now.list in
    let listed = c.listed_at-listed.result in
    let placed : Placed = record { server = listed.server; entry = listed.entry.now } in
    let none : touches_in set one placed.entry ≡ [] =
    sym (c.as_slice-touches.ensures.value ∙ c.in_ok-found.ensures ∙ ap (λ s. touches_in s one placed.entry) c.set.ensures.value)
    ∙ nil_from_length c.as_slice-touches.result.now (eqb-true _ _ (sym c.is_empty.ensures ∙ c.if-is_empty.true)) in
    sym (no_meeting set other (node_of placed) rest)
    ∙ ap (λ (touches : List Touch). meeting_behind set other (node_of placed) touches rest) (sym none)
    ∙ ap (option_and_then (λ (before : Placed). meeting_from set one other before rest)) c.listed_at-listed.ensures
