use Rattle.std.proofs.Common.{◌∙◌, ◌++◌, List, Option, ap, sym}
use Rattle.std.specs.Prelude.{option_and_then, option_to_list, slice_get}
use Rattle.lynx_entry.specs.declared.entry.Entry.{Entry}
use Rattle.lynx_world.specs.Worlds.{entry_at}
use Rattle.lynx_carry.proofs.Takes.{filter_map_take_more}
use Rattle.lynx_carry.proofs.server_histories.history_of.Goals as goal

pub loop-place-preserved : goal.loop-place-preserved
loop-place-preserved c =
    let list = c.args.world.now.list in
    let place = c.loop-place.place in
    let here = entry_at c.args.server in
    c.in_ok-add.ensures
    ∙ ap (λ (entry : Option Entry). c.loop-place.history.items ++ option_to_list entry) c.in_ok-entry.ensures
    ∙ ap (λ (history : List Entry). history ++ option_to_list (option_and_then here (slice_get list place))) c.loop-place.invariant
    ∙ sym (filter_map_take_more here list place)
