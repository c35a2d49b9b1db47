use Rattle.std.proofs.Common.{take, ◌++◌, [], List, sym, ap, ◌∙◌}
use Rattle.std.specs.List.{cons_option}
use Rattle.lynx_foot.specs.declared.touch.Touch.{Touch}
use Rattle.lynx_order.specs.Touchings.{touching, touchings_of}
use Rattle.lynx_order.proofs.Tables.{touchings_at}
use Rattle.lynx_order.proofs.touching.touchings_of.Goals as goal

pub loop-place-preserved : goal.loop-place-preserved
loop-place-preserved c =
    let set = c.args.set.now in
    let chain = c.args.chain.now in
    let place = c.loop-place.place in
    let list = c.args.world.now.list in
    c.in_ok-add_touching.ensures
    ∙ ap (λ xs. xs ++ cons_option (touching place c.from_vec-touches.result) []) c.loop-place.invariant
    ∙ ap (λ (t : List Touch). touchings_of set (take place list) chain ++ cons_option (touching place t) []) (c.from_vec-touches.ensures ∙ c.in_ok-touches_in.ensures)
    ∙ sym (touchings_at set chain list place c.entry_at-entry.result.now c.entry_at-entry.ensures)
