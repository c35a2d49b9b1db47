use Rattle.std.proofs.Common.{◌≡◌, ◌∙◌, ℕ, List, ap, length, map, sym}
use Rattle.std.proofs.lemmas.List.{length-map}
use Rattle.std.proofs.lemmas.List.FromFn.{length-range_with_len}
use Rattle.std.specs.Global.{Vec}
use Rattle.std.specs.List.{range_with_len}
use Rattle.lynx_entry.specs.Entry.{History}
use Rattle.lynx_entry.specs.declared.entry.Entry.{Entry}
use Rattle.lynx_set.specs.Set.{Set}
use Rattle.lynx_world.specs.Worlds.{history_of}
use Rattle.lynx_cli.proofs.carrying.store_world.Goals as goal

pub store_histories-requires : goal.store_histories-requires
store_histories-requires g c =
    let servers = c.args.world.now.set.servers in
    let at : ℕ → History = λ server. history_of server c.args.world.now.list in
    ap length c.as_slice.ensures.value
    ∙ sym (length-map c.in-Ok.histories.items (λ (entries : Vec Entry). entries.items))
    ∙ ap length c.in-Ok.ensures
    ∙ length-map (range_with_len 0 servers) at
    ∙ length-range_with_len 0 servers
    ∙ ap (λ (set : Set). set.servers) (sym c.set.ensures.value)
