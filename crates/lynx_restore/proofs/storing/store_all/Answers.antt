use Rattle.std.proofs.Common.{length, sym, ap, ◌∙◌}
use Rattle.std.specs.Global.{Vec}
use Rattle.std.proofs.lemmas.List.{length-map}
use Rattle.lynx_entry.specs.declared.entry.Entry.{Entry}
use Rattle.lynx_weave.specs.Servers.{histories_of}
use Rattle.lynx_weave.proofs.Fronts.{length_fronts}
use Rattle.lynx_weave.proofs.Servings.{many_of}
use Rattle.lynx_restore.proofs.storing.store_all.Goals as goal

pub store_histories-requires : goal.store_histories-requires
store_histories-requires g c =
    let servers = c.args.servers.now in
    let many = many_of servers in
    ap length c.as_slice.ensures.value
    ∙ sym (length-map c.in_ok-fronts.fronts.items (λ (entries : Vec Entry). entries.items))
    ∙ ap length c.in_ok-fronts.ensures
    ∙ length_fronts c.args.counts.now (histories_of servers) (c.requires.many ∙ sym many)
    ∙ many
    ∙ c.requires.servers
