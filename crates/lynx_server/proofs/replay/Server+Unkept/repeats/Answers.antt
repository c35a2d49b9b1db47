use Rattle.std.proofs.Common.{◌≡◌, ◌∙◌, ap, subst, slice_get, length, Option, Some, List}
use Rattle.std.specs.Bool.{Decides}
use Rattle.lynx_entry.specs.declared.entry.Entry.{Entry}
use Rattle.lynx_server.proofs.Repeating.{repeats}
use Rattle.lynx_server.proofs.Same.{found_decides}
use Rattle.lynx_server.proofs.replay.Server+Unkept.repeats.Goals as goal

pub returns : goal.returns
returns c =
    let old = c.args.self.now in
    let new = c.ask_again.new.self in
    let told = found_decides c.entry.result c.args.entry c.eq.result c.eq.ensures in
    repeats old new c.args.entry.now c.eq.result c.history-place.ensures.lawful c.requires c.in_ok-ask_again.ensures
    (subst (λ (o : Option Entry). Decides c.eq.result (o ≡ Some c.args.entry.now))
    (c.entry.ensures ∙ ap (λ (h : List Entry). slice_get new.history (length h)) c.history-place.ensures.value) told)
