use Rattle.std.proofs.Common.{refl, sym, subst}
use Rattle.lynx_entry.specs.declared.message.Message.{Message}
use Rattle.lynx_server.specs.inner.Repeating.{HasAdded, unkept_terms}
use Rattle.lynx_server.specs.Serving.{delivery_of}
use Rattle.lynx_server.proofs.Repeating.{delivered_again}
use Rattle.lynx_server.proofs.replay.Server+Unkept.deliver_again.Goals as goal

pub returns : goal.returns
returns c =
    let old = c.args.self.now in
    let new = c.deliver-delivered.new.self in
    subst (λ (m : Message). HasAdded old (delivery_of old m).added (delivery_of old m).held new) c.in_ok-copy.ensures
    (delivered_again unkept_terms (λ keeper. refl) old c.in_ok-copy.field-0 c.deliver-delivered.result new c.requires (sym c.if-is_undelivered.ensures) (c.deliver-delivered.ensures.delivers c.requires))
