use Rattle.std.proofs.Common.{◌∙◌, subst}
use Rattle.lynx_entry.specs.declared.message.Message.{Message}
use Rattle.lynx_server.specs.Serving.{Becomes, delivery_of}
use Rattle.lynx_restore.proofs.Refillings.{delivered_on}
use Rattle.lynx_restore.proofs.refilling.deliver_again.Goals.{in-Memory, in-Stopped, in_default}
use Rattle.lynx_restore.proofs.refilling.deliver_again.Goals as goal

pub returns-clause-runs : goal.returns-clause-runs
returns-clause-runs g c =
    let old = c.args.server.now in
    let new = c.deliver.new.self in
    elim c.match-deliver.branch [
      | in-Memory w ↦ rw w.result-is tt
      | in-Stopped w ↦ rw w.result-is tt
      | in_default w ↦
          let becomes = delivered_on g.K.Keeper.terms old c.in_ok-copy.field-0 c.deliver.result new w.in_default.not-Memory w.in_default.not-Stopped
          (c.deliver.ensures.delivers c.requires) in
          rw w.result-is
          (record {
            becomes = subst (λ (m : Message). Becomes old (delivery_of old m).added (delivery_of old m).held new) c.in_ok-copy.ensures becomes;
            runs = becomes.stopped_is ∙ c.requires;
            sound_before = (c.deliver.ensures.lasts c.requires).sound_before;
          })
    ]
