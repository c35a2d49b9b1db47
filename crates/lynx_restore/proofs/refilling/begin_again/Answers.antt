use Rattle.std.proofs.Common.{◌∙◌, subst}
use Rattle.lynx_entry.specs.declared.request.Request.{Request}
use Rattle.lynx_server.specs.Serving.{Becomes, begins_here}
use Rattle.lynx_restore.proofs.Refillings.{begun_on}
use Rattle.lynx_restore.proofs.refilling.begin_again.Goals.{in-Memory, in-Stopped, in_default}
use Rattle.lynx_restore.proofs.refilling.begin_again.Goals as goal

pub returns-clause-runs : goal.returns-clause-runs
returns-clause-runs g c =
    let old = c.args.server.now in
    let new = c.begin.new.self in
    elim c.match-begin.branch [
      | in-Memory w ↦ rw w.result-is tt
      | in-Stopped w ↦ rw w.result-is tt
      | in_default w ↦
          let becomes = begun_on g.K.Keeper.terms old c.in_ok-copy.field-0 c.args.seen c.begin.result new w.in_default.not-Memory w.in_default.not-Stopped
          (c.begin.ensures.begins c.requires) in
          rw w.result-is
          (record {
            becomes = subst (λ (r : Request). Becomes old (begins_here old r c.args.seen).added old.held new) c.in_ok-copy.ensures becomes;
            runs = becomes.stopped_is ∙ c.requires;
            sound_before = (c.begin.ensures.lasts c.requires).sound_before;
          })
    ]
