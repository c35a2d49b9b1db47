use Rattle.std.proofs.Common.{refl, sym, subst}
use Rattle.lynx_entry.specs.declared.request.Request.{Request}
use Rattle.lynx_rules.specs.Answers.{answer}
use Rattle.lynx_server.specs.inner.Repeating.{HasAdded, unkept_terms}
use Rattle.lynx_server.proofs.Repeating.{begun_again}
use Rattle.lynx_server.proofs.replay.Server+Unkept.begin_again.Goals as goal

pub returns : goal.returns
returns c =
    let old = c.args.self.now in
    let new = c.begin-answer.new.self in
    subst (λ (r : Request). HasAdded old (answer old.set old.server old.history r c.args.seen).added old.held new) c.in_ok-copy.ensures
    (begun_again unkept_terms (λ keeper. refl) old c.in_ok-copy.field-0 c.args.seen c.begin-answer.result new c.requires (sym c.if-is_unserved.ensures) (c.begin-answer.ensures.begins c.requires))
