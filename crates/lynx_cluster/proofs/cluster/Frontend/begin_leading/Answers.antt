use Rattle.std.proofs.Common.{◌∷◌, List, false, ap, arith, length, length-append, subst, sym}
use Rattle.lynx_entry.specs.declared.answer.Answer.TheVariants as answers
use Rattle.lynx_entry.specs.declared.request.Request.{Request}
use Rattle.lynx_cluster.specs.inner.Together.{BeginsLeading}
use Rattle.lynx_cluster.proofs.Runs.{one_pushed}
use Rattle.lynx_cluster.proofs.Submissions.{leads_then, unasked}
use Rattle.lynx_cluster.proofs.cluster.Frontend.begin_leading.Goals as goal

pub begin_run-requires-clause-room : goal.begin_run-requires-clause-room
begin_run-requires-clause-room g c =
    omega (arith, c.requires.places, ap length c.in-Ok.ensures.split, length-append c.in-Ok.leading.items c.take_leading.new.rest.items)

pub returns-in-Ok-clause-begins : goal.returns-in-Ok-clause-begins
returns-in-Ok-clause-begins g c =
    leads_then c.args.self.now.set c.args.session.now c.begin_run.new.session c.in-Ok.leading.items (c.args.first ∷ c.args.rest.now.items) c.take_leading.new.rest.items
    c.args.answers.now.items c.begin_run.new.answers.items c.in-Ok.ensures.split c.begin_run.ensures.begins

pub returns-in-Ok-clause-fewer : goal.returns-in-Ok-clause-fewer
returns-in-Ok-clause-fewer g c =
    omega (arith, c.in-Ok.ensures.some, ap length c.in-Ok.ensures.split, length-append c.in-Ok.leading.items c.take_leading.new.rest.items)

pub returns-in-Ok-clause-count : goal.returns-in-Ok-clause-count
returns-in-Ok-clause-count g c =
    omega (arith, c.begin_run.ensures.len, ap length c.in-Ok.ensures.split, length-append c.in-Ok.leading.items c.take_leading.new.rest.items)

pub returns-in-Err-clause-begins : goal.returns-in-Err-clause-begins
returns-in-Err-clause-begins g c =
    subst (λ (rest : List Request). BeginsLeading c.args.self.now.set c.args.session.now (c.args.first ∷ c.args.rest.now.items) rest c.args.answers.now.items c.push_reserved.new.self.items c.args.session.now)
    (sym c.in-Err.ensures.same)
    (one_pushed c.args.self.now.set c.args.session.now c.args.session.now c.args.first c.args.rest.now.items c.args.answers.now.items c.push_reserved.new.self.items answers.Memory
    (unasked c.args.self.now.set c.args.first c.args.session.now false) c.push_reserved.ensures.items)
