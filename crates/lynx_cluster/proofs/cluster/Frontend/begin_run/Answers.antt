use Rattle.std.proofs.Common.{◌∙◌, ◌++◌, List, false, ap, arith}
use Rattle.lynx_entry.specs.declared.answer.Answer.{Answer}
use Rattle.lynx_cluster.specs.inner.Submitting.{unanswered}
use Rattle.lynx_cluster.proofs.Submissions.{run_unanswered}
use Rattle.lynx_cluster.proofs.cluster.Frontend.begin_run.Goals as goal

pub returns-in-Err-clause-begins : goal.returns-in-Err-clause-begins
returns-in-Err-clause-begins g c =
    run_unanswered c.args.self.now.set c.args.session.now c.try_begin_run.new.session c.args.requests.items false _ c.args.answers.now.items c.answer_none.new.answers.items
    c.in-Err.ensures.same_session (omega (arith, c.len-count.ensures, c.args.requests.ok))
    (c.answer_none.ensures.answers ∙ ap (λ (gs : List Answer). gs ++ unanswered false c.len-count.result) c.in-Err.ensures.same_answers)
