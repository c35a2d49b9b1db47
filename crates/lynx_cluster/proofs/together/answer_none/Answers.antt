use Rattle.std.proofs.Common.{◌∙◌, arith}
use Rattle.lynx_cluster.proofs.Submissions.{unanswered_next}
use Rattle.lynx_cluster.proofs.together.answer_none.Goals as goal

pub loop-preserved : goal.loop-preserved
loop-preserved c =
    let was = c.loop.invariant in
    record {
      answers = c.push_reserved.ensures.items ∙ unanswered_next c.args.is_stopped c.loop.counter c.args.answers.now.items c.loop.answers.items c.unbegun.result c.unbegun.ensures was.answers;
      len = omega (arith, was.len, c.push_reserved.ensures.len);
      capacity = c.push_reserved.ensures.capacity ∙ was.capacity;
    }
