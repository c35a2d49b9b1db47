use Rattle.std.proofs.Common.{◌∙◌, [], ◌∷◌, sym}
use Rattle.lynx_worker.proofs.Advancing.{behind_more, sends_more}
use Rattle.lynx_worker.proofs.worker.Worker.send.Goals as goal

pub loop-due-preserved-then-send : goal.loop-due-preserved-then-send
loop-due-preserved-then-send g c = (
  sends_more c.loop-due.yielded (c.in-Some.due ∷ []) c.args.self.now.ends c.loop-due.self.ends c.send.new.ends c.args.self.now.routes c.loop-due.self.routes c.send.new.self
      c.loop-due.invariant.0 c.send.ensures,
  c.saturating_add-self.ensures ∙ sym (behind_more c.args.self.now.reached c.loop-due.yielded c.in-Some.due),
  tt,
  tt,
)

pub loop-due-preserved : goal.loop-due-preserved
loop-due-preserved g c = (
  sends_more c.loop-due.yielded (c.in-Some.due ∷ []) c.args.self.now.ends c.loop-due.self.ends c.send.new.ends c.args.self.now.routes c.loop-due.self.routes c.send.new.self
      c.loop-due.invariant.0 c.send.ensures,
  c.saturating_add-self.ensures ∙ sym (behind_more c.args.self.now.reached c.loop-due.yielded c.in-Some.due),
  tt,
  tt,
)
