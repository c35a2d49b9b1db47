use Rattle.std.proofs.Common.{◌∙◌, ◌++◌, ◌∷◌, [], ap, sym, append_assoc}
use Rattle.lynx_rerun.proofs.Lines.{keepers_push}
use Rattle.lynx_rerun.proofs.closing.keepers_of.Goals as goal

pub loop-server-preserved : goal.loop-server-preserved
loop-server-preserved g c =
    let done = c.loop-server.yielded in
    let is = c.loop-server.invariant in
    record {
      kept = keepers_push _ _ done c.in-Some.server is.kept c.in_ok-add.ensures;
      split = is.split ∙ ap (λ rest. done ++ rest) c.in-Some.ensures.steps.0 ∙ sym (append_assoc done (c.in-Some.server ∷ []) c.next.new.self.rest.items);
    }
