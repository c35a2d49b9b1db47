use Rattle.std.proofs.lemmas.Result.{IfOk-weaker}
use Rattle.lynx_cli.proofs.mending.picture.Goals as goal

pub returns : goal.returns
returns c = IfOk-weaker c.draw_changed.result _ _ (λ picture is. record {
  mended = c.args.set.now;
  changed = c.requires;
  verdict = c.in_ok-verdict.verdict;
  judges = c.in_ok-verdict.ensures;
  picture = is;
}) c.draw_changed.ensures
