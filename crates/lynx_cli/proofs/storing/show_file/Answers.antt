use Rattle.std.proofs.Common.{refl}
use Rattle.std.proofs.KnownBytes.{Appends-kept}
use Rattle.lynx_cli.proofs.storing.show_file.Goals as goal

pub returns : goal.returns
returns g c = record {
  copy = c.in_ok-copy.copy;
  from = c.in_ok-copy.ensures;
  read = c.show_store.new.conn;
  lists = λ undisturbed.
      let listed = c.in-Ok.ensures.ok undisturbed in
      let written = Appends-kept (g.W.Write.contents c.args.writer.now) (g.W.Write.contents c.show_store.new.writer)
      (g.W.Write.contents c.hint_unlawful.new.writer) _ listed.5 c.hint_unlawful.ensures in
      (listed.0, listed.1, listed.2, listed.3, listed.4, written);
  status_is = refl;
}
