use Rattle.std.proofs.Common.{subst}
use Rattle.lynx_give.proofs.looking.look_at.Goals as goal

pub returns-in-Ok-place_of : goal.returns-in-Ok-place_of
returns-in-Ok-place_of g c = record {
  opened = c.in-Some.conn;
  at = subst (g.S.Databases.opened_at c.args.folder.now c.args.server) c.in-Some.is c.in-Ok.ensures.opened;
  extendable = c.in-Ok-place_of.ensures.extendable;
  tells = c.in-Ok-place_of.ensures.tells;
}
