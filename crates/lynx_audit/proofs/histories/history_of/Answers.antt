use Rattle.std.proofs.Common.{sym}
use Rattle.lynx_audit.proofs.histories.history_of.Goals as goal

pub returns-in-Ok-clause-ok : goal.returns-in-Ok-clause-ok
returns-in-Ok-clause-ok g c = record {
  here = c.in-Ok.opened;
  opened = c.in-Ok.ensures;
  history_is = sym c.into_parts.ensures.history;
}
