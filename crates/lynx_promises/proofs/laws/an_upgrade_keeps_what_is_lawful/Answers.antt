use Rattle.lynx_promises.proofs.Upgraded.{upgraded_lawful, upgraded_legal}
use Rattle.lynx_promises.proofs.laws.an_upgrade_keeps_what_is_lawful.Goals as goal

pub returns-clause-lawful : goal.returns-clause-lawful
returns-clause-lawful c = upgraded_lawful

pub returns-clause-legal : goal.returns-clause-legal
returns-clause-legal c = upgraded_legal
