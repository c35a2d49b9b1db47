use Rattle.std.proofs.Common.{◌∙◌, ap, subst, sym}
use Rattle.lynx_set.specs.Rules.{IsSet}
use Rattle.lynx_set.proofs.Upgraded.{set_two, upgraded_is}
use Rattle.lynx_set.proofs.upgrade.upgrade_set.Goals as goal

pub returns-clause-legal : goal.returns-clause-legal
returns-clause-legal c = λ is. subst IsSet (sym (c.at_version.ensures ∙ ap set_two c.in_ok-copied.ensures)) (upgraded_is c.args.set.now is)
