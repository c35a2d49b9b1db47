use Rattle.std.proofs.Common.{◌∙◌, sym}
use Rattle.std.specs.Option.{option_copied}
use Rattle.lynx_status.proofs.AskedLaws.{asked_found, asked_none, asked_refused}
use Rattle.lynx_status.proofs.asking.asked_for.Goals as goal

pub returns-in-Some : goal.returns-in-Some
returns-in-Some c =
    asked_refused c.args.method.now (option_copied c.args.host) c.args.path.now c.in-Some.why (sym c.refused_by.ensures ∙ c.in-Some.is)

pub returns-in-Some-asked_at : goal.returns-in-Some-asked_at
returns-in-Some-asked_at c =
    asked_found c.args.method.now (option_copied c.args.host) c.args.path.now c.in-Some-asked_at.asked (sym c.refused_by.ensures ∙ c.in_default.is)
    c.in-Some-asked_at.ensures.found.0 c.in-Some-asked_at.ensures.found.1 c.in-Some-asked_at.ensures.only

pub returns-in-None : goal.returns-in-None
returns-in-None c =
    asked_none c.args.method.now (option_copied c.args.host) c.args.path.now (sym c.refused_by.ensures ∙ c.in_default.is) c.in-None.ensures.only
