use Rattle.std.proofs.Common.{refl}
use Rattle.lynx_set.specs.Text.{text_of}
use Rattle.lynx_report.proofs.Asked.{texts_cut_with, texts_print_with}
use Rattle.lynx_report.proofs.RunLemmas.{late_stops}
use Rattle.lynx_report.proofs.run.run_over_set.Goals as goal

pub returns-clause-ok : goal.returns-clause-ok
returns-clause-ok g c =
    texts_print_with _ _ c.args.options.owed (text_of c.args.set) c.args.script.now c.args.set c.in_ok-events.events.items c.run_script.result (c.requires, refl) c.in_ok-events.ensures.found c.run_script.ensures.ok

pub returns-clause-err : goal.returns-clause-err
returns-clause-err g c = late_stops (text_of c.args.set) c.args.script.now _ c.run_script.result c.run_script.ensures.late

pub returns-clause-part : goal.returns-clause-part
returns-clause-part g c =
    texts_cut_with _ _ c.args.options.owed (text_of c.args.set) c.args.script.now c.args.set c.in_ok-events.events.items c.run_script.result (c.requires, refl) c.in_ok-events.ensures.found c.run_script.ensures.part
