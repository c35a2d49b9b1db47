use Rattle.lynx_lines.proofs.Parts.{on_err}
use Rattle.lynx_report.proofs.Asked.{run_with, stopped_end, stopped_events, stopped_rest}
use Rattle.lynx_report.proofs.run.run_script.Goals as goal

pub returns-clause-ok : goal.returns-clause-ok
returns-clause-ok g c =
    run_with _ _ _ _ c.args.options.owed c.args.set c.args.events.items c.in_ok-world.world c.run_events.new.world c.in_ok-ending.ending
    c.in_ok-world.ensures c.in_ok-run_events.ensures.worlds c.in_ok-run_events.ensures.lines c.in_ok-ending.ensures.ok c.in_ok-write_rest.ensures.ok

pub returns-in_err-run_events-clause-part : goal.returns-in_err-run_events-clause-part
returns-in_err-run_events-clause-part g c =
    on_err c.from_residual-in_err-run_events.result
    (stopped_events _ _ c.args.options.owed c.args.set c.args.events.items c.in_ok-world.world c.in_ok-world.ensures c.in_err-run_events.ensures.part)

pub returns-in_err-ending-clause-part : goal.returns-in_err-ending-clause-part
returns-in_err-ending-clause-part g c =
    on_err c.from_residual-in_err-ending.result
    (stopped_end _ _ _ c.args.options.owed c.args.set c.args.events.items c.in_ok-world.world c.run_events.new.world
    c.in_ok-world.ensures c.in_ok-run_events.ensures.worlds c.in_ok-run_events.ensures.lines c.in_err-ending.ensures.part)

pub returns-in_err-write_rest-clause-part : goal.returns-in_err-write_rest-clause-part
returns-in_err-write_rest-clause-part g c =
    on_err c.from_residual-in_err-write_rest.result
    (stopped_rest _ _ _ _ c.args.options.owed c.args.set c.args.events.items c.in_ok-world.world c.run_events.new.world c.in_ok-ending.ending
    c.in_ok-world.ensures c.in_ok-run_events.ensures.worlds c.in_ok-run_events.ensures.lines c.in_ok-ending.ensures.ok c.in_err-write_rest.ensures.part)
