-- A hop on its way, and what all its actions come to.
use Rattle.std.specs.Prelude.{List}
use Rattle.lynx_cells.specs.Database.{Database, applied}
use Rattle.lynx_set.specs.declared.action.Action.{Action}
use Rattle.lynx_hops.specs.declared.run.Running.{Running}
use Rattle.lynx_hops.specs.Meaning.{HopOutcome, after_results, run}

-- the database as it is now
abbrev pub here : Running → Database
here running = applied running.changes running.cells.now.database

-- what has come out, and what the rest of the actions come to
abbrev pub outcome_of : Running → List Action → HopOutcome
outcome_of running rest =
    after_results running.results
    (run running.args.now running.needs rest running.names (here running))
