use Rattle.sqlite.specs.Held.{state}
use Rattle.lynx_store.specs.Heading.{owner_in}
use Rattle.lynx_store.proofs.CrashLemmas.{load_is_either}
use Rattle.lynx_store.proofs.laws.a_load_gives_one_of_both.Goals as goal

pub returns : goal.returns
returns g c one other told =
    load_is_either (state g.S.Store c.args.keeper.now.conn) (owner_in c.args.keeper.now.heading) c.args.keeper.now.count one other told
