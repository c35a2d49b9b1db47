use Rattle.lynx_weave.specs.Rebuilt.{histories_in}
use Rattle.lynx_weave.proofs.Loadings.{all_kept_on}
use Rattle.lynx_weave.proofs.gathering.gather.Goals as goal

pub returns-in-Err-Memory-clause-gathers : goal.returns-in-Err-Memory-clause-gathers
returns-in-Err-Memory-clause-gathers g c =
    all_kept_on g.K.Keeper.terms c.args.keepers.now c.load_all.new.keepers (histories_in c.in_ok-histories.histories.items) c.in_ok-histories.ensures.all
