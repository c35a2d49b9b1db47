use Rattle.lynx_store.proofs.CrashLemmas.{left_in}
use Rattle.lynx_store.proofs.laws.stopped.Goals as goal

pub returns : goal.returns
returns g c clean owner one other image leaves may =
    left_in c.into_store.result (c.into_store.ensures.numbered clean) (c.into_store.ensures.sound clean) owner one other image
    (λ db left. leaves db (c.into_store.ensures.quiet.outcomes db left)) may
