use Rattle.lynx_store.proofs.CrashLemmas.{left_in}
use Rattle.lynx_store.proofs.laws.a_stop_leaves_one_of_both.Goals as goal

pub returns : goal.returns
returns g c owner one other image sound clean leaves may =
    left_in c.args.was.now.store (sound.numbered clean) (sound.found clean) owner one other image leaves may
