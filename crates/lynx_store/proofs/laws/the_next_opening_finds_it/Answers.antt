use Rattle.lynx_store.proofs.CrashLemmas.{found_in_next}
use Rattle.lynx_store.proofs.laws.the_next_opening_finds_it.Goals as goal

pub returns : goal.returns
returns g c = found_in_next c.args.next.now
