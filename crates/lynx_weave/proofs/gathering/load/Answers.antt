use Rattle.std.proofs.Common.{refl}
use Rattle.lynx_keep.specs.Kept.{kept_in}
use Rattle.lynx_weave.proofs.gathering.load.Goals as goal

pub returns : goal.returns
returns g c = record {
  found = kept_in c.in_ok-loaded.loaded;
  finds = record {
    read = record { sound_before = c.load.ensures.sound; stop = c.load.ensures.stop; counts = c.load.ensures.counts };
    kept = c.in_ok-loaded.ensures.ok;
    all = c.in_ok-loaded.ensures.all;
  };
  history_is = refl;
}
