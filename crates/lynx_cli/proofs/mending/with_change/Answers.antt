use Rattle.std.proofs.Common.{subst, sym}
use Rattle.lynx_set.specs.Set.{Set}
use Rattle.lynx_cli.specs.Mendings.{IsChanged}
use Rattle.lynx_cli.proofs.mending.with_change.Goals as goal

pub changed-requires : goal.changed-requires
changed-requires c =
    subst (λ (mended : Set). IsChanged c.args.set.now mended) (sym c.set.ensures.value) (record {
      is_set = c.set.ensures.legal;
      accepted = c.set.ensures.accepted;
      own = λ accepted. absurd (c.requires accepted);
    })
