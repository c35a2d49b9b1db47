use Rattle.std.proofs.Common.{◌∙◌, Option, ap, sym}
use Rattle.std.specs.BTreeMap.{get}
use Rattle.std.specs.Option.{option_or}
use Rattle.lynx_names.specs.declared.chain.ChainId.{ChainId}
use Rattle.lynx_report.specs.Owed.{chain_cmp}
use Rattle.lynx_report.specs.declared.reached.Reached.{Reached}
use Rattle.lynx_report.specs.Lasts.{told_at, told_of}
use Rattle.lynx_report.specs.inner.Reached.{reached_in}
use Rattle.lynx_report.proofs.Lasts.{last_of-more}
use Rattle.lynx_report.proofs.reached.reached_chains.Goals as goal

pub loop-place-preserved : goal.loop-place-preserved
loop-place-preserved c =
    let list = c.args.world.now.list in
    let place = c.loop-place.place in
    λ chain.
    c.in_ok-note.ensures chain
    ∙ ap (λ (r : Option (ChainId × Reached)). option_or (told_of chain r) (get chain_cmp c.loop-place.chains chain)) c.reached_at.ensures
    ∙ ap (option_or (told_of chain (told_at reached_in list place))) (c.loop-place.invariant chain)
    ∙ sym (last_of-more reached_in list place chain)
