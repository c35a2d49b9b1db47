use Rattle.std.proofs.Common.{All, ◌<◌, ◌∙◌, [], ℕ, sym, subst}
use Rattle.lynx_names.specs.declared.limits.TheConstants.{MAX_SERVERS}
use Rattle.lynx_entry.specs.Entry.{History}
use Rattle.lynx_codec.specs.Entries.{IsEntryInRange}
use Rattle.lynx_server.specs.inner.Repeating.{IsReplay, IsReplayed}
use Rattle.lynx_server.specs.declared.replay.Replayed.{Replayed}
use Rattle.lynx_server.proofs.InRange.{all-in_range}
use Rattle.lynx_server.proofs.rebuilding.rebuild.Goals as goal

pub keeping-requires : goal.keeping-requires
keeping-requires c =
    let set = c.args.set.now in
    let server = c.args.server in
    let entries = c.as_slice.result.now in
    let replayed : IsReplayed set server entries c.in-Done.replayed =
    subst (λ (r : Replayed). IsReplay set server entries r) c.in-Done.is c.in_ok-replayed.ensures in
    let within : server < MAX_SERVERS = subst (λ (n : ℕ). n < MAX_SERVERS) c.number.ensures.value c.number.ensures.in_range in
    subst (λ (h : History). All IsEntryInRange h) (c.as_slice.ensures.value ∙ sym c.as_slice-2.ensures.value)
    (all-in_range set server [] entries within replayed.lawful)
