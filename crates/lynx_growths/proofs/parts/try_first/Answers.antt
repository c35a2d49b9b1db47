use Rattle.std.proofs.Common.{All, ◌<◌, ◌∙◌, [], ℕ, sym, subst}
use Rattle.std.proofs.lemmas.List.Elements.{All-get_or}
use Rattle.std.proofs.lemmas.Option.{get_or_from_slice_get, slice_get_within}
use Rattle.lynx_names.specs.declared.limits.TheConstants.{MAX_SERVERS}
use Rattle.lynx_entry.specs.Entry.{History}
use Rattle.lynx_codec.specs.Entries.{IsEntryInRange}
use Rattle.lynx_server.proofs.InRange.{all-in_range}
use Rattle.lynx_growths.proofs.parts.try_first.Goals as goal

pub try_entry-requires : goal.try_entry-requires
try_entry-requires c =
    let server = c.args.server.now in
    let history = c.history.result.now in
    let entry = c.in-Some.entry.now in
    let here = sym c.in-Some.ensures.value in
    let within : server.server < MAX_SERVERS =
    subst (λ (n : ℕ). n < MAX_SERVERS) (c.number.ensures.value ∙ c.server.ensures) c.number.ensures.in_range in
    let all : All IsEntryInRange history =
    subst (λ (h : History). All IsEntryInRange h) (sym c.history.ensures.value)
    (all-in_range server.set server.server [] server.history within c.history.ensures.lawful) in
    subst IsEntryInRange (get_or_from_slice_get history 0 entry entry here)
    (All-get_or IsEntryInRange history 0 entry (slice_get_within history 0 entry here) all)
