use Rattle.std.proofs.Common.{All, [], ◌-◌, ◌<◌, arith, drop, take}
use Rattle.std.proofs.lemmas.Result.{IfOk-weaker}
use Rattle.std.proofs.lemmas.List.Elements.{All-drop, All-same, All-take}
use Rattle.lynx_codec.specs.Entries.{IsEntryInRange}
use Rattle.lynx_entry.specs.Entry.{History}
use Rattle.lynx_resting.specs.Resting.{settled_front}
use Rattle.lynx_names.specs.declared.limits.TheConstants.{MAX_SERVERS}
use Rattle.lynx_server.proofs.InRange.{all-in_range}
use Rattle.lynx_cluster.proofs.glancing.entries_from.Goals as goal

-- what is copied is a part of a lawful history
pub returns-clause-range : goal.returns-clause-range
returns-clause-range g c =
    let within : c.args.state.now.here.server < MAX_SERVERS = omega (arith, c.number.ensures.in_range, c.number.ensures.value, c.server.ensures) in
    let front : History = settled_front c.args.state.now in
    let history : History = c.settled-history.result.now in
    let start = c.min-start.result in
    let length = c.min-end.result - start in
    let whole : All IsEntryInRange front = all-in_range c.args.state.now.here.set c.args.state.now.here.server [] front within c.settled-history.ensures.lawful in
    let all = All-same IsEntryInRange history front c.settled-history.ensures.value whole in
    let part = All-take IsEntryInRange length (drop start history) (All-drop IsEntryInRange start history all) in
    IfOk-weaker c.copies_of.result _ _ (λ copies is. All-same IsEntryInRange copies.items (take length (drop start history)) is part) c.copies_of.ensures
