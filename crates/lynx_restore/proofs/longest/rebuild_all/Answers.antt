use Rattle.std.proofs.Common.{◌≡◌, ◌<◌, ◌+◌, length, get_or, slice_get, Some, sym, ap, ◌∙◌, subst, arith}
use Rattle.std.proofs.lemmas.Option.{slice_get-get_or}
use Rattle.lynx_weave.specs.Rebuilt.{histories_in}
use Rattle.lynx_weave.proofs.Rebuildings.{history_at}
use Rattle.lynx_restore.specs.Longest.{IsLongest}
use Rattle.lynx_restore.proofs.Longests.{AreLongestBelow, longest_more}
use Rattle.lynx_restore.proofs.longest.rebuild_all.Goals as goal

pub loop-number-preserved : goal.loop-number-preserved
loop-number-preserved c =
    let set = c.args.set.now in
    let found = c.args.found.now in
    let number = c.loop-number.number in
    let entries = c.index-found-from.result in
    let test = c.loop-number-test.true in
    let end = c.servers-number-end.ensures.value in
    let many = c.requires in
    let place_is : c.from.result ≡ number = c.from.ensures in
    let inside : number < length found = omega (arith, test, end, many) in
    let there : slice_get found number ≡ Some entries =
    slice_get-get_or found number entries inside ∙ ap Some (sym (subst (λ p. entries ≡ get_or found p entries) place_is c.index-found-from.is)) in
    let is =
    subst (λ n. IsLongest set n entries.items c.in-Ok.rebuilt) c.at.ensures
    (subst (λ es. IsLongest set c.at.result es c.in-Ok.rebuilt) c.as_slice-entries.ensures.value c.in-Ok.ensures) in
    subst (AreLongestBelow set (histories_in found) (number + 1)) (sym c.in_ok-add-in-Ok.ensures)
    (longest_more set (histories_in found) number c.loop-number.servers.items entries.items c.in-Ok.rebuilt (history_at found number entries there) is
    c.loop-number.invariant)
