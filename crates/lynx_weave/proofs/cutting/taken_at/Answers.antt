use Rattle.std.proofs.Common.{◌≡◌, ◌∙◌, ◌<◌, ◌≤◌, ℕ, Some, None, get_or, option_map, sym, ap, subst, arith}
use Rattle.std.specs.Option.{option_copied}
use Rattle.std.proofs.lemmas.Option.{get_or_from_slice_get, slice_get-get_or}
use Rattle.lynx_server.specs.Acts.{act_of, is_act}
use Rattle.lynx_server.specs.Books.{IsFoundAt}
use Rattle.lynx_set.specs.declared.program.Hop.{Hop}
use Rattle.lynx_set.specs.Lookups.{server_at}
use Rattle.lynx_weave.proofs.Agreements.{history_there}
use Rattle.lynx_weave.proofs.Gets.{item}
use Rattle.lynx_weave.proofs.Servings.{lawful_all}
use Rattle.lynx_weave.proofs.Fronts.{act_inside, act_outside, found_nowhere, sender_front, sender_nowhere}
use Rattle.lynx_weave.proofs.cutting.taken_at.Goals as goal

pub returns-then-number-servers : goal.returns-then-number-servers
returns-then-number-servers c =
    let home : server_at c.args.set.now c.args.message.now.program c.args.before ≡ Some c.index-number.result =
    ap (server_at c.args.set.now c.args.message.now.program) (sym c.from.ensures)
    ∙ ap (option_map (λ (found : Hop). found.server)) (sym c.hop.ensures ∙ ap option_copied c.in-Some.is)
    ∙ ap Some (sym c.index-number.ensures.value) in
    sym (sender_nowhere c.args.set.now c.args.servers.now c.args.counts.now c.args.message.now c.args.before c.index-number.result c.requires.counts home c.if-number-servers.true)

pub returns-in_default-place_of : goal.returns-in_default-place_of
returns-in_default-place_of c =
    let home : server_at c.args.set.now c.args.message.now.program c.args.before ≡ Some c.index-number.result =
    ap (server_at c.args.set.now c.args.message.now.program) (sym c.from.ensures)
    ∙ ap (option_map (λ (found : Hop). found.server)) (sym c.hop.ensures ∙ ap option_copied c.in-Some.is)
    ∙ ap Some (sym c.index-number.ensures.value) in
    let number = c.index-number.result in
    let here = c.index-servers-number.result in
    let inside = c.if-number-servers.false in
    let there = slice_get-get_or c.args.servers.now number here inside ∙ ap Some (sym c.index-servers-number.is) in
    let many = c.requires.counts in
    let count = item c.args.counts.now number (omega (arith, inside, many)) in
    let front = sender_front c.args.set.now c.args.servers.now c.args.counts.now c.args.message.now c.args.before number count.0 here home there count.1 in
    sym (front ∙ found_nowhere (is_act c.args.message.now.chain c.args.before) here.history count.0 c.in_default-place_of.ensures)

pub returns-then-place-counts : goal.returns-then-place-counts
returns-then-place-counts c =
    let home : server_at c.args.set.now c.args.message.now.program c.args.before ≡ Some c.index-number.result =
    ap (server_at c.args.set.now c.args.message.now.program) (sym c.from.ensures)
    ∙ ap (option_map (λ (found : Hop). found.server)) (sym c.hop.ensures ∙ ap option_copied c.in-Some.is)
    ∙ ap Some (sym c.index-number.ensures.value) in
    let number = c.index-number.result in
    let here = c.index-servers-number.result in
    let inside = c.if-number-servers.false in
    let there = slice_get-get_or c.args.servers.now number here inside ∙ ap Some (sym c.index-servers-number.is) in
    let many = c.requires.counts in
    let count = item c.args.counts.now number (omega (arith, inside, many)) in
    let front = sender_front c.args.set.now c.args.servers.now c.args.counts.now c.args.message.now c.args.before number count.0 here home there count.1 in
    let lawful = lawful_all c.args.set.now c.args.servers.now c.requires.servers number here.history (history_there c.args.servers.now number here there) in
    let counted : get_or c.args.counts.now number 0 ≡ count.0 = get_or_from_slice_get c.args.counts.now number count.0 0 count.1 in
    let found = subst (λ o. IsFoundAt here.history o (act_of c.args.message.now.chain c.args.before here.history)) c.in-Some-place_of.is c.place_of.ensures in
    let test = c.if-place-counts.true in
    let below : c.in-Some-place_of.place < count.0 = omega (arith, test, counted) in
    c.entry.ensures ∙ act_inside c.args.set.now number here.history c.args.message.now.chain c.args.before count.0 c.in-Some-place_of.place lawful below found.0 found.1 ∙ sym front

pub returns-else-place-counts : goal.returns-else-place-counts
returns-else-place-counts c =
    let home : server_at c.args.set.now c.args.message.now.program c.args.before ≡ Some c.index-number.result =
    ap (server_at c.args.set.now c.args.message.now.program) (sym c.from.ensures)
    ∙ ap (option_map (λ (found : Hop). found.server)) (sym c.hop.ensures ∙ ap option_copied c.in-Some.is)
    ∙ ap Some (sym c.index-number.ensures.value) in
    let number = c.index-number.result in
    let here = c.index-servers-number.result in
    let inside = c.if-number-servers.false in
    let there = slice_get-get_or c.args.servers.now number here inside ∙ ap Some (sym c.index-servers-number.is) in
    let many = c.requires.counts in
    let count = item c.args.counts.now number (omega (arith, inside, many)) in
    let front = sender_front c.args.set.now c.args.servers.now c.args.counts.now c.args.message.now c.args.before number count.0 here home there count.1 in
    let lawful = lawful_all c.args.set.now c.args.servers.now c.requires.servers number here.history (history_there c.args.servers.now number here there) in
    let counted : get_or c.args.counts.now number 0 ≡ count.0 = get_or_from_slice_get c.args.counts.now number count.0 0 count.1 in
    let found = subst (λ o. IsFoundAt here.history o (act_of c.args.message.now.chain c.args.before here.history)) c.in-Some-place_of.is c.place_of.ensures in
    let test = c.if-place-counts.false in
    let above : count.0 ≤ c.in-Some-place_of.place = omega (arith, test, counted) in
    sym (front ∙ act_outside c.args.set.now number here.history c.args.message.now.chain c.args.before count.0 c.in-Some-place_of.place lawful above found.0 found.1)
