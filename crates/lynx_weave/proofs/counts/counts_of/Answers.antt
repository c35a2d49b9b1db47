use Rattle.std.proofs.Common.{◌≡◌, ◌∙◌, ◌++◌, [], ◌∷◌, Some, count_by, drop, get_or, length, map, sym, ap, arith}
use Rattle.std.specs.List.{range_with_len}
use Rattle.std.proofs.lemmas.List.FromFn.{get_or-map-range_with_len, length-map-range_with_len, map-range_with_len_more}
use Rattle.std.proofs.lemmas.Option.{slice_get-get_or}
use Rattle.lynx_weave.specs.Rebuilt.{told_in}
use Rattle.lynx_weave.specs.Servers.{histories_of}
use Rattle.lynx_weave.specs.Since.{answers_begin, counts_at, is_fresh_of}
use Rattle.lynx_weave.specs.Weaving.{all_told}
use Rattle.lynx_weave.proofs.Counting.{counts_there}
use Rattle.lynx_weave.proofs.counts.counts_of.Goals as goal

pub index-requires : goal.index-requires
index-requires c =
    let many : length c.in_ok-fresh.fresh.items ≡ length c.args.servers.now =
    ap length c.in_ok-fresh.ensures ∙ length-map-range_with_len _ 0 (length c.args.servers.now) in
    omega arith

pub loop-number-preserved : goal.loop-number-preserved
loop-number-preserved c =
    let number = c.loop-number.number in
    let here = c.index-servers-number.result in
    let there = slice_get-get_or c.args.servers.now c.loop-number.number here (omega arith) ∙ ap Some (sym c.index-servers-number.is) in
    let all = all_told (told_in c.args.told.now) in
    let counts = counts_at (histories_of c.args.servers.now) c.args.starts.now (all_told (told_in c.args.told.now)) in
    let fresh = c.index.result.now in
    c.in_ok-push.ensures.items
    ∙ ap (λ l. l ++ record { fresh = fresh; begins = c.begins_since.result } ∷ []) c.loop-number.invariant
    ∙ ap (λ counted. map counts (range_with_len 0 number) ++ counted ∷ [])
    (counts_there c.args.servers.now c.args.starts.now all number fresh c.begins_since.result here there
    (c.index.ensures ∙ ap (λ l. get_or l number fresh) c.in_ok-fresh.ensures
    ∙ get_or-map-range_with_len (λ server. count_by (is_fresh_of server) all) 0 (length c.args.servers.now) number number fresh (omega arith) (omega arith))
    (c.begins_since.ensures ∙ ap (λ h. count_by answers_begin (drop (get_or c.args.starts.now number 0) h)) c.history.ensures.value))
    ∙ sym (map-range_with_len_more counts 0 number number (omega arith))
