use Rattle.std.proofs.Common.{◌≡◌, ◌∙◌, ◌+◌, ◌<◌, ◌≤◌, Some, length, take, get_or, count_by, sym, ap, arith}
use Rattle.std.specs.Prelude.{slice_index}
use Rattle.std.proofs.lemmas.List.FromFn.{fill_by_all}
use Rattle.std.proofs.lemmas.Option.{slice_get-get_or}
use Rattle.lynx_weave.specs.Rebuilt.{told_in}
use Rattle.lynx_weave.specs.Since.{is_fresh_of}
use Rattle.lynx_weave.specs.Weaving.{all_told}
use Rattle.lynx_weave.proofs.Counting.{session_more, session_room, written}
use Rattle.lynx_weave.proofs.Gets.{take_whole}
use Rattle.lynx_weave.proofs.Servings.{many_told, told_there}
use Rattle.lynx_weave.proofs.counts.fresh_of.Goals as goal

pub count_items-requires : goal.count_items-requires
count_items-requires c server below =
    let items = c.items-item.result in
    let there = told_there c.args.told.now c.loop-items.items-index items
    (slice_get-get_or c.args.told.now c.loop-items.items-index items (omega arith) ∙ ap Some (sym c.items-item.is)) in
    let long : length c.as_mut_slice.result.now ≡ length c.loop-items.fresh.items = ap length c.as_mut_slice.ensures.value in
    let many = c.loop-items.invariant.many in
    let within : server < c.args.servers = omega arith in
    let counted = c.loop-items.invariant.counted server within in
    let so_far : slice_index c.as_mut_slice.result.now server ≡ get_or c.loop-items.fresh.items server 0 =
    ap (λ l. slice_index l server) c.as_mut_slice.ensures.value in
    let more : count_by (is_fresh_of server) c.as_slice.result.now ≡ count_by (is_fresh_of server) c.items-item.result.items =
    ap (count_by (is_fresh_of server)) c.as_slice.ensures.value in
    let room = session_room (told_in c.args.told.now) c.loop-items.items-index server c.items-item.result.items there in
    let fits = c.requires server within in
    omega arith

pub loop-items-preserved : goal.loop-items-preserved
loop-items-preserved c =
    let there = told_there c.args.told.now c.loop-items.items-index c.items-item.result
    (slice_get-get_or c.args.told.now c.loop-items.items-index c.items-item.result (omega arith) ∙ ap Some (sym c.items-item.is)) in
    let long : length c.as_mut_slice.result.now ≡ length c.loop-items.fresh.items = ap length c.as_mut_slice.ensures.value in
    let many = c.loop-items.invariant.many in
    let whole = written c.loop-items.fresh.items c.count_items.new.fresh c.loop-items.fresh.len (omega arith) (omega arith) in
    record {
      many = ap length whole ∙ (omega arith);
      counted = λ server below.
          let within : server < length c.as_mut_slice.result.now = omega arith in
          let counted = c.loop-items.invariant.counted server below in
          let stepped = c.count_items.ensures server within in
          let is : get_or c.count_items.new.fresh server 0
          ≡ count_by (is_fresh_of server) (all_told (take c.loop-items.items-index (told_in c.args.told.now))) + count_by (is_fresh_of server) c.items-item.result.items =
          let so_far : slice_index c.as_mut_slice.result.now server ≡ get_or c.loop-items.fresh.items server 0 =
          ap (λ l. slice_index l server) c.as_mut_slice.ensures.value in
          let more : count_by (is_fresh_of server) c.as_slice.result.now ≡ count_by (is_fresh_of server) c.items-item.result.items =
          ap (count_by (is_fresh_of server)) c.as_slice.ensures.value in
          omega arith in
          ap (λ l. get_or l server 0) whole ∙ is
          ∙ sym (session_more (told_in c.args.told.now) c.loop-items.items-index server c.items-item.result.items there);
    }

pub returns : goal.returns
returns c =
    let told = told_in c.args.told.now in
    let all : length (told_in c.args.told.now) ≤ c.loop-items.items-index = let many = many_told c.args.told.now in omega arith in
    fill_by_all (λ server. count_by (is_fresh_of server) (all_told told)) c.loop-items.fresh.items c.args.servers 0 c.loop-items.invariant.many
    (λ server below. c.loop-items.invariant.counted server below
    ∙ ap (λ l. count_by (is_fresh_of server) (all_told l)) (take_whole told c.loop-items.items-index all))
