use Rattle.std.proofs.Common.{◌∙◌, ◌++◌, [], ◌∷◌, ℕ, List, ap, arith, map, sym}
use Rattle.std.proofs.lemmas.List.{map-append}
use Rattle.std.proofs.lemmas.List.FromFn.{map-range_with_len_more}
use Rattle.std.specs.Global.{Vec}
use Rattle.std.specs.List.{range_with_len}
use Rattle.lynx_entry.specs.Entry.{History}
use Rattle.lynx_entry.specs.declared.entry.Entry.{Entry}
use Rattle.lynx_weave.specs.Rebuilt.{histories_in}
use Rattle.lynx_world.specs.Worlds.{history_of}
use Rattle.lynx_carry.proofs.server_histories.histories.Goals as goal

pub loop-number-preserved : goal.loop-number-preserved
loop-number-preserved c =
    let at : ℕ → History = λ server. history_of server c.args.world.now.list in
    let number = c.loop-number.number in
    let last = c.in_ok-history.history in
    ap histories_in c.in_ok-push.ensures.items
    ∙ map-append (λ (entries : Vec Entry). entries.items) c.loop-number.histories.items (last ∷ [])
    ∙ ap (λ (histories : List History). histories ++ last.items ∷ []) c.loop-number.invariant
    ∙ ap (λ (history : History). map at (range_with_len 0 number) ++ history ∷ []) (c.in_ok-history.ensures ∙ ap at c.at.ensures)
    ∙ sym (map-range_with_len_more at 0 number number (omega arith))
