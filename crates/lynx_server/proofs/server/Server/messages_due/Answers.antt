use Rattle.std.proofs.Common.{◌≡◌, ◌≤◌, ◌∙◌, Some, length, slice_get, refl, sym, ap, arith}
use Rattle.std.proofs.lemmas.Option.{slice_get_read}
use Rattle.lynx_entry.specs.Entry.{History}
use Rattle.lynx_server.proofs.Owing.{nothing_more, nothing_past}
use Rattle.lynx_server.proofs.server.Server.messages_due.Goals as goal

pub loop-place-preserved : goal.loop-place-preserved
loop-place-preserved g c =
    let there = slice_get_read c.history-history.result.now _ c.loop-place.place c.index-history-place.result refl c.loop-place-test.true c.index-history-place.is in
    let read : slice_get c.args.self.now.history c.loop-place.place ≡ Some c.index-history-place.result =
    ap (λ (history : History). slice_get history c.loop-place.place) (sym c.history-history.ensures.value) ∙ there in
    nothing_more c.args.self.now c.args.from c.loop-place.place c.index-history-place.result c.loop-place.invariant read
    (sym c.in_ok-message.ensures ∙ c.in_default-2.is)

pub returns : goal.returns
returns g c =
    let same = ap length c.history-history.ensures.value in
    let over = c.loop-place-test.false in
    let past : length c.args.self.now.history ≤ c.loop-place.place = omega (arith, same, over) in
    nothing_past c.args.self.now c.args.from c.loop-place.place c.loop-place.invariant past
