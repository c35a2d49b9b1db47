use Rattle.std.proofs.Common.{◌≡◌, ◌+◌, ◌<◌, length, sym, ◌∙◌, subst}
use Rattle.std.proofs.Math.Seq.{take-append_seam}
use Rattle.lynx_link.specs.inner.Linking.{AreSoFar, Connects}
use Rattle.lynx_link.proofs.SoFar.{none_yet, connected}
use Rattle.lynx_link.proofs.linking.links.Goals as goal

pub loop-sender-init : goal.loop-sender-init
loop-sender-init c = rw c.in_ok-ends.ensures (none_yet c.args.servers)

pub loop-receiver-preserved : goal.loop-receiver-preserved
loop-receiver-preserved c =
    let sender = c.loop-sender.sender in
    let receiver = c.loop-receiver.receiver in
    let old = c.loop-receiver.ends.items in
    let new = c.connect.new.ends in
    let connects : Connects old new sender receiver = rw c.as_mut_slice.ensures.value at c.in_ok-connect.ensures in
    let inside : sender < c.args.servers = rw c.from-sender-end.ensures at c.loop-sender-test.true in
    let inside_too : receiver < c.args.servers = rw c.from-receiver-end.ensures at c.loop-receiver-test.true in
    let more : AreSoFar c.args.servers sender (receiver + 1) new =
    connected c.args.servers sender receiver old new c.loop-receiver.invariant inside inside_too connects in
    let as_long : c.loop-receiver.ends.len ≡ length new = c.loop-receiver.ends.ok.0 ∙ c.loop-receiver.invariant.counted ∙ sym more.counted in
    subst (AreSoFar c.args.servers sender (receiver + 1)) (sym (rw as_long (take-append_seam new _))) more
