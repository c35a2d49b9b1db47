use Rattle.std.proofs.Common.{◌∙◌, ◌++◌, [], ap, sym}
use Rattle.std.proofs.lemmas.List.{append-nil}
use Rattle.lynx_codec.specs.Encoding.{encoding}
use Rattle.lynx_codec.specs.Feeding.{Stream}
use Rattle.lynx_world.proofs.carrying.read_first.Goals as goal

pub returns : goal.returns
returns c item is same =
    c.next.ensures.whole item [] is
    (ap (λ (s : Stream). s.rest) c.in_ok-push.ensures.ok ∙ ap (λ (s : Stream). s.rest ++ c.args.bytes.now) c.new-feed.ensures
    ∙ same ∙ sym (append-nil (encoding item)))
