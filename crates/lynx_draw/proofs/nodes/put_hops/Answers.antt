use Rattle.std.proofs.Common.{◌+◌, ◌++◌, ◌∷◌, drop, ap, sym, ◌∙◌, arith}
use Rattle.std.proofs.lemmas.List.{at_drop_more}
use Rattle.lynx_text.proofs.Texts.{bound_in-le}
use Rattle.lynx_draw.specs.Nodes.{hop_text, hops_text, spot_at}
use Rattle.lynx_draw.proofs.Written.{next_written}
use Rattle.lynx_draw.proofs.nodes.put_hops.Goals as goal

pub loop-number-preserved : goal.loop-number-preserved
loop-number-preserved c =
    let set = c.args.set.now in
    let names = c.as_slice-names.result.now in
    let program = c.args.program in
    let again = c.args.again in
    let hops = c.as_slice-hops.result.now in
    let number = c.loop-number.number in
    let place = c.loop-number.place in
    let hop = c.index-hops-number.result in
    let after = drop (number + 1) hops in
    let next = c.in_ok-place.place in
    record {
      written = next_written c.loop-number.out.items c.put_hop.new.out.items _ (hop_text set names place (spot_at program number again) hop)
          (hops_text set names program again next (number + 1) after) (hops_text set names program again place number (drop number hops))
          c.loop-number.invariant.written
          (c.in_ok-place.ensures.written ∙ ap (λ spot. c.loop-number.out.items ++ hop_text set names place spot hop) c.spot_at-spot.ensures)
          (at_drop_more (hops_text set names program again place number) hops number hop c.loop-number-test.true
          ∙ ap (λ h. hops_text set names program again place number (h ∷ after)) (sym c.index-hops-number.is)
          ∙ ap (λ n. hop_text set names place (spot_at program number again) hop ++ hops_text set names program again n (number + 1) after) (sym c.in_ok-place.ensures.next));
      few = omega (arith, bound_in-le hop.actions, hop.few_actions, c.in_ok-place.ensures.next, c.loop-number.invariant.few);
    }
