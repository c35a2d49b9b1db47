use Rattle.std.proofs.Common.{◌+◌, ◌++◌, ◌∷◌, drop, ap, sym, ◌∙◌, arith}
use Rattle.std.proofs.lemmas.List.{at_drop_more}
use Rattle.lynx_set.specs.Text.{text, hops_lines, hop_lines}
use Rattle.lynx_text.proofs.Texts.{next_written, bound_in-le}
use Rattle.lynx_text.proofs.printing.put_hops.Goals as goal

pub loop-hop-preserved : goal.loop-hop-preserved
loop-hop-preserved c =
    let tables = c.args.tables.now in
    let names = c.args.program.now.names in
    let hops = c.as_slice-hop-items.result.now in
    let after = drop (c.loop-hop.hop-index + 1) hops in
    let hop = c.hop-item.result in
    record {
      written = next_written c.put_hop.new.out.items c.loop-hop.out.items _ (hop_lines tables names c.loop-hop.place hop) (hops_lines tables names c.in_ok-place.place after)
          (hops_lines tables names c.loop-hop.place (drop c.loop-hop.hop-index hops)) c.loop-hop.invariant.written (c.in_ok-place.ensures.written ∙ ap (λ ns. c.loop-hop.out.items ++ text (hop_lines tables ns c.loop-hop.place hop)) c.as_slice.ensures)
          (at_drop_more (hops_lines tables names c.loop-hop.place) hops c.loop-hop.hop-index hop c.loop-hop-test.true
          ∙ ap (λ h. hops_lines tables names c.loop-hop.place (h ∷ after)) (sym c.hop-item.is)
          ∙ ap (λ next. hop_lines tables names c.loop-hop.place hop ++ hops_lines tables names next after) (sym c.in_ok-place.ensures.next));
      few = omega (arith, bound_in-le hop.actions, hop.few_actions, c.in_ok-place.ensures.next, c.loop-hop.invariant.few);
    }
