use Rattle.std.proofs.Common.{ap, arith, length}
use Rattle.lynx_report.proofs.Owing.{left_added, left_to_end}
use Rattle.lynx_report.proofs.owed.add_left.Goals as goal

pub loop-hop-preserved : goal.loop-hop-preserved
loop-hop-preserved c = record {
  added = left_added _ _ c.args.owed.now.items c.args.chain.now c.args.reached.now.next c.loop-hop.hop (omega arith) c.loop-hop.invariant.added c.in_ok-push.ensures.items;
  at_once = λ over. absurd (omega arith);
}

pub returns : goal.returns
returns c =
    left_to_end _ c.args.owed.now.items c.args.chain.now c.args.reached.now.next c.loop-hop.hop _ _ (ap length c.hops-hop-end.ensures) (omega arith)
    c.loop-hop.auto.hop-end c.loop-hop.invariant.at_once c.loop-hop.invariant.added
