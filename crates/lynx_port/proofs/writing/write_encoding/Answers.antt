use Rattle.lynx_port.proofs.WriteLemmas.{wrote_more}
use Rattle.lynx_port.proofs.writing.write_encoding.Goals as goal

pub loop-rest-preserved-in-Ok : goal.loop-rest-preserved-in-Ok
loop-rest-preserved-in-Ok g c = record {
  wrote = rw c.split_at.ensures.back (wrote_more _ _ _ _ _ _ c.loop-rest.invariant.wrote c.in-Ok.ensures.bytes);
  turns = c.loop-rest.invariant.turns;
}
