use Rattle.std.proofs.Common.{◌∷◌, [], ap, arith, length}
use Rattle.lynx_cluster.proofs.Runs.{leads_more}
use Rattle.lynx_cluster.proofs.cluster.Frontend.begin_all.Goals as goal

pub loop-first-preserved : goal.loop-first-preserved
loop-first-preserved g c = record {
  begins = leads_more c.args.self.now.set c.args.session.now c.loop-first.session c.begin_leading.new.session c.args.requests.items c.loop-first.rest.items
      (c.in-Some.first ∷ c.pop_front.new.self.items) c.begin_leading.new.rest.items [] c.loop-first.answers.items c.begin_leading.new.answers.items
      c.loop-first.invariant.begins c.in-Some.ensures.items c.begin_leading.ensures.begins;
  room = omega (arith, c.loop-first.invariant.room, c.begin_leading.ensures.count, c.begin_leading.ensures.capacity, ap length c.in-Some.ensures.items);
}
