use Rattle.std.proofs.Common.{arith, length, refl, ◌≡◌}
use Rattle.lynx_cluster.proofs.Settlings.{starts_settled}
use Rattle.lynx_cluster.proofs.opening.Opened.start.Goals as goal

pub returns-clause-started : goal.returns-clause-started
returns-clause-started g c =
    let len : c.args.self.servers.len ≡ length c.args.self.servers.items = omega (arith, c.args.self.servers.ok) in
    record {
      set_is = c.in_ok-set.ensures.ok;
      starts_are = starts_settled c.as_mut_slice.result.now c.args.self.servers.items c.settle.new.servers c.args.self.servers.len c.in_ok-shared_servers.field-0.starts.items
          c.as_mut_slice.ensures.value len c.settle.ensures c.in_ok-shared_servers.ensures.starts;
    }
