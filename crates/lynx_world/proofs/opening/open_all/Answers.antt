use Rattle.std.proofs.Common.{◌∙◌, [], false, sym, ap, arith}
use Rattle.lynx_keep.specs.Kept.{KeptState, nothing_kept}
use Rattle.lynx_world.proofs.Starting.{first_alike, one_more}
use Rattle.lynx_world.proofs.opening.open_all.Goals as goal

pub loop-number-preserved : goal.loop-number-preserved
loop-number-preserved c =
    let set = c.args.set.now in
    let number = c.loop-number.number in
    let is = c.loop-number.invariant in
    let alike = first_alike nothing_kept c.in-Some.keeper c.next.new.self.rest.items c.servers-count.result number
    (sym c.in-Some.ensures.items ∙ is.rest) c.loop-number-test.true in
    record {
      servers = one_more set c.loop-number.servers.items number c.push.new.self.items c.in_ok-new.field-0 is.servers c.in_ok-push.ensures.items
          (c.in_ok-new.ensures ∙ ap (λ n. record { set = set; server = n; history = []; held = []; is_stopped = false; opened = 0; acknowledged = []; keeper = c.in-Some.keeper }) c.at.ensures
          ∙ ap (λ (k : KeptState). record { set = set; server = number; history = []; held = []; is_stopped = false; opened = 0; acknowledged = []; keeper = k }) alike.0);
      rest = alike.1;
      count = is.count;
      within = omega (arith, c.loop-number-test.true);
    }
