use Rattle.std.proofs.Common.{◌≡◌, ◌<◌, length, slice_get, Some, sym, ap, ◌∙◌, arith}
use Rattle.std.proofs.lemmas.Option.{slice_get-get_or}
use Rattle.lynx_restore.specs.Restored.{restored_of, undone_of}
use Rattle.lynx_restore.proofs.Summings.{restored_more, undone_more}
use Rattle.lynx_restore.proofs.summing.sum_up.Goals as goal

pub loop-number-preserved : goal.loop-number-preserved
loop-number-preserved g c =
    let servers = c.args.servers.now in
    let counts = c.args.counts.now in
    let number = c.loop-number.number in
    let here = c.index-servers-number.result in
    let test = c.loop-number-test.true in
    let many = c.requires.many in
    let inside : number < length servers = omega (arith, test) in
    let within : number < length counts = omega (arith, inside, many) in
    let there : slice_get servers number ≡ Some here = slice_get-get_or servers number here inside ∙ ap Some (sym c.index-servers-number.is) in
    let restored = c.loop-number.restored in
    let added = c.add_server.new.restored in
    record {
      servers = restored_more counts servers number here restored.servers.items added.servers.items (restored_of counts servers) within there
          c.in_ok-add_server.ensures.servers c.loop-number.invariant.servers;
      undone = undone_more counts servers number here restored.undone.items added.undone.items (undone_of counts servers) within there
          c.in_ok-add_server.ensures.undone c.loop-number.invariant.undone;
    }
