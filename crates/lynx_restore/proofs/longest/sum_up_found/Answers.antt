use Rattle.std.proofs.Common.{◌≡◌, length, sym, ap, ◌∙◌}
use Rattle.lynx_restore.specs.Restored.{restored_of}
use Rattle.lynx_restore.proofs.Longests.{length_restored}
use Rattle.lynx_restore.proofs.longest.sum_up_found.Goals as goal

pub of_found-requires : goal.of_found-requires
of_found-requires c =
    let told : c.as_slice.result.now ≡ restored_of c.args.counts.now c.args.servers.now =
    let slice = c.as_slice.ensures.value in
    let taken = c.in_ok-servers.servers-is in
    let summed = c.in_ok-servers.ensures.servers in
    cc in
    c.requires.found ∙ sym (length_restored c.args.counts.now c.args.servers.now c.requires.many) ∙ sym (ap length told)
