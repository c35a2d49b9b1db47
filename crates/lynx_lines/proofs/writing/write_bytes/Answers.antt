use Rattle.lynx_lines.proofs.Parts.{more_written}
use Rattle.lynx_lines.proofs.writing.write_bytes.Goals as goal

pub loop-preserved : goal.loop-preserved
loop-preserved g c =
    let before = c.loop.invariant in
    let some = c.in_ok-rest.ensures.some in
    more_written _ _ _ c.args.bytes.now before.0 c.loop.rest.now some.0 c.in_ok-rest.rest.now before.1 before.2 some.1 some.2
