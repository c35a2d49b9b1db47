use Rattle.lynx_chart.specs.Frames.{block_heads}
use Rattle.lynx_chart.proofs.Drawn.{number_drawn}
use Rattle.lynx_chart.proofs.frames.put_upper_heads.Goals as goal

pub loop-block-preserved : goal.loop-block-preserved
loop-block-preserved c =
    let number = c.loop-block.block in
    let before = c.loop-block.out.items in
    let own = (block_heads c.args.servers) in
    number_drawn own number c.args.out.now.items before c.put_block_heads.new.out.items c.loop-block.invariant c.in_ok-put_block_heads.ensures
