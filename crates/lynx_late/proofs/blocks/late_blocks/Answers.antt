use Rattle.std.proofs.Common.{◌≡◌, List, rules, sym, subst}
use Rattle.std.specs.Prelude.{◌↔◌, Contains}
use Rattle.lynx_graph.specs.declared.block.Block.{Block}
use Rattle.lynx_late.specs.Blocks.{IsLate, IsListed, late_blocks}
use Rattle.lynx_late.proofs.Late.{late_is_listed, listed_is_late}
use Rattle.lynx_late.proofs.blocks.late_blocks.Goals as goal

pub returns-clause-late : goal.returns-clause-late
returns-clause-late c =
    let set = c.args.set.now in
    let exact : c.into_vec.result.items ≡ late_blocks set = search rules in
    subst (λ (blocks : List Block). (block : Block) → Contains blocks block ↔ (IsLate set block × IsListed block)) (sym exact)
    (λ block. (listed_is_late set block, λ late. late_is_listed set block late.0 late.1))
