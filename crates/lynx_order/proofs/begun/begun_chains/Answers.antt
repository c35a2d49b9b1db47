use Rattle.std.proofs.Common.{◌∙◌, ◌++◌, [], List, sym, ap}
use Rattle.std.specs.List.{cons_option}
use Rattle.lynx_names.specs.declared.chain.ChainId.{ChainId}
use Rattle.lynx_order.specs.inner.Begun.{chain_begun}
use Rattle.lynx_order.proofs.Tables.{begun_at}
use Rattle.lynx_order.proofs.begun.begun_chains.Goals as goal

pub loop-place-preserved : goal.loop-place-preserved
loop-place-preserved c =
    c.in_ok-add_begun.ensures
    ∙ ap (λ (xs : List ChainId). xs ++ cons_option (chain_begun c.entry_at.result.now) []) c.loop-place.invariant
    ∙ sym (begun_at c.args.world.now.list c.loop-place.place c.entry_at.result.now c.entry_at.ensures)
