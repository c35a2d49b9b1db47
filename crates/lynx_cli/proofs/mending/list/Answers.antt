use Rattle.std.proofs.Common.{◌∙◌, ◌+◌, ◌++◌, ℕ, List, ap}
use Rattle.lynx_cli.proofs.Mended.{all_told, next_told}
use Rattle.lynx_cli.proofs.mending.list.Goals as goal

pub loop-mending-preserved : goal.loop-mending-preserved
loop-mending-preserved c =
    let out = c.loop-mending.out.items in
    let own = c.in_ok-proposal.proposal.items in
    record {
      told = next_told c.args.mendings.now c.loop-mending.mending-index c.loop-mending.number c.mending-item.result out c.extend_from_slice.new.self.items own
          c.loop-mending-test.true c.mending-item.is c.in_ok-proposal.ensures
          (c.in_ok-extend_from_slice.ensures.items ∙ ap (λ (text : List ℕ). out ++ text) c.as_slice.ensures.value) c.loop-mending.invariant.told;
      numbered = ap (λ (n : ℕ). n + 1) c.loop-mending.invariant.numbered;
    }

pub returns : goal.returns
returns c = all_told c.args.mendings.now c.loop-mending.mending-index c.loop-mending.number c.loop-mending.out.items c.loop-mending-test.false c.loop-mending.invariant.told
