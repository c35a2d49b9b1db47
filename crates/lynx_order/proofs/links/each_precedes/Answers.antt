use Rattle.std.proofs.Common.{subst, sym, inl, inr, arith}
use Rattle.std.proofs.lemmas.Option.{slice_get_within}
use Rattle.lynx_order.specs.inner.Links.{PrecedesNext}
use Rattle.lynx_order.proofs.Certified.{below_or}
use Rattle.lynx_order.proofs.links.each_precedes.Goals as goal

pub loop-place-preserved : goal.loop-place-preserved
loop-place-preserved c = λ k less. elim (below_or k c.loop-place.place less) [
  | inl below ↦ c.loop-place.invariant k below
  | inr same ↦ subst (PrecedesNext c.args.set.now c.args.world.now.list c.args.chains.now c.args.first.now c.args.links.now) (sym same) (c.in_ok-holds_at.ensures c.if-not-branch.false)
]

pub returns : goal.returns
returns c = λ yes k link there.
    let inside = slice_get_within c.args.links.now k link there in
    c.loop-place.invariant k (omega arith) link there
