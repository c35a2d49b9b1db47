use Rattle.std.proofs.Common.{◌≡◌, Bool, true}
use Rattle.std.specs.Prelude.{IfOk, Result, Ok, Err}
use Rattle.lynx_names.specs.declared.memory.Memory.{Memory}
use Rattle.lynx_order.proofs.Certified.{certified_cycle}
use Rattle.lynx_order.proofs.links.cycle_holds.Goals as goal

pub returns-clause-cycle : goal.returns-clause-cycle
returns-clause-cycle c = held c.each_precedes.result c.each_precedes.ensures (λ each.
    certified_cycle c.args.set.now c.args.world.now.list c.args.chains.now c.in-Some.first.now c.in-Some.field-0-1.now c.args.links.now c.args.numbers.now c.requires.different
    c.requires.numbers c.in-Some.ensures.cases.0 (c.in_ok-are_different.ensures c.if-not-branch.false) each)
  where
    held : {P Q : Type 0} (given : Result Bool Memory) → IfOk given (λ holds. holds ≡ true → P) → (P → Q) → IfOk given (λ holds. holds ≡ true → Q)
    held (Ok holds) old more = λ yes. more (old yes)
    held (Err none) old more = tt
