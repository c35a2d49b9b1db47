use Rattle.std.proofs.Common.{◌≡◌, ◌∙◌, ℕ, List, Bool, true, false, ap, sym}
use Rattle.std.specs.Prelude.{◌||◌}
use Rattle.std.specs.List.{list_any}
use Rattle.lynx_ask.specs.Asking.{has_hop_from}
use Rattle.lynx_set.specs.declared.program.Program.{Program}
use Rattle.lynx_ask.proofs.reading.may_run.Goals as goal

pub returns-then-has_hop_from : goal.returns-then-has_hop_from
returns-then-has_hop_from c =
    let test = has_hop_from c.args.chain.now.origin c.args.hop in
    let named : List ℕ × Program = (c.in-Some.field-0-0.now, c.in-Some.program.now) in
    let here : test named ≡ true = sym (c.has_hop_from.ensures c.in-Some.field-0-0.now) ∙ c.if-has_hop_from.true in
    sym (sym c.loop-program.invariant ∙ ap (list_any test) c.in-Some.ensures.steps ∙ ap (λ (b : Bool). b || list_any test c.next.new.self) here)

pub loop-program-preserved : goal.loop-program-preserved
loop-program-preserved c =
    let test = has_hop_from c.args.chain.now.origin c.args.hop in
    let named : List ℕ × Program = (c.in-Some.field-0-0.now, c.in-Some.program.now) in
    let not_here : test named ≡ false = sym (c.has_hop_from.ensures c.in-Some.field-0-0.now) ∙ c.if-has_hop_from.false in
    sym (ap (λ (b : Bool). b || list_any test c.next.new.self) not_here) ∙ sym (ap (list_any test) c.in-Some.ensures.steps) ∙ c.loop-program.invariant
