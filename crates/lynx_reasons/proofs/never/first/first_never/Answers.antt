use Rattle.std.proofs.Common.{◌≡◌, ◌∙◌, ℕ, suc, ◌+◌, ◌-◌, List, length, Option, Some, None, sym, ap, arith}
use Rattle.std.specs.Prelude.{find}
use Rattle.std.specs.List.{flat_map, range_with_len}
use Rattle.std.specs.Option.{option_or}
use Rattle.lynx_set.specs.declared.program.Hop.{Hop}
use Rattle.lynx_reasons.specs.declared.never.first.NeverAt.{NeverAt}
use Rattle.lynx_reasons.specs.Begins.{action_places, first_never, is_never, places_in}
use Rattle.lynx_reasons.proofs.Firsts.{find-true, find_next, never_there}
use Rattle.lynx_reasons.proofs.never.first.first_never.Goals as goal
use Rattle.lynx_reasons.proofs.never.first.first_never.Goals.{In-Some}

first : (c : In-Some) → Some c.in-Some.at ≡ first_never c.args.set.now c.args.program
first c =
    let test = is_never c.args.set.now c.args.program in
    let list = places_in c.args.set.now c.args.program in
    let hop = c.loop-hop.hop in
    let hops = c.hops-hop-end.result.now in
    let left : ℕ = length hops - (hop + 1) in
    let rest = find test (flat_map list (range_with_len (hop + 1) left)) in
    let here : find test (list hop) ≡ Some c.in-Some.at = sym c.first_in_hop.ensures ∙ c.in-Some.is in
    ap (λ (found : Option NeverAt). option_or found rest) (sym here)
    ∙ sym (find_next test list hop left)
    ∙ c.loop-hop.invariant (suc left) (omega (arith, c.loop-hop-test.true))
    ∙ ap (λ (all : List Hop). find test (flat_map list (range_with_len 0 (length all)))) c.hops-hop-end.ensures

pub returns-in-Some-clause-exact : goal.returns-in-Some-clause-exact
returns-in-Some-clause-exact c = first c

pub returns-in-Some-clause-there : goal.returns-in-Some-clause-there
returns-in-Some-clause-there c =
    let set = c.args.set.now in
    let program = c.args.program in
    never_there set program c.in-Some.at (find-true (is_never set program) (action_places set program) c.in-Some.at (sym (first c)))

pub loop-hop-preserved : goal.loop-hop-preserved
loop-hop-preserved c = λ left counted.
    let test = is_never c.args.set.now c.args.program in
    let list = places_in c.args.set.now c.args.program in
    let hop = c.loop-hop.hop in
    let rest = find test (flat_map list (range_with_len (hop + 1) left)) in
    let here : find test (list hop) ≡ None = sym c.first_in_hop.ensures ∙ c.in_default.is in
    ap (λ (found : Option NeverAt). option_or found rest) (sym here)
    ∙ sym (find_next test list hop left)
    ∙ c.loop-hop.invariant (suc left) (omega (arith, counted))

pub returns-clause-exact : goal.returns-clause-exact
returns-clause-exact c =
    let test = is_never c.args.set.now c.args.program in
    let list = places_in c.args.set.now c.args.program in
    c.loop-hop.invariant 0 (omega (arith, c.loop-hop-test.false, c.loop-hop.auto.hop-end))
    ∙ ap (λ (all : List Hop). find test (flat_map list (range_with_len 0 (length all)))) c.hops-hop-end.ensures
