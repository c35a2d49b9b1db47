use Rattle.std.proofs.Common.{◌∙◌, ◌++◌, sym, ap, subst}
use Rattle.std.proofs.lemmas.List.Elements.{All-get_or}
use Rattle.lynx_late.proofs.Once.{same_place-true}
use Rattle.lynx_reasons.specs.Late.{abroad_lines}
use Rattle.lynx_reasons.specs.inner.Tellings.{IsTold}
use Rattle.lynx_reasons.proofs.late.put_told.Goals as goal

pub returns-then-eq : goal.returns-then-eq
returns-then-eq c =
    let set = c.args.set.now in
    let told = c.told-item.result in
    let is : IsTold set told = subst (IsTold set) (sym c.told-item.is) (All-get_or (IsTold set) c.args.all.now c.loop-told.told-index told c.loop-told-test.true c.requires.told) in
    let same = same_place-true told.place c.args.place (sym c.eq.ensures ∙ c.if-eq.true) in
    c.in_ok-extend_from_slice.ensures.items
    ∙ ap (λ lines. c.loop-told.out.items ++ lines) (c.as_slice.ensures ∙ is ∙ ap (abroad_lines set) same)
    ∙ ap (λ items. items ++ abroad_lines set c.args.place) c.loop-told.invariant
