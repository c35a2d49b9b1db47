use Rattle.std.proofs.Common.{◌∙◌, Vec, Global, sym, ap, subst}
use Rattle.std.specs.Prelude.{All}
use Rattle.std.proofs.lemmas.List.Elements.{All-push}
use Rattle.lynx_reasons.specs.declared.sift.End.{End}
use Rattle.lynx_reasons.specs.inner.Sifts.{IsEnd}
use Rattle.lynx_reasons.proofs.Sifting.{end_meets}
use Rattle.lynx_reasons.proofs.sift.ends_of.Goals as goal
use Rattle.lynx_reasons.proofs.sift.ends_of.Goals.{then-not-is_empty+in_ok-some_programs+in_ok-push, else-not-is_empty}

pub loop-place-preserved : goal.loop-place-preserved
loop-place-preserved c =
    let set = c.args.set.now in
    let place = c.place-item.result in
    elim c.if-not-is_empty.branch [
      | then-not-is_empty+in_ok-some_programs+in_ok-push w ↦
          let end : End = record { place = place; meets = w.in_ok-some_programs.field-0 } in
          let is : IsEnd set end = end_meets set place w.as_slice.result.now w.in_ok-some_programs.field-0 (w.as_slice.ensures.value ∙ c.in_ok-hops.ensures.exact) w.in_ok-some_programs.ensures in
          subst (All (IsEnd set)) (sym (ap (λ (ends : Vec End Global). ends.items) w.ends-is ∙ w.in_ok-push.ensures.items)) (All-push (IsEnd set) c.loop-place.ends.items end c.loop-place.invariant is)
      | else-not-is_empty w ↦ subst (λ (ends : Vec End Global). All (IsEnd set) ends.items) (sym w.ends-is) c.loop-place.invariant
    ]
