use Rattle.std.proofs.Common.{true, ◌∙◌, sym, subst, arith}
use Rattle.std.proofs.lemmas.List.{nil_from_length}
use Rattle.std.specs.Prelude.{OnOk, is_ok}
use Rattle.std.specs.List.{AllByRecursion}
use Rattle.lynx_store_files.proofs.Closings.{not_ok, one_more}
use Rattle.lynx_give.specs.Given.{IsLetGo}
use Rattle.lynx_give.proofs.Listed.{all_closed}
use Rattle.lynx_give.proofs.closing.close_all.Goals.{in-Ok, in-Err, in-Err+else-is_first}
use Rattle.lynx_give.proofs.closing.close_all.Goals as goal

pub loop-store-preserved : goal.loop-store-preserved
loop-store-preserved g c =
    let LetGo = IsLetGo g.S.Stores.store_terms.closed g.S.Databases.database_closed in
    let loop = c.loop-store in
    let left = c.next.new.self.rest.items in
    let Well = AllByRecursion (LetGo true) left → AllByRecursion (LetGo true) c.args.given.items in
    elim c.match-close.branch [
      | in-Ok w ↦
          let well = subst (λ r. LetGo (is_ok r) c.in-Some.store) w.in-Ok.is c.close.ensures in
          subst (λ r. OnOk r Well) (sym w.closed-is)
          (one_more (LetGo true) c.args.given.items loop.store-iterator.rest.items left c.in-Some.store loop.closed c.in-Some.ensures.steps.0 well loop.invariant)
      | in-Err w ↦ subst (λ r. OnOk r Well) (sym w.closed-is) tt
      | in-Err+else-is_first w ↦ subst (λ r. OnOk r Well) (sym w.closed-is) (not_ok Well loop.closed (sym c.is_ok-is_first.ensures.value ∙ w.if-is_first.false))
    ]

pub returns : goal.returns
returns g c =
    let rest = c.loop-store.store-iterator.rest in
    all_closed (IsLetGo g.S.Stores.store_terms.closed g.S.Databases.database_closed true) c.args.given.items rest.items c.loop-store.closed
    (nil_from_length rest.items (omega (arith, rest.ok, c.in-None.ensures.steps.0))) c.loop-store.invariant
