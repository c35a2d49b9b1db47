use Rattle.std.proofs.Common.{◌≡◌, ◌+◌, ◌++◌, ◌∷◌, [], ◌∙◌, sym, ap, subst, arith}
use Rattle.std.specs.Global.{Vec}
use Rattle.std.proofs.lemmas.List.{map-append}
use Rattle.lynx_entry.specs.declared.entry.Entry.{Entry}
use Rattle.lynx_weave.specs.Rebuilt.{histories_in}
use Rattle.lynx_weave.proofs.Rebuildings.{first_behind}
use Rattle.lynx_audit.specs.Audits.{IsOpenedTo}
use Rattle.lynx_audit.specs.Audits.{BlamesRight, DoesntOpen}
use Rattle.lynx_audit.proofs.Blames.{blames, passed_on}
use Rattle.lynx_audit.proofs.Openings.{AreOpenedBelow, opened_more}
use Rattle.lynx_audit.proofs.histories.histories_of.Goals as goal

pub loop-number-preserved : goal.loop-number-preserved
loop-number-preserved g c =
    let set = c.args.set.now in
    let keepers = c.args.keepers.items in
    let number = c.loop-number.number in
    let history = c.in_ok-history.history in
    let first = first_behind c.args.keepers.items c.next.new.self.rest.items number c.in-Some.keeper
    (sym c.loop-number.invariant.rest ∙ c.in-Some.ensures.items) in
    let items : histories_in c.add.new.histories.items ≡ histories_in c.loop-number.histories.items ++ history.items ∷ [] =
    ap histories_in c.in_ok-add.ensures ∙ map-append (λ (entries : Vec Entry). entries.items) c.loop-number.histories.items (history ∷ []) in
    record {
      opened = subst (AreOpenedBelow g.K.Keeper.terms set keepers (number + 1)) (sym items)
          (opened_more g.K.Keeper.terms set keepers number (histories_in c.loop-number.histories.items) c.in-Some.keeper history.items first.0
          (subst (λ n. IsOpenedTo g.K.Keeper.terms set n c.in-Some.keeper history.items) c.at.ensures c.in_ok-history.ensures.ok)
          c.loop-number.invariant.opened);
      rest = sym first.1;
      count = c.loop-number.invariant.count;
      within = omega (arith, c.loop-number-test.true);
    }

pub returns-in_err-history-clause-err : goal.returns-in_err-history-clause-err
returns-in_err-history-clause-err g c =
    let set = c.args.set.now in
    let keepers = c.args.keepers.items in
    let first = first_behind keepers c.next.new.self.rest.items c.loop-number.number c.in-Some.keeper (sym c.loop-number.invariant.rest ∙ c.in-Some.ensures.items) in
    passed_on (BlamesRight g.K.Keeper.terms set keepers) c.from_residual.result c.in_err-history.field-0.0 c.from_residual.ensures.1
    (blames g.K.Keeper.terms set keepers c.loop-number.number c.in-Some.keeper c.in_err-history.field-0.0 first.0
    (subst (λ n. DoesntOpen g.K.Keeper.terms set n c.in-Some.keeper c.in_err-history.field-0.0) c.at.ensures c.in_err-history.ensures.err))
