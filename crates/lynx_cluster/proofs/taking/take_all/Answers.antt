use Rattle.std.proofs.Common.{◌≡◌, ◌+◌, ◌∙◌, ◌++◌, [], ◌∷◌, List, length, sym, ap, subst, arith}
use Rattle.std.proofs.lemmas.List.{map-append}
use Rattle.std.specs.Global.{Vec}
use Rattle.lynx_entry.specs.declared.entry.Entry.{Entry}
use Rattle.lynx_entry.specs.Entry.{History}
use Rattle.lynx_weave.specs.Rebuilt.{histories_in}
use Rattle.lynx_cluster.specs.Closing.{IsTakenBack}
use Rattle.lynx_cluster.proofs.Takings.{AreTakenBelow, taken_more}
use Rattle.lynx_cluster.proofs.taking.take_all.Goals as goal

pub loop-number-preserved : goal.loop-number-preserved
loop-number-preserved g c =
    let terms = g.K.Keeper.terms in
    let set = c.args.set.now in
    let number = c.loop-number.number in
    let back = c.in-Some-take_back.back in
    let before = c.loop-number.taken.histories.items in
    let histories : histories_in c.add.new.self.histories.items ≡ histories_in c.loop-number.taken.histories.items ++ c.in-Some-take_back.back.0.items ∷ [] =
    ap histories_in c.in_ok-add.ensures.histories ∙ map-append (λ (entries : Vec Entry). entries.items) before (back.0 ∷ []) in
    record {
      taken = subst (λ (hs : List History). AreTakenBelow g.K.Keeper.terms c.args.set.now (c.loop-number.number + 1) hs c.add.new.self.keepers.items) (sym histories)
          (subst (AreTakenBelow g.K.Keeper.terms c.args.set.now (c.loop-number.number + 1) (histories_in c.loop-number.taken.histories.items ++ c.in-Some-take_back.back.0.items ∷ []))
          (sym c.in_ok-add.ensures.keepers)
          (taken_more terms set number (histories_in before) c.loop-number.taken.keepers.items back.0.items back.1
          (subst (λ n. IsTakenBack g.K.Keeper.terms c.args.set.now n c.in-Some-take_back.back.0.items c.in-Some-take_back.back.1) c.at-server.ensures c.in-Some-take_back.ensures)
          c.loop-number.invariant.taken));
      rest = let more = ap length c.in-Some.ensures.items in let was = c.loop-number.invariant.rest in omega (arith, more, was, c.loop-number-test.true);
      count = c.loop-number.invariant.count;
      within = omega (arith, c.loop-number-test.true);
    }
