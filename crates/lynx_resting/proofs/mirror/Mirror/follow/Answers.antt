use Rattle.std.proofs.Common.{◌≡◌, ◌∙◌, ◌-◌, ap, arith, drop, fold, length, subst, sym, take}
use Rattle.std.proofs.Math.Seq.{take-length}
use Rattle.std.proofs.lemmas.List.{length-drop, take-append-drop, take_all}
use Rattle.std.proofs.lemmas.List.Sums.{fold-append}
use Rattle.lynx_cells.specs.Database.{Database, empty_database}
use Rattle.lynx_entry.specs.Entry.{History}
use Rattle.lynx_rules.specs.Tables.{after_entry, tables_of}
use Rattle.lynx_server.specs.History.{IsLawfulHistory}
use Rattle.lynx_set.specs.Set.{Set}
use Rattle.lynx_resting.specs.Mirrors.{IsMirrorOf, MirrorState}
use Rattle.lynx_resting.proofs.mirror.Mirror.follow.Goals as goal

-- the cells of the first entries, and then what the others did
followed : (set : Set) (count : _) (history : History) (before after : Database) → before ≡ tables_of set (take count history) →
    after ≡ fold (after_entry set) before (take (length history - count) (drop count history)) → after ≡ tables_of set history
followed set count history before after is done =
    done ∙ ap (fold (after_entry set) before) (take_all (length history - count) (drop count history) (omega (arith, length-drop count history)))
    ∙ ap (λ db. fold (after_entry set) db (drop count history)) is
    ∙ sym (fold-append (after_entry set) empty_database (take count history) (drop count history)) ∙ ap (tables_of set) (take-append-drop count history)

pub invariant_of-result : goal.invariant_of-result
invariant_of-result c =
    let history = c.args.history.now in
    let is = subst (λ (m : MirrorState). IsMirrorOf m.set m.server history m) (sym c.self.view_is) c.requires.mirrors in
    record {
      history = history;
      lawful = subst (λ (m : MirrorState). IsLawfulHistory m.set m.server history) (sym c.self.view_is) c.requires.lawful;
      stamp_is = c.clock_of.ensures;
      cells_are = followed c.self.inside.set c.self.inside.count history _ _ is.cells_are c.in_ok-redo.ensures;
    }

pub returns : goal.returns
returns c =
    let history = c.args.history.now in
    let is = subst (λ (m : MirrorState). IsMirrorOf m.set m.server history m) (sym c.self.view_is) c.requires.mirrors in
    let set_is = ap (λ (m : MirrorState). m.set) c.self.view_is in
    record {
      set_is = set_is;
      server_is = ap (λ (m : MirrorState). m.server) c.self.view_is;
      within = omega arith;
      cells_are = followed c.self.inside.set c.self.inside.count history _ _ is.cells_are c.in_ok-redo.ensures
          ∙ ap (λ (set : Set). tables_of set history) set_is ∙ ap (tables_of c.args.self.set) (sym (take-length history));
    }
