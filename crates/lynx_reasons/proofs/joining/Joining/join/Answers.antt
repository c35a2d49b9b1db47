use Rattle.std.proofs.Common.{◌∙◌, sym, subst}
use Rattle.std.proofs.lemmas.Result.{on_ok_weaker}
use Rattle.lynx_reasons.specs.inner.Joinings.{AreJoined}
use Rattle.lynx_reasons.proofs.Joinings.{joined_ends, joined_merged}
use Rattle.lynx_reasons.proofs.joining.Joining.join.Goals as goal

pub returns-in-Some-Some : goal.returns-in-Some-Some
returns-in-Some-Some c = λ set culprit are is.
    let last = c.note-2.new.self.programs.items in
    let ends = joined_ends set culprit c.args.edge.now c.args.self.now.programs.items c.note.new.self.programs.items last is c.note.ensures c.note-2.ensures are in
    let merged = joined_merged set culprit last c.args.edge.now c.in-Some-Some.group c.in-Some-Some.other is (sym c.group_of.ensures ∙ c.in-Some-Some.is-0) (sym c.group_of-2.ensures ∙ c.in-Some-Some.is-1) ends in
    on_ok_weaker c.merge.result (λ items. subst (AreJoined set culprit) (sym items) merged) c.merge.ensures

pub returns-in_default : goal.returns-in_default
returns-in_default c = λ set culprit are is.
    joined_ends set culprit c.args.edge.now c.args.self.now.programs.items c.note.new.self.programs.items c.note-2.new.self.programs.items is c.note.ensures c.note-2.ensures are

pub returns-in_default-2 : goal.returns-in_default-2
returns-in_default-2 c = λ set culprit are is.
    joined_ends set culprit c.args.edge.now c.args.self.now.programs.items c.note.new.self.programs.items c.note-2.new.self.programs.items is c.note.ensures c.note-2.ensures are

pub returns-in_default-3 : goal.returns-in_default-3
returns-in_default-3 c = λ set culprit are is.
    joined_ends set culprit c.args.edge.now c.args.self.now.programs.items c.note.new.self.programs.items c.note-2.new.self.programs.items is c.note.ensures c.note-2.ensures are
