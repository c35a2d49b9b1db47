use Rattle.std.proofs.Common.{◌≡◌, ◌+◌, arith, length, length-append, rules, subst}
use Rattle.lynx_keep.specs.Kept.{KeptState}
use Rattle.lynx_server.specs.Keeping.{kept_of}
use Rattle.lynx_follow.proofs.Followings.{kept_on, tables_on}
use Rattle.lynx_follow.proofs.following.Follower.keep.Goals as goal

pub returns-in_err-commit_all-clause-stop : goal.returns-in_err-commit_all-clause-stop
returns-in_err-commit_all-clause-stop g c sound front follows =
    let set = c.args.set.now in
    let entries = c.args.entries.now in
    let kept = kept_on set front entries c.new-changes.result c.redo_all.new.changes c.args.self.now.cells.database c.redo_all.new.cells.database
    c.new-changes.ensures follows.cells_are c.in_ok-redo_all.ensures.cells c.in_ok-redo_all.ensures.noted in
    subst (λ (after : KeptState). g.K.Keeper.terms.leaves c.commit_all.new.self (kept_of set front) after) kept
    (c.commit_all.ensures.stop sound (kept_of set front) (follows.keeps (c.commit_all.ensures.sound sound)))

pub returns-clause-ok : goal.returns-clause-ok
returns-clause-ok g c front follows =
    let set = c.args.set.now in
    let entries = c.args.entries.now in
    let before = c.args.self.now.cells.database in
    let after = c.redo_all.new.cells.database in
    let kept = kept_on set front entries c.new-changes.result c.redo_all.new.changes before after
    c.new-changes.ensures follows.cells_are c.in_ok-redo_all.ensures.cells c.in_ok-redo_all.ensures.noted in
    let counted : c.in-Some.count ≡ c.args.self.now.count + length entries = search rules in
    record {
      count_is = omega (arith, counted, follows.count_is, length-append front entries);
      cells_are = tables_on set front entries before after follows.cells_are c.in_ok-redo_all.ensures.cells;
      keeps = λ sound. subst (λ (now : KeptState). g.K.Keeper.terms.keeps c.commit_all.new.self now) kept
          (c.in_ok-commit_all.ensures.ok sound (kept_of set front) (follows.keeps (c.commit_all.ensures.sound sound)));
    }

pub returns-clause-stop : goal.returns-clause-stop
returns-clause-stop g c sound front follows =
    let set = c.args.set.now in
    let entries = c.args.entries.now in
    let kept = kept_on set front entries c.new-changes.result c.redo_all.new.changes c.args.self.now.cells.database c.redo_all.new.cells.database
    c.new-changes.ensures follows.cells_are c.in_ok-redo_all.ensures.cells c.in_ok-redo_all.ensures.noted in
    subst (λ (after : KeptState). g.K.Keeper.terms.leaves c.commit_all.new.self (kept_of set front) after) kept
    (c.commit_all.ensures.stop sound (kept_of set front) (follows.keeps (c.commit_all.ensures.sound sound)))
