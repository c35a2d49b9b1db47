use Rattle.std.proofs.Common.{◌<◌, ◌∙◌, ap, subst}
use Rattle.lynx_names.specs.declared.limits.TheConstants.{MAX_SERVERS}
use Rattle.lynx_cells.specs.Database.{applied}
use Rattle.lynx_rules.specs.Lawful.{IsLawful}
use Rattle.lynx_server.specs.inner.Keeping.{AreChangesOf}
use Rattle.lynx_server.proofs.Committing.{committed, not_committed}
use Rattle.lynx_server.proofs.Growing.{books_with_other}
use Rattle.lynx_server.proofs.InRange.{lawful-in_range}
use Rattle.lynx_server.proofs.books.Books.keep_other.Goals as goal

pub invariant_of-self-2 : goal.invariant_of-self-2
invariant_of-self-2 g c =
    let set = c.self.inside.set in
    let server = c.self.inside.server in
    let history = c.self.inside.history.items in
    let lawful : IsLawful set server history c.args.entry = rw (← c.self.view_is) at c.requires.lawful in
    let changes : AreChangesOf set history c.args.entry c.args.changes = rw (← c.self.view_is) at c.requires.changes in
    rw (c.push_reserved.ensures.items, c.make_room.ensures.history)
    (books_with_other set server history c.args.entry c.self.inside.sequencer.counters c.self.inside.turns c.self.inside.chains.items c.self.inside.cells.database
    c.args.changes _ _ _ c.self.invariant c.requires.other lawful c.count_turn.ensures c.make_room.ensures.chains
    (c.apply.ensures.database ∙ ap (applied c.args.changes) c.make_room.ensures.cells) changes)

pub returns-clause-commits : goal.returns-clause-commits
returns-clause-commits g c =
    committed g.K.Keeper.terms c.args.self.now.set c.args.self.now.history c.args.entry c.args.changes _ _ c.requires.changes
    c.commit.ensures.sound c.commit.ensures.counts (λ before. c.in_default.ensures.rests before) (λ sound before keeps. c.in_default.ensures.ok sound before keeps) c.commit.ensures.stop

pub returns-in-Err-clause-commits : goal.returns-in-Err-clause-commits
returns-in-Err-clause-commits g c =
    not_committed g.K.Keeper.terms c.args.self.now.set c.args.self.now.history c.args.entry c.args.changes _ _ c.in-Err.fault c.requires.changes
    c.commit.ensures.sound c.commit.ensures.counts c.in-Err.ensures.rests_still c.in-Err.ensures.memory c.in-Err.ensures.failed c.commit.ensures.stop

pub commit-requires : goal.commit-requires
commit-requires g c = record {
  range =
      lawful-in_range c.args.self.now.set c.args.self.now.server c.args.self.now.history c.args.entry
      (subst (λ n. n < MAX_SERVERS) (c.number.ensures.value ∙ c.server.ensures) c.number.ensures.in_range) c.requires.lawful;
}
