use Rattle.std.proofs.Common.{◌≡◌, ◌∙◌, sym, find, Some, None, Option}
use Rattle.lynx_entry.specs.declared.entry.Entry.{Entry}
use Rattle.lynx_server.specs.Books.{begins_as}
use Rattle.lynx_server.proofs.Chains.{has_begun_here}
use Rattle.lynx_server.proofs.books.Books.has_begun.Goals as goal

pub returns-in-Some : goal.returns-in-Some
returns-in-Some c =
    let message = c.args.message.now in
    let found : Some c.in-Some.entry.now ≡ find (begins_as message.chain.index) c.self.inside.history.items = rw (← c.self.view_is) at c.in-Some.ensures in
    rw (← c.self.view_is)
    (c.begins.ensures ∙ has_begun_here c.self.inside.server c.self.inside.history.items message _ (sym c.ne.ensures ∙ c.if-ne.false) found (c.self.invariant.sole message))

pub returns-in-None : goal.returns-in-None
returns-in-None c =
    let message = c.args.message.now in
    let none : Option Entry = None in
    let found : none ≡ find (begins_as message.chain.index) c.self.inside.history.items = rw (← c.self.view_is) at c.in-None.ensures in
    rw (← c.self.view_is)
    (has_begun_here c.self.inside.server c.self.inside.history.items message none (sym c.ne.ensures ∙ c.if-ne.false) found (c.self.invariant.sole message))
