use Rattle.std.proofs.Common.{sym, refl}
use Rattle.std.proofs.lemmas.Bool.{eqb-true}
use Rattle.lynx_server.proofs.Acting.{first_here, first_elsewhere}
use Rattle.lynx_server.proofs.Chains.{found_as}
use Rattle.lynx_server.proofs.books.Books.first_place_of.Goals as goal

pub returns-then-eq : goal.returns-then-eq
returns-then-eq c =
    let books = c.self.inside in
    rw (← c.self.view_is)
    (found_as books.history.items _ _ _ _ (rw (← c.self.view_is) at c.begun_place.ensures) refl
    (first_here books.set books.server books.history.items c.args.chain c.self.invariant.lawful (eqb-true _ _ (sym c.if-eq.ensures))))

pub returns-else-eq : goal.returns-else-eq
returns-else-eq c =
    let books = c.self.inside in
    rw (← c.self.view_is)
    (first_elsewhere books.set books.server books.history.items c.args.chain c.self.invariant.lawful (sym c.if-eq.ensures))
