use Rattle.std.proofs.Common.{◌≡◌, true, false, None, unwrap_or}
use Rattle.lynx_rules.specs.Checks.{is_well_formed}
use Rattle.lynx_rules.specs.Lawful.{hop_entry_of, number_at}
use Rattle.lynx_rules.specs.Turns.{turn_of}
use Rattle.lynx_server.proofs.Turning.{past-delivers, early-delivers, now-delivers, now-in_turn, early-sorts}
use Rattle.lynx_server.proofs.register.Register.sort_by_turn.Goals as goal

pub returns-in-Past : goal.returns-in-Past
returns-in-Past c =
    let books = c.self.inside.books in
    let message = c.args.message.now in
    let number = unwrap_or (number_at message.numbers books.server) 0 in
    let turn = turn_of books.set books.server books.history message.chain.origin in
    rw (← c.self.view_is) (past-delivers books c.args.held.now message number turn c.in-Past.ensures)

pub returns-in-Early : goal.returns-in-Early
returns-in-Early c =
    let books = c.self.inside.books in
    let message = c.args.message.now in
    let number = unwrap_or (number_at message.numbers books.server) 0 in
    let turn = turn_of books.set books.server books.history message.chain.origin in
    rw (← c.self.view_is)
    (early-sorts books c.args.held.now message _ _ (early-delivers books c.args.held.now message number turn c.in-Early.ensures) c.sort_early.ensures)

pub returns-in-Some : goal.returns-in-Some
returns-in-Some c =
    let books = c.self.inside.books in
    let message = c.args.message.now in
    let number = unwrap_or (number_at message.numbers books.server) 0 in
    let turn = turn_of books.set books.server books.history message.chain.origin in
    let formed : is_well_formed books.set books.server books.history message ≡ true = rw (← c.self.view_is) at c.requires.formed in
    let new : hop_entry_of message.chain message.hop books.history ≡ None = rw (← c.self.view_is) at c.requires.new in
    rw (← c.self.view_is)
    (record {
      due = record {
        well_formed = formed;
        new = new;
        in_turn = now-in_turn number turn c.in-Now.ensures;
        room = c.in-Some.ensures.0;
        stamp_is = c.in-Some.ensures.1;
      };
      delivers_is = now-delivers books c.args.held.now message number turn false c.in-Now.ensures c.in-Some.ensures.0;
    })

pub returns-in-None : goal.returns-in-None
returns-in-None c =
    let books = c.self.inside.books in
    let message = c.args.message.now in
    let number = unwrap_or (number_at message.numbers books.server) 0 in
    let turn = turn_of books.set books.server books.history message.chain.origin in
    rw (← c.self.view_is) (now-delivers books c.args.held.now message number turn true c.in-Now.ensures c.in-None.ensures)
