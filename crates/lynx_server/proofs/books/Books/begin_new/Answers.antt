use Rattle.lynx_server.proofs.Due.{room_left}
use Rattle.lynx_server.proofs.books.Books.begin_new.Goals as goal

pub take-requires-clause-room : goal.take-requires-clause-room
take-requires-clause-room g c = (room_left c.args.self.now.history c.args.seen c.requires.due.room).entries
