-- One server's ends of the rings, by server.
use Rattle.std.specs.Prelude.{List, [], ◌∷◌, ◌++◌}
use Rattle.lynx_link.specs.Rings.{Sending, Receiving}

-- of the rings that lead to each server, and of those that lead from each
pub record EndLists : Type 0 where
  pub to : List Sending
  pub from : List Receiving

abbrev pub no_ends : EndLists
no_ends = record { to = []; from = [] }

abbrev pub with_sender : Sending → EndLists → EndLists
with_sender sending ends = record ends { to = ends.to ++ sending ∷ [] }

abbrev pub with_receiver : Receiving → EndLists → EndLists
with_receiver receiving ends = record ends { from = ends.from ++ receiving ∷ [] }
