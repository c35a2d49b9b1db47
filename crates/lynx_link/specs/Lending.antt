-- One end is lent out of a server's ends.
use Rattle.std.specs.Prelude.{ℕ, Option, slice_set}
use Rattle.std.specs.Borrow.{LendsIf, MutBor, Fml}
use Rattle.lynx_link.specs.Rings.{Sending, Receiving}
use Rattle.lynx_link.specs.EndLists.{EndLists}
use Rattle.lynx_link.specs.contracts.ends.Ends.{the_row}
use Rattle.lynx_link.specs.contracts.sender.Sender.{the_row as sender_row}
use Rattle.lynx_link.specs.contracts.receiver.Receiver.{the_row as receiver_row}

-- the ends come back with what the sender of that server was left as
abbrev pub LendsSender : MutBor EndLists → ℕ → Option (MutBor Sending) → Fml
LendsSender ends server lent =
    LendsIf the_row sender_row ends lent
    (λ left. record ends.now { to = slice_set ends.now.to server left }) ends.now

-- the ends come back with what the receiver of that server was left as
abbrev pub LendsReceiver : MutBor EndLists → ℕ → Option (MutBor Receiving) → Fml
LendsReceiver ends server lent =
    LendsIf the_row receiver_row ends lent
    (λ left. record ends.now { from = slice_set ends.now.from server left }) ends.now
