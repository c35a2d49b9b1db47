-- The rings of all pairs of servers.
use Rattle.std.specs.Prelude.{ℕ, ◌≡◌, ◌<◌, List, [], ◌∷◌, zero, suc, length, Some, slice_get}
use Rattle.lynx_link.specs.Rings.{Sending, Receiving, IsNewRing}
use Rattle.lynx_link.specs.EndLists.{EndLists}

-- a server's ends of the rings that lead to each server
abbrev pub to_of : List EndLists → ℕ → List Sending
to_of [] server = []
to_of (own ∷ rest) zero = own.to
to_of (own ∷ rest) (suc server) = to_of rest server

-- a server's ends of the rings that lead from each server
abbrev pub from_of : List EndLists → ℕ → List Receiving
from_of [] server = []
from_of (own ∷ rest) zero = own.from
from_of (own ∷ rest) (suc server) = from_of rest server

-- a new ring leads from one server to the other: each has its own end of it, at the place of the
-- other
pub record IsLinked (ends : List EndLists) (sender receiver : ℕ) : Type 0 where
  pub sending : Sending
  pub receiving : Receiving
  pub goes_in : slice_get (to_of ends sender) receiver ≡ Some sending
  pub comes_out : slice_get (from_of ends receiver) sender ≡ Some receiving
  pub is_new : IsNewRing sending receiving

-- a new ring leads from each server to each, and there is no other end
pub record AreLinks (servers : ℕ) (ends : List EndLists) : Type 0 where
  pub counted : length ends ≡ servers
  pub to_each : (server : ℕ) → server < servers → length (to_of ends server) ≡ servers
  pub from_each : (server : ℕ) → server < servers → length (from_of ends server) ≡ servers
  pub linked : (sender receiver : ℕ) → sender < servers → receiver < servers
      → IsLinked ends sender receiver
