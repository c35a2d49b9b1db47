-- What a client is sent.
use Rattle.std.specs.Prelude.{◌≡◌, ◌⊎◌, ℕ, List, Option, None, Result, MatchResult}
use Rattle.lynx_port.specs.declared.fault.PortFault.{PortFault}
use Rattle.lynx_port.specs.declared.serving.Served.{Served}
use Rattle.lynx_port.specs.Desks.{Begins, Looks}
use Rattle.lynx_port.specs.Exits.{HasServed, HasFailed}

-- A client was served, to an end or to a fault: what was written for it are the encodings of what
-- the desk answered to its frames, in order, the last one perhaps in part. Which bytes it sent
-- isn't known.
abbrev pub HasTalked : {D : Type 0} → Begins D → Looks D → D → D → Option (List ℕ)
    → Option (List ℕ) → Type 0
HasTalked begins looks first last unwritten wrote =
    (done : Result Served PortFault) × MatchResult done
    (HasServed begins looks first last None None unwritten wrote)
    (HasFailed begins looks first last None None unwritten wrote)

-- A client was served over a connection, of which isn't known what the system did with what was
-- written there; or nobody was, and the desk is as it was.
abbrev pub HasTalkedOver : {D : Type 0} → Begins D → Looks D → D → D → Type 0
HasTalkedOver begins looks first last =
    (last ≡ first)
    ⊎ ((unwritten : Option (List ℕ)) × (wrote : Option (List ℕ))
    × HasTalked begins looks first last unwritten wrote)
