-- When a list of entries is legal.
use Rattle.std.specs.Prelude.{◌≡◌, ◌<◌, List, [], ◌∷◌, ◌++◌, Some, ◌⊎◌}
use Rattle.lynx_set.specs.Set.{Set}
use Rattle.lynx_entry.specs.declared.message.Message.{Message}
use Rattle.lynx_rules.specs.Messages.{next_message}
use Rattle.lynx_rules.specs.Lawful.{IsLawful, message_of}
use Rattle.lynx_world.specs.Placed.{Placed}
use Rattle.lynx_world.specs.Worlds.{history_of}

-- an entry of the list sends the message
abbrev pub IsSent : Set → List Placed → Message → Type 0
IsSent set [] message = ⊥
IsSent set (placed ∷ list) message =
    (next_message set placed.entry ≡ Some message) ⊎ IsSent set list message

-- the entry may stand behind these: it is lawful after those of its server, and one of them sent
-- its message
pub record MayFollow (set : Set) (before : List Placed) (placed : Placed) : Type 0 where
  pub at_server : placed.server < set.servers
  pub lawful : IsLawful set placed.server (history_of placed.server before) placed.entry
  pub sent : (message : Message) → message_of placed.entry ≡ Some message
      → IsSent set before message

-- behind these, each entry may stand behind those before it
abbrev pub IsLegalAfter : Set → List Placed → List Placed → Type 0
IsLegalAfter set before [] = Unit {0}
IsLegalAfter set before (placed ∷ list) =
    MayFollow set before placed × IsLegalAfter set (before ++ placed ∷ []) list

-- Each entry may stand behind those before it.
abbrev pub IsLegal : Set → List Placed → Type 0
IsLegal set list = IsLegalAfter set [] list
