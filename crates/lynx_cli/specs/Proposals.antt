-- Programs that are told to add to a set.
use Rattle.std.specs.Prelude.{◌≡◌, List, ℕ}
use Rattle.lynx_graph.specs.Acceptance.{IsAccepted}
use Rattle.lynx_set.specs.Set.{Set}
use Rattle.lynx_set.specs.Text.{text_of}

-- the text is that of an accepted set
abbrev pub IsProposal : List ℕ → Type 0
IsProposal text = (set : Set) × (text ≡ text_of set) × IsAccepted set
