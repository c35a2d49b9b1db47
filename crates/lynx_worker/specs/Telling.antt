-- What a worker tells of hops that were done.
use Rattle.std.specs.Prelude.{◌≡◌, ◌⊎◌, ℕ, List, [], ◌∷◌, ◌++◌, take}
use Rattle.lynx_link.specs.EndLists.{EndLists}
use Rattle.lynx_link.specs.declared.parcel.Parcel.TheVariants.{Done}
use Rattle.lynx_worker.specs.declared.steps.Acknowledgement.{Acknowledgement}
use Rattle.lynx_worker.specs.Sending.{SendsNothing, SendsTo}

-- The sender of each of these hops is told, behind what was sent to it before, or the
-- acknowledgement stays, in order; and nothing else is sent.
abbrev pub Tells : List Acknowledgement → EndLists → List Acknowledgement → EndLists → Type 0
Tells [] old stay new = (stay ≡ []) × SendsNothing old new
Tells (acknowledgement ∷ acknowledgements) old stay new = (between : EndLists)
    × ((SendsTo old acknowledgement.to (Done acknowledgement.chain acknowledgement.hop) between
    × Tells acknowledgements between stay new)
    ⊎ (SendsNothing old between
    × ((more : List Acknowledgement) × (stay ≡ acknowledgement ∷ more)
    × Tells acknowledgements between more new)))

-- the first of these acknowledgements, however many, were added behind those that waited
abbrev pub AddsSome : List Acknowledgement → List Acknowledgement → List Acknowledgement → Type 0
AddsSome acknowledgements old new = (many : ℕ) × (new ≡ old ++ take many acknowledgements)
