-- The shapes of messages.
use Rattle.std.specs.Prelude.{Bool, true, false, ◌||◌, ℕ, List, [], ◌∷◌, ◌++◌, codes, if◌then◌else◌}
use Rattle.lynx_set.specs.Set.{Set}
use Rattle.lynx_chart.specs.Fates.{fates_of, fates_text}
use Rattle.lynx_chart.specs.Labels.{hop_text}
use Rattle.lynx_chart.specs.Messages.{owed_box}
use Rattle.lynx_chart.specs.Shapes.{Shape, Arrow, Cross}
use Rattle.lynx_chart.specs.declared.fates.Fates.{Fates}
use Rattle.lynx_chart.specs.declared.fates.Notice.{Notice}
use Rattle.lynx_chart.specs.declared.messages.Sent.{Sent}

-- what an arrow tells: its hop, and what befell its message
abbrev pub told_of : Sent → Fates → List ℕ
told_of sent fates = hop_text sent.chain sent.hop ++ fates_text fates

-- a shape, if it is wanted
abbrev pub wanted : Bool → Shape → List Shape
wanted true shape = shape ∷ []
wanted false shape = []

abbrev pub arrow_kind : Fates → List ℕ
arrow_kind fates = if fates.held then codes "message held" else codes "message"

abbrev pub is_missed : Fates → Bool
is_missed fates = fates.lost || fates.dropped

-- the arrow of a message, one more where it came again, and a cross where it was lost or dropped
abbrev pub fate_shapes : Sent → Fates → List ℕ → List Shape
fate_shapes sent fates told =
    Arrow (arrow_kind fates) sent.from sent.to 0 told
    ∷ (wanted fates.again (Arrow (codes "message again") sent.from sent.to 1 told)
    ++ wanted (is_missed fates) (Cross sent.from sent.to told))

-- the box of the hop, if it is owed, and those
abbrev pub sent_shapes : Set → Sent → Fates → List Shape
sent_shapes set sent fates =
    wanted sent.is_owed (owed_box set sent) ++ fate_shapes sent fates (told_of sent fates)

abbrev pub message_shapes : Set → List Notice → Sent → List Shape
message_shapes set notices sent =
    sent_shapes set sent (fates_of notices sent.chain sent.hop)
