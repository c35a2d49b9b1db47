-- What befell messages on their way.
use Rattle.std.specs.Prelude.{Bool, true, false, ◌&&◌, ◌==◌, ℕ, List, [], ◌++◌, codes, Option, Some, None, option_map}
use Rattle.std.specs.List.{filter_map, list_any}
use Rattle.lynx_names.specs.declared.chain.ChainId.{ChainId}
use Rattle.lynx_entry.specs.declared.answer.Delivered.{Delivered}
use Rattle.lynx_entry.specs.declared.answer.Delivered.TheVariants.{Held, Dropped, Repeat}
use Rattle.lynx_entry.specs.declared.event.Outcome.{Outcome}
use Rattle.lynx_entry.specs.declared.event.Outcome.TheVariants.{Delivered as DeliveredNow, LostNow}
use Rattle.lynx_rules.specs.Deliveries.{same_chain}
use Rattle.lynx_chart.specs.declared.fates.Fate.{Fate}
use Rattle.lynx_chart.specs.declared.fates.Fate.TheVariants.{Lost, Dropped as WasDropped, Held as WasHeld, Again}
use Rattle.lynx_chart.specs.declared.fates.Fates.{Fates}
use Rattle.lynx_chart.specs.declared.fates.Notice.{Notice}

-- what befell a message that was delivered, if anything did
abbrev pub fate_of : Delivered → Option Fate
fate_of Held = Some WasHeld
fate_of Dropped = Some WasDropped
fate_of (Repeat stamp results next) = Some Again
fate_of delivered = None

-- that it befell the message of a hop
abbrev pub noticed : ChainId → ℕ → Fate → Notice
noticed chain hop fate = record { chain = chain; hop = hop; fate = fate }

-- what an outcome says of a message
abbrev pub notice_of : Outcome → Option Notice
notice_of (LostNow chain hop) = Some (noticed chain hop Lost)
notice_of (DeliveredNow chain hop delivered) = option_map (noticed chain hop) (fate_of delivered)
notice_of outcome = None

abbrev pub notices_of : List Outcome → List Notice
notices_of outcomes = filter_map notice_of outcomes

-- the notice is of that hop of the chain
abbrev pub is_of : ChainId → ℕ → Notice → Bool
is_of chain hop notice = same_chain notice.chain chain && notice.hop == hop

abbrev pub is_lost : Fate → Bool
is_lost Lost = true
is_lost fate = false

abbrev pub is_dropped : Fate → Bool
is_dropped WasDropped = true
is_dropped fate = false

abbrev pub is_held : Fate → Bool
is_held WasHeld = true
is_held fate = false

abbrev pub is_repeated : Fate → Bool
is_repeated Again = true
is_repeated fate = false

abbrev pub is_loss : ChainId → ℕ → Notice → Bool
is_loss chain hop notice = is_of chain hop notice && is_lost notice.fate

abbrev pub is_drop : ChainId → ℕ → Notice → Bool
is_drop chain hop notice = is_of chain hop notice && is_dropped notice.fate

abbrev pub is_hold : ChainId → ℕ → Notice → Bool
is_hold chain hop notice = is_of chain hop notice && is_held notice.fate

abbrev pub is_again : ChainId → ℕ → Notice → Bool
is_again chain hop notice = is_of chain hop notice && is_repeated notice.fate

-- what befell the message of a hop
abbrev pub fates_of : List Notice → ChainId → ℕ → Fates
fates_of notices chain hop = record {
  lost = list_any (is_loss chain hop) notices;
  dropped = list_any (is_drop chain hop) notices;
  held = list_any (is_hold chain hop) notices;
  again = list_any (is_again chain hop) notices;
}

-- a word behind a space, if that befell it
abbrev pub fate_word : Bool → List ℕ → List ℕ
fate_word true word = word
fate_word false word = []

abbrev pub fates_text : Fates → List ℕ
fates_text fates =
    fate_word fates.lost (codes " lost") ++ fate_word fates.dropped (codes " dropped")
    ++ fate_word fates.held (codes " held")
    ++ fate_word fates.again (codes " again")
