-- A step leaves the list as it was, or adds one entry at its end.
use Rattle.std.proofs.Common.{◌≡◌, ℕ, Bool, true, false, List, Option, Some, None, inl, inr, refl}
use Rattle.std.specs.Prelude.{if◌then◌else◌, filter, is_some}
use Rattle.lynx_names.specs.declared.chain.ChainId.{ChainId}
use Rattle.lynx_set.specs.Set.{Set}
use Rattle.lynx_entry.specs.declared.entry.Entry.{Entry}
use Rattle.lynx_entry.specs.declared.message.Message.{Message}
use Rattle.lynx_entry.specs.declared.event.Event.{Event}
use Rattle.lynx_entry.specs.declared.event.Event.TheVariants.{Begin, Deliver, Wake, Lost, Restart}
use Rattle.lynx_world.specs.Placed.{Placed}
use Rattle.lynx_world.specs.Worlds.{WorldState, history_of}
use Rattle.lynx_world.specs.Steps.{HasGrown, Step, step, is_server, held_at, sent_message, destination_of, list_with, deliver_sent, wake_at, least_of, stands_now}

list_with-grows : (server : ℕ) (added : Option Entry) (list : List Placed) → HasGrown list (list_with server added list)
list_with-grows server None list = inl refl
list_with-grows server (Some entry) list = inr (record { server = server; entry = entry }, refl)

chosen_grows : (old : List Placed) (b : Bool) (x y : Step) → HasGrown old x.world.list → HasGrown old y.world.list →
    HasGrown old (if b then x else y).world.list
chosen_grows old true x y left right = left
chosen_grows old false x y left right = right

deliver-grows : (room : ℕ) (world : WorldState) (chain : ChainId) (hop : ℕ) (sent : Option Message) →
    HasGrown world.list (deliver_sent room world chain hop sent).world.list
deliver-grows room world chain hop None = inl refl
deliver-grows room world chain hop (Some message) =
    let server = destination_of world.set message in
    chosen_grows world.list (is_server world server) _ _ (list_with-grows server _ world.list) (inl refl)

wake-grows : (room : ℕ) (world : WorldState) (server : ℕ) (least : Option Message) →
    HasGrown world.list (wake_at room world server least).world.list
wake-grows room world server None = inl refl
wake-grows room world server (Some message) = list_with-grows server _ world.list

pub step-grows : (room : ℕ) (world : WorldState) (event : Event) → HasGrown world.list (step room world event).world.list
step-grows room world (Begin server request seen) =
    chosen_grows world.list (is_server world server) _ _ (list_with-grows server _ world.list) (inl refl)
step-grows room world (Deliver chain hop) = deliver-grows room world chain hop (sent_message world.set chain hop world.list)
step-grows room world (Wake server) =
    chosen_grows world.list (is_server world server) _ _
    (wake-grows room world server (least_of (filter (stands_now world.set server (history_of server world.list)) (held_at world server))))
    (inl refl)
step-grows room world (Lost chain hop) =
    chosen_grows world.list (is_some (sent_message world.set chain hop world.list)) _ _ (inl refl) (inl refl)
step-grows room world (Restart server) = chosen_grows world.list (is_server world server) _ _ (inl refl) (inl refl)

chosen_set : (set : Set) (b : Bool) (x y : Step) → x.world.set ≡ set → y.world.set ≡ set → (if b then x else y).world.set ≡ set
chosen_set set true x y left right = left
chosen_set set false x y left right = right

deliver-set : (room : ℕ) (world : WorldState) (chain : ChainId) (hop : ℕ) (sent : Option Message) →
    (deliver_sent room world chain hop sent).world.set ≡ world.set
deliver-set room world chain hop None = refl
deliver-set room world chain hop (Some message) =
    chosen_set world.set (is_server world (destination_of world.set message)) _ _ refl refl

wake-set : (room : ℕ) (world : WorldState) (server : ℕ) (least : Option Message) →
    (wake_at room world server least).world.set ≡ world.set
wake-set room world server None = refl
wake-set room world server (Some message) = refl

-- a step leaves the set as it was
pub step-set : (room : ℕ) (world : WorldState) (event : Event) → (step room world event).world.set ≡ world.set
step-set room world (Begin server request seen) = chosen_set world.set (is_server world server) _ _ refl refl
step-set room world (Deliver chain hop) = deliver-set room world chain hop (sent_message world.set chain hop world.list)
step-set room world (Wake server) =
    chosen_set world.set (is_server world server) _ _
    (wake-set room world server (least_of (filter (stands_now world.set server (history_of server world.list)) (held_at world server))))
    refl
step-set room world (Lost chain hop) =
    chosen_set world.set (is_some (sent_message world.set chain hop world.list)) _ _ refl refl
step-set room world (Restart server) = chosen_set world.set (is_server world server) _ _ refl refl
