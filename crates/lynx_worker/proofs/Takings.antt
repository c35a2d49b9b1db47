-- What is taken out of one ring.
use Rattle.std.proofs.Common.{◌≡◌, ◌∙◌, ℕ, Bool, true, false, cond, nat_eq, List, [], ◌∷◌, ◌++◌, slice_set, Option, Some, refl, sym, ap}
use Rattle.std.specs.Prelude.{map, slice_get}
use Rattle.std.specs.List.{filter}
use Rattle.std.specs.Option.{option_map_or}
use Rattle.std.proofs.lemmas.Bool.{eqb-true, eqb-false}
use Rattle.std.proofs.lemmas.List.{append-nil}
use Rattle.lynx_link.specs.EndLists.{EndLists}
use Rattle.lynx_link.specs.Rings.{Receiving}
use Rattle.lynx_link.specs.declared.parcel.Parcel.{Parcel}
use Rattle.lynx_worker.specs.declared.steps.Arrived.{Arrived}
use Rattle.lynx_worker.specs.Taking.{Takes, TakesOut, arrived_from, parcels_from, received_from}
use Rattle.lynx_worker.proofs.Sendings.{get_set_other, get_set_same}

abbrev parcel_of : Arrived → Parcel
parcel_of one = one.parcel

-- of what came from a server, what came from that one
came : (server from : ℕ) (b : Bool) (parcels : List Parcel) → nat_eq server from ≡ b → parcels_from server (arrived_from from parcels) ≡ cond b parcels []
came server from true [] is = refl
came server from true (parcel ∷ parcels) is =
    let rest : List Arrived = filter (λ (one : Arrived). nat_eq server one.from) (arrived_from from parcels) in
    ap (λ (t : Bool). map parcel_of (cond t ((record { from = from; parcel = parcel }) ∷ rest) rest)) is ∙ ap (λ (l : List Parcel). parcel ∷ l) (came server from true parcels is)
came server from false [] is = refl
came server from false (parcel ∷ parcels) is =
    let rest : List Arrived = filter (λ (one : Arrived). nat_eq server one.from) (arrived_from from parcels) in
    ap (λ (t : Bool). map parcel_of (cond t ((record { from = from; parcel = parcel }) ∷ rest) rest)) is ∙ came server from false parcels is

abbrev received_by : Option Receiving → List Parcel
received_by end = option_map_or (λ (e : Receiving). e.received) end []

-- the ends with another end from that server
abbrev with_end : EndLists → ℕ → Receiving → EndLists
with_end old from after = record old { from = slice_set old.from from after }

-- what was taken out of one ring
pub takes_one : (old : EndLists) (from : ℕ) (before after : Receiving) (inbox new : List Arrived) → slice_get old.from from ≡ Some before → TakesOut from before inbox after new →
    Takes old inbox (record old { from = slice_set old.from from after }) new
takes_one old from before after inbox new there takes = record {
  arrived = arrived_from from takes.parcels;
  added = takes.added;
  taken = λ server. by server (nat_eq server from) refl;
}
  where
    by : (server : ℕ) (b : Bool) → nat_eq server from ≡ b →
        received_from (with_end old from after) server ≡ received_from old server ++ parcels_from server (arrived_from from takes.parcels)
    by server true e =
        let same = eqb-true server from e in
        ap (received_from (with_end old from after)) same ∙ ap received_by (get_set_same old.from from before after there) ∙ takes.taken
        ∙ ap (λ (l : List Parcel). l ++ takes.parcels) (sym (ap received_by there) ∙ ap (received_from old) (sym same))
        ∙ ap (λ (l : List Parcel). received_from old server ++ l) (sym (came server from true takes.parcels e))
    by server false e =
        ap received_by (get_set_other old.from from server after (eqb-false server from e)) ∙ sym (append-nil (received_from old server))
        ∙ ap (λ (l : List Parcel). received_from old server ++ l) (sym (came server from false takes.parcels e))
