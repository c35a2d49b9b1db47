-- Parcels that are sent one after another.
use Rattle.std.proofs.Common.{◌≡◌, ◌∙◌, ℕ, zero, suc, Bool, true, false, cond, nat_eq, List, [], ◌∷◌, ◌++◌, slice_set, Option, Some, Result, Ok, Err, refl, sym, ap, subst}
use Rattle.std.specs.Prelude.{IfErr, MatchBool, OnOk, is_ok, slice_get}
use Rattle.std.specs.Option.{option_map_or}
use Rattle.std.proofs.lemmas.Bool.{eqb-true, eqb-false}
use Rattle.lynx_link.specs.EndLists.{EndLists}
use Rattle.lynx_link.specs.Rings.{Sending, Sends}
use Rattle.lynx_link.specs.declared.parcel.Parcel.{Parcel}
use Rattle.lynx_worker.specs.Sending.{SendsNothing, SendsTo, sent_to}

pub get_set_same : {X : Type 0} (xs : List X) (i : ℕ) (x v : X) → slice_get xs i ≡ Some x → slice_get (slice_set xs i v) i ≡ Some v
get_set_same [] i x v there = cc
get_set_same (y ∷ ys) zero x v there = refl
get_set_same (y ∷ ys) (suc i) x v there = get_set_same ys i x v there

pub get_set_other : {X : Type 0} (xs : List X) (i j : ℕ) (v : X) → (j ≡ i → ⊥) → slice_get (slice_set xs i v) j ≡ slice_get xs j
get_set_other [] i j v apart = refl
get_set_other (y ∷ ys) zero zero v apart = absurd (apart refl)
get_set_other (y ∷ ys) zero (suc j) v apart = refl
get_set_other (y ∷ ys) (suc i) zero v apart = refl
get_set_other (y ∷ ys) (suc i) (suc j) v apart = get_set_other ys i j v (λ same. apart (ap suc same))

-- the ends with another end to that server
abbrev with_end : EndLists → ℕ → Sending → EndLists
with_end old to after = record old { to = slice_set old.to to after }

abbrev sent_by : Option Sending → List Parcel
sent_by end = option_map_or (λ (e : Sending). e.sent) end []

sends_one : (old : EndLists) (to : ℕ) (before after : Sending) (parcel : Parcel) → slice_get old.to to ≡ Some before → after.sent ≡ before.sent ++ parcel ∷ [] →
    SendsTo old to parcel (with_end old to after)
sends_one old to before after parcel there sent server = by (nat_eq server to) refl
  where
    by : (b : Bool) → nat_eq server to ≡ b → sent_to (with_end old to after) server ≡ cond b (sent_to old server ++ parcel ∷ []) (sent_to old server)
    by true e =
        let same = eqb-true server to e in
        ap (sent_to (with_end old to after)) same ∙ ap sent_by (get_set_same old.to to before after there) ∙ sent
        ∙ ap (λ (l : List Parcel). l ++ parcel ∷ []) (sym (ap sent_by there) ∙ ap (sent_to old) (sym same))
    by false e = ap sent_by (get_set_other old.to to server after (eqb-false server to e))

sends_none : (old : EndLists) (to : ℕ) (before after : Sending) → slice_get old.to to ≡ Some before → after ≡ before → SendsNothing old (with_end old to after)
sends_none old to before after there same server = by (nat_eq server to) refl
  where
    by : (b : Bool) → nat_eq server to ≡ b → sent_to (with_end old to after) server ≡ sent_to old server
    by true e =
        let at = eqb-true server to e in
        ap (sent_to (with_end old to after)) at ∙ ap sent_by (get_set_same old.to to before after there) ∙ ap (λ (s : Sending). s.sent) same
        ∙ sym (ap sent_by there) ∙ ap (sent_to old) (sym at)
    by false e = ap sent_by (get_set_other old.to to server after (eqb-false server to e))

-- what comes of an offer
pub offered : (old : EndLists) (to : ℕ) (before after : Sending) (parcel : Parcel) (given : Result (Unit {0}) Parcel) (b : Bool) → slice_get old.to to ≡ Some before →
    OnOk given (Sends before after parcel) → IfErr given (λ back. (back ≡ parcel) × (after ≡ before)) → b ≡ is_ok given →
    MatchBool b (SendsTo old to parcel (record old { to = slice_set old.to to after })) (SendsNothing old (record old { to = slice_set old.to to after }))
offered old to before after parcel (Ok done) b there sends stays is =
    subst (λ (t : Bool). MatchBool t (SendsTo old to parcel (with_end old to after)) (SendsNothing old (with_end old to after))) (sym is)
    (sends_one old to before after parcel there sends.sent)
offered old to before after parcel (Err back) b there sends stays is =
    subst (λ (t : Bool). MatchBool t (SendsTo old to parcel (with_end old to after)) (SendsNothing old (with_end old to after))) (sym is)
    (sends_none old to before after there stays.1)
