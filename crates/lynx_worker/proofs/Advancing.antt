-- What routes do, one message after another.
use Rattle.std.proofs.Common.{◌≡◌, ◌∙◌, ◌<◌, ◌≤◌, ◌+◌, ℕ, zero, suc, Bool, true, false, cond, nat_eq, List, [], ◌∷◌, ◌++◌, append_assoc, length, length-append, min, slice_set, take, Option, Some, None, refl, sym, ap, subst, arith}
use Rattle.std.specs.Prelude.{MatchBool, slice_get, unwrap_or}
use Rattle.std.proofs.lemmas.Bool.{eqb-true, eqb-false}
use Rattle.std.proofs.lemmas.List.{append-nil}
use Rattle.std.proofs.lemmas.List.Elements.{filter-append}
use Rattle.std.proofs.Math.Seq.{take-append_seam}
use Rattle.lynx_link.specs.EndLists.{EndLists}
use Rattle.lynx_link.specs.declared.parcel.Parcel.{Parcel}
use Rattle.lynx_link.specs.declared.parcel.Parcel.TheVariants.{Message}
use Rattle.lynx_worker.specs.declared.route.Route.{Route}
use Rattle.lynx_worker.specs.declared.steps.Due.{Due}
use Rattle.lynx_worker.specs.Routes.{AreRoutes, lags_of}
use Rattle.lynx_worker.specs.Sending.{Advances, GoesOn, Sends, SendsAll, SendsBeginning, SendsNothing, SendsTo, behind, behind_all, dues_for, first_or, parcels_of, sent_to}
use Rattle.lynx_worker.proofs.Sendings.{get_set_same}

pub parcels-append : (xs ys : List Due) → parcels_of (xs ++ ys) ≡ parcels_of xs ++ parcels_of ys
parcels-append [] ys = refl
parcels-append (x ∷ xs) ys = ap (λ (l : List Parcel). Message x.message ∷ l) (parcels-append xs ys)

-- a beginning, and then more
pub began_more : (server : ℕ) (xs ys : List Due) (e0 : EndLists) (end : Option ℕ) (e1 e2 : EndLists) (b c : Option ℕ) → SendsBeginning server xs e0 None e1 b →
    (b ≡ None → SendsBeginning server ys e1 end e2 c) → ((place : ℕ) → b ≡ Some place → (sent_to e2 server ≡ sent_to e1 server) × (c ≡ Some place)) →
    SendsBeginning server (xs ++ ys) e0 end e2 c
began_more server xs ys e0 end e1 e2 b c first goes lags = by first.sent first.left first.all first.goes first.lags
  where
    by : (sent left : List Due) → xs ≡ sent ++ left → sent_to e1 server ≡ sent_to e0 server ++ parcels_of sent → b ≡ first_or None left →
        SendsBeginning server (xs ++ ys) e0 end e2 c
    by sent [] all went is =
        let second = goes is in
        record {
          sent = sent ++ second.sent;
          left = second.left;
          all = ap (λ (l : List Due). l ++ ys) (all ∙ append-nil sent) ∙ ap (λ (l : List Due). sent ++ l) second.all ∙ sym (append_assoc sent second.sent second.left);
          goes = second.goes ∙ ap (λ (l : List Parcel). l ++ parcels_of second.sent) went ∙ append_assoc (sent_to e0 server) (parcels_of sent) (parcels_of second.sent)
              ∙ ap (λ (l : List Parcel). sent_to e0 server ++ l) (sym (parcels-append sent second.sent));
          lags = second.lags;
        }
    by sent (due ∷ dues) all went is =
        let (same, stays) = lags due.place is in
        record {
          sent = sent;
          left = (due ∷ dues) ++ ys;
          all = ap (λ (l : List Due). l ++ ys) all ∙ append_assoc sent (due ∷ dues) ys;
          goes = same ∙ went;
          lags = stays;
        }

advances_more : (server : ℕ) (xs ys : List Due) (e0 e1 e2 : EndLists) (a b c : Option ℕ) → Advances server xs e0 a e1 b → Advances server ys e1 b e2 c →
    Advances server (xs ++ ys) e0 a e2 c
advances_more server xs ys e0 e1 e2 None b c first second =
    began_more server xs ys e0 None e1 e2 b c first (λ is. subst (λ (l : Option ℕ). Advances server ys e1 l e2 c) is second)
    (λ place is. subst (λ (l : Option ℕ). Advances server ys e1 l e2 c) is second)
advances_more server xs ys e0 e1 e2 (Some place) b c first second =
    let (same, stays) = subst (λ (l : Option ℕ). Advances server ys e1 l e2 c) first.1 second in
    (same ∙ first.0, stays)

goes_on_more : (server : ℕ) (xs ys : List Due) (e0 e1 e2 : EndLists) (a b c : Option (Option ℕ)) → GoesOn server xs e0 a e1 b → GoesOn server ys e1 b e2 c →
    GoesOn server (xs ++ ys) e0 a e2 c
goes_on_more server xs ys e0 e1 e2 None None None first second = second ∙ first
goes_on_more server xs ys e0 e1 e2 None None (Some c) first second = absurd second
goes_on_more server xs ys e0 e1 e2 None (Some b) c first second = absurd first
goes_on_more server xs ys e0 e1 e2 (Some a) None c first second = absurd first
goes_on_more server xs ys e0 e1 e2 (Some a) (Some b) None first second = absurd second
goes_on_more server xs ys e0 e1 e2 (Some a) (Some b) (Some c) first second = advances_more server xs ys e0 e1 e2 a b c first second

pub sends_more : (xs ys : List Due) (e0 e1 e2 : EndLists) (a b c : List (Option ℕ)) → Sends xs e0 a e1 b → Sends ys e1 b e2 c → Sends (xs ++ ys) e0 a e2 c
sends_more xs ys e0 e1 e2 a b c first second server =
    subst (λ (l : List Due). GoesOn server l e0 (slice_get a server) e2 (slice_get c server)) (sym (filter-append (λ (due : Due). nat_eq server due.to) xs ys))
    (goes_on_more server (dues_for server xs) (dues_for server ys) e0 e1 e2 (slice_get a server) (slice_get b server) (slice_get c server) (first server) (second server))

nothing : (server : ℕ) (e0 e1 : EndLists) (lag : Option (Option ℕ)) → sent_to e1 server ≡ sent_to e0 server → GoesOn server [] e0 lag e1 lag
nothing server e0 e1 None same = same
nothing server e0 e1 (Some None) same = record { sent = []; left = []; all = refl; goes = same ∙ sym (append-nil (sent_to e0 server)); lags = refl }
nothing server e0 e1 (Some (Some place)) same = (same, refl)

pub sends_none : (lags : List (Option ℕ)) (ends : EndLists) → Sends [] ends lags ends lags
sends_none lags ends server = nothing server ends ends (slice_get lags server) refl

length_lags : (routes : List Route) → length (lags_of routes) ≡ length routes
length_lags [] = refl
length_lags (route ∷ routes) = ap suc (length_lags routes)

beyond : (lags : List (Option ℕ)) (i : ℕ) → length lags ≤ i → slice_get lags i ≡ None
beyond [] i past = refl
beyond (lag ∷ lags) zero past = absurd (omega (arith, past))
beyond (lag ∷ lags) (suc i) past = beyond lags i (omega (arith, past))

-- there is no route to the server that a message is for
pub sends_nowhere : (routes : List Route) (i : ℕ) (ends : EndLists) (due : Due) → length routes ≤ i → i ≡ due.to →
    Sends (due ∷ []) ends (lags_of routes) ends (lags_of routes)
sends_nowhere routes i ends due past at server = by (nat_eq server due.to) refl
  where
    lag : Option (Option ℕ)
    lag = slice_get (lags_of routes) server

    by : (b : Bool) → nat_eq server due.to ≡ b → GoesOn server (cond (nat_eq server due.to) (due ∷ []) []) ends lag ends lag
    by true e =
        let none : lag ≡ None = beyond (lags_of routes) server (omega (arith, past, at, eqb-true server due.to e, length_lags routes)) in
        subst (λ (b : Bool). GoesOn server (cond b (due ∷ []) []) ends lag ends lag) (sym e)
        (subst (λ (l : Option (Option ℕ)). GoesOn server (due ∷ []) ends l ends l) (sym none) refl)
    by false e = subst (λ (b : Bool). GoesOn server (cond b (due ∷ []) []) ends lag ends lag) (sym e) (nothing server ends ends lag refl)

lags_get : (routes : List Route) (i : ℕ) (route : Route) → slice_get routes i ≡ Some route → slice_get (lags_of routes) i ≡ Some route.lags_at
lags_get [] i route there = cc
lags_get (first ∷ routes) zero route there =
    let same : first ≡ route = cc in
    ap (λ (r : Route). Some r.lags_at) same
lags_get (first ∷ routes) (suc i) route there = lags_get routes i route there

lags_other : (routes : List Route) (i server : ℕ) (after : Route) → (server ≡ i → ⊥) → slice_get (lags_of (slice_set routes i after)) server ≡ slice_get (lags_of routes) server
lags_other [] i server after apart = refl
lags_other (first ∷ routes) zero zero after apart = absurd (apart refl)
lags_other (first ∷ routes) zero (suc server) after apart = refl
lags_other (first ∷ routes) (suc i) zero after apart = refl
lags_other (first ∷ routes) (suc i) (suc server) after apart = lags_other routes i server after (λ same. apart (ap suc same))

one : (server : ℕ) (due : Due) (ends new : EndLists) (before after : Option ℕ) (b : Bool) →
    MatchBool b (sent_to new server ≡ sent_to ends server ++ Message due.message ∷ []) (sent_to new server ≡ sent_to ends server) →
    MatchBool b ((before ≡ None) × (after ≡ None)) (after ≡ Some (unwrap_or before due.place)) → Advances server (due ∷ []) ends before new after
one server due ends new None after true sends lags = record { sent = due ∷ []; left = []; all = refl; goes = sends; lags = lags.1 }
one server due ends new (Some place) after true sends lags = cc
one server due ends new None after false sends lags =
    record { sent = []; left = due ∷ []; all = refl; goes = sends ∙ sym (append-nil (sent_to ends server)); lags = lags }
one server due ends new (Some place) after false sends lags = (sends, lags)

-- a message went by its route, or the route lags
pub sends_one : (routes : List Route) (i : ℕ) (before after : Route) (ends new : EndLists) (due : Due) (b : Bool) → slice_get routes i ≡ Some before →
    i ≡ due.to → AreRoutes routes → MatchBool b (SendsTo ends before.to (Message due.message) new) (SendsNothing ends new) →
    MatchBool b ((before.lags_at ≡ None) × (after.lags_at ≡ None)) (after.lags_at ≡ Some (unwrap_or before.lags_at due.place)) →
    Sends (due ∷ []) ends (lags_of routes) new (lags_of (slice_set routes i after))
sends_one routes i before after ends new due b there at are sends lags server = by (nat_eq server due.to) refl
  where
    to_is : before.to ≡ due.to
    to_is = are i before there ∙ at

    old_lag : Option (Option ℕ)
    old_lag = slice_get (lags_of routes) server

    new_lag : Option (Option ℕ)
    new_lag = slice_get (lags_of (slice_set routes i after)) server

    Goal : Bool → Type 0
    Goal test = GoesOn server (cond test (due ∷ []) []) ends old_lag new new_lag

    here : (b : Bool) → nat_eq server before.to ≡ true → MatchBool b (SendsTo ends before.to (Message due.message) new) (SendsNothing ends new) →
        MatchBool b (sent_to new server ≡ sent_to ends server ++ Message due.message ∷ []) (sent_to new server ≡ sent_to ends server)
    here true e went = went server ∙ ap (λ (t : Bool). cond t (sent_to ends server ++ Message due.message ∷ []) (sent_to ends server)) e
    here false e none = none server

    there_not : (b : Bool) → nat_eq server before.to ≡ false → MatchBool b (SendsTo ends before.to (Message due.message) new) (SendsNothing ends new) →
        sent_to new server ≡ sent_to ends server
    there_not true e went = went server ∙ ap (λ (t : Bool). cond t (sent_to ends server ++ Message due.message ∷ []) (sent_to ends server)) e
    there_not false e none = none server

    by : (test : Bool) → nat_eq server due.to ≡ test → Goal (nat_eq server due.to)
    by true e =
        let same : server ≡ i = eqb-true server due.to e ∙ sym at in
        let old_is : old_lag ≡ Some before.lags_at = ap (slice_get (lags_of routes)) same ∙ lags_get routes i before there in
        let new_is : new_lag ≡ Some after.lags_at =
        ap (slice_get (lags_of (slice_set routes i after))) same ∙ lags_get (slice_set routes i after) i after (get_set_same routes i before after there) in
        subst Goal (sym e) (subst (λ (l : Option (Option ℕ)). GoesOn server (due ∷ []) ends l new new_lag) (sym old_is)
        (subst (λ (l : Option (Option ℕ)). GoesOn server (due ∷ []) ends (Some before.lags_at) new l) (sym new_is)
        (one server due ends new before.lags_at after.lags_at b (here b (ap (nat_eq server) to_is ∙ e) sends) lags)))
    by false e =
        let apart : server ≡ i → ⊥ = λ (same : server ≡ i). eqb-false server due.to e (same ∙ at) in
        subst Goal (sym e) (subst (λ (l : Option (Option ℕ)). GoesOn server [] ends old_lag new l) (sym (lags_other routes i server after apart))
        (nothing server ends new old_lag (there_not b (ap (nat_eq server) to_is ∙ e) sends)))

pub behind_more : (place : ℕ) (dues : List Due) (due : Due) → behind_all place (dues ++ due ∷ []) ≡ behind due.place
behind_more place [] due = refl
behind_more place (first ∷ dues) due = behind_more (behind first.place) dues due

-- ---- messages that are all sent

pub sends_no_due : (ends : EndLists) → SendsAll [] ends ends
sends_no_due ends server = sym (append-nil (sent_to ends server))

pub sends_next : (dues : List Due) (due : Due) (e0 e new : EndLists) → SendsAll dues e0 e → SendsTo e due.to (Message due.message) new → SendsAll (dues ++ due ∷ []) e0 new
sends_next dues due e0 e new all sends server =
    more (nat_eq server due.to) refl ∙ ap (λ (l : List Parcel). l ++ parcels_of (own (nat_eq server due.to))) (all server)
    ∙ append_assoc (sent_to e0 server) (parcels_of (dues_for server dues)) (parcels_of (own (nat_eq server due.to)))
    ∙ ap (λ (l : List Parcel). sent_to e0 server ++ l) (sym (parcels-append (dues_for server dues) (own (nat_eq server due.to)))
    ∙ ap parcels_of (sym (filter-append (λ (d : Due). nat_eq server d.to) dues (due ∷ []))))
  where
    own : Bool → List Due
    own b = cond b (due ∷ []) []

    more : (b : Bool) → nat_eq server due.to ≡ b → sent_to new server ≡ sent_to e server ++ parcels_of (cond b (due ∷ []) [])
    more true is = sends server ∙ ap (λ (b : Bool). cond b (sent_to e server ++ Message due.message ∷ []) (sent_to e server)) is
    more false is = sends server ∙ ap (λ (b : Bool). cond b (sent_to e server ++ Message due.message ∷ []) (sent_to e server)) is ∙ sym (append-nil (sent_to e server))

-- the first of them, as many as were counted
pub sends_counted : (all yielded rest : List Due) (count : ℕ) (e0 e : EndLists) → all ≡ yielded ++ rest → count ≡ length yielded → SendsAll yielded e0 e →
    SendsAll (take count all) e0 e
sends_counted all yielded rest count e0 e is counted sends =
    subst (λ (l : List Due). SendsAll l e0 e) (sym (ap (take count) is ∙ ap (λ (n : ℕ). take n (yielded ++ rest)) counted ∙ take-append_seam yielded rest)) sends

pub count_more : (all yielded rest : List Due) (due : Due) (count next : ℕ) → all ≡ (yielded ++ due ∷ []) ++ rest → length all < 18446744073709551616 → count ≡ length yielded →
    next ≡ min (count + 1) 18446744073709551615 → next ≡ length (yielded ++ due ∷ [])
count_more all yielded rest due count next is small counted next_is =
    let long : length all ≡ length (yielded ++ due ∷ []) + length rest = ap length is ∙ length-append (yielded ++ due ∷ []) rest in
    omega (arith, long, small, counted, next_is, length-append yielded (due ∷ []))
