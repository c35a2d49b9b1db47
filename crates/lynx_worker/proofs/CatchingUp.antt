-- What a route that lags is sent.
use Rattle.std.proofs.Common.{◌≡◌, ◌∙◌, ◌⊎◌, ◌+◌, ◌&&◌, ℕ, suc, Bool, true, false, cond, nat_eq, nat_lt, not, List, [], ◌∷◌, ◌++◌, append_assoc, length, length-append, Option, Some, None, inl, inr, refl, sym, ap, subst, arith}
use Rattle.std.specs.Prelude.{is_none}
use Rattle.std.specs.List.{AllByRecursion}
use Rattle.std.proofs.lemmas.Bool.{eq-eqb, eqb-false, eqb-true, ne_eqb}
use Rattle.std.proofs.lemmas.List.{append-nil}
use Rattle.std.proofs.lemmas.List.Elements.{filter-append}
use Rattle.lynx_link.specs.EndLists.{EndLists}
use Rattle.lynx_link.specs.declared.parcel.Parcel.{Parcel}
use Rattle.lynx_link.specs.declared.parcel.Parcel.TheVariants.{Message}
use Rattle.lynx_worker.specs.declared.steps.Due.{Due}
use Rattle.lynx_worker.specs.declared.steps.Owed.{Owed}
use Rattle.lynx_worker.specs.Sending.{CatchesUp, SendsNothing, SendsTo, before, behind_all, dues_for, lag_behind, parcels_of, sent_to}
use Rattle.lynx_worker.proofs.Advancing.{parcels-append}

abbrev AreBefore : ℕ → List Due → Type 0
AreBefore reached dues = AllByRecursion (λ (due : Due). nat_lt due.place reached ≡ true) dues

pub before_more : (reached : ℕ) (dues : List Due) (due : Due) → AreBefore reached dues → nat_lt due.place reached ≡ true → AreBefore reached (dues ++ due ∷ [])
before_more reached [] due all is = (is, tt)
before_more reached (first ∷ dues) due all is = (all.0, before_more reached dues due all.1 is)

pub empty : (dues : List Due) → length dues ≡ 0 → dues ≡ []
empty [] is = refl
empty (due ∷ dues) is = absurd (omega (arith, is))

go_through : (reached : ℕ) (yielded rest : List Due) → AreBefore reached yielded → before reached (yielded ++ rest) ≡ yielded ++ before reached rest
go_through reached [] rest all = refl
go_through reached (due ∷ yielded) rest all =
    ap (λ (b : Bool). cond b (due ∷ before reached (yielded ++ rest)) []) all.0 ∙ ap (λ (l : List Due). due ∷ l) (go_through reached yielded rest all.1)

stops : (reached : ℕ) (due : Due) (rest : List Due) → nat_lt due.place reached ≡ false → before reached (due ∷ rest) ≡ []
stops reached due rest is = ap (λ (b : Bool). cond b (due ∷ before reached rest) []) is

goes : (reached : ℕ) (due : Due) (rest : List Due) → nat_lt due.place reached ≡ true → before reached (due ∷ rest) ≡ due ∷ before reached rest
goes reached due rest is = ap (λ (b : Bool). cond b (due ∷ before reached rest) []) is

off : (a b c : Bool) → (b ≡ false) ⊎ ((a ≡ false) ⊎ (c ≡ false)) → (a && b && c) ≡ false
off true true true (inl is) = cc
off true true true (inr (inl is)) = cc
off true true true (inr (inr is)) = cc
off true true false is = refl
off true false c is = refl
off false b c is = refl

on : (a b c : Bool) → a ≡ true → b ≡ true → c ≡ true → (a && b && c) ≡ true
on true true true x y z = refl
on true true false x y z = cc
on true false c x y z = cc
on false b c x y z = cc

abbrev test : ℕ → Owed → ℕ → List Due → Bool
test from owed reached found = is_none owed.end && nat_eq (length found) (length owed.dues.items) && nat_lt (behind_all from found) reached

no_lag : (from : ℕ) (owed : Owed) (reached : ℕ) (found : List Due) → before reached owed.dues.items ≡ found → test from owed reached found ≡ false →
    lag_behind from owed reached ≡ None
no_lag from owed reached found is is_off =
    ap (λ (l : List Due). cond (test from owed reached l) (Some (behind_all from l)) None) is ∙ ap (λ (b : Bool). cond b (Some (behind_all from found)) None) is_off

a_lag : (from : ℕ) (owed : Owed) (reached : ℕ) (found : List Due) → before reached owed.dues.items ≡ found → test from owed reached found ≡ true →
    lag_behind from owed reached ≡ Some (behind_all from found)
a_lag from owed reached found is is_on =
    ap (λ (l : List Due). cond (test from owed reached l) (Some (behind_all from l)) None) is ∙ ap (λ (b : Bool). cond b (Some (behind_all from found)) None) is_on

module _ (to reached : ℕ) (owed : Owed) (e0 : EndLists) (old : Option ℕ) (from : ℕ) (is_from : old ≡ Some from) (yielded rest : List Due)
    (split : owed.dues.items ≡ yielded ++ rest) (all : AreBefore reached yielded) (e : EndLists)
    (others : (server : ℕ) → (server ≡ to → ⊥) → sent_to e server ≡ sent_to e0 server)
    (went : sent_to e to ≡ sent_to e0 to ++ parcels_of (dues_for to yielded)) where
  found : before reached owed.dues.items ≡ yielded ++ before reached rest
  found = ap (before reached) split ∙ go_through reached yielded rest all

  -- all that was found so far was sent
  sent_all : before reached owed.dues.items ≡ yielded → (lag : Option ℕ) → lag ≡ lag_behind from owed reached → CatchesUp to owed reached e0 old e lag
  sent_all is lag lags = subst (λ (o : Option ℕ). CatchesUp to owed reached e0 o e lag) (sym is_from) (
    others,
    record {
      sent = dues_for to yielded;
      left = [];
      all = ap (dues_for to) is ∙ sym (append-nil (dues_for to yielded));
      goes = went;
      lags = lags;
    },
  )

  pub reached_it : (due : Due) (more : List Due) → rest ≡ due ∷ more → nat_lt due.place reached ≡ false → (lag : Option ℕ) → lag ≡ None → CatchesUp to owed reached e0 old e lag
  reached_it due more at stops_here lag none =
      let is : before reached owed.dues.items ≡ yielded = found ∙ ap (λ (l : List Due). yielded ++ before reached l) at
      ∙ ap (λ (l : List Due). yielded ++ l) (stops reached due more stops_here) ∙ append-nil yielded in
      let longer : length owed.dues.items ≡ length yielded + suc (length more) = ap length (split ∙ ap (λ (l : List Due). yielded ++ l) at) ∙ length-append yielded (due ∷ more) in
      let apart : nat_eq (length yielded) (length owed.dues.items) ≡ false = ne_eqb (length yielded) (length owed.dues.items) (λ same. omega (arith, longer, same)) in
      sent_all is lag (none ∙ sym (no_lag from owed reached yielded is
      (off (is_none owed.end) (nat_eq (length yielded) (length owed.dues.items)) (nat_lt (behind_all from yielded) reached) (inl apart))))

  pub not_sent : (due : Due) (more : List Due) (new : EndLists) → rest ≡ due ∷ more → nat_lt due.place reached ≡ true → nat_eq to due.to ≡ true → SendsNothing e new →
      (lag : Option ℕ) → lag ≡ Some due.place → CatchesUp to owed reached e0 old new lag
  not_sent due more new at goes_here mine none lag lags =
      let is : before reached owed.dues.items ≡ yielded ++ due ∷ before reached more = found ∙ ap (λ (l : List Due). yielded ++ before reached l) at
      ∙ ap (λ (l : List Due). yielded ++ l) (goes reached due more goes_here) in
      subst (λ (o : Option ℕ). CatchesUp to owed reached e0 o new lag) (sym is_from) (
        (λ server apart. none server ∙ others server apart),
        record {
          sent = dues_for to yielded;
          left = due ∷ dues_for to (before reached more);
          all = ap (dues_for to) is ∙ filter-append (λ (d : Due). nat_eq to d.to) yielded (due ∷ before reached more)
              ∙ ap (λ (b : Bool). dues_for to yielded ++ cond b (due ∷ dues_for to (before reached more)) (dues_for to (before reached more))) mine;
          goes = none to ∙ went;
          lags = lags;
        },
      )

  module _ (at_end : rest ≡ []) where
    all_found : before reached owed.dues.items ≡ yielded
    all_found = found ∙ ap (λ (l : List Due). yielded ++ before reached l) at_end ∙ append-nil yielded

    pub more_behind : (next : ℕ) → is_none owed.end ≡ true → nat_lt next reached ≡ true → next ≡ behind_all from yielded → (lag : Option ℕ) → lag ≡ Some next →
        CatchesUp to owed reached e0 old e lag
    more_behind next opens short next_is lag lags =
        let counted : nat_eq (length yielded) (length owed.dues.items) ≡ true = eq-eqb (length yielded) (length owed.dues.items)
        (sym (ap length (split ∙ ap (λ (l : List Due). yielded ++ l) at_end ∙ append-nil yielded))) in
        sent_all all_found lag (lags ∙ ap Some next_is ∙ sym (a_lag from owed reached yielded all_found
        (on (is_none owed.end) (nat_eq (length yielded) (length owed.dues.items)) (nat_lt (behind_all from yielded) reached) opens counted
        (ap (λ (n : ℕ). nat_lt n reached) (sym next_is) ∙ short))))

    pub none_behind : (next : ℕ) → next ≡ behind_all from yielded → (nat_lt next reached ≡ false) ⊎ (is_none owed.end ≡ false) → (lag : Option ℕ) → lag ≡ None →
        CatchesUp to owed reached e0 old e lag
    none_behind next next_is either lag lags = sent_all all_found lag (lags ∙ sym (no_lag from owed reached yielded all_found
        (off (is_none owed.end) (nat_eq (length yielded) (length owed.dues.items)) (nat_lt (behind_all from yielded) reached) (why either))))
      where
        why : (nat_lt next reached ≡ false) ⊎ (is_none owed.end ≡ false) →
            (nat_eq (length yielded) (length owed.dues.items) ≡ false) ⊎ ((is_none owed.end ≡ false) ⊎ (nat_lt (behind_all from yielded) reached ≡ false))
        why (inl far) = inr (inr (ap (λ (n : ℕ). nat_lt n reached) (sym next_is) ∙ far))
        why (inr closed) = inr (inl closed)

-- one more was gone over
passed_to : (to : ℕ) (yielded : List Due) (due : Due) → nat_eq to due.to ≡ true → dues_for to (yielded ++ due ∷ []) ≡ dues_for to yielded ++ due ∷ []
passed_to to yielded due mine = filter-append (λ (d : Due). nat_eq to d.to) yielded (due ∷ [])
    ∙ ap (λ (b : Bool). dues_for to yielded ++ cond b (due ∷ []) []) mine

pub passed_by : (to : ℕ) (yielded : List Due) (due : Due) → nat_eq to due.to ≡ false → dues_for to (yielded ++ due ∷ []) ≡ dues_for to yielded
passed_by to yielded due other_s = filter-append (λ (d : Due). nat_eq to d.to) yielded (due ∷ [])
    ∙ ap (λ (b : Bool). dues_for to yielded ++ cond b (due ∷ []) []) other_s ∙ append-nil (dues_for to yielded)

-- a message that isn't for this route's server
pub others_by : (to : ℕ) (yielded : List Due) (due : Due) (e0 e : EndLists) → nat_eq to due.to ≡ false → sent_to e to ≡ sent_to e0 to ++ parcels_of (dues_for to yielded) →
    sent_to e to ≡ sent_to e0 to ++ parcels_of (dues_for to (yielded ++ due ∷ []))
others_by to yielded due e0 e apart went =
    went ∙ ap (λ (l : List Due). sent_to e0 to ++ parcels_of l) (sym (passed_by to yielded due apart))

-- one that is, and that was sent
pub sent_more : (to : ℕ) (yielded : List Due) (due : Due) (e0 e new : EndLists) → nat_eq to due.to ≡ true → SendsTo e to (Message due.message) new →
    ((server : ℕ) → (server ≡ to → ⊥) → sent_to e server ≡ sent_to e0 server) → sent_to e to ≡ sent_to e0 to ++ parcels_of (dues_for to yielded) →
    ((server : ℕ) → (server ≡ to → ⊥) → sent_to new server ≡ sent_to e0 server) × (sent_to new to ≡ sent_to e0 to ++ parcels_of (dues_for to (yielded ++ due ∷ [])))
sent_more to yielded due e0 e new mine sends others went = (
  (λ server apart. sends server ∙ ap (λ (b : Bool). cond b (sent_to e server ++ Message due.message ∷ []) (sent_to e server)) (ne_eqb server to apart) ∙ others server apart),
  sends to ∙ ap (λ (b : Bool). cond b (sent_to e to ++ Message due.message ∷ []) (sent_to e to)) (eq-eqb to to refl)
      ∙ ap (λ (l : List Parcel). l ++ Message due.message ∷ []) went ∙ append_assoc (sent_to e0 to) (parcels_of (dues_for to yielded)) (Message due.message ∷ [])
      ∙ ap (λ (l : List Parcel). sent_to e0 to ++ l) (sym (parcels-append (dues_for to yielded) (due ∷ [])) ∙ ap parcels_of (sym (passed_to to yielded due mine))),
)

-- the server of a message, as the code compares it
pub is_mine : (to own server : ℕ) → not (nat_eq server own) ≡ false → own ≡ to → nat_eq to server ≡ true
is_mine to own server is own_is = by (nat_eq server own) refl
  where
    true_false : true ≡ false → ⊥
    true_false same = cc

    by : (b : Bool) → nat_eq server own ≡ b → nat_eq to server ≡ true
    by true e = eq-eqb to server (sym own_is ∙ sym (eqb-true server own e))
    by false e = absurd (true_false (sym (ap not e) ∙ is))

pub is_others : (to own server : ℕ) → not (nat_eq server own) ≡ true → own ≡ to → nat_eq to server ≡ false
is_others to own server is own_is = by (nat_eq server own) refl
  where
    true_false : false ≡ true → ⊥
    true_false same = cc

    by : (b : Bool) → nat_eq server own ≡ b → nat_eq to server ≡ false
    by true e = absurd (true_false (sym (ap not e) ∙ is))
    by false e = ne_eqb to server (λ same. eqb-false server own e (sym same ∙ sym own_is))
