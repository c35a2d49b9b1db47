-- A server is busy only where a program that begins there returns.
use Rattle.std.proofs.Common.{◌≡◌, ◌+◌, ◌&&◌, ◌||◌, ◌⊎◌, ℕ, zero, suc, Bool, true, false, not, cond, nat_eq, drop, List, [], ◌∷◌, ◌++◌, slice_get, count_by, Option, Some, None, IsNone, refl, sym, ap, ◌∙◌, inl, inr, eq-eqb, arith}
use Rattle.std.proofs.lemmas.Bool.{eqb-true}
use Rattle.lynx_set.specs.Set.{Set}
use Rattle.lynx_set.specs.Lookups.{hops_of, program_at}
use Rattle.lynx_set.specs.declared.program.Hop.{Hop}
use Rattle.lynx_set.specs.declared.program.Program.{Program}
use Rattle.lynx_entry.specs.declared.answer.Answer.{Answer}
use Rattle.lynx_entry.specs.declared.entry.Entry.{Entry}
use Rattle.lynx_entry.specs.declared.entry.Entry.TheVariants.{Begun, Refused, Hop as HopRan}
use Rattle.lynx_entry.specs.declared.message.Message.{Message}
use Rattle.lynx_entry.specs.declared.request.Request.{Request}
use Rattle.lynx_entry.specs.Entry.{History}
use Rattle.lynx_rules.specs.Answers.{is_busy}
use Rattle.lynx_rules.specs.Checks.{fits, fits_hop, fits_program, has_begun, request_fault_in}
use Rattle.lynx_rules.specs.Lawful.{IsLawful}
use Rattle.lynx_rules.specs.Turns.{begun_count, is_begun, ends_visit, turn_of}
use Rattle.lynx_rules.specs.Visits.{is_last_at, is_origin, leaves_by_first, starts_at, visits}
use Rattle.lynx_server.specs.History.{IsLawfulAfter, IsLawfulHistory}
use Rattle.lynx_server.specs.Returning.{HasReturn}
use Rattle.lynx_server.proofs.Acting.{later, left}
use Rattle.lynx_server.proofs.Repeating.{count_first}

both : (a b : Bool) → (a && b) ≡ true → (a ≡ true) × (b ≡ true)
both true b e = (refl, e)
both false b e = cc

passes : (b : Bool) (fault : Answer) (rest : Option Answer) → IsNone (cond (not b) (Some fault) rest) → b ≡ true
passes true fault rest none = refl
passes false fault rest none = cc

-- a request without fault is of a program that begins here
origin_of_request : (set : Set) (server : ℕ) (request : Request) (program : Option Program) →
    IsNone (request_fault_in set server request program) → is_origin set request.program server ≡ true
origin_of_request set server request None none = cc
origin_of_request set server request (Some program) none = passes (is_origin set request.program server) _ _ none

-- a hop at the server stands among those that visit it
record IsVisit (hops : List Hop) (server : ℕ) : Type 0 where
  place : ℕ
  hop : Hop
  there : slice_get hops place ≡ Some hop
  here : hop.server ≡ server

visit_of : (hops : List Hop) (server : ℕ) → visits hops server ≡ true → IsVisit hops server
visit_of [] server is = cc
visit_of (first ∷ hops) server is = by (nat_eq first.server server) refl is (visit_of hops server)
  where
    by : (b : Bool) → nat_eq first.server server ≡ b → (b || visits hops server) ≡ true → (visits hops server ≡ true → IsVisit hops server) → IsVisit (first ∷ hops) server
    by true e rest later_one = record { place = 0; hop = first; there = refl; here = eqb-true _ _ e }
    by false e rest later_one =
        let v = later_one rest in
        record { place = suc v.place; hop = v.hop; there = v.there; here = v.here }

-- a program that begins at the server and isn't through there with its first hop has a later one there
first_leaves : (set : Set) (server program : ℕ) (hops : List Hop) → hops_of set program ≡ hops → is_origin set program server ≡ true →
    (leaves_by_first hops server ≡ true) ⊎ HasReturn set server
first_leaves set server program [] are origin = let none = sym (ap (λ h. starts_at h server) are) ∙ origin in cc
first_leaves set server program (first ∷ hops) are origin = by (visits hops server) refl
  where
    starts : nat_eq first.server server ≡ true
    starts = sym (ap (λ h. starts_at h server) are) ∙ origin

    by : (b : Bool) → visits hops server ≡ b → (leaves_by_first (first ∷ hops) server ≡ true) ⊎ HasReturn set server
    by false none = inl (ap (λ b. b && not (visits hops server)) starts ∙ ap not none)
    by true some =
        let v = visit_of hops server some in
        inr (record {
          program = program;
          begins_here = origin;
          place = suc v.place;
          later = omega arith;
          hop = v.hop;
          there = ap (λ (h : List Hop). slice_get h (suc v.place)) are ∙ v.there;
          here = v.here;
        })

-- the hop by which a chain leaves is at the server
leaving_at : (hops : List Hop) (server place : ℕ) → leaves_by_first (drop place hops) server ≡ true → (hop : Hop) × (slice_get hops place ≡ Some hop) × (hop.server ≡ server)
leaving_at [] server zero e = cc
leaving_at [] server (suc place) e = cc
leaving_at (first ∷ hops) server zero e = let parts = both (nat_eq first.server server) (not (visits hops server)) e in (first, refl, eqb-true _ _ parts.0)
leaving_at (first ∷ hops) server (suc place) e = leaving_at hops server place e

origin_by : (set : Set) (server : ℕ) (message : Message) (program : Program) (hop : Hop) (servers : List ℕ) →
    fits set server message program hop servers ≡ true → is_origin set message.program message.chain.origin ≡ true
origin_by set server message program hop servers e =
    let outer = left _ _ (left _ _ (left _ _ (left _ _ e))) in (both _ _ outer).1

origin_in : (set : Set) (server : ℕ) (message : Message) (program : Program) (hop : Option Hop) → fits_hop set server message program hop ≡ true →
    is_origin set message.program message.chain.origin ≡ true
origin_in set server message program None e = cc
origin_in set server message program (Some hop) e = origin_by set server message program hop _ e

origin_at : (set : Set) (server : ℕ) (message : Message) (program : Option Program) → fits_program set server message program ≡ true →
    is_origin set message.program message.chain.origin ≡ true
origin_at set server message None e = cc
origin_at set server message (Some program) e = origin_in set server message program (slice_get program.hops message.hop) e

-- an entry leaves just where it begins a chain, or some program returns
alike : (set : Set) (server : ℕ) (before : History) (entry : Entry) → IsLawful set server before entry →
    (ends_visit set server server entry ≡ is_begun entry) ⊎ HasReturn set server
alike set server before (Begun begun) lawful =
    let origin = origin_of_request set server begun.request (program_at set begun.request.program) lawful.may_begin.in_order in
    elim (first_leaves set server begun.request.program (hops_of set begun.request.program) refl origin) [
      | inl is ↦ inl (ap (λ b. b && is_last_at set server begun.request.program 0) (eq-eqb _ _ lawful.origin) ∙ is)
      | inr returns ↦ inr returns
    ]
alike set server before (Refused refused) lawful = inl refl
alike set server before (HopRan ran) lawful = by (ends_visit set server server (HopRan ran)) refl
  where
    by : (b : Bool) → ends_visit set server server (HopRan ran) ≡ b → (ends_visit set server server (HopRan ran) ≡ false) ⊎ HasReturn set server
    by false is = inl is
    by true is =
        let parts = both (nat_eq ran.message.chain.origin server) (is_last_at set server ran.message.program ran.message.hop) is in
        let at = leaving_at (hops_of set ran.message.program) server ran.message.hop parts.1 in
        let fits = left (fits_program set server ran.message (program_at set ran.message.program)) (has_begun server before ran.message) lawful.well_formed in
        inr (record {
          program = ran.message.program;
          begins_here = ap (is_origin set ran.message.program) (sym (eqb-true _ _ parts.0)) ∙ origin_at set server ran.message (program_at set ran.message.program) fits;
          place = ran.message.hop;
          later = later set server before ran.message lawful.well_formed;
          hop = at.0;
          there = at.1;
          here = at.2;
        })

counted : (set : Set) (server : ℕ) (before history : History) → IsLawfulAfter set server before history →
    (count_by (ends_visit set server server) history ≡ count_by is_begun history) ⊎ HasReturn set server
counted set server before [] lawful = inl refl
counted set server before (entry ∷ history) lawful =
    elim (alike set server before entry lawful.0) [
      | inr returns ↦ inr returns
      | inl same ↦ elim (counted set server (before ++ entry ∷ []) history lawful.1) [
        | inr returns ↦ inr returns
        | inl rest ↦ inl (count_first (ends_visit set server server) entry history
            ∙ ap (λ b. (0 + cond b 1 0) + count_by (ends_visit set server server) history) same
            ∙ ap (λ n. (0 + cond (is_begun entry) 1 0) + n) rest
            ∙ sym (count_first is_begun entry history))
      ]
    ]

pub busy_returns : (set : Set) (server : ℕ) (history : History) → IsLawfulHistory set server history → is_busy set server history ≡ true → HasReturn set server
busy_returns set server history lawful busy =
    elim (counted set server [] history lawful) [
      | inr returns ↦ returns
      | inl same ↦ absurd (never (nat_eq (turn_of set server history server) (begun_count history)) (eq-eqb _ _ same) busy)
    ]
  where
    never : (b : Bool) → b ≡ true → not b ≡ true → ⊥
    never true same other = cc
    never false same other = cc
