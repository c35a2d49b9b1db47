-- The one entry that agrees with what was told.
use Rattle.std.proofs.Common.{◌≡◌, ◌≢◌, ℕ, ◌<◌, ◌&&◌, Bool, true, false, nat_eq, find, List, slice_get, length, Option, Some, None, option_map, option_and_then, inl, inr, refl, sym, ap, ◌∙◌}
use Rattle.std.specs.Prelude.{unwrap_or}
use Rattle.std.specs.Bool.{then_some}
use Rattle.std.specs.Cmp.Lexicographic.{pointwise}
use Rattle.std.proofs.lemmas.Bool.Decides.{eqb_tells}
use Rattle.std.proofs.lemmas.Option.{slice_get-map}
use Rattle.lynx_set.specs.Set.{Set}
use Rattle.lynx_entry.specs.declared.answer.Answer.TheVariants.{Begun as BegunAnswer, Refused as RefusedAnswer, Clash, UnknownProgram, WrongOrigin, ArgCount, OutsideRange, WrongShard, Full, Busy, Stopped, Memory}
use Rattle.lynx_entry.specs.declared.entry.Entry.{Entry}
use Rattle.lynx_entry.specs.declared.entry.Entry.TheVariants.{Begun, Refused, Hop}
use Rattle.lynx_entry.specs.declared.request.Request.{Request}
use Rattle.lynx_entry.specs.Entry.{History}
use Rattle.lynx_keep.specs.Kept.{KeptState}
use Rattle.lynx_server.specs.History.{IsLawfulHistory}
use Rattle.lynx_server.specs.Serving.{Serving}
use Rattle.lynx_world.specs.Servers.{Servers}
use Rattle.lynx_world.proofs.Once.{both}
use Rattle.lynx_weave.specs.declared.told.ToldItem.{ToldItem}
use Rattle.lynx_weave.specs.declared.told.ToldItem.TheVariants.{Answered, Seen}
use Rattle.lynx_weave.specs.inner.Judging.{IsAgreedAt, IsSolePlace, agrees_at, is_sought, passes_at}
use Rattle.lynx_weave.specs.Lists.{entry_in}
use Rattle.lynx_weave.specs.Servers.{histories_of}
use Rattle.lynx_weave.specs.Told.{bears, is_other_call, same_request, server_told}
use Rattle.lynx_weave.proofs.Gets.{found_none, found_passes, item}
use Rattle.lynx_weave.proofs.Lawfuls.{IsSole, sole_act, sole_record}
use Rattle.lynx_weave.proofs.Bridging.{not_true}

-- ---- an entry that bears an item out is the one that is sought

recorded : (a b : Request) → same_request a b ≡ true → (nat_eq a.client b.client && nat_eq a.number b.number) ≡ true
recorded a b is =
    let program = both _ (pointwise nat_eq a.args b.args) is in
    (both (nat_eq a.client b.client && nat_eq a.number b.number) (nat_eq a.program b.program) program.0).0

clashing : (a b : Request) → is_other_call a b ≡ true → (nat_eq a.client b.client && nat_eq a.number b.number) ≡ true
clashing a b is = (both (nat_eq a.client b.client && nat_eq a.number b.number) _ is).0

pub sought : (told : ToldItem) (entry : Entry) → bears told entry ≡ true → is_sought told entry ≡ true
sought (Answered server request (BegunAnswer chain stamp results again)) (Begun begun) is =
    let p3 = both _ _ is in let p2 = both _ _ p3.0 in recorded begun.request request (both (same_request begun.request request) _ p2.0).0
sought (Answered server request (BegunAnswer chain stamp results again)) (Refused refused) is = cc
sought (Answered server request (BegunAnswer chain stamp results again)) (Hop ran) is = cc
sought (Answered server request (RefusedAnswer need stamp again)) (Begun begun) is = cc
sought (Answered server request (RefusedAnswer need stamp again)) (Refused refused) is =
    let p2 = both _ _ is in recorded refused.request request (both (same_request refused.request request) _ p2.0).0
sought (Answered server request (RefusedAnswer need stamp again)) (Hop ran) is = cc
sought (Answered server request Clash) (Begun begun) is = clashing begun.request request is
sought (Answered server request Clash) (Refused refused) is = clashing refused.request request is
sought (Answered server request Clash) (Hop ran) is = cc
sought (Answered server request UnknownProgram) entry is = cc
sought (Answered server request WrongOrigin) entry is = cc
sought (Answered server request ArgCount) entry is = cc
sought (Answered server request OutsideRange) entry is = cc
sought (Answered server request WrongShard) entry is = cc
sought (Answered server request Full) entry is = cc
sought (Answered server request Busy) entry is = cc
sought (Answered server request Stopped) entry is = cc
sought (Answered server request Memory) entry is = cc
sought (Seen server chain hop stamp results) (Begun begun) is = let p2 = both _ _ is in (both _ _ p2.0).0
sought (Seen server chain hop stamp results) (Refused refused) is = cc
sought (Seen server chain hop stamp results) (Hop ran) is = let p2 = both _ _ is in (both _ _ p2.0).0

-- of which a lawful history has one
pub sole_sought : (set : Set) (server : ℕ) (history : History) (told : ToldItem) → IsLawfulHistory set server history → IsSole (is_sought told) history
sole_sought set server history (Answered of request answer) lawful = sole_record set server history request lawful
sole_sought set server history (Seen of chain hop stamp results) lawful = sole_act set server history chain hop lawful

-- ---- the one place

passes_by : (test : Entry → Bool) (history : History) (place : ℕ) → passes_at test history place ≡ true →
    (entry : Entry) × (slice_get history place ≡ Some entry) × (test entry ≡ true)
passes_by test history place is = by (slice_get history place) refl is
  where
    by : (o : Option Entry) → slice_get history place ≡ o → unwrap_or (option_map test o) false ≡ true →
        (entry : Entry) × (slice_get history place ≡ Some entry) × (test entry ≡ true)
    by None there passes = cc
    by (Some entry) there passes = (entry, there, passes)

passes_is : (test : Entry → Bool) (history : History) (place : ℕ) (entry : Entry) → slice_get history place ≡ Some entry → test entry ≡ true →
    passes_at test history place ≡ true
passes_is test history place entry there passes = ap (λ o. unwrap_or (option_map test o) false) there ∙ passes

pub place_none : (told : ToldItem) (history : History) → find (is_sought told) history ≡ None → IsSolePlace (bears told) history None
place_none told history none place = not_true _
    (λ passes. let one = passes_by (bears told) history place passes in
    found_none (is_sought told) history place one.0 none one.1 (sought told one.0 one.2))

place_some : (set : Set) (server : ℕ) (history : History) (told : ToldItem) (at : ℕ) (entry : Entry) → IsLawfulHistory set server history →
    slice_get history at ≡ Some entry → bears told entry ≡ true → IsSolePlace (bears told) history (Some at)
place_some set server history told at entry lawful there bears_it place = elim (eqb_tells place at) [
  | inl same ↦ passes_is (bears told) history place entry (ap (slice_get history) same.1 ∙ there) bears_it ∙ sym same.0
  | inr differs ↦
      let apart : place ≢ at = differs.1 in
      not_true _
      (λ passes. let one = passes_by (bears told) history place passes in
      apart (sole_sought set server history told lawful place at one.0 entry one.1 there (sought told one.0 one.2) (sought told entry bears_it)))
      ∙ sym differs.0
]

place_not : (set : Set) (server : ℕ) (history : History) (told : ToldItem) (at : ℕ) (entry : Entry) → IsLawfulHistory set server history →
    slice_get history at ≡ find (is_sought told) history → slice_get history at ≡ Some entry → bears told entry ≡ false →
    IsSolePlace (bears told) history None
place_not set server history told at entry lawful found there other place = not_true _
    (λ passes.
    let one = passes_by (bears told) history place passes in
    let is_it = found_passes (is_sought told) history entry (sym found ∙ there) in
    let same = sole_sought set server history told lawful place at one.0 entry one.1 there (sought told one.0 one.2) is_it in
    let entries : Some one.0 ≡ Some entry = sym one.1 ∙ ap (slice_get history) same ∙ there in
    let alike : one.0 ≡ entry = cc in
    let never = sym one.2 ∙ ap (bears told) alike ∙ other in cc)

-- the entry found, where it bears the item out, and where not
pub place_by : (set : Set) (server : ℕ) (history : History) (told : ToldItem) (at : ℕ) (b : Bool) → IsLawfulHistory set server history →
    at < length history → slice_get history at ≡ find (is_sought told) history → b ≡ passes_at (bears told) history at →
    IsSolePlace (bears told) history (then_some b at)
place_by set server history told at true lawful within found passes =
    let one = passes_by (bears told) history at (sym passes) in
    place_some set server history told at one.0 lawful one.1 one.2
place_by set server history told at false lawful within found passes =
    let one = item history at within in
    place_not set server history told at one.0 lawful found one.1
    (sym (passes ∙ ap (λ o. unwrap_or (option_map (bears told) o) false) one.1))

-- ---- at its server

agreed_split : (b : Bool) (test : Entry → Bool) (o : Option Entry) →
    unwrap_or (option_map (λ e. b && test e) o) false ≡ (b && unwrap_or (option_map test o) false)
agreed_split true test None = refl
agreed_split true test (Some entry) = refl
agreed_split false test None = refl
agreed_split false test (Some entry) = refl

at_server : (histories : List History) (told : ToldItem) (history : History) (server place : ℕ) → slice_get histories (server_told told) ≡ Some history →
    agrees_at histories told server place ≡ (nat_eq server (server_told told) && passes_at (bears told) history place)
at_server histories told history server place there =
    agreed_split (nat_eq server (server_told told)) (bears told) (entry_in histories server place)
    ∙ elim (eqb_tells server (server_told told)) [
      | inl same ↦
          ap (λ o. nat_eq server (server_told told) && unwrap_or (option_map (bears told) o) false)
          (ap (λ (n : ℕ). entry_in histories n place) same.1 ∙ ap (option_and_then (λ (h : History). slice_get h place)) there)
      | inr differs ↦
          ap (λ b. b && unwrap_or (option_map (bears told) (entry_in histories server place)) false) differs.0
          ∙ sym (ap (λ b. b && passes_at (bears told) history place) differs.0)
    ]

and_no : (b : Bool) → (b && false) ≡ false
and_no true = refl
and_no false = refl

pub agreed_there : (histories : List History) (told : ToldItem) (history : History) (found : Option ℕ) → slice_get histories (server_told told) ≡ Some history →
    IsSolePlace (bears told) history found → IsAgreedAt histories told found
agreed_there histories told history None there sole = λ server place.
    at_server histories told history server place there
    ∙ ap (λ b. nat_eq server (server_told told) && b) (sole place) ∙ and_no (nat_eq server (server_told told))
agreed_there histories told history (Some at) there sole = λ server place.
    at_server histories told history server place there
    ∙ ap (λ b. nat_eq server (server_told told) && b) (sole place)

pub agreed_nowhere : (histories : List History) (told : ToldItem) → slice_get histories (server_told told) ≡ None → IsAgreedAt histories told None
agreed_nowhere histories told none server place =
    agreed_split (nat_eq server (server_told told)) (bears told) (entry_in histories server place)
    ∙ elim (eqb_tells server (server_told told)) [
      | inl same ↦
          ap (λ o. nat_eq server (server_told told) && unwrap_or (option_map (bears told) o) false)
          (ap (λ (n : ℕ). entry_in histories n place) same.1 ∙ ap (option_and_then (λ (h : History). slice_get h place)) none)
          ∙ and_no (nat_eq server (server_told told))
      | inr differs ↦ ap (λ b. b && unwrap_or (option_map (bears told) (entry_in histories server place)) false) differs.0
    ]

-- ---- by servers

pub history_there : {K : Type 0} (servers : List (Serving K)) (server : ℕ) (here : Serving K) → slice_get servers server ≡ Some here →
    slice_get (histories_of servers) server ≡ Some here.history
history_there {K} servers server here there =
    slice_get-map (λ (h : Serving K). h.history) servers server ∙ ap (option_map (λ (h : Serving K). h.history)) there

pub history_nowhere : (servers : Servers) (server : ℕ) → slice_get servers server ≡ None → slice_get (histories_of servers) server ≡ None
history_nowhere servers server none =
    slice_get-map (λ (h : Serving KeptState). h.history) servers server ∙ ap (option_map (λ (h : Serving KeptState). h.history)) none
