-- What one server more has recorded.
use Rattle.std.proofs.Common.{◌≡◌, ◌∙◌, ◌+◌, ◌++◌, ◌∷◌, [], ℕ, suc, List, Result, Ok, Err, ap, append-nil, append_assoc, arith, length, refl, subst, sym}
use Rattle.std.specs.Prelude.{OnOk}
use Rattle.std.proofs.lemmas.List.{length-append}
use Rattle.lynx_cluster.specs.declared.finding.Recorded.{Recorded}
use Rattle.lynx_cluster.specs.Records.{AreLawful, recorded_at, recorded_by}
use Rattle.lynx_entry.specs.declared.request.Request.{Request}
use Rattle.lynx_entry.specs.Entry.{History}
use Rattle.lynx_rules.specs.Lawful.{record_of}
use Rattle.lynx_server.specs.History.{IsLawfulHistory}
use Rattle.lynx_set.specs.Set.{Set}

pub on_ok : {A E P Q : Type 0} (r : Result A E) → (P → Q) → OnOk r P → OnOk r Q
on_ok (Ok value) to holds = to holds
on_ok (Err fault) to holds = tt

lawful_more : (set : Set) (from server : ℕ) (histories : List History) (history : History) → server ≡ from + length histories → AreLawful set from histories →
    IsLawfulHistory set server history → AreLawful set from (histories ++ history ∷ [])
lawful_more set from server [] history at none own = (subst (λ n. IsLawfulHistory set n history) (omega (arith, at)) own, tt)
lawful_more set from server (first ∷ histories) history at rest own = (rest.0, lawful_more set (suc from) server histories history (omega (arith, at)) rest.1 own)

recorded_more : (request : Request) (from server : ℕ) (histories : List History) (history : History) → server ≡ from + length histories →
    recorded_by request from (histories ++ history ∷ []) ≡ recorded_by request from histories ++ recorded_at server (record_of request history)
recorded_more request from server [] history at =
    append-nil (recorded_at from (record_of request history))
    ∙ (let same : from ≡ server = omega (arith, at) in ap (λ n. recorded_at n (record_of request history)) same)
recorded_more request from server (first ∷ histories) history at =
    ap (λ found. recorded_at from (record_of request first) ++ found) (recorded_more request (suc from) server histories history (omega (arith, at)))
    ∙ sym (append_assoc (recorded_at from (record_of request first)) (recorded_by request (suc from) histories) (recorded_at server (record_of request history)))

-- what the servers below this number have recorded
pub record AreRecordsBelow (set : Set) (request : Request) (number : ℕ) (found : List Recorded) : Type 0 where
  pub histories : List History
  pub many : length histories ≡ number
  pub lawful : AreLawful set 0 histories
  pub found_is : found ≡ recorded_by request 0 histories

pub records_none : (set : Set) (request : Request) → AreRecordsBelow set request 0 []
records_none set request = record { histories = []; many = refl; lawful = tt; found_is = refl }

pub records_more : (set : Set) (request : Request) (number : ℕ) (found new : List Recorded) → AreRecordsBelow set request number found →
    (history : History) × IsLawfulHistory set number history × (new ≡ found ++ recorded_at number (record_of request history)) →
    AreRecordsBelow set request (number + 1) new
records_more set request number found new below more =
    let histories = below.histories in
    let at : number ≡ 0 + length histories = let many = below.many in omega (arith, many) in
    record {
      histories = histories ++ more.0 ∷ [];
      many = let many = below.many in let long = length-append histories (more.0 ∷ []) in omega (arith, many, long);
      lawful = lawful_more set 0 number histories more.0 at below.lawful more.1;
      found_is = more.2 ∙ ap (λ before. before ++ recorded_at number (record_of request more.0)) below.found_is
          ∙ sym (recorded_more request 0 number histories more.0 at);
    }
