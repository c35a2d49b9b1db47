-- Indexes of a history, from keys to places.
use Rattle.std.specs.Prelude.{ℕ, ◌==◌, ◌&&◌, Bool, false, find}
use Rattle.std.specs.Ordering.{nat_cmp, ordering_then}
use Rattle.std.specs.declared.cmp.Ordering.{Ordering}
use Rattle.std.specs.BTreeMap.{BTreeMap, get}
use Rattle.lynx_cells.specs.Database.{cell_cmp}
use Rattle.lynx_entry.specs.declared.entry.Entry.{Entry}
use Rattle.lynx_entry.specs.declared.entry.Entry.TheVariants.{Begun, Refused, Hop}
use Rattle.lynx_entry.specs.Entry.{History}
use Rattle.lynx_rules.specs.Lawful.{is_hop_of}
use Rattle.lynx_server.specs.Books.{IsFoundAt}

-- by client, then number
abbrev pub request_cmp : ℕ × ℕ → ℕ × ℕ → Ordering
request_cmp = cell_cmp

-- by origin, index and hop
abbrev pub hop_cmp : (ℕ × ℕ) × ℕ → (ℕ × ℕ) × ℕ → Ordering
hop_cmp a b =
    ordering_then (ordering_then (nat_cmp a.0.0 b.0.0) (nat_cmp a.0.1 b.0.1)) (nat_cmp a.1 b.1)

-- the entry keeps the answer to the request of this client and number
abbrev pub keeps_request : ℕ × ℕ → Entry → Bool
keeps_request key (Begun begun) = (begun.request.client == key.0) && (begun.request.number == key.1)
keeps_request key (Refused refused) =
    (refused.request.client == key.0) && (refused.request.number == key.1)
keeps_request key (Hop ran) = false

-- the entry is of this later hop
abbrev pub is_hop_at : (ℕ × ℕ) × ℕ → Entry → Bool
is_hop_at key entry = is_hop_of (record { origin = key.0.0; index = key.0.1 }) key.1 entry

-- the index has the place of the entry that is found for each key
abbrev pub IsIndexed : {Key : Type 0} → (Key → Key → Ordering) → (Key → Entry → Bool) → History
    → BTreeMap Key ℕ → Type 0
IsIndexed {Key} cmp test history index =
    (key : Key) → IsFoundAt history (get cmp index key) (find (test key) history)

-- both indexes of a register
pub record IsRegister (history : History) (requests : BTreeMap (ℕ × ℕ) ℕ)
    (hops : BTreeMap ((ℕ × ℕ) × ℕ) ℕ) : Type 0 where
  pub requests_are : IsIndexed request_cmp keeps_request history requests
  pub hops_are : IsIndexed hop_cmp is_hop_at history hops
