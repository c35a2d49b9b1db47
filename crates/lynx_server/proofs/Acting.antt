-- The entry of a chain's first hop in a lawful history.
use Rattle.std.proofs.Common.{◌≡◌, ◌<◌, ℕ, ◌&&◌, Bool, true, false, cond, find, List, [], ◌∷◌, ◌++◌, Option, Some, None, IsTrue, nat_eq, nat_lt, eq-eqb, slice_get, refl, sym, ap, ◌∙◌, arith}
use Rattle.std.proofs.lemmas.Bool.{ltb-true, eqb-true}
use Rattle.lynx_names.specs.declared.chain.ChainId.{ChainId}
use Rattle.lynx_set.specs.Set.{Set}
use Rattle.lynx_set.specs.Lookups.{program_at}
use Rattle.lynx_set.specs.declared.program.Hop.{Hop}
use Rattle.lynx_set.specs.declared.program.Program.{Program}
use Rattle.lynx_entry.specs.declared.entry.Entry.{Entry}
use Rattle.lynx_entry.specs.declared.entry.Entry.TheVariants.{Begun, Refused, Hop as HopRan}
use Rattle.lynx_entry.specs.declared.message.Message.{Message}
use Rattle.lynx_entry.specs.Entry.{History}
use Rattle.lynx_rules.specs.Checks.{fits, fits_hop, fits_program, has_begun, is_well_formed}
use Rattle.lynx_rules.specs.Lawful.{IsLawful}
use Rattle.lynx_server.specs.Acts.{act_of, is_act}
use Rattle.lynx_server.specs.Books.{begins_as}
use Rattle.lynx_server.specs.History.{IsLawfulAfter, IsLawfulHistory}

pub left : (a b : Bool) → (a && b) ≡ true → a ≡ true
left true b e = refl
left false b e = e

later_by : (set : Set) (server : ℕ) (message : Message) (program : Program) (hop : Hop) (servers : List ℕ) →
    fits set server message program hop servers ≡ true → 0 < message.hop
later_by set server message program hop servers e =
    ltb-true _ _ (left (nat_lt 0 message.hop) _ (left _ _ (left _ _ (left _ _ (left _ _ (left _ _ e))))))

later_in : (set : Set) (server : ℕ) (message : Message) (program : Program) (hop : Option Hop) (servers : List ℕ) →
    fits_hop set server message program hop ≡ true → 0 < message.hop
later_in set server message program None servers e = cc
later_in set server message program (Some hop) servers e = later_by set server message program hop _ e

later_at : (set : Set) (server : ℕ) (message : Message) (program : Option Program) → fits_program set server message program ≡ true → 0 < message.hop
later_at set server message None e = cc
later_at set server message (Some program) e = later_in set server message program (slice_get program.hops message.hop) [] e

-- a well formed message is of a later hop
pub later : (set : Set) (server : ℕ) (history : History) (message : Message) → IsTrue (is_well_formed set server history message) → 0 < message.hop
later set server history message formed =
    later_at set server message (program_at set message.program)
    (left (fits_program set server message (program_at set message.program)) (has_begun server history message) formed)

not_zero : (n : ℕ) → 0 < n → nat_eq n 0 ≡ false
not_zero n above = by (nat_eq n 0) refl
  where
    by : (b : Bool) → nat_eq n 0 ≡ b → b ≡ false
    by true is = let none = eqb-true n 0 is in absurd (omega arith)
    by false is = refl

and_false : (b : Bool) → (b && false) ≡ false
and_false true = refl
and_false false = refl

and_true : (b : Bool) → (b && true) ≡ b
and_true true = refl
and_true false = refl

-- the first hop of a chain that begins at the server is that of the chain's index
act_here : (set : Set) (server : ℕ) (before : History) (chain : ChainId) (entry : Entry) → IsLawful set server before entry → chain.origin ≡ server →
    begins_as chain.index entry ≡ is_act chain 0 entry
act_here set server before chain (Begun begun) lawful here =
    sym (and_true _ ∙ ap (λ b. b && nat_eq begun.chain.index chain.index) (eq-eqb _ _ (lawful.origin ∙ sym here)))
act_here set server before chain (Refused refused) lawful here = refl
act_here set server before chain (HopRan ran) lawful here =
    sym (ap (λ b. (nat_eq ran.message.chain.origin chain.origin && nat_eq ran.message.chain.index chain.index) && b) (not_zero ran.message.hop (later set server before ran.message lawful.well_formed))
    ∙ and_false _)

-- no chain of another origin begins at the server
act_elsewhere : (set : Set) (server : ℕ) (before : History) (chain : ChainId) (entry : Entry) → IsLawful set server before entry → nat_eq chain.origin server ≡ false →
    is_act chain 0 entry ≡ false
act_elsewhere set server before chain (Begun begun) lawful away =
    and_true _ ∙ ap (λ b. b && nat_eq begun.chain.index chain.index) (other begun.chain.origin lawful.origin)
  where
    turned : (b : Bool) (origin : ℕ) → nat_eq origin chain.origin ≡ b → origin ≡ server → b ≡ false
    turned false origin is same = refl
    turned true origin is same = let equal : chain.origin ≡ server = sym (eqb-true _ _ is) ∙ same in let yes_it_is = eq-eqb _ _ equal in cc

    other : (origin : ℕ) → origin ≡ server → nat_eq origin chain.origin ≡ false
    other origin same = turned (nat_eq origin chain.origin) origin refl same
act_elsewhere set server before chain (Refused refused) lawful away = refl
act_elsewhere set server before chain (HopRan ran) lawful away =
    ap (λ b. (nat_eq ran.message.chain.origin chain.origin && nat_eq ran.message.chain.index chain.index) && b) (not_zero ran.message.hop (later set server before ran.message lawful.well_formed))
    ∙ and_false _

found_here : (set : Set) (server : ℕ) (before history : History) (chain : ChainId) → IsLawfulAfter set server before history → chain.origin ≡ server →
    find (begins_as chain.index) history ≡ find (is_act chain 0) history
found_here set server before [] chain lawful here = refl
found_here set server before (entry ∷ history) chain lawful here =
    ap (λ b. cond b (Some entry) (find (begins_as chain.index) history)) (act_here set server before chain entry lawful.0 here)
    ∙ ap (λ o. cond (is_act chain 0 entry) (Some entry) o) (found_here set server (before ++ entry ∷ []) history chain lawful.1 here)

found_elsewhere : (set : Set) (server : ℕ) (before history : History) (chain : ChainId) → IsLawfulAfter set server before history → nat_eq chain.origin server ≡ false →
    find (is_act chain 0) history ≡ None
found_elsewhere set server before [] chain lawful away = refl
found_elsewhere set server before (entry ∷ history) chain lawful away =
    ap (λ b. cond b (Some entry) (find (is_act chain 0) history)) (act_elsewhere set server before chain entry lawful.0 away)
    ∙ found_elsewhere set server (before ++ entry ∷ []) history chain lawful.1 away

pub first_here : (set : Set) (server : ℕ) (history : History) (chain : ChainId) → IsLawfulHistory set server history → chain.origin ≡ server →
    find (begins_as chain.index) history ≡ act_of chain 0 history
first_here set server history chain lawful here = found_here set server [] history chain lawful here

pub first_elsewhere : (set : Set) (server : ℕ) (history : History) (chain : ChainId) → IsLawfulHistory set server history → nat_eq chain.origin server ≡ false →
    act_of chain 0 history ≡ None
first_elsewhere set server history chain lawful away = found_elsewhere set server [] history chain lawful away
