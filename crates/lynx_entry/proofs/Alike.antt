-- What `==` says of two messages and of two entries.
use Rattle.std.proofs.Common.{◌≡◌, ℕ, ◌==◌, ◌&&◌, Bool, List, nat_eq, ap}
use Rattle.std.specs.Bool.{Decides}
use Rattle.std.specs.Cmp.Lexicographic.{pointwise, pointwise_decides}
use Rattle.std.proofs.lemmas.Bool.Decides.{Decides-and, Decides-eqb}
use Rattle.lynx_names.specs.declared.chain.ChainId.{ChainId}
use Rattle.lynx_names.specs.declared.numbers.NumberAt.{NumberAt}
use Rattle.lynx_entry.specs.declared.entry.BegunEntry.{BegunEntry}
use Rattle.lynx_entry.specs.declared.entry.RefusedEntry.{RefusedEntry}
use Rattle.lynx_entry.specs.declared.entry.HopEntry.{HopEntry}
use Rattle.lynx_entry.specs.declared.entry.Entry.{Entry}
use Rattle.lynx_entry.specs.declared.entry.Entry.TheVariants.{Begun, Refused, Hop}
use Rattle.lynx_entry.specs.declared.message.Message.{Message}
use Rattle.lynx_entry.specs.declared.request.Request.{Request}
use Rattle.lynx_entry.specs.contracts.entry.EntryPartialEq as entries

into : {P Q : Type 0} (r : Bool) → Decides r P → (P → Q) → (Q → P) → Decides r Q
into r decides to from = (λ e. to (decides.0 e), λ q. decides.1 (from q))

values : (xs ys : List ℕ) → Decides (pointwise nat_eq xs ys) (xs ≡ ys)
values = pointwise_decides Decides-eqb

lists : (xs ys : List (List ℕ)) → Decides (pointwise (pointwise nat_eq) xs ys) (xs ≡ ys)
lists = pointwise_decides values

chains : (a b : ChainId) → Decides ((a.origin == b.origin) && (a.index == b.index)) (a ≡ b)
chains a b =
    into _ (Decides-and _ _ (Decides-eqb a.origin b.origin) (Decides-eqb a.index b.index))
    (λ p. λ i. record { origin = p.0 i; index = p.1 i })
    (λ e. (ap (λ (c : ChainId). c.origin) e, ap (λ (c : ChainId). c.index) e))

number_ats : (a b : NumberAt) → Decides ((a.server == b.server) && (a.number == b.number)) (a ≡ b)
number_ats a b =
    into _ (Decides-and _ _ (Decides-eqb a.server b.server) (Decides-eqb a.number b.number))
    (λ p. λ i. record { server = p.0 i; number = p.1 i })
    (λ e. (ap (λ (n : NumberAt). n.server) e, ap (λ (n : NumberAt). n.number) e))

abbrev same_number_ats : List NumberAt → List NumberAt → Bool
same_number_ats xs ys = pointwise (λ a b. (a.server == b.server) && (a.number == b.number)) xs ys

numbers : (xs ys : List NumberAt) → Decides (same_number_ats xs ys) (xs ≡ ys)
numbers = pointwise_decides number_ats

abbrev same_request : Request → Request → Bool
same_request a b = (a.client == b.client) && ((a.number == b.number) && ((a.program == b.program) && (pointwise nat_eq a.args b.args)))

requests : (a b : Request) → Decides (same_request a b) (a ≡ b)
requests a b =
    into _ (Decides-and _ _ (Decides-eqb a.client b.client) (Decides-and _ _ (Decides-eqb a.number b.number) (Decides-and _ _ (Decides-eqb a.program b.program) (values a.args b.args))))
    (λ p. λ i. record { client = p.0 i; number = p.1.0 i; program = p.1.1.0 i; args = p.1.1.1 i })
    (λ e. (ap (λ (x : Request). x.client) e, (ap (λ (x : Request). x.number) e, (ap (λ (x : Request). x.program) e, ap (λ (x : Request). x.args) e))))

abbrev same_message : Message → Message → Bool
same_message a b = ((a.chain.origin == b.chain.origin) && (a.chain.index == b.chain.index)) && ((a.program == b.program) && ((a.hop == b.hop) && ((a.stamp == b.stamp) && (pointwise nat_eq a.args b.args && (same_number_ats a.numbers b.numbers && (pointwise (pointwise nat_eq) a.results b.results))))))

-- two messages for which `==` holds are the same
pub messages_decide : (a b : Message) → Decides (same_message a b) (a ≡ b)
messages_decide a b =
    into _ (Decides-and _ _ (chains a.chain b.chain) (Decides-and _ _ (Decides-eqb a.program b.program) (Decides-and _ _ (Decides-eqb a.hop b.hop) (Decides-and _ _ (Decides-eqb a.stamp b.stamp) (Decides-and _ _ (values a.args b.args) (Decides-and _ _ (numbers a.numbers b.numbers) (lists a.results b.results)))))))
    (λ p. λ i. record { chain = p.0 i; program = p.1.0 i; hop = p.1.1.0 i; stamp = p.1.1.1.0 i; args = p.1.1.1.1.0 i; numbers = p.1.1.1.1.1.0 i; results = p.1.1.1.1.1.1 i })
    (λ e. (ap (λ (x : Message). x.chain) e, (ap (λ (x : Message). x.program) e, (ap (λ (x : Message). x.hop) e, (ap (λ (x : Message). x.stamp) e, (ap (λ (x : Message). x.args) e, (ap (λ (x : Message). x.numbers) e, ap (λ (x : Message). x.results) e)))))))

abbrev same_begun : BegunEntry → BegunEntry → Bool
same_begun a b = same_request a.request b.request && ((a.seen == b.seen) && (((a.chain.origin == b.chain.origin) && (a.chain.index == b.chain.index)) && (same_number_ats a.numbers b.numbers && ((a.stamp == b.stamp) && (pointwise nat_eq a.results b.results)))))

beguns : (a b : BegunEntry) → Decides (same_begun a b) (a ≡ b)
beguns a b =
    into _ (Decides-and _ _ (requests a.request b.request) (Decides-and _ _ (Decides-eqb a.seen b.seen) (Decides-and _ _ (chains a.chain b.chain) (Decides-and _ _ (numbers a.numbers b.numbers) (Decides-and _ _ (Decides-eqb a.stamp b.stamp) (values a.results b.results))))))
    (λ p. λ i. record { request = p.0 i; seen = p.1.0 i; chain = p.1.1.0 i; numbers = p.1.1.1.0 i; stamp = p.1.1.1.1.0 i; results = p.1.1.1.1.1 i })
    (λ e. (ap (λ (x : BegunEntry). x.request) e, (ap (λ (x : BegunEntry). x.seen) e, (ap (λ (x : BegunEntry). x.chain) e, (ap (λ (x : BegunEntry). x.numbers) e, (ap (λ (x : BegunEntry). x.stamp) e, ap (λ (x : BegunEntry). x.results) e))))))

abbrev same_refusal : RefusedEntry → RefusedEntry → Bool
same_refusal a b = same_request a.request b.request && ((a.seen == b.seen) && ((a.need == b.need) && ((a.stamp == b.stamp))))

refusals : (a b : RefusedEntry) → Decides (same_refusal a b) (a ≡ b)
refusals a b =
    into _ (Decides-and _ _ (requests a.request b.request) (Decides-and _ _ (Decides-eqb a.seen b.seen) (Decides-and _ _ (Decides-eqb a.need b.need) (Decides-eqb a.stamp b.stamp))))
    (λ p. λ i. record { request = p.0 i; seen = p.1.0 i; need = p.1.1.0 i; stamp = p.1.1.1 i })
    (λ e. (ap (λ (x : RefusedEntry). x.request) e, (ap (λ (x : RefusedEntry). x.seen) e, (ap (λ (x : RefusedEntry). x.need) e, ap (λ (x : RefusedEntry). x.stamp) e))))

abbrev same_hop : HopEntry → HopEntry → Bool
same_hop a b = same_message a.message b.message && ((a.stamp == b.stamp) && (pointwise nat_eq a.results b.results))

hops : (a b : HopEntry) → Decides (same_hop a b) (a ≡ b)
hops a b =
    into _ (Decides-and _ _ (messages_decide a.message b.message) (Decides-and _ _ (Decides-eqb a.stamp b.stamp) (values a.results b.results)))
    (λ p. λ i. record { message = p.0 i; stamp = p.1.0 i; results = p.1.1 i })
    (λ e. (ap (λ (x : HopEntry). x.message) e, (ap (λ (x : HopEntry). x.stamp) e, ap (λ (x : HopEntry). x.results) e)))

-- two entries for which `==` holds are the same
pub entries_decide : (a b : Entry) → Decides (entries.TheImpl.ghosts.eq a b) (a ≡ b)
entries_decide (Begun a) (Begun b) = into _ (beguns a b) (ap Begun) (λ e. cc)
entries_decide (Refused a) (Refused b) = into _ (refusals a b) (ap Refused) (λ e. cc)
entries_decide (Hop a) (Hop b) = into _ (hops a b) (ap Hop) (λ e. cc)
entries_decide (Begun a) (Refused b) = (λ e. cc, λ e. cc)
entries_decide (Begun a) (Hop b) = (λ e. cc, λ e. cc)
entries_decide (Refused a) (Begun b) = (λ e. cc, λ e. cc)
entries_decide (Refused a) (Hop b) = (λ e. cc, λ e. cc)
entries_decide (Hop a) (Begun b) = (λ e. cc, λ e. cc)
entries_decide (Hop a) (Refused b) = (λ e. cc, λ e. cc)
