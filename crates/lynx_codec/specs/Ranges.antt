-- Which items have an encoding, and what of it their types leave open.
use Rattle.std.specs.Prelude.{ℕ, suc, ◌<◌, ◌≤◌, ◌^◌, List, [], ◌∷◌, length}
use Rattle.std.specs.List.{AllByRecursion}
use Rattle.lynx_names.specs.declared.chain.ChainId.{ChainId}
use Rattle.lynx_names.specs.declared.numbers.NumberAt.{NumberAt}
use Rattle.lynx_names.specs.declared.limits.TheConstants.{MAX_SERVERS, MAX_PROGRAMS, MAX_PARAMETERS, MAX_HOPS, MAX_ACTIONS, STAMP_LIMIT}
use Rattle.lynx_entry.specs.declared.request.Request.{Request}
use Rattle.lynx_entry.specs.declared.message.Message.{Message}
use Rattle.lynx_entry.specs.declared.answer.Answer.{Answer}
use Rattle.lynx_entry.specs.declared.answer.Answer.TheVariants as answers
use Rattle.lynx_entry.specs.declared.entry.BegunEntry.{BegunEntry}
use Rattle.lynx_entry.specs.declared.entry.RefusedEntry.{RefusedEntry}
use Rattle.lynx_entry.specs.declared.entry.HopEntry.{HopEntry}
use Rattle.lynx_entry.specs.declared.entry.Entry.TheVariants as entries
use Rattle.lynx_codec.specs.declared.item.Look.{Look}
use Rattle.lynx_codec.specs.declared.item.Looked.{Looked}
use Rattle.lynx_codec.specs.declared.item.Looked.TheVariants as looks
use Rattle.lynx_codec.specs.declared.item.Item.{Item}
use Rattle.lynx_codec.specs.declared.item.Item.TheVariants as items

-- each server is above the one before it, and the first is at least the least
abbrev pub Rise : ℕ → List NumberAt → Type 0
Rise least [] = Unit {0}
Rise least (n ∷ ns) = (least ≤ n.server) × Rise (suc n.server) ns

abbrev pub HaveOrder : List NumberAt → Type 0
HaveOrder ns = (1 ≤ length ns) × (length ns ≤ MAX_HOPS) × Rise 0 ns

-- ---- what the types leave open: counts, rising servers and needs

abbrev pub AreFew : List (List ℕ) → Type 0
AreFew rs = (length rs ≤ MAX_HOPS) × AllByRecursion (λ vs. length vs ≤ MAX_ACTIONS) rs

abbrev pub IsRequestInRange : Request → Type 0
IsRequestInRange r = length r.args ≤ MAX_PARAMETERS

abbrev pub IsAnswerInRange : Answer → Type 0
IsAnswerInRange (answers.Begun id stamp results again) = length results ≤ MAX_ACTIONS
IsAnswerInRange (answers.Refused need stamp again) = need < MAX_ACTIONS
IsAnswerInRange _ = Unit {0}

abbrev pub IsLookedInRange : Looked → Type 0
IsLookedInRange looks.Absent = Unit {0}
IsLookedInRange (looks.Found stamp results) = length results ≤ MAX_ACTIONS

abbrev pub IsMessageInRange : Message → Type 0
IsMessageInRange m = (length m.args ≤ MAX_PARAMETERS) × HaveOrder m.numbers × AreFew m.results

abbrev pub IsBegunInRange : BegunEntry → Type 0
IsBegunInRange e =
    IsRequestInRange e.request × HaveOrder e.numbers × (length e.results ≤ MAX_ACTIONS)

abbrev pub IsRefusedInRange : RefusedEntry → Type 0
IsRefusedInRange e = IsRequestInRange e.request × (e.need < MAX_ACTIONS)

abbrev pub IsHopInRange : HopEntry → Type 0
IsHopInRange e = IsMessageInRange e.message × (length e.results ≤ MAX_ACTIONS)

abbrev pub IsInRange : Item → Type 0
IsInRange (items.Request r) = IsRequestInRange r
IsInRange (items.Answer a) = IsAnswerInRange a
IsInRange (items.Looked l) = IsLookedInRange l
IsInRange (items.Message m) = IsMessageInRange m
IsInRange (items.Entry (entries.Begun e)) = IsBegunInRange e
IsInRange (items.Entry (entries.Refused e)) = IsRefusedInRange e
IsInRange (items.Entry (entries.Hop e)) = IsHopInRange e
IsInRange _ = Unit {0}

-- ---- all of it, with what each value of the types keeps

abbrev pub IsWord : ℕ → Type 0
IsWord n = n < 2 ^ 64

abbrev pub IsStamp : ℕ → Type 0
IsStamp time = time < STAMP_LIMIT

abbrev pub IsChain : ChainId → Type 0
IsChain id = (id.origin < MAX_SERVERS) × IsWord id.index

abbrev pub AreValues : ℕ → List ℕ → Type 0
AreValues most vs = (length vs ≤ most) × AllByRecursion IsWord vs

abbrev pub IsNumber : NumberAt → Type 0
IsNumber n = (n.server < MAX_SERVERS) × IsWord n.number

abbrev pub AreNumbers : List NumberAt → Type 0
AreNumbers ns = HaveOrder ns × AllByRecursion IsNumber ns

abbrev pub AreResultLists : List (List ℕ) → Type 0
AreResultLists rs = (length rs ≤ MAX_HOPS) × AllByRecursion (AreValues MAX_ACTIONS) rs

abbrev pub IsRequest : Request → Type 0
IsRequest r =
    IsWord r.client
    × (IsWord r.number × ((r.program < MAX_PROGRAMS) × AreValues MAX_PARAMETERS r.args))

abbrev pub IsLook : Look → Type 0
IsLook l = IsChain l.chain × (l.hop < 256)

abbrev pub IsAnswer : Answer → Type 0
IsAnswer (answers.Begun id stamp results again) =
    IsChain id × (IsStamp stamp × AreValues MAX_ACTIONS results)
IsAnswer (answers.Refused need stamp again) = (need < MAX_ACTIONS) × IsStamp stamp
IsAnswer _ = Unit {0}

abbrev pub IsLooked : Looked → Type 0
IsLooked looks.Absent = Unit {0}
IsLooked (looks.Found stamp results) = IsStamp stamp × AreValues MAX_ACTIONS results

abbrev pub IsMessage : Message → Type 0
IsMessage m =
    IsChain m.chain × ((m.program < MAX_PROGRAMS) × ((m.hop < 256) × (IsStamp m.stamp
    × (AreValues MAX_PARAMETERS m.args × (AreNumbers m.numbers × AreResultLists m.results)))))

abbrev pub IsBegunEntry : BegunEntry → Type 0
IsBegunEntry e =
    IsRequest e.request × (IsStamp e.seen × (IsChain e.chain × (AreNumbers e.numbers
    × (IsStamp e.stamp × AreValues MAX_ACTIONS e.results))))

abbrev pub IsRefusedEntry : RefusedEntry → Type 0
IsRefusedEntry e =
    IsRequest e.request × (IsStamp e.seen × ((e.need < MAX_ACTIONS) × IsStamp e.stamp))

abbrev pub IsHopEntry : HopEntry → Type 0
IsHopEntry e = IsMessage e.message × (IsStamp e.stamp × AreValues MAX_ACTIONS e.results)

abbrev pub IsItem : Item → Type 0
IsItem (items.Request r) = IsRequest r
IsItem (items.Look l) = IsLook l
IsItem items.Quit = Unit {0}
IsItem items.Shut = Unit {0}
IsItem (items.Answer a) = IsAnswer a
IsItem (items.Looked l) = IsLooked l
IsItem items.Bye = Unit {0}
IsItem (items.Message m) = IsMessage m
IsItem (items.Entry (entries.Begun e)) = IsBegunEntry e
IsItem (items.Entry (entries.Refused e)) = IsRefusedEntry e
IsItem (items.Entry (entries.Hop e)) = IsHopEntry e
