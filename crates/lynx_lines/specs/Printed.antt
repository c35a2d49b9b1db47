-- The printed lines, by the byte.
use Rattle.std.specs.Prelude.{ℕ, Bool, if◌then◌else◌, List, [], ◌∷◌, ◌++◌, codes, Option, Some, None}
use Rattle.std.specs.List.{flat_map}
use Rattle.std.specs.Fmt.{decimal}
use Rattle.lynx_names.specs.Chain.{chain_text}
use Rattle.lynx_names.specs.declared.chain.ChainId.{ChainId}
use Rattle.lynx_entry.specs.declared.answer.Answer.{Answer}
use Rattle.lynx_entry.specs.declared.answer.Answer.TheVariants.{Begun, Clash, UnknownProgram, WrongOrigin, ArgCount, OutsideRange, WrongShard, Full, Busy, Refused, Stopped, Memory}
use Rattle.lynx_entry.specs.declared.answer.Delivered.{Delivered}
use Rattle.lynx_entry.specs.declared.answer.Delivered.TheVariants.{Done, Repeat, Held, Dropped, Malformed, Full as FullThere, Stopped as StoppedThere, Memory as MemoryThere}
use Rattle.lynx_entry.specs.declared.message.Message.{Message}
use Rattle.lynx_entry.specs.declared.entry.Entry.{Entry}
use Rattle.lynx_entry.specs.declared.entry.Entry.TheVariants.{Begun as BegunOnce, Refused as RefusedOnce, Hop}
use Rattle.lynx_entry.specs.declared.event.Outcome.{Outcome}
use Rattle.lynx_entry.specs.declared.event.Outcome.TheVariants.{Answered, Delivered as DeliveredNow, Woken, NotSent, LostNow, Idle, Restarted, NoServer, Memory as NoMemory}

-- values with a space before each
abbrev pub spaced : List ℕ → List ℕ
spaced values = flat_map (λ value. 32 ∷ decimal value) values

-- a list of values
abbrev pub values_text : List ℕ → List ℕ
values_text [] = codes "-"
values_text (value ∷ values) = decimal value ++ spaced values

abbrev pub again_text : Bool → List ℕ
again_text again = if again then codes " again" else []

-- a chain that began
abbrev pub begun_text : ChainId → ℕ → List ℕ → List ℕ
begun_text chain stamp results =
    codes "begun " ++ chain_text chain ++ codes " stamp " ++ decimal stamp ++ codes " results "
    ++ values_text results

-- a request that the need of that number refused
abbrev pub refused_text : ℕ → ℕ → List ℕ
refused_text need stamp = codes "refused " ++ decimal need ++ codes " stamp " ++ decimal stamp

-- what a begin is answered
abbrev pub answer_text : Answer → List ℕ
answer_text (Begun chain stamp results again) = begun_text chain stamp results ++ again_text again
answer_text Clash = codes "clash"
answer_text UnknownProgram = codes "unknown-program"
answer_text WrongOrigin = codes "wrong-origin"
answer_text ArgCount = codes "arg-count"
answer_text OutsideRange = codes "outside-range"
answer_text WrongShard = codes "wrong-shard"
answer_text Full = codes "full"
answer_text Busy = codes "busy"
answer_text (Refused need stamp again) = refused_text need stamp ++ again_text again
answer_text Stopped = codes "stopped"
answer_text Memory = []

-- where a chain goes on
abbrev pub next_text : Option Message → List ℕ
next_text (Some message) = codes " next " ++ decimal message.hop
next_text None = codes " end"

-- a hop of a chain, with a word before it
abbrev pub hop_text : List ℕ → ChainId → ℕ → List ℕ
hop_text word chain hop = word ++ 32 ∷ chain_text chain ++ 32 ∷ decimal hop

-- a hop that ran, with a word before it
abbrev pub hop_done_text : List ℕ → ChainId → ℕ → ℕ → List ℕ → List ℕ
hop_done_text word chain hop stamp results =
    hop_text word chain hop ++ codes " stamp " ++ decimal stamp ++ codes " results "
    ++ values_text results

-- the same, and where its chain goes on
abbrev pub ran_text : List ℕ → ChainId → ℕ → ℕ → List ℕ → Option Message → List ℕ
ran_text word chain hop stamp results next =
    hop_done_text word chain hop stamp results ++ next_text next

-- what a delivery is answered
abbrev pub delivered_text : ChainId → ℕ → Delivered → List ℕ
delivered_text chain hop (Done stamp results next) =
    ran_text (codes "done") chain hop stamp results next
delivered_text chain hop (Repeat stamp results next) =
    ran_text (codes "repeat") chain hop stamp results next
delivered_text chain hop Held = hop_text (codes "held") chain hop
delivered_text chain hop Dropped = hop_text (codes "dropped") chain hop
delivered_text chain hop Malformed = codes "malformed"
delivered_text chain hop FullThere = codes "full"
delivered_text chain hop StoppedThere = codes "stopped"
delivered_text chain hop MemoryThere = []

-- what an outcome prints
abbrev pub outcome_text : Outcome → List ℕ
outcome_text (Answered answer) = answer_text answer
outcome_text (DeliveredNow chain hop delivered) = delivered_text chain hop delivered
outcome_text (Woken chain hop delivered) = delivered_text chain hop delivered
outcome_text (NotSent chain hop) = hop_text (codes "not-sent") chain hop
outcome_text (LostNow chain hop) = hop_text (codes "lost") chain hop
outcome_text (Idle server) = codes "idle " ++ decimal server
outcome_text (Restarted server) = codes "restarted " ++ decimal server
outcome_text NoServer = codes "no-server"
outcome_text NoMemory = []

-- chains with a space before each, or ` -` where there is none
abbrev pub chains_text : List ChainId → List ℕ
chains_text [] = codes " -"
chains_text (chain ∷ chains) = flat_map (λ one. 32 ∷ chain_text one) (chain ∷ chains)

-- what a server kept
abbrev pub entry_text : Entry → List ℕ
entry_text (BegunOnce begun) = begun_text begun.chain begun.stamp begun.results
entry_text (RefusedOnce refused) = refused_text refused.need refused.stamp
entry_text (Hop ran) =
    hop_done_text (codes "hop") ran.message.chain ran.message.hop ran.stamp ran.results
