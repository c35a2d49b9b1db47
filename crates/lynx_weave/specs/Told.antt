-- What sessions were told, and when it stands.
use Rattle.std.specs.Prelude.{ℕ, if◌then◌else◌, [], ◌∷◌, ◌+◌, ◌==◌, ◌&&◌, ◌||◌, Bool, true, false, not, max, nat_lt, nat_eq, List, length, fold}
use Rattle.std.specs.List.{list_any}
use Rattle.std.specs.Cmp.Lexicographic.{pointwise}
use Rattle.lynx_names.specs.declared.chain.ChainId.{ChainId}
use Rattle.lynx_names.specs.declared.limits.TheConstants.{MAX_ENTRIES, STAMP_LIMIT}
use Rattle.lynx_entry.specs.declared.answer.Answer.{Answer}
use Rattle.lynx_entry.specs.declared.answer.Answer.TheVariants.{Begun as BegunAnswer, Refused as RefusedAnswer, Clash, Full}
use Rattle.lynx_entry.specs.declared.entry.Entry.{Entry}
use Rattle.lynx_entry.specs.declared.entry.Entry.TheVariants.{Begun, Refused, Hop}
use Rattle.lynx_entry.specs.declared.request.Request.{Request}
use Rattle.lynx_entry.specs.Entry.{stamp_of}
use Rattle.lynx_turn.specs.Held.{same_chain}
use Rattle.lynx_rules.specs.Answers.{same_call}
use Rattle.lynx_world.specs.Placed.{Placed}
use Rattle.lynx_world.specs.Worlds.{history_of}
use Rattle.lynx_weave.specs.declared.told.ToldItem.{ToldItem}
use Rattle.lynx_weave.specs.declared.told.ToldItem.TheVariants.{Answered, Seen}

-- the same request of one client
abbrev pub same_request : Request → Request → Bool
same_request left right =
    (left.client == right.client) && (left.number == right.number) &&
    (left.program == right.program)
    && pointwise nat_eq left.args right.args

-- the entry in which that request began that chain, with that stamp and these results
abbrev pub is_begun_as : Request → ChainId → ℕ → List ℕ → Entry → Bool
is_begun_as request chain stamp results (Begun begun) =
    same_request begun.request request && same_chain begun.chain chain && (begun.stamp == stamp)
    && pointwise nat_eq begun.results results
is_begun_as request chain stamp results (Refused refused) = false
is_begun_as request chain stamp results (Hop ran) = false

-- the entry in which that request was refused by that need, with that stamp
abbrev pub is_refused_as : Request → ℕ → ℕ → Entry → Bool
is_refused_as request need stamp (Begun begun) = false
is_refused_as request need stamp (Refused refused) =
    same_request refused.request request && (refused.need == need) && (refused.stamp == stamp)
is_refused_as request need stamp (Hop ran) = false

-- a request of the same client and number with another program or other arguments
abbrev pub is_other_call : Request → Request → Bool
is_other_call other request =
    (other.client == request.client) && (other.number == request.number) && not
    (same_call other request)

-- the entry keeps the answer to such a request
abbrev pub is_clash_of : Request → Entry → Bool
is_clash_of request (Begun begun) = is_other_call begun.request request
is_clash_of request (Refused refused) = is_other_call refused.request request
is_clash_of request (Hop ran) = false

-- the entry of that hop of the chain, with that stamp and these results
abbrev pub is_look_at : ChainId → ℕ → ℕ → List ℕ → Entry → Bool
is_look_at chain hop stamp results (Begun begun) =
    same_chain begun.chain chain && (hop == 0) && (begun.stamp == stamp) && pointwise nat_eq
    begun.results results
is_look_at chain hop stamp results (Refused refused) = false
is_look_at chain hop stamp results (Hop ran) =
    same_chain ran.message.chain chain && (ran.message.hop == hop) && (ran.stamp == stamp)
    && pointwise nat_eq ran.results results

-- the entry bears out the answer to that request
abbrev pub bears_answer : Request → Answer → Entry → Bool
bears_answer request (BegunAnswer chain stamp results again) entry =
    is_begun_as request chain stamp results entry
bears_answer request (RefusedAnswer need stamp again) entry = is_refused_as request need stamp entry
bears_answer request Clash entry = is_clash_of request entry
bears_answer request answer entry = false

-- the entry bears out what was told of its server
abbrev pub bears : ToldItem → Entry → Bool
bears (Answered server request answer) entry = bears_answer request answer entry
bears (Seen server chain hop stamp results) entry = is_look_at chain hop stamp results entry

-- the server that something was told of
abbrev pub server_told : ToldItem → ℕ
server_told (Answered server request answer) = server
server_told (Seen server chain hop stamp results) = server

-- the entry agrees with what was told: it is of that server, and bears it out
abbrev pub agrees : ToldItem → Placed → Bool
agrees item placed = (placed.server == server_told item) && bears item placed.entry

-- it was told that the server is full
abbrev pub is_full_answer : Answer → Bool
is_full_answer Full = true
is_full_answer answer = false

abbrev pub tells_full : ToldItem → Bool
tells_full (Answered server request answer) = is_full_answer answer
tells_full (Seen server chain hop stamp results) = false

-- the entry has the greatest of all stamps
abbrev pub is_topmost : Entry → Bool
is_topmost entry = stamp_of entry + 1 == STAMP_LIMIT

-- the server has all the entries, or the list all the stamps, that there may be
abbrev pub is_full_in : ℕ → List Placed → Bool
is_full_in server list =
    not (nat_lt (length (history_of server list)) MAX_ENTRIES) || list_any
    (λ placed. is_topmost placed.entry) list

-- What was told stands in a list of entries: an entry agrees with it, or it tells that a server is
-- full which is.
abbrev pub stands : List Placed → ToldItem → Bool
stands list item =
    list_any (agrees item) list || (tells_full item && is_full_in (server_told item) list)

-- the answer tells of what was done for it, and not of a record
abbrev pub is_fresh_answer : Answer → Bool
is_fresh_answer (BegunAnswer chain stamp results again) = not again
is_fresh_answer (RefusedAnswer need stamp again) = not again
is_fresh_answer answer = false

abbrev pub is_fresh : ToldItem → Bool
is_fresh (Answered server request answer) = is_fresh_answer answer
is_fresh (Seen server chain hop stamp results) = false

-- it is fresh by that entry
abbrev pub is_fresh_by : Placed → ToldItem → Bool
is_fresh_by placed item = is_fresh item && agrees item placed

-- the stamp that was told, 0 where none was
abbrev pub stamp_answered : Answer → ℕ
stamp_answered (BegunAnswer chain stamp results again) = stamp
stamp_answered (RefusedAnswer need stamp again) = stamp
stamp_answered answer = 0

abbrev pub stamp_told : ToldItem → ℕ
stamp_told (Answered server request answer) = stamp_answered answer
stamp_told (Seen server chain hop stamp results) = stamp

-- the greatest stamp that was told, 0 where none was
abbrev pub greatest_told : List ToldItem → ℕ
greatest_told items = fold (λ greatest item. max greatest (stamp_told item)) 0 items

-- the answers that a session notes
abbrev pub is_noted : Answer → Bool
is_noted (BegunAnswer chain stamp results again) = true
is_noted (RefusedAnswer need stamp again) = true
is_noted Clash = true
is_noted Full = true
is_noted given = false

-- what a session notes of that server's answer to a request
abbrev pub told_by : ℕ → Request → Answer → List ToldItem
told_by server request answer = if is_noted answer then Answered server request answer ∷ [] else []
