-- What becomes of a request: one entry records it, and what was answered once is answered alike.
use Rattle.std.specs.Prelude.{◌≡◌, ◌⊎◌, ℕ, true, if◌then◌else◌, List, Option, Some, None}
use Rattle.std.specs.List.{filter_map}
use Rattle.lynx_names.specs.declared.limits.TheConstants.{MAX_HELD}
use Rattle.lynx_entry.specs.declared.answer.Answer.{Answer}
use Rattle.lynx_entry.specs.declared.answer.Answer.TheVariants.{Begun as BegunAnswer, Refused as RefusedAnswer, Full}
use Rattle.lynx_entry.specs.declared.entry.Entry.{Entry}
use Rattle.lynx_entry.specs.declared.entry.Entry.TheVariants.{Begun, Refused, Hop}
use Rattle.lynx_entry.specs.declared.event.Event.TheVariants.{Begin}
use Rattle.lynx_entry.specs.declared.request.Request.{Request}
use Rattle.lynx_entry.specs.Entry.{History}
use Rattle.lynx_order.specs.Lists.{AreDifferent, IsIn}
use Rattle.lynx_weave.specs.declared.told.ToldItem.{ToldItem}
use Rattle.lynx_weave.specs.declared.told.ToldItem.TheVariants.{Answered, Seen}
use Rattle.lynx_weave.specs.Told.{is_fresh_answer}
use Rattle.lynx_weave.specs.Weaving.{all_told}
use Rattle.lynx_world.specs.Placed.{Placed}
use Rattle.lynx_world.specs.Steps.{Step, step}
use Rattle.lynx_world.specs.Worlds.{WorldState}

-- the client and the number of the request that the entry records
abbrev pub number_kept : Entry → Option (ℕ × ℕ)
number_kept (Begun begun) = Some (begun.request.client, begun.request.number)
number_kept (Refused refused) = Some (refused.request.client, refused.request.number)
number_kept (Hop ran) = None

-- A server records each client and number once: no two of its entries record the same. What another
-- server records is another's. So one number that a client uses at two servers stands for two
-- requests, of two programs, since each program begins at one server alone.
abbrev pub OneEntryEach : History → Type 0
OneEntryEach history = AreDifferent (filter_map number_kept history)

-- .. and the program that it asks for
abbrev pub call_kept : Entry → Option (ℕ × ℕ × ℕ)
call_kept (Begun begun) = Some (begun.request.client, begun.request.number, begun.request.program)
call_kept (Refused refused) =
    Some (refused.request.client, refused.request.number, refused.request.program)
call_kept (Hop ran) = None

-- All servers together record each client, number and program once.
abbrev pub OneHomeEach : List Placed → Type 0
OneHomeEach list = AreDifferent (filter_map (λ placed. call_kept placed.entry) list)

-- what the same request is answered from then on, where this answer began or refused it
abbrev pub answer_again : Answer → Option Answer
answer_again (BegunAnswer chain stamp results again) = Some (BegunAnswer chain stamp results true)
answer_again (RefusedAnswer need stamp again) = Some (RefusedAnswer need stamp true)
answer_again answer = None

-- the server, the client and the number of a request that is told as new
abbrev pub told_new : ToldItem → Option (ℕ × ℕ × ℕ)
told_new (Answered server request answer) =
    if is_fresh_answer answer then Some (server, request.client, request.number) else None
told_new (Seen server chain hop stamp results) = None

-- Of all that sessions were told. Where a server answered a request as begun or refused, each other
-- answer of this server to this request tells the same, or that the server was full. And no server
-- answered one client and number as new twice.
pub record AnswersAlike (told : List (List ToldItem)) : Type 0 where
  pub alike : (server : ℕ) (request : Request) (one other again : Answer)
      → IsIn (Answered server request one) (all_told told)
      → IsIn (Answered server request other) (all_told told) → answer_again one ≡ Some again
      → (other ≡ Full) ⊎ (answer_again other ≡ Some again)
  pub new : AreDifferent (filter_map told_new (all_told told))

-- a request at that server, with the greatest stamp that its session was told
abbrev pub asks : WorldState → ℕ → Request → ℕ → Step
asks world server request seen = step MAX_HELD world (Begin server request seen)
