-- What a request of HTTP is answered.
use Rattle.std.specs.Prelude.{◌≡◌, ℕ, Bool, ◌⊎◌, List, [], codes, None, Result, Some}
use Rattle.http.specs.declared.request.Request.{Request}
use Rattle.http_server.specs.declared.response.Response.{Response}
use Rattle.http_server.specs.Response.{IsResponse}
use Rattle.lynx_status.specs.declared.asking.Asked.{Asked}
use Rattle.lynx_status.specs.declared.asking.Refusal.{Refusal}
use Rattle.lynx_status.specs.declared.copies.CopyCommand.{CopyCommand}
use Rattle.lynx_status.specs.declared.reply.Content.TheVariants.{Text}
use Rattle.lynx_status.specs.declared.reply.Reply.{Reply}
use Rattle.lynx_status.specs.declared.wanted.Wanted.{Wanted}
use Rattle.lynx_status.specs.Asking.{IsAsked, refused_by}
use Rattle.lynx_status.specs.Commands.{ObeysCommand, command_in, command_refused}
use Rattle.lynx_status.specs.Lookups.{LooksUp, allowed}
use Rattle.lynx_status.specs.Questions.{has_origin, host_of, method_of, target_of, wanted_of}
use Rattle.lynx_status.specs.Replies.{Replies, fields_for}
use Rattle.lynx_status.specs.Shapes.{shape_of}
use Rattle.lynx_status.specs.Watching.{Finds, Obeys, Reads, Records, Tells, Traces}

-- memory is wanting: it says so, or says nothing but the status
abbrev pub IsUnable : Bool → Response → Type 0
IsUnable is_ending response =
    IsResponse 503 (fields_for Text 503 is_ending) (codes "out of memory\n") response
    ⊎ IsResponse 503 [] [] response

-- the response of a reply
abbrev pub IsSent : Bool → Reply → Response → Type 0
IsSent is_ending reply response =
    IsResponse reply.status (fields_for reply.content reply.status is_ending) reply.body.items
    response

-- what it looks up is answered, or refused
abbrev pub LookedUp : {W : Type 0} → Reads W → Records W → Traces W → W → Request (List ℕ) → Reply
    → W → Type 0
LookedUp reads records traces old request reply new =
    (wanted : Result Wanted Refusal) × (wanted_of request ≡ Some wanted)
    × LooksUp reads records traces old (shape_of request)
    (allowed (refused_by (method_of request) (host_of request)) wanted) reply new

-- it looks up nothing, and what it asks for is answered, or refused
abbrev pub Answered : {W : Type 0} → Tells W → Finds W → (W → List ℕ) → List ℕ → W
    → Request (List ℕ) → Reply → W → Type 0
Answered tells finds set_of version old request reply new =
    (question : Result Asked Refusal) × (wanted_of request ≡ None)
    × IsAsked (method_of request) (host_of request) (target_of request) question
    × Replies tells finds set_of version old question reply new

-- the one or the other
abbrev pub RepliesToQuestion : {W : Type 0} → Tells W → Finds W → Reads W → Records W → Traces W
    → (W → List ℕ) → List ℕ → W → Request (List ℕ) → Reply → W → Type 0
RepliesToQuestion tells finds reads records traces set_of version old request reply new =
    LookedUp reads records traces old request reply new
    ⊎ Answered tells finds set_of version old request reply new

module _ {W : Type 0} (tells : Tells W) (finds : Finds W) (reads : Reads W) (records : Records W)
    (traces : Traces W) (obeys : Obeys W) (set_of : W → List ℕ)
  where
    -- what it commands is done, or refused
    abbrev pub Obeyed : W → Request (List ℕ) → Reply → W → Type 0
    Obeyed old request reply new =
        (command : CopyCommand)
        × (command_in (method_of request) (target_of request) ≡ Some command)
        × ObeysCommand obeys old command (command_refused (host_of request) (has_origin request))
        reply new

    -- it commands nothing
    abbrev pub CommandsNothing : Request (List ℕ) → Type 0
    CommandsNothing request = command_in (method_of request) (target_of request) ≡ None

    -- what it commands, or what it looks up or asks for
    abbrev pub RepliesTo : List ℕ → W → Request (List ℕ) → Reply → W → Type 0
    RepliesTo version old request reply new =
        Obeyed old request reply new
        ⊎ (CommandsNothing request
        × RepliesToQuestion tells finds reads records traces set_of version old request reply new)

    -- it has its reply
    abbrev pub Responds : List ℕ → W → Request (List ℕ) → Bool → Response → W → Type 0
    Responds version old request is_ending response new =
        (reply : Reply) × RepliesTo version old request reply new × IsSent is_ending reply response

    -- .. or memory is wanting
    abbrev pub Answers : List ℕ → W → Request (List ℕ) → Response → W → Type 0
    Answers version old request response new =
        (is_ending : Bool)
        × (Responds version old request is_ending response new ⊎ IsUnable is_ending response)
