-- What is asked to be done with the folder that follows.
use Rattle.std.specs.Prelude.{◌≡◌, ℕ, Bool, List, bytes_eq, codes, Option, Some, None, if◌then◌else◌}
use Rattle.lynx_status.specs.declared.asking.Refusal.{Refusal}
use Rattle.lynx_status.specs.declared.asking.Refusal.TheVariants.{NoHost, OtherHost, OtherOrigin, NotFound}
use Rattle.lynx_status.specs.declared.copies.CopyCommand.{CopyCommand}
use Rattle.lynx_status.specs.declared.copies.CopyCommand.TheVariants.{Pause, Resume}
use Rattle.lynx_status.specs.declared.copies.CopyDone.{CopyDone}
use Rattle.lynx_status.specs.declared.copies.CopyDone.TheVariants.{Done, Late, NoCopy}
use Rattle.lynx_status.specs.declared.reply.Content.TheVariants.{Text}
use Rattle.lynx_status.specs.declared.reply.Reply.{Reply}
use Rattle.lynx_status.specs.Hosts.{is_local}
use Rattle.lynx_status.specs.Replies.{IsRefusal, IsReply}

-- what a request commands by its method and its path
abbrev pub command_in : List ℕ → List ℕ → Option CopyCommand
command_in method path =
    if bytes_eq method (codes "POST")
    then (if bytes_eq path (codes "/copy/pause") then Some Pause
    else (if bytes_eq path (codes "/copy/resume") then Some Resume else None))
    else None

-- why a command is refused: no page of a browser gives one
abbrev pub command_refused : Option (List ℕ) → Bool → Option Refusal
command_refused None has_origin = Some NoHost
command_refused (Some host) has_origin =
    if is_local host then (if has_origin then Some OtherOrigin else None) else Some OtherHost

abbrev pub command_text : CopyCommand → List ℕ
command_text Pause = codes "paused\n"
command_text Resume = codes "resumed\n"

-- what is answered to what came of a command
abbrev pub IsCommandReply : CopyCommand → CopyDone → Reply → Type 0
IsCommandReply command Done = IsReply 200 Text (command_text command)
IsCommandReply command Late = IsReply 503 Text (codes "not closed yet\n")
IsCommandReply command NoCopy = IsRefusal NotFound

module _ {W : Type 0} (obeys : W → CopyCommand → CopyDone → W → Type 0) where
  -- a command is refused, or is obeyed and answered, from one state of who is asked to the next
  abbrev pub ObeysCommand : W → CopyCommand → Option Refusal → Reply → W → Type 0
  ObeysCommand old command (Some why) reply new = IsRefusal why reply × (new ≡ old)
  ObeysCommand old command None reply new =
      (done : CopyDone) × obeys old command done new × IsCommandReply command done reply
