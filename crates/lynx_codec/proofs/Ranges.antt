-- What has an encoding is in range.
use Rattle.std.proofs.Common.{ℕ, ◌≤◌, List, [], ◌∷◌, length}
use Rattle.std.specs.List.{AllByRecursion}
use Rattle.lynx_names.specs.declared.limits.TheConstants.{MAX_ACTIONS}
use Rattle.lynx_entry.specs.declared.request.Request.{Request}
use Rattle.lynx_entry.specs.declared.message.Message.{Message}
use Rattle.lynx_entry.specs.declared.answer.Answer.{Answer}
use Rattle.lynx_entry.specs.declared.answer.Answer.TheVariants as answers
use Rattle.lynx_entry.specs.declared.entry.Entry.TheVariants as entries
use Rattle.lynx_codec.specs.declared.item.Looked.{Looked}
use Rattle.lynx_codec.specs.declared.item.Looked.TheVariants as looks
use Rattle.lynx_codec.specs.declared.item.Item.{Item}
use Rattle.lynx_codec.specs.declared.item.Item.TheVariants as items
use Rattle.lynx_codec.specs.Ranges.{AreValues, IsRequest, IsRequestInRange, IsMessage, IsMessageInRange, IsAnswer, IsAnswerInRange, IsLooked, IsLookedInRange, IsItem, IsInRange}

each_few : (rs : List (List ℕ)) → AllByRecursion (AreValues MAX_ACTIONS) rs → AllByRecursion (λ vs. length vs ≤ MAX_ACTIONS) rs
each_few [] fits = tt
each_few (r ∷ rs) fits = (fits.0.0, each_few rs fits.1)

request_in_range : (r : Request) → IsRequest r → IsRequestInRange r
request_in_range r fits = fits.1.1.1.0

answer_in_range : (a : Answer) → IsAnswer a → IsAnswerInRange a
answer_in_range (answers.Begun id stamp results again) fits = fits.1.1.0
answer_in_range answers.Clash fits = tt
answer_in_range answers.UnknownProgram fits = tt
answer_in_range answers.WrongOrigin fits = tt
answer_in_range answers.ArgCount fits = tt
answer_in_range answers.WrongShard fits = tt
answer_in_range answers.Full fits = tt
answer_in_range answers.Busy fits = tt
answer_in_range (answers.Refused need stamp again) fits = fits.0
answer_in_range answers.Stopped fits = tt
answer_in_range answers.Memory fits = tt
answer_in_range answers.OutsideRange fits = tt

looked_in_range : (l : Looked) → IsLooked l → IsLookedInRange l
looked_in_range looks.Absent fits = tt
looked_in_range (looks.Found stamp results) fits = fits.1.0

message_in_range : (m : Message) → IsMessage m → IsMessageInRange m
message_in_range m fits =
    let lists = fits.1.1.1.1 in
    (lists.0.0, lists.1.0.0, (lists.1.1.0, each_few m.results lists.1.1.1))

pub is_in_range : (item : Item) → IsItem item → IsInRange item
is_in_range (items.Request r) fits = request_in_range r fits
is_in_range (items.Look l) fits = tt
is_in_range items.Quit fits = tt
is_in_range items.Shut fits = tt
is_in_range (items.Answer a) fits = answer_in_range a fits
is_in_range (items.Looked l) fits = looked_in_range l fits
is_in_range items.Bye fits = tt
is_in_range (items.Message m) fits = message_in_range m fits
is_in_range (items.Entry (entries.Begun e)) fits = (request_in_range e.request fits.0, fits.1.1.1.0.0, fits.1.1.1.1.1.0)
is_in_range (items.Entry (entries.Refused e)) fits = (request_in_range e.request fits.0, fits.1.1.0)
is_in_range (items.Entry (entries.Hop e)) fits = (message_in_range e.message fits.0, fits.1.1.0)
