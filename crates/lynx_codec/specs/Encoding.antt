-- The one encoding of each item: the byte of its tag, the length of its body in four bytes, the
-- body.
use Rattle.std.specs.Prelude.{ℕ, List, [], ◌∷◌, ◌++◌, length}
use Rattle.std.specs.Int.{w32, to_be_bytes}
use Rattle.lynx_entry.specs.declared.request.Request.{Request}
use Rattle.lynx_entry.specs.declared.message.Message.{Message}
use Rattle.lynx_entry.specs.declared.answer.Answer.{Answer}
use Rattle.lynx_entry.specs.declared.answer.Answer.TheVariants as answers
use Rattle.lynx_entry.specs.declared.entry.BegunEntry.{BegunEntry}
use Rattle.lynx_entry.specs.declared.entry.RefusedEntry.{RefusedEntry}
use Rattle.lynx_entry.specs.declared.entry.HopEntry.{HopEntry}
use Rattle.lynx_entry.specs.declared.entry.Entry.TheVariants as entries
use Rattle.lynx_codec.specs.declared.item.Look.{Look}
use Rattle.lynx_codec.specs.declared.item.Looked.{Looked}
use Rattle.lynx_codec.specs.declared.item.Looked.TheVariants as looks
use Rattle.lynx_codec.specs.declared.item.Item.{Item}
use Rattle.lynx_codec.specs.declared.item.Item.TheVariants as items
use Rattle.lynx_codec.specs.declared.tag.Tag.{Tag}
use Rattle.lynx_codec.specs.declared.tag.Tag.TheVariants as tags
use Rattle.lynx_codec.specs.Fields.{word, flag, values, chain, numbers, result_lists}

abbrev pub request : Request → List ℕ
request r = word r.client ++ (word r.number ++ (r.program ∷ values r.args))

abbrev pub look : Look → List ℕ
look l = chain l.chain ++ (l.hop ∷ [])

abbrev pub answer : Answer → List ℕ
answer (answers.Begun id stamp results again) =
    0 ∷ (chain id ++ (word stamp ++ (flag again ++ values results)))
answer answers.Clash = 1 ∷ []
answer answers.UnknownProgram = 2 ∷ []
answer answers.WrongOrigin = 3 ∷ []
answer answers.ArgCount = 4 ∷ []
answer answers.WrongShard = 5 ∷ []
answer answers.Full = 6 ∷ []
answer answers.Busy = 7 ∷ []
answer (answers.Refused need stamp again) = 8 ∷ need ∷ (word stamp ++ flag again)
answer answers.Stopped = 9 ∷ []
answer answers.Memory = 10 ∷ []
answer answers.OutsideRange = 11 ∷ []

abbrev pub looked : Looked → List ℕ
looked looks.Absent = 0 ∷ []
looked (looks.Found stamp results) = 1 ∷ (word stamp ++ values results)

abbrev pub message : Message → List ℕ
message m =
    chain m.chain ++ (m.program ∷ m.hop ∷ (word m.stamp
    ++ (values m.args ++ (numbers m.numbers ++ result_lists m.results))))

abbrev pub begun : BegunEntry → List ℕ
begun e =
    request e.request ++ (word e.seen
    ++ (chain e.chain ++ (numbers e.numbers ++ (word e.stamp ++ values e.results))))

abbrev pub refused : RefusedEntry → List ℕ
refused e = request e.request ++ (word e.seen ++ (e.need ∷ word e.stamp))

abbrev pub hop : HopEntry → List ℕ
hop e = message e.message ++ (word e.stamp ++ values e.results)

abbrev pub body : Item → List ℕ
body (items.Request r) = request r
body (items.Look l) = look l
body items.Quit = []
body items.Shut = []
body (items.Answer a) = answer a
body (items.Looked l) = looked l
body items.Bye = []
body (items.Message m) = message m
body (items.Entry (entries.Begun e)) = begun e
body (items.Entry (entries.Refused e)) = refused e
body (items.Entry (entries.Hop e)) = hop e

abbrev pub tag : Item → Tag
tag (items.Request r) = tags.Request
tag (items.Look l) = tags.Look
tag items.Quit = tags.Quit
tag items.Shut = tags.Shut
tag (items.Answer a) = tags.Answer
tag (items.Looked l) = tags.Looked
tag items.Bye = tags.Bye
tag (items.Message m) = tags.Message
tag (items.Entry (entries.Begun e)) = tags.Begun
tag (items.Entry (entries.Refused e)) = tags.Refused
tag (items.Entry (entries.Hop e)) = tags.Hop

abbrev pub byte_of : Tag → ℕ
byte_of tags.Request = 0x01
byte_of tags.Look = 0x02
byte_of tags.Quit = 0x03
byte_of tags.Shut = 0x04
byte_of tags.Answer = 0x11
byte_of tags.Looked = 0x12
byte_of tags.Bye = 0x13
byte_of tags.Message = 0x21
byte_of tags.Begun = 0x22
byte_of tags.Refused = 0x23
byte_of tags.Hop = 0x24

-- the length of a body in four bytes, the highest first
unfoldable pub length_bytes : ℕ → List ℕ
length_bytes n = to_be_bytes w32 n

unfoldable pub encoding : Item → List ℕ
encoding item = byte_of (tag item) ∷ (length_bytes (length (body item)) ++ body item)
