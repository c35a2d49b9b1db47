-- What is written of an answer.
use Rattle.std.specs.Prelude.{◌⊎◌, ℕ, List, [], ◌++◌, Option, ⊤, codes, if◌then◌else◌}
use Rattle.std.specs.Fmt.{decimal}
use Rattle.std.specs.Io.KnownBytes.{Appends, Keeps}
use Rattle.lynx_codec.specs.declared.item.Item.{Item}
use Rattle.lynx_codec.specs.declared.item.Item.TheVariants.{Answer, Looked, Bye}
use Rattle.lynx_codec.specs.declared.item.Looked.TheVariants.{Absent, Found}
use Rattle.lynx_codec.specs.declared.item.Looked as looks
use Rattle.lynx_entry.specs.Answers.{is_unserved}
use Rattle.lynx_entry.specs.declared.answer.Answer as answers
use Rattle.lynx_lex.specs.Lines.{with_feed}
use Rattle.lynx_lines.specs.Printed.{answer_text, values_text}
use Rattle.lynx_lines.specs.Written.{AppendsPart}
use Rattle.lynx_ask.specs.declared.session.LineReply.{LineReply}
use Rattle.lynx_ask.specs.declared.session.LineReply.TheVariants as replies

-- what is printed of what a look was answered
abbrev pub looked_text : looks.Looked → List ℕ
looked_text Absent = codes "absent"
looked_text (Found stamp results) =
    codes "found stamp " ++ decimal stamp ++ codes " results " ++ values_text results

-- what is printed of what a begin was answered: as of a run, but that the service's want of memory
-- is told too
abbrev pub begin_text : answers.Answer → List ℕ
begin_text answer = if is_unserved answer then codes "memory" else answer_text answer

-- the line of what a client is sent; none of an item that no client is sent
abbrev pub item_line : Item → List ℕ
item_line (Answer answer) = with_feed (begin_text answer)
item_line (Looked looked) = with_feed (looked_text looked)
item_line Bye = with_feed (codes "bye")
item_line other = []

-- what was written for a line: the line of one answer, and nothing where it is faulty
abbrev pub HasReplied : Option (List ℕ) → Option (List ℕ) → LineReply → Type 0
HasReplied old new (replies.Answered item) = Appends old new (item_line item)
HasReplied old new replies.Bye = Appends old new (item_line Bye)
HasReplied old new (replies.Faulty fault) = Keeps old new

-- the line was asked, and is not a faulty one
abbrev pub IsHeard : LineReply → Type 0
IsHeard (replies.Faulty fault) = ⊥
IsHeard other = ⊤

-- what was written where asking stopped: nothing, or a beginning of the line of one answer
abbrev pub HasStopped : Option (List ℕ) → Option (List ℕ) → Type 0
HasStopped old new = Keeps old new ⊎ ((item : Item) × AppendsPart old new (item_line item))
