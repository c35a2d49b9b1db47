-- The lines of entries with who asked for them, and for what.
use Rattle.std.specs.Prelude.{ℕ, List, ◌++◌, codes}
use Rattle.std.specs.Fmt.{decimal}
use Rattle.lynx_entry.specs.declared.entry.Entry.{Entry}
use Rattle.lynx_entry.specs.declared.entry.Entry.TheVariants.{Begun, Refused, Hop}
use Rattle.lynx_entry.specs.declared.request.Request.{Request}
use Rattle.lynx_lines.specs.Printed.{entry_text, values_text}
use Rattle.lynx_set.specs.Lookups.{program_name}
use Rattle.lynx_set.specs.Set.{Set}

-- a client, and the number of its request
abbrev pub client_text : ℕ → ℕ → List ℕ
client_text client number = codes " client " ++ decimal client ++ codes " number " ++ decimal number

-- the name of a program, and its arguments
abbrev pub asked_text : List ℕ → List ℕ → List ℕ
asked_text program args = codes " program " ++ program ++ codes " args " ++ values_text args

-- who asked, and for what
abbrev pub request_text : Set → Request → List ℕ
request_text set request =
    client_text request.client request.number
    ++ asked_text (program_name set request.program) request.args

-- what stands behind the line of an entry: a later hop tells of no client
abbrev pub details_text : Set → Entry → List ℕ
details_text set (Begun begun) = request_text set begun.request
details_text set (Refused refused) = request_text set refused.request
details_text set (Hop ran) =
    asked_text (program_name set ran.message.program) ran.message.args

-- an entry, with its details
abbrev pub full_entry_text : Set → Entry → List ℕ
full_entry_text set entry = entry_text entry ++ details_text set entry
