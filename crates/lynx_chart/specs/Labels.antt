-- What is told of an entry.
use Rattle.std.specs.Prelude.{ℕ, List, [], ◌∷◌, ◌++◌, codes, decimal, Option, Some, None, option_and_then}
use Rattle.lynx_names.specs.Chain.{chain_text}
use Rattle.lynx_names.specs.declared.chain.ChainId.{ChainId}
use Rattle.lynx_set.specs.Set.{Set}
use Rattle.lynx_set.specs.Lookups.{program_name}
use Rattle.lynx_entry.specs.Entry.{stamp_of}
use Rattle.lynx_entry.specs.declared.entry.Entry.{Entry}
use Rattle.lynx_entry.specs.declared.entry.Entry.TheVariants.{Begun, Refused, Hop}
use Rattle.lynx_order.specs.declared.explained.Explained.{Explained}
use Rattle.lynx_lines.specs.Printed.{spaced, values_text}
use Rattle.lynx_chart.specs.Rows.{spot_of}
use Rattle.lynx_world.specs.Placed.{Placed}
use Rattle.lynx_chart.specs.Places.{place_line, place_of, word_of}
use Rattle.lynx_chart.specs.Shapes.{Shape, Boxed}
use Rattle.lynx_chart.specs.declared.labels.Label.{Label}

-- the chain of which a hop ran, if one did
abbrev pub chain_in : Entry → Option ChainId
chain_in (Begun begun) = Some begun.chain
chain_in (Refused refused) = None
chain_in (Hop ran) = Some ran.message.chain

-- a hop of a chain
abbrev pub hop_text : ChainId → ℕ → List ℕ
hop_text chain hop = chain_text chain ++ codes " hop " ++ decimal hop

-- that it is owed
abbrev pub owes_text : ChainId → ℕ → List ℕ
owes_text chain hop = chain_text chain ++ codes " owes hop " ++ decimal hop

-- what the server did
abbrev pub deed_text : Entry → List ℕ
deed_text (Begun begun) = chain_text begun.chain ++ codes " begins"
deed_text (Refused refused) = codes "refused by need " ++ decimal refused.need
deed_text (Hop ran) = hop_text ran.message.chain ran.message.hop

-- a program with its arguments
abbrev pub asked_text : Set → ℕ → List ℕ → List ℕ
asked_text set program args = program_name set program ++ spaced args

abbrev pub program_text : Set → Entry → List ℕ
program_text set (Begun begun) = asked_text set begun.request.program begun.request.args
program_text set (Refused refused) = asked_text set refused.request.program refused.request.args
program_text set (Hop ran) = asked_text set ran.message.program ran.message.args

-- when it did
abbrev pub stamp_text : Entry → List ℕ
stamp_text entry = codes "stamp " ++ decimal (stamp_of entry)

-- the line of the results, if a hop ran and has any
abbrev pub results_text : List ℕ → List ℕ
results_text results = codes "results " ++ values_text results

abbrev pub results_told : List ℕ → List ℕ
results_told [] = []
results_told (first ∷ results) = results_text (first ∷ results)

abbrev pub results_line : Entry → List ℕ
results_line (Begun begun) = results_told begun.results
results_line (Refused refused) = []
results_line (Hop ran) = results_told ran.results

-- the place of an entry's chain, if it has one
abbrev pub entry_place : Explained → Entry → Option ℕ
entry_place explained entry = option_and_then (place_of explained) (chain_in entry)

-- what it did, of which program, the place of its chain, and its results: a line each
abbrev pub entry_lines : Set → Explained → Entry → List (List ℕ)
entry_lines set explained entry =
    deed_text entry ∷ program_text set entry
    ∷ place_line (word_of explained) (entry_place explained entry) ∷ results_line entry ∷ []

-- the lines of a label
abbrev pub lines_of : Label → List (List ℕ)
lines_of label =
    label.deed.items ∷ label.program.items ∷ label.place.items ∷ label.results.items ∷ []

-- the kind of an entry's box
abbrev pub kind_of : Entry → List ℕ
kind_of (Begun begun) = codes "box"
kind_of (Refused refused) = codes "box refusal"
kind_of (Hop ran) = codes "box"

-- the box of an entry
abbrev pub box_of : Set → Explained → List ℕ → Placed → Shape
box_of set explained stamps placed =
    Boxed (kind_of placed.entry) (spot_of stamps placed) (stamp_text placed.entry)
    (entry_lines set explained placed.entry)
