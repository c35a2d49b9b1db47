-- The message that an entry sends, which is a function of the set and the entry alone.
use Rattle.std.specs.Prelude.{ℕ, ◌+◌, if◌then◌else◌, nat_lt, List, [], ◌∷◌, ◌++◌, length, Option, Some, None}
use Rattle.lynx_names.specs.declared.chain.ChainId.{ChainId}
use Rattle.lynx_set.specs.Set.{Set}
use Rattle.lynx_entry.specs.declared.entry.Entry.{Entry}
use Rattle.lynx_entry.specs.declared.entry.Entry.TheVariants.{Begun, Refused, Hop}
use Rattle.lynx_entry.specs.declared.message.Message.{Message}
use Rattle.lynx_names.specs.declared.numbers.NumberAt.{NumberAt}
use Rattle.lynx_set.specs.Lookups.{hops_of}

-- what the hop after this one is sent, where there is one
abbrev pub message_after : Set → ChainId → ℕ → ℕ → ℕ → List ℕ → List NumberAt → List (List ℕ)
    → Option Message
message_after set chain program hop stamp args numbers results =
    if nat_lt (hop + 1) (length (hops_of set program))
    then Some (record {
      chain = chain;
      program = program;
      hop = hop + 1;
      stamp = stamp;
      args = args;
      numbers = numbers;
      results = results;
    })
    else None

-- The next message of an entry: the results so far with the new ones behind them. A last hop has
-- none.
abbrev pub next_message : Set → Entry → Option Message
next_message set (Begun begun) =
    message_after set begun.chain begun.request.program 0 begun.stamp begun.request.args
    begun.numbers (begun.results ∷ [])
next_message set (Refused refused) = None
next_message set (Hop ran) =
    message_after set ran.message.chain ran.message.program ran.message.hop ran.stamp
    ran.message.args ran.message.numbers
    (ran.message.results ++ ran.results ∷ [])
