-- The tables that a history leaves, and its clock.
use Rattle.std.specs.Prelude.{ℕ, [], fold, Ok, Err}
use Rattle.lynx_cells.specs.Database.{Database, empty_database}
use Rattle.lynx_set.specs.Set.{Set}
use Rattle.lynx_hops.specs.Meaning.{HopOutcome, meaning}
use Rattle.lynx_entry.specs.declared.entry.Entry.{Entry}
use Rattle.lynx_entry.specs.declared.entry.Entry.TheVariants.{Begun, Refused, Hop}
use Rattle.lynx_entry.specs.Entry.{History, stamp_of}

-- a hop that refuses changes nothing
abbrev pub database_after : HopOutcome → Database → Database
database_after (Ok outcome) db = outcome.1
database_after (Err need) db = db

-- the database after what an entry did
abbrev pub after_entry : Set → Database → Entry → Database
after_entry set db (Begun begun) =
    database_after (meaning set begun.request.program 0 begun.request.args [] db) db
after_entry set db (Refused refused) = db
after_entry set db (Hop ran) =
    database_after
    (meaning set ran.message.program ran.message.hop ran.message.args ran.message.results db) db

-- The tables of a history: its hops one after another, from the empty database.
abbrev pub tables_of : Set → History → Database
tables_of set history = fold (after_entry set) empty_database history

-- the stamp of the last entry, 0 where there is none
abbrev pub clock_of : History → ℕ
clock_of history = fold (λ clock entry. stamp_of entry) 0 history
