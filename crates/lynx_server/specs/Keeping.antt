-- What is kept of a server.
use Rattle.lynx_set.specs.Set.{Set}
use Rattle.lynx_entry.specs.Entry.{History}
use Rattle.lynx_keep.specs.Kept.{KeptState}
use Rattle.lynx_rules.specs.Tables.{tables_of}

-- a history, and the tables that it leaves
abbrev pub kept_of : Set → History → KeptState
kept_of set history = record { entries = history; cells = tables_of set history }
