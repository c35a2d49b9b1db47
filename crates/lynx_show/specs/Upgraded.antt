-- What is told of an upgrade.
use Rattle.std.specs.Prelude.{◌≡◌, ◌≢◌, ℕ, List, ◌++◌, codes, Option}
use Rattle.std.specs.Fmt.{decimal}
use Rattle.std.specs.Io.KnownBytes.{Appends}
use Rattle.sqlite.specs.State.{State}
use Rattle.lynx_lines.specs.Written.{AppendsPart}
use Rattle.lynx_lex.specs.Lines.{with_feed}
use Rattle.lynx_store.specs.declared.fault.StoreFault.{StoreFault}
use Rattle.lynx_store.specs.declared.fault.StoreFault.TheVariants as store
use Rattle.lynx_store.specs.Upgrades.{IsSecond, Upgrades}
use Rattle.lynx_show.specs.declared.fault.ShowFault.{ShowFault}
use Rattle.lynx_show.specs.declared.fault.ShowFault.TheVariants.{OtherVersion, Store, Write}

-- the line of an upgrade: how many entries the store has
abbrev pub upgraded_line : ℕ → List ℕ
upgraded_line count = codes "upgraded " ++ with_feed (decimal count)

-- a store of version 1 has become one of version 2, with the same entries and cells, and the line
-- of it was written
abbrev pub TellsUpgrade : State → State → Option (List ℕ) → Option (List ℕ) → Type 0
TellsUpgrade before after old new =
    (count : ℕ) × IsSecond after count × Upgrades before after count
    × Appends old new (upgraded_line count)

-- or a beginning of the line
abbrev pub BeginsTelling : State → State → Option (List ℕ) → Option (List ℕ) → Type 0
BeginsTelling before after old new =
    (count : ℕ) × IsSecond after count × Upgrades before after count
    × AppendsPart old new (upgraded_line count)

-- how a fault of a store is shown
abbrev pub ShownAs : StoreFault → ShowFault → Type 0
ShownAs fault shown =
    (shown ≢ Write) × (shown ≡ OtherVersion → fault ≡ store.OtherVersion)
    × (fault ≡ store.Store → shown ≡ Store)
