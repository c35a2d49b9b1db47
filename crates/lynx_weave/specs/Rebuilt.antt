-- What vectors hold of histories and of what sessions were told.
use Rattle.std.specs.Prelude.{List, map}
use Rattle.std.specs.Global.{Vec}
use Rattle.lynx_entry.specs.declared.entry.Entry.{Entry}
use Rattle.lynx_entry.specs.Entry.{History}
use Rattle.lynx_weave.specs.declared.told.ToldItem.{ToldItem}

-- the lists that vectors hold
abbrev pub histories_in : List (Vec Entry) → List History
histories_in histories = map (λ (entries : Vec Entry). entries.items) histories

abbrev pub told_in : List (Vec ToldItem) → List (List ToldItem)
told_in told = map (λ (items : Vec ToldItem). items.items) told
