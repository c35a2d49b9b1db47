-- Sets without their tables, which have no part in a verdict.
use Rattle.std.specs.Prelude.{[]}
use Rattle.lynx_set.specs.Set.{Set}

abbrev pub untabled : Set → Set
untabled set = record set { tables = []; shards = [] }
