use Rattle.std.proofs.Common.{◌∙◌, ap}
use Rattle.lynx_set.specs.Set.{Set}
use Rattle.lynx_set.specs.Names.{place_of}
use Rattle.lynx_set.proofs.Same.{place-same_turned}
use Rattle.lynx_set.proofs.set.ChainSet.place_of_table.Goals as goal

pub returns : goal.returns
returns c =
    c.get_index_of.ensures.index ∙ place-same_turned c.self.inside.tables.keys c.args.name.now
    ∙ ap (λ (set : Set). place_of set.tables c.args.name.now) c.self.view_is
