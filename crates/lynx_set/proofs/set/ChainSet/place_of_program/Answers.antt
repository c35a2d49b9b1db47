use Rattle.std.proofs.Common.{◌∙◌, ap, map}
use Rattle.lynx_set.specs.Set.{Set}
use Rattle.lynx_set.specs.Names.{place_of}
use Rattle.lynx_set.proofs.Same.{place-same_turned}
use Rattle.lynx_set.proofs.set.ChainSet.place_of_program.Goals as goal

pub returns : goal.returns
returns c =
    c.get_index_of.ensures.index ∙ place-same_turned (map (λ entry. entry.0) c.self.inside.programs.entries) c.args.name.now
    ∙ ap (λ (set : Set). place_of (map (λ entry. entry.0) set.programs) c.args.name.now) c.self.view_is
