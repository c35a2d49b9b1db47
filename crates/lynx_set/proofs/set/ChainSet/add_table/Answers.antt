use Rattle.std.proofs.Common.{◌≡◌, ◌∙◌, ap, None}
use Rattle.lynx_set.specs.Set.{Set}
use Rattle.lynx_set.specs.Names.{place_of}
use Rattle.lynx_set.proofs.Same.{insert_key-new}
use Rattle.lynx_set.proofs.Sets.{one_more_table}
use Rattle.lynx_set.proofs.set.ChainSet.add_table.Goals as goal

pub returns : goal.returns
returns c =
    let tables = c.self.inside.tables.keys in
    let new : place_of tables c.args.name ≡ None = ap (λ (s : Set). place_of s.tables c.args.name) c.self.view_is ∙ c.requires.new in
    one_more_table c.args.self.now c.self.inside.version c.self.inside.servers tables c.self.inside.shards c.self.inside.programs.entries c.insert.new.self.keys c.add_table.new.self c.args.name c.args.shards
    c.self.view_is (c.in_ok-insert.ensures.keys ∙ insert_key-new tables c.args.name new) c.in_ok-add_table.ensures.ok
