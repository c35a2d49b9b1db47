use Rattle.std.proofs.Common.{◌≡◌, ◌∙◌, ap, map, None}
use Rattle.lynx_set.specs.Set.{Set}
use Rattle.lynx_set.specs.Names.{place_of}
use Rattle.lynx_set.proofs.Same.{insert_entry-new, none_same}
use Rattle.lynx_set.proofs.Sets.{one_more_program, plain_more}
use Rattle.lynx_set.proofs.set.ChainSet.add_program.Goals as goal

pub returns-clause-ok : goal.returns-clause-ok
returns-clause-ok c =
    let programs = c.self.inside.programs.entries in
    let names = map (λ entry. entry.0) programs in
    let new : place_of names c.args.name ≡ None = ap (λ (s : Set). place_of (map (λ named. named.0) s.programs) c.args.name) c.self.view_is ∙ c.requires.new in
    one_more_program c.args.self.now c.self.inside.version c.self.inside.servers c.self.inside.tables.keys c.self.inside.shards programs c.insert.new.self.entries (c.args.name, c.args.program)
    c.self.view_is (c.in_ok-insert.ensures.entries ∙ insert_entry-new programs c.args.name c.args.program (none_same names c.args.name new))

pub returns-clause-plain : goal.returns-clause-plain
returns-clause-plain c =
    let programs = c.self.inside.programs.entries in
    let names = map (λ entry. entry.0) programs in
    let new : place_of names c.args.name ≡ None = ap (λ (s : Set). place_of (map (λ named. named.0) s.programs) c.args.name) c.self.view_is ∙ c.requires.new in
    plain_more c.args.self.now _ c.args.name c.args.program
    (one_more_program c.args.self.now c.self.inside.version c.self.inside.servers c.self.inside.tables.keys c.self.inside.shards programs c.insert.new.self.entries (c.args.name, c.args.program)
    c.self.view_is (c.in_ok-insert.ensures.entries ∙ insert_entry-new programs c.args.name c.args.program (none_same names c.args.name new)))
