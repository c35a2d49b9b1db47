use Rattle.std.proofs.Common.{◌∙◌, ◌++◌, List, ℕ, ap}
use Rattle.lynx_keep.specs.Stored.{encoding_of}
use Rattle.lynx_keep.proofs.Stored.{stored-more}
use Rattle.lynx_keep.proofs.memory_keeper.add_encoding.Goals as goal

pub returns-clause-ok : goal.returns-clause-ok
returns-clause-ok c =
    (stored-more c.args.encodings.now.items c.append_entry.new.out.items c.args.entry.now c.requires.stored c.append_entry.ensures.item
    (c.append_entry.ensures.encoding ∙ ap (λ (bytes : List ℕ). bytes ++ encoding_of c.args.entry.now) c.in_ok-reserve.ensures.items)).1

pub returns-clause-stored : goal.returns-clause-stored
returns-clause-stored c =
    (stored-more c.args.encodings.now.items c.append_entry.new.out.items c.args.entry.now c.requires.stored c.append_entry.ensures.item
    (c.append_entry.ensures.encoding ∙ ap (λ (bytes : List ℕ). bytes ++ encoding_of c.args.entry.now) c.in_ok-reserve.ensures.items)).0
