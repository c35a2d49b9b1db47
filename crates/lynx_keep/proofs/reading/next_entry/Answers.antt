use Rattle.std.proofs.Common.{IfNone, IfSome, subst}
use Rattle.lynx_codec.specs.Feeding.{Gives, Waits}
use Rattle.lynx_keep.proofs.Stored.{entry_first, given_first, only_memory, others_left, stored-none}
use Rattle.lynx_keep.proofs.reading.next_entry.Goals as goal

pub entry_of-requires : goal.entry_of-requires
entry_of-requires c =
    let gives = subst (λ o. IfSome o (λ item. Gives c.args.feed.now item c.next.new.self)) c.in-Ok-Some.field-0-is c.in-Ok-Some.ensures.given in
    let first = given_first c.args.feed.now c.next.new.self c.in-Ok-Some.item c.requires gives in
    (first.entry, first.is)

pub want_of_memory-requires : goal.want_of_memory-requires
want_of_memory-requires c = only_memory c.args.feed.now c.next.new.self c.in-Err.fault c.requires c.in-Err.ensures.fault

pub returns-in-Ok-Some-clause-entry : goal.returns-in-Ok-Some-clause-entry
returns-in-Ok-Some-clause-entry c =
    let gives = subst (λ o. IfSome o (λ item. Gives c.args.feed.now item c.next.new.self)) c.in-Ok-Some.field-0-is c.in-Ok-Some.ensures.given in
    entry_first c.args.feed.now c.next.new.self c.in-Ok-Some.item c.entry_of.result c.requires gives c.entry_of.ensures

pub returns-in-Ok-Some-clause-others : goal.returns-in-Ok-Some-clause-others
returns-in-Ok-Some-clause-others c =
    let gives = subst (λ o. IfSome o (λ item. Gives c.args.feed.now item c.next.new.self)) c.in-Ok-Some.field-0-is c.in-Ok-Some.ensures.given in
    others_left c.args.feed.now c.next.new.self c.in-Ok-Some.item c.requires gives

pub returns-in-Ok-None-clause-end : goal.returns-in-Ok-None-clause-end
returns-in-Ok-None-clause-end c =
    let waits = subst (λ o. IfNone o (Waits c.args.feed.now c.next.new.self)) c.in-Ok-None.field-0-is c.in-Ok-None.ensures.waits in
    stored-none c.args.feed.now.rest c.requires.stored waits.no_item
