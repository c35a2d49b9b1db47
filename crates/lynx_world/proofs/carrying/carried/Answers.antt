use Rattle.std.proofs.Common.{◌∙◌}
use Rattle.lynx_codec.specs.declared.item.Item.TheVariants as items
use Rattle.lynx_world.proofs.ReadAgain.{given_item, never_none, only_memory, same_message}
use Rattle.lynx_world.proofs.carrying.carried.Goals as goal

pub message_of-requires : goal.message_of-requires
message_of-requires c =
    let read = c.in-Ok-Some.ensures (items.Message c.args.message) c.in_ok-encoding.ensures.item (c.as_slice.ensures.value ∙ c.in_ok-encoding.ensures.encoding) in
    (c.args.message, given_item c.in-Ok-Some.field-0 c.in-Ok-Some.item (items.Message c.args.message) c.in-Ok-Some.field-0-is read)

pub unreachable-requires : goal.unreachable-requires
unreachable-requires c =
    let read = c.in-Ok-None.ensures (items.Message c.args.message) c.in_ok-encoding.ensures.item (c.as_slice.ensures.value ∙ c.in_ok-encoding.ensures.encoding) in
    never_none c.in-Ok-None.field-0 (items.Message c.args.message) c.in-Ok-None.field-0-is read

pub want_of_memory-requires : goal.want_of_memory-requires
want_of_memory-requires c =
    only_memory c.in-Err.fault (items.Message c.args.message)
    (c.in-Err.ensures (items.Message c.args.message) c.in_ok-encoding.ensures.item (c.as_slice.ensures.value ∙ c.in_ok-encoding.ensures.encoding))

pub returns-in-Ok-Some : goal.returns-in-Ok-Some
returns-in-Ok-Some c =
    let read = c.in-Ok-Some.ensures (items.Message c.args.message) c.in_ok-encoding.ensures.item (c.as_slice.ensures.value ∙ c.in_ok-encoding.ensures.encoding) in
    same_message c.in-Ok-Some.item c.message_of.result c.args.message c.message_of.ensures
    (given_item c.in-Ok-Some.field-0 c.in-Ok-Some.item (items.Message c.args.message) c.in-Ok-Some.field-0-is read)
