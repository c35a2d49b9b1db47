use Rattle.std.proofs.Common.{◌≡◌, ◌∙◌, ◌^◌, ◌||◌, Bool, List, ap, sym, subst}
use Rattle.std.specs.List.{list_any}
use Rattle.lynx_shards.specs.declared.shard.Shard.{Shard}
use Rattle.lynx_shards.specs.Ranges.{EachCovers}
use Rattle.lynx_set.specs.Lookups.{ranges_of}
use Rattle.lynx_reasons.specs.Begins.{is_left}
use Rattle.lynx_reasons.specs.inner.Lefts.{least_argument}
use Rattle.lynx_reasons.proofs.Below.{some_below-from}
use Rattle.lynx_reasons.proofs.Numbers.{is_tried, some_left-tried}
use Rattle.lynx_reasons.proofs.never.left.is_some_left.Goals as goal

pub returns-then-is_left : goal.returns-then-is_left
returns-then-is_left c =
    let left = is_left c.args.set.now c.args.program c.args.at c.args.parameter in
    c.if-is_left.true ∙ sym (some_below-from (2 ^ 64) left c.least_argument-least.result c.least_argument-least.type_inv (sym c.is_left.ensures ∙ c.if-is_left.true))

pub returns-else-is_left : goal.returns-else-is_left
returns-else-is_left c =
    let set = c.args.set.now in
    let parameter = c.args.parameter in
    let least = c.least_argument-least.result in
    let left = is_left set c.args.program c.args.at parameter in
    let at_shards : c.tables-tables.result.now ≡ set.shards = c.tables-tables.ensures.value ∙ c.shards.ensures in
    let covers : EachCovers set.shards = subst EachCovers c.shards.ensures c.tables-tables.ensures.covers in
    let is : least ≡ least_argument (ranges_of set c.args.program) parameter = c.least_argument-least.ensures ∙ ap (λ ranges. least_argument ranges parameter) c.ranges-2.ensures in
    let tried : c.is_some_low_left.result ≡ is_tried set c.args.program c.args.at parameter least =
    c.is_some_low_left.ensures
    ∙ ap (λ (tables : List (List Shard)). list_any (list_any (λ (shard : Shard). left shard.low)) tables) at_shards
    ∙ ap (λ (b : Bool). b || list_any (list_any (λ (shard : Shard). left shard.low)) set.shards) (sym c.if-is_left.false ∙ c.is_left.ensures) in
    tried ∙ some_left-tried set c.args.program c.args.at parameter least covers c.least_argument-least.type_inv is
