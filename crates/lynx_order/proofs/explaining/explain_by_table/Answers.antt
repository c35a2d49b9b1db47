use Rattle.std.proofs.Common.{map, ap, ◌∙◌}
use Rattle.lynx_order.specs.Touchings.{table_of, touchings_of}
use Rattle.lynx_order.proofs.Judged.{IsSearched, square, picked_within, round_within, order_given, cycle_given}
use Rattle.lynx_order.proofs.explaining.explain_by_table.Goals as goal
use Rattle.lynx_order.proofs.explaining.explain_by_table.Goals.{After-as_slice-table}

-- the chains are those that began, and the table is theirs
searched : (c : After-as_slice-table) → IsSearched c.args.set.now c.args.world.now.list c.as_slice-chains.result.now c.as_slice-table.result.now
searched c =
    let chains = c.as_slice-chains.ensures ∙ c.from_vec-begun.ensures ∙ c.in_ok-begun_chains.ensures in
    record {
      chains_are = chains;
      table_is = c.as_slice-table.ensures ∙ c.in_ok-rows.ensures
          ∙ ap table_of (c.as_slice.ensures ∙ c.in_ok-all.ensures ∙ ap (map (touchings_of c.args.set.now c.args.world.now.list)) chains);
    }

pub pick_all-requires : goal.pick_all-requires
pick_all-requires c = square c.args.set.now c.args.world.now.list c.as_slice-chains.result.now c.as_slice-table.result.now (searched c)

pub chains_at-requires : goal.chains_at-requires
chains_at-requires c =
    picked_within c.args.set.now c.args.world.now.list c.as_slice-chains.result.now c.as_slice-table.result.now c.in_ok-picked.picked.order c.as_slice-in-None.result.now c.in_ok-picked.picked.left
    (searched (goal.at.chains_at-requires c).After-as_slice-table) c.in_ok-picked.ensures.picked c.as_slice-in-None.ensures

pub returns-in-None-clause-order : goal.returns-in-None-clause-order
returns-in-None-clause-order c =
    order_given c.args.set.now c.args.world.now.list c.as_slice-chains.result.now c.in_ok-found-in-None.found c.as_slice-table.result.now c.in_ok-picked.picked.order
    c.as_slice-in-None.result.now c.in_ok-picked.picked.left c.as_slice-left.result.now c.requires
    (searched (goal.at.returns-in-None-clause-order c).After-as_slice-table) c.in_ok-picked.ensures.picked c.as_slice-in-None.ensures c.as_slice-left.ensures c.in-None.ensures
    c.in_ok-found-in-None.ensures

pub cycle_from-requires-clause-square : goal.cycle_from-requires-clause-square
cycle_from-requires-clause-square c =
    square c.args.set.now c.args.world.now.list c.as_slice-chains.result.now c.as_slice-table.result.now (searched (goal.at.cycle_from-requires-clause-square c).After-as_slice-table)

pub chains_at-requires-in-Some : goal.chains_at-requires-in-Some
chains_at-requires-in-Some c =
    round_within c.args.set.now c.args.world.now.list c.as_slice-chains.result.now c.as_slice-table.result.now c.in_ok-round-in-Some.round c.as_slice-in-Some.result.now
    (searched (goal.at.chains_at-requires-in-Some c).After-as_slice-table) c.in_ok-round-in-Some.ensures c.as_slice-in-Some.ensures

pub returns-clause-cycle : goal.returns-clause-cycle
returns-clause-cycle c =
    cycle_given c.args.set.now c.args.world.now.list c.as_slice-chains.result.now c.in_ok-found-in-Some.found c.as_slice-table.result.now c.in_ok-round-in-Some.round
    c.as_slice-in-Some.result.now c.requires (searched (goal.at.returns-clause-cycle c).After-as_slice-table) c.in_ok-round-in-Some.ensures c.as_slice-in-Some.ensures
    c.in_ok-found-in-Some.ensures
