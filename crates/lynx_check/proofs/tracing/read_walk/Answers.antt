use Rattle.std.proofs.Common.{◌≡◌, ◌<◌, ◌-◌, ◌+◌, List, length, Some, false, sym, ap, subst, ◌∙◌, arith}
use Rattle.std.specs.Prelude.{is_some, slice_get}
use Rattle.std.proofs.lemmas.Option.{slice_get-get_or}
use Rattle.lynx_check.specs.declared.marks.Marks.{Marks}
use Rattle.lynx_graph.specs.declared.visit.Visit.{Visit}
use Rattle.lynx_check.specs.inner.Marks.{leaves, mark_at, table_within}
use Rattle.lynx_check.specs.inner.Tracing.{IsSound}
use Rattle.lynx_check.proofs.Complete.{is_some-arrival_after}
use Rattle.lynx_check.proofs.Levels.{Reads, Reads-all, Reads-first, Reads-some, Reads-step, Reads-within, insert-first, level_at}
use Rattle.lynx_check.proofs.tracing.read_walk.Goals as goal
use Rattle.lynx_check.proofs.tracing.read_walk.Goals.{After-as_slice, After-as_slice-table}

-- the last table
last_is : (c : After-as_slice) → c.as_slice.result.now ≡ table_within c.args.nodes.now c.args.start.now (length c.args.levels.now - 1)
last_is c =
    let some : 0 < length c.args.levels.now = c.requires.levels.some in
    c.as_slice.ensures ∙ c.index-levels-level.is ∙ level_at c.args.nodes.now c.args.start.now c.args.levels.now (length c.args.levels.now - 1) c.index-levels-level.result c.requires.levels (omega arith)

-- the table of the level below
below_is : (c : After-as_slice-table) → c.as_slice-table.result.now ≡ table_within c.args.nodes.now c.args.start.now (c.loop-level.level - 1)
below_is c =
    let within : c.loop-level.level < length c.args.levels.now = c.loop-level.invariant.0 in
    c.as_slice-table.ensures ∙ c.index-levels-level-in-loop-level.is
    ∙ level_at c.args.nodes.now c.args.start.now c.args.levels.now (c.loop-level.level - 1) c.index-levels-level-in-loop-level.result c.requires.levels (omega arith)

pub unwrap-arrival-requires : goal.unwrap-arrival-requires
unwrap-arrival-requires c =
    ap is_some c.arrival_after.ensures ∙ is_some-arrival_after c.as_slice.result.now c.args.start.now false false
    ∙ ap (λ (table : List Marks). leaves table c.args.start.now false false) (last_is (goal.at.unwrap-arrival-requires c).After-as_slice) ∙ c.requires.levels.closes

pub loop-level-init : goal.loop-level-init
loop-level-init c =
    let some : 0 < length c.args.levels.now = c.requires.levels.some in
    let first = Reads-first c.args.nodes.now c.args.start.now c.as_slice.result.now (length c.args.levels.now - 1) c.unwrap-arrival.result c.requires.start
    (last_is (goal.at.loop-level-init c).After-as_slice) (sym c.arrival_after.ensures ∙ c.unwrap-arrival.ensures) in
    (omega arith, Reads-within _ _ _ _ _ first, subst (λ (visits : List Visit). Reads c.args.nodes.now c.args.start.now visits (length c.args.levels.now - 1) c.unwrap-arrival.result) (sym c.new-visits.ensures.items) first)

pub loop-level-preserved-then-mark_at : goal.loop-level-preserved-then-mark_at
loop-level-preserved-then-mark_at c =
    let within : c.loop-level.level < length c.args.levels.now = c.loop-level.invariant.0 in (
      omega arith,
      c.loop-level.invariant.1,
      record {
        leads = c.loop-level.invariant.2.leads;
        marked = ap (λ (table : List Marks). mark_at table c.loop-level.arrival.node c.loop-level.arrival.crossed c.loop-level.arrival.abroad) (sym (below_is (goal.at.loop-level-preserved-then-mark_at c).After-as_slice-table))
            ∙ sym c.mark_at.ensures ∙ c.if-mark_at.true;
      },
    )

pub unwrap-step-requires : goal.unwrap-step-requires
unwrap-step-requires c =
    let more : c.loop-level.level ≡ (c.loop-level.level - 1) + 1 = omega arith in
    ap is_some c.next_step.ensures
    ∙ Reads-some c.args.nodes.now c.args.start.now c.loop-level.visits.items c.as_slice-table.result.now (c.loop-level.level - 1) c.loop-level.level c.loop-level.arrival c.loop-level.invariant.2 more
    (below_is (goal.at.unwrap-step-requires c).After-as_slice-table) (sym c.mark_at.ensures ∙ c.if-mark_at.false)

pub loop-level-preserved : goal.loop-level-preserved
loop-level-preserved c =
    let within : c.loop-level.level < length c.args.levels.now = c.loop-level.invariant.0 in
    let next = Reads-step c.args.nodes.now c.args.start.now c.loop-level.visits.items c.as_slice-table.result.now (c.loop-level.level - 1) c.loop-level.level c.loop-level.arrival c.unwrap-step.result
    c.loop-level.invariant.2 c.requires.start (below_is (goal.at.loop-level-preserved c).After-as_slice-table) (sym c.next_step.ensures ∙ c.unwrap-step.ensures) in (
      omega arith,
      Reads-within _ _ _ _ _ next,
      subst (λ (visits : List Visit). Reads c.args.nodes.now c.args.start.now visits (c.loop-level.level - 1) c.unwrap-step.result.next) (sym c.in_ok-push.ensures.items) next,
    )

pub returns : goal.returns
returns c =
    let lowest : c.loop-level.level ≡ 0 = omega arith in
    let there : slice_get c.args.nodes.now c.loop-level.arrival.node ≡ Some c.index-nodes-arrival.result =
    slice_get-get_or c.args.nodes.now c.loop-level.arrival.node c.index-nodes-arrival.result c.loop-level.invariant.1 ∙ ap Some (sym c.index-nodes-arrival.is) in
    subst (λ (walk : List Visit). IsSound c.args.nodes.now walk) (sym (c.from_vec.ensures ∙ c.in_ok-insert.ensures.items ∙ insert-first c.loop-level.visits.items _))
    (Reads-all c.args.nodes.now c.args.start.now c.loop-level.visits.items c.loop-level.level c.loop-level.arrival c.index-nodes-arrival.result c.loop-level.invariant.2 c.requires.start lowest there)
