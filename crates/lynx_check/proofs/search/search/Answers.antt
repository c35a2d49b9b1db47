use Rattle.std.proofs.Common.{◌≡◌, List, false, sym, ap, subst, ◌∙◌}
use Rattle.std.proofs.lemmas.Bool.{false≢true}
use Rattle.lynx_check.specs.declared.marks.Marks.{Marks}
use Rattle.lynx_check.specs.inner.Marks.{leaves, next_table}
use Rattle.lynx_check.specs.inner.Tracing.{AreLevels}
use Rattle.lynx_check.proofs.Deeper.{AreLevels-from_Deeper, ClosesNone-from_same, Deeper, Deeper-first, Deeper-more, fewer_unset}
use Rattle.lynx_check.proofs.Tables.{table_within-zero}
use Rattle.lynx_check.proofs.search.search.Goals as goal
use Rattle.lynx_check.proofs.search.search.Goals.{After-from_vec-next, After-leaves}

-- what the test of the loop asked
asked : (c : After-leaves) → c.leaves.result ≡ leaves c.deeper.table c.args.start.now false false
asked c = c.leaves.ensures ∙ ap (λ (table : List Marks). leaves table c.args.start.now false false) c.as_slice.ensures

-- the next table
next_is : (c : After-from_vec-next) → c.from_vec-next.result ≡ next_table c.args.nodes.now c.args.start.now c.deeper.table
next_is c = c.from_vec-next.ensures ∙ c.in_ok-next_table.ensures ∙ ap (next_table c.args.nodes.now c.args.start.now) c.as_slice-in-deeper.ensures

pub deeper-init : goal.deeper-init
deeper-init c =
    subst (λ (levels : List (List Marks)). Deeper c.args.nodes.now c.args.start.now levels c.from_vec-table.result) (sym c.new-levels.ensures)
    (Deeper-first c.args.nodes.now c.args.start.now c.from_vec-table.result (c.from_vec-table.ensures ∙ c.in_ok-first_table.ensures ∙ sym (table_within-zero c.args.nodes.now c.args.start.now)))

pub deeper-preserved : goal.deeper-preserved
deeper-preserved c =
    subst (λ (levels : List (List Marks)). Deeper c.args.nodes.now c.args.start.now levels c.from_vec-next.result) (sym c.in_ok-push.ensures.ok)
    (Deeper-more c.args.nodes.now c.args.start.now c.deeper.levels c.deeper.table c.from_vec-next.result c.deeper.invariant
    (sym (asked (goal.at.deeper-preserved c).After-leaves) ∙ c.deeper-test.true) (next_is (goal.at.deeper-preserved c).After-from_vec-next))

pub deeper-smaller : goal.deeper-smaller
deeper-smaller c =
    fewer_unset c.args.nodes.now c.args.start.now c.deeper.levels c.deeper.table c.from_vec-next.result c.deeper.invariant (next_is (goal.at.deeper-smaller c).After-from_vec-next)
    (λ same. false≢true (sym c.if-is_same.false ∙ c.is_same.ensures.1 (c.as_slice-in-deeper-2.ensures ∙ same ∙ sym c.as_slice-in-deeper-3.ensures)))

pub returns-then-is_same : goal.returns-then-is_same
returns-then-is_same c =
    ClosesNone-from_same c.args.nodes.now c.args.start.now c.deeper.levels c.deeper.table c.from_vec-next.result c.deeper.invariant
    (sym (asked (goal.at.returns-then-is_same c).After-leaves) ∙ c.deeper-test.true) (next_is (goal.at.returns-then-is_same c).After-from_vec-next)
    (sym c.as_slice-in-deeper-2.ensures ∙ c.is_same.ensures.0 c.if-is_same.true ∙ c.as_slice-in-deeper-3.ensures)

pub read_walk-requires-clause-levels : goal.read_walk-requires-clause-levels
read_walk-requires-clause-levels c =
    subst (λ (levels : List (List Marks)). AreLevels c.args.nodes.now c.args.start.now levels) (sym (c.as_slice-2.ensures ∙ c.in_ok-push-2.ensures.ok))
    (AreLevels-from_Deeper c.args.nodes.now c.args.start.now c.deeper.levels c.deeper.table c.deeper.invariant (sym (asked (goal.at.read_walk-requires-clause-levels c).After-leaves) ∙ c.deeper-test.false))
