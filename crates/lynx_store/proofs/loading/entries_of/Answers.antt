use Rattle.std.proofs.Common.{◌≡◌, pos, ◌∷◌, [], ◌++◌, length, ap, subst, sym, ◌∙◌, arith, length-append}
use Rattle.std.specs.List.{AllByRecursion}
use Rattle.sqlite_value.specs.declared.value.Value.TheVariants.{Int, Blob}
use Rattle.lynx_keep.specs.Stored.{encoding_of, HasEncoding}
use Rattle.lynx_sql.specs.Rows.{shown_entries}
use Rattle.lynx_store.specs.Stored.{bodies_of}
use Rattle.lynx_store.proofs.Kept.{formed-append}
use Rattle.lynx_store.proofs.RowsRead.{take_next, take_whole, shown_more}
use Rattle.lynx_store.proofs.Told.{as_many, row_at}
use Rattle.lynx_store.proofs.loading.entries_of.Goals as goal

pub loop-row-preserved : goal.loop-row-preserved
loop-row-preserved c =
    let so_far = c.loop-row.invariant in
    let entry = c.in-Some.entry in
    let told = rw c.in-Some.is at c.in_ok-entry.ensures.some in
    let next = take_next c.args.rows.now c.loop-row.row-index c.row-item.result c.loop-row-test.true c.row-item.is in
    let at : c.loop-row.place ≡ length c.loop-row.entries.items = so_far.place ∙ sym so_far.counted in
    let more = shown_more c.loop-row.entries.items entry c.row-item.result c.loop-row.place at told.0 in
    let pushed = c.in_ok-push.ensures.items in
    record {
      place = omega (arith, so_far.place);
      counted = omega (arith, ap length pushed, so_far.counted, length-append c.loop-row.entries.items (entry ∷ []));
      shown = next ∙ ap (λ rows. rows ++ c.row-item.result ∷ []) so_far.shown ∙ more
          ∙ ap (λ es. shown_entries 0 (bodies_of es)) (sym pushed);
      formed = subst (AllByRecursion HasEncoding) (sym pushed) (formed-append c.loop-row.entries.items entry so_far.formed told.1);
    }

pub returns-in_default-clause-none : goal.returns-in_default-clause-none
returns-in_default-clause-none c = λ entries few formed shown.
    let row = row_at c.args.rows.now entries c.loop-row.row-index c.row-item.result shown formed c.loop-row-test.true c.row-item.is in
    let none = rw c.in_default.is at c.in_ok-entry.ensures.none in
    none row.entry row.formed (row.is ∙ ap (λ n. Int (pos n) ∷ Blob (encoding_of row.entry) ∷ []) (sym c.loop-row.invariant.place))

pub returns-then-place-clause-none : goal.returns-then-place-clause-none
returns-then-place-clause-none c = λ entries few formed shown.
    let many = ap length shown ∙ as_many 0 entries in
    omega (arith, many, few, c.loop-row.invariant.place, c.loop-row-test.true)

pub returns-clause-some : goal.returns-clause-some
returns-clause-some c =
    let past = c.loop-row-test.false in
    (sym (take_whole c.args.rows.now c.loop-row.row-index (omega arith)) ∙ c.loop-row.invariant.shown, c.loop-row.invariant.formed)

pub returns-clause-few : goal.returns-clause-few
returns-clause-few c = omega (arith, c.loop-row.invariant.place, c.loop-row.invariant.counted)
