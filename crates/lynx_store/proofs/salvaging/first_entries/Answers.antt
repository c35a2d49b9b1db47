use Rattle.std.proofs.Common.{◌≡◌, ◌∷◌, [], ◌++◌, length, ap, subst, sym, ◌∙◌, arith, length-append}
use Rattle.std.proofs.lemmas.Option.{slice_get_within}
use Rattle.std.specs.List.{AllByRecursion}
use Rattle.lynx_keep.specs.Stored.{HasEncoding}
use Rattle.lynx_sql.specs.Rows.{shown_entries}
use Rattle.lynx_store.specs.Stored.{bodies_of}
use Rattle.lynx_store.proofs.Kept.{formed-append}
use Rattle.lynx_store.proofs.RowsRead.{take_next, shown_more, shown_so_far}
use Rattle.lynx_store.proofs.Told.{no_entry_at}
use Rattle.lynx_store.proofs.salvaging.first_entries.Goals as goal

pub loop-row-preserved : goal.loop-row-preserved
loop-row-preserved c =
    let so_far = c.loop-row.invariant in
    let entry = c.in-Some.entry in
    let told = rw c.in-Some.is at c.in_ok-entry.ensures.some in
    let next = take_next c.args.rows.now c.loop-row.row-index c.row-item.result c.loop-row-test.true c.row-item.is in
    let at : c.loop-row.place ≡ length c.loop-row.entries.items = so_far.place ∙ sym so_far.counted in
    let more = shown_more c.loop-row.entries.items entry c.row-item.result c.loop-row.place at told.0 in
    let pushed = c.in_ok-push.ensures.items in
    record {
      place = omega (arith, so_far.place);
      counted = omega (arith, ap length pushed, so_far.counted, length-append c.loop-row.entries.items (entry ∷ []));
      shown = next ∙ ap (λ rows. rows ++ c.row-item.result ∷ []) so_far.shown ∙ more
          ∙ ap (λ es. shown_entries 0 (bodies_of es)) (sym pushed);
      formed = subst (AllByRecursion HasEncoding) (sym pushed) (formed-append c.loop-row.entries.items entry so_far.formed told.1);
    }

pub returns-in_default : goal.returns-in_default
returns-in_default c =
    let so_far = c.loop-row.invariant in
    let none = rw c.in_default.is at c.in_ok-entry.ensures.none in
    record {
      shown = shown_so_far c.args.rows.now c.loop-row.entries.items c.loop-row.row-index so_far.counted so_far.shown;
      formed = so_far.formed;
      few = omega (arith, so_far.place, so_far.counted);
      longest = λ on. absurd (no_entry_at c.args.rows.now c.loop-row.row-index c.loop-row.place (length c.loop-row.entries.items) c.row-item.result
          so_far.place so_far.counted c.loop-row-test.true c.row-item.is none on);
    }

pub returns-then-place : goal.returns-then-place
returns-then-place c =
    let so_far = c.loop-row.invariant in
    record {
      shown = shown_so_far c.args.rows.now c.loop-row.entries.items c.loop-row.row-index so_far.counted so_far.shown;
      formed = so_far.formed;
      few = omega (arith, so_far.place, so_far.counted);
      longest = λ on. omega (arith, so_far.place, so_far.counted, c.if-place.true);
    }

pub returns : goal.returns
returns c =
    let so_far = c.loop-row.invariant in
    record {
      shown = shown_so_far c.args.rows.now c.loop-row.entries.items c.loop-row.row-index so_far.counted so_far.shown;
      formed = so_far.formed;
      few = omega (arith, so_far.place, so_far.counted);
      longest = λ on. let within = slice_get_within c.args.rows.now (length c.loop-row.entries.items) _ on.there in
          absurd (omega (arith, within, so_far.counted, c.loop-row-test.false));
    }
