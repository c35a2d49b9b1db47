use Rattle.std.proofs.Common.{◌<◌, ◌∙◌, true, not, cond, sym, ap, arith}
use Rattle.std.specs.BTreeSet.{contains}
use Rattle.std.specs.Ordering.{eq_by_cmp}
use Rattle.lynx_cells.specs.Database.{cell_cmp}
use Rattle.lynx_weave.specs.Servers.{histories_of}
use Rattle.lynx_weave.specs.Since.{is_from_before}
use Rattle.lynx_weave.specs.Told.{stamp_told}
use Rattle.lynx_weave.proofs.Marking.{judged_before, judged_new, judged_old}
use Rattle.lynx_weave.proofs.judging.judge_item.Goals as goal

pub returns-then-not-is_fresh : goal.returns-then-not-is_fresh
returns-then-not-is_fresh c =
    judged_old (histories_of c.args.servers.now) c.args.starts.now c.args.greatest c.args.item.now c.in-Some.place c.args.marks.now c.in-Some.ensures
    (sym c.is_fresh.ensures ∙ c.if-not-is_fresh.true)

pub returns : goal.returns
returns c =
    let late : c.args.greatest < stamp_told c.args.item.now =
    omega (arith, c.if-stamp-time.false, c.stamp.ensures, c.time-stamp.ensures.value, c.time.ensures.value) in
    judged_new (histories_of c.args.servers.now) c.args.starts.now c.args.greatest c.args.item.now c.in-Some.place c.args.marks.now c.insert.new.self
    c.in_ok-insert.field-0 c.in-Some.ensures (sym c.is_fresh.ensures ∙ c.if-not-is_fresh.false)
    (ap (λ n. is_from_before c.args.starts.now n c.in-Some.place) (sym c.server-server.ensures) ∙ sym c.is_from_before.ensures ∙ c.if-is_from_before.false) late
    (c.in_ok-insert.ensures.added ∙ ap (λ s. not (contains cell_cmp c.args.marks.now (s, c.in-Some.place))) c.server-server.ensures)
    (λ key. c.in_ok-insert.ensures.updates.0 key
    ∙ ap (λ s. cond (eq_by_cmp cell_cmp (s, c.in-Some.place) key) true (contains cell_cmp c.args.marks.now key)) c.server-server.ensures)

pub returns-then-is_from_before : goal.returns-then-is_from_before
returns-then-is_from_before c =
    judged_before (histories_of c.args.servers.now) c.args.starts.now c.args.greatest c.args.item.now c.in-Some.place c.args.marks.now c.args.marks.now
    c.in-Some.ensures (sym c.is_fresh.ensures ∙ c.if-not-is_fresh.false)
    (ap (λ n. is_from_before c.args.starts.now n c.in-Some.place) (sym c.server-server.ensures) ∙ sym c.is_from_before.ensures ∙ c.if-is_from_before.true)
