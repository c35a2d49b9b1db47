use Rattle.std.proofs.Common.{◌∙◌, ap, arith, length, refl, sym}
use Rattle.std.proofs.lemmas.List.{length-set, take_more_set}
use Rattle.lynx_names.specs.ServerList.{is_marked}
use Rattle.lynx_names.proofs.Ranges.{one_in, one_out}
use Rattle.lynx_names.proofs.server_list.ServerList.marked.Goals as goal
use Rattle.lynx_names.proofs.server_list.ServerList.marked.Goals.{then-marks-from, else-marks-from}

pub loop-number-preserved : goal.loop-number-preserved
loop-number-preserved c =
    let so_far = c.loop-number.invariant in
    let p = is_marked c.args.marks.now in
    let at = c.from.ensures in
    elim c.if-marks-from.branch [
      | then-marks-from w ↦
          let pushed = take_more_set c.loop-number.servers c.loop-number.len w.at.result (omega (arith, so_far.1, so_far.2, c.loop-number-test.true)) in (
            one_in p _ _ _ _ so_far.0 w.at.ensures (ap p (w.at.ensures ∙ sym at) ∙ w.if-marks-from.true)
                (rw (w.len-is, w.servers-is) pushed),
            ap length w.servers-is ∙ length-set c.loop-number.servers c.loop-number.len w.at.result ∙ so_far.1,
            omega (arith, so_far.2, w.len-is),
          )
      | else-marks-from w ↦ (
        one_out p _ _ _ _ so_far.0 at w.if-marks-from.false (rw (w.len-is, w.servers-is) refl),
        ap length w.servers-is ∙ so_far.1,
        omega (arith, so_far.2, w.len-is),
      )
    ]
