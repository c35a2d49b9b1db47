use Rattle.std.proofs.Common.{◌++◌, map, drop, arith}
use Rattle.lynx_chart.specs.Values.{filled, value_text}
use Rattle.lynx_chart.proofs.Filled.{byte_next, gap_next, none_left}
use Rattle.lynx_chart.proofs.values.put_filled.Goals.{then-byte-eq37+in_ok-put_value_at, else-byte-eq37+in_ok-push}
use Rattle.lynx_chart.proofs.values.put_filled.Goals as goal

pub loop-byte-preserved : goal.loop-byte-preserved
loop-byte-preserved c =
    let template = c.args.template.now in
    let texts = map value_text c.args.values.now in
    let at = c.loop-byte.byte-index in
    let place = c.loop-byte.place in
    let before = c.loop-byte.out.items in
    let whole = c.args.out.now.items ++ filled template texts in
    let so_far = c.loop-byte.invariant in
    elim c.if-byte-eq37.branch [
      | then-byte-eq37+in_ok-put_value_at w ↦ record {
        within = omega (arith, w.place-is, so_far.within);
        whole = rw w.out-is (rw w.place-is (gap_next template texts at place 0 before w.put_value_at.new.out.items whole (omega (arith, c.loop-byte-test.true)) w.if-byte-eq37.true w.in_ok-put_value_at.ensures so_far.whole));
      }
      | else-byte-eq37+in_ok-push w ↦ record {
        within = omega (arith, w.place-is, so_far.within);
        whole = rw w.out-is (rw w.place-is (byte_next template (drop place texts) at 0 before w.push.new.self.items whole (omega (arith, c.loop-byte-test.true)) w.if-byte-eq37.false w.in_ok-push.ensures.items so_far.whole));
      }
    ]

pub returns : goal.returns
returns c =
    none_left c.args.template.now (drop c.loop-byte.place (map value_text c.args.values.now)) c.loop-byte.byte-index c.loop-byte.out.items _ (omega (arith, c.loop-byte-test.false)) c.loop-byte.invariant.whole
