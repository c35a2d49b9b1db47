use Rattle.std.proofs.Common.{◌∙◌, ap, sym, arith}
use Rattle.sqlite.specs.Held.{state}
use Rattle.lynx_give.specs.Given.{IsFound}
use Rattle.lynx_extend.specs.Places.{first_lost}
use Rattle.lynx_give.proofs.Listed.{each_length, found_more, lost_within}
use Rattle.lynx_give.proofs.looking.look_at_all.Goals as goal

pub loop-number-preserved : goal.loop-number-preserved
loop-number-preserved g c =
    let is = c.loop-number.invariant in
    let more = found_more (IsFound (λ conn. state g.D.Store conn) (g.S.Databases.opened_at c.args.folder.now) c.args.set.now) c.loop-number.number c.at.result c.loop-number.found.items c.add.new.found.items c.loop-number.places.items c.add.new.places.items c.in_ok-one.one.database c.in_ok-one.one.place
    c.at.ensures c.in_ok-one.ensures c.in_ok-add.ensures.found c.in_ok-add.ensures.places is.many is.each in
    record {
      many = more.0;
      each = more.1;
      count = is.count;
      within = omega (arith, c.loop-number-test.true);
    }

pub returns-in_default : goal.returns-in_default
returns-in_default g c =
    let is = c.loop-number.invariant in
    let test = c.loop-number-test.false in
    let within = is.within in
    let count = is.count in
    let many = is.many in (
      c.loop-number.places.items,
      record { many = omega (arith, test, within, count, many); each = is.each },
      ap first_lost (sym c.as_slice.ensures.value) ∙ sym c.first_lost.ensures ∙ c.in_default.is,
    )

pub unreachable-requires : goal.unreachable-requires
unreachable-requires g c =
    let is = c.loop-number.invariant in
    let within = is.within in
    let many = is.many in
    let long = each_length (IsFound (λ conn. state g.D.Store conn) (g.S.Databases.opened_at c.args.folder.now) c.args.set.now) 0 _ _ is.each in
    let inside = lost_within c.loop-number.places.items c.in-Some.place (ap first_lost (sym c.as_slice.ensures.value) ∙ sym c.first_lost.ensures ∙ c.in-Some.is) in
    let bad = c.in_default-among.ensures.valid.1 (omega (arith, inside, long, many, within)) in
    cc
