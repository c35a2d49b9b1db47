use Rattle.std.proofs.Common.{◌∙◌, length, sym}
use Rattle.std.proofs.lemmas.Bool.{eqb-true}
use Rattle.std.proofs.lemmas.List.{nil_from_length}
use Rattle.lynx_reasons.specs.Culprits.{ones, threes, twos}
use Rattle.lynx_reasons.proofs.Looks.{ends_by_ones, ends_by_threes, ends_by_twos, goes_both}
use Rattle.lynx_reasons.proofs.search.look_at_all.Goals as goal

pub returns-clause-all : goal.returns-clause-all
returns-clause-all c =
    let set = c.args.set.now in
    let search = c.args.search.now in
    let first = c.look_at_ones-2.new.search in
    let second = c.look_at_twos-2.new.search in
    let third = c.look_at_threes-2.new.search in
    ends_by_threes set search first second third c.requires.new
    (goes_both set (ones set) search c.look_at_ones.new.search first c.in_ok-look_at_ones.ensures.goes c.in_ok-look_at_ones-2.ensures.goes)
    (nil_from_length first.found (eqb-true (length first.found) 0 (sym c.is_empty.ensures ∙ c.if-not-is_empty.false)))
    (goes_both set (twos set) first c.look_at_twos.new.search second c.in_ok-look_at_twos.ensures.goes c.in_ok-look_at_twos-2.ensures.goes)
    (nil_from_length second.found (eqb-true (length second.found) 0 (sym c.is_empty-2.ensures ∙ c.if-not-is_empty-2.false)))
    (goes_both set (threes set) second c.look_at_threes.new.search third c.in_ok-look_at_threes.ensures.goes c.in_ok-look_at_threes-2.ensures.goes)

pub returns-then-not-is_empty-clause-all : goal.returns-then-not-is_empty-clause-all
returns-then-not-is_empty-clause-all c =
    let set = c.args.set.now in
    let search = c.args.search.now in
    let first = c.look_at_ones-2.new.search in
    ends_by_ones set search first c.requires.new
    (goes_both set (ones set) search c.look_at_ones.new.search first c.in_ok-look_at_ones.ensures.goes c.in_ok-look_at_ones-2.ensures.goes)
    (sym c.is_empty.ensures ∙ c.if-not-is_empty.true)

pub returns-then-not-is_empty-2-clause-all : goal.returns-then-not-is_empty-2-clause-all
returns-then-not-is_empty-2-clause-all c =
    let set = c.args.set.now in
    let search = c.args.search.now in
    let first = c.look_at_ones-2.new.search in
    let second = c.look_at_twos-2.new.search in
    ends_by_twos set search first second c.requires.new
    (goes_both set (ones set) search c.look_at_ones.new.search first c.in_ok-look_at_ones.ensures.goes c.in_ok-look_at_ones-2.ensures.goes)
    (nil_from_length first.found (eqb-true (length first.found) 0 (sym c.is_empty.ensures ∙ c.if-not-is_empty.false)))
    (goes_both set (twos set) first c.look_at_twos.new.search second c.in_ok-look_at_twos.ensures.goes c.in_ok-look_at_twos-2.ensures.goes)
    (sym c.is_empty-2.ensures ∙ c.if-not-is_empty-2.true)
