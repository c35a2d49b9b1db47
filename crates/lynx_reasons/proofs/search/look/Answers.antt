use Rattle.std.proofs.Common.{◌∙◌, ◌∷◌, [], false, leb, length, length-append, refl, sym, ap, subst, arith}
use Rattle.std.specs.Prelude.{All}
use Rattle.std.proofs.lemmas.Bool.{false≢true, leb-false, or_parts}
use Rattle.std.proofs.lemmas.List.{append-nil}
use Rattle.std.proofs.lemmas.List.Elements.{All-push}
use Rattle.lynx_reasons.specs.Culprits.{IsCulprit}
use Rattle.lynx_reasons.proofs.Looks.{aimed_tested, goes_done, goes_looked}
use Rattle.lynx_reasons.proofs.search.look.Goals as goal

pub returns-then-is_done-clause-goes : goal.returns-then-is_done-clause-goes
returns-then-is_done-clause-goes c = goes_done c.args.set.now c.args.aim.now.is_late c.args.culprit.now c.args.search.now (sym c.is_done.ensures ∙ c.if-is_done.true)

pub returns-in_ok-push-clause-keeps : goal.returns-in_ok-push-clause-keeps
returns-in_ok-push-clause-keeps c =
    let set = c.args.set.now in
    let found = c.args.search.now.found in
    let culprit = c.args.culprit.now in
    let room = leb-false 3 (length found) (or_parts (leb 3 (length found)) c.args.search.now.is_bound (sym c.is_done.ensures ∙ c.if-is_done.false)).0 in
    let is : IsCulprit set c.args.aim.now.count culprit = record {
      counted = c.requires.of.counted;
      programs = c.requires.of.programs;
      accepted = c.in_ok-is_culprit.ensures.0 c.if-branch.true;
    } in
    let longer = ap length c.in_ok-push.ensures.ok in
    let both = length-append found (culprit ∷ []) in
    record {
      each = subst (All (IsCulprit set c.args.aim.now.count)) (sym c.in_ok-push.ensures.ok) (All-push (IsCulprit set c.args.aim.now.count) found culprit c.requires.keeps.each is);
      few = omega (arith, longer, both, room);
    }

pub returns-in_ok-push-clause-goes : goal.returns-in_ok-push-clause-goes
returns-in_ok-push-clause-goes c =
    let set = c.args.set.now in
    let search = c.args.search.now in
    let culprit = c.args.culprit.now in
    let going = or_parts (leb 3 (length search.found)) search.is_bound (sym c.is_done.ensures ∙ c.if-is_done.false) in
    goes_looked set c.args.aim.now.is_late culprit _ search _
    (aimed_tested set c.args.aim.now.is_late c.are_late.result culprit (c.are_late.ensures set c.requires.sift) c.if-are_late-aim.false)
    (leb-false 3 (length search.found) going.0) c.if-search.false going.1 (record {
      right = (λ _. c.in_ok-is_culprit.ensures.0 c.if-branch.true, λ _. refl);
      found = c.in_ok-push.ensures.ok;
      looks = refl;
      most = refl;
      bound = refl;
    })

pub returns-else-branch-clause-goes : goal.returns-else-branch-clause-goes
returns-else-branch-clause-goes c =
    let set = c.args.set.now in
    let search = c.args.search.now in
    let culprit = c.args.culprit.now in
    let going = or_parts (leb 3 (length search.found)) search.is_bound (sym c.is_done.ensures ∙ c.if-is_done.false) in
    goes_looked set c.args.aim.now.is_late culprit false search _
    (aimed_tested set c.args.aim.now.is_late c.are_late.result culprit (c.are_late.ensures set c.requires.sift) c.if-are_late-aim.false)
    (leb-false 3 (length search.found) going.0) c.if-search.false going.1 (record {
      right = (λ is. absurd (false≢true is), λ accepted. sym c.if-branch.false ∙ c.in_ok-is_culprit.ensures.1 accepted);
      found = sym (append-nil search.found);
      looks = refl;
      most = refl;
      bound = refl;
    })
