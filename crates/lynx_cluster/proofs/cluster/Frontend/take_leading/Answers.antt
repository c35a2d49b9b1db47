use Rattle.std.proofs.Common.{◌≡◌, ◌∙◌, ◌++◌, ◌∷◌, [], List, ap, append_assoc, arith, length, length-append, refl, subst, sym}
use Rattle.lynx_entry.specs.declared.request.Request.{Request}
use Rattle.lynx_cluster.specs.inner.Submitting.{BeginAt}
use Rattle.lynx_cluster.proofs.Submissions.{begin_next}
use Rattle.lynx_cluster.proofs.cluster.Frontend.take_leading.Goals as goal

pub loop-next-preserved : goal.loop-next-preserved
loop-next-preserved g c =
    let was = c.loop-next.invariant in
    let before = c.loop-next.leading.items in
    let next = c.in-Some.ensures.some in
    let pushed : c.push_reserved-in-Some.new.self.items ≡ before ++ c.in-Some.next ∷ [] =
    c.push_reserved-in-Some.ensures.items ∙ ap (λ (rs : List Request). rs ++ c.in-Some.next ∷ []) c.next_of.ensures.same in
    record {
      split = was.split ∙ ap (λ (rs : List Request). before ++ rs) next.0 ∙ sym (append_assoc before (c.in-Some.next ∷ []) c.next_of.new.rest.items)
          ∙ ap (λ (rs : List Request). rs ++ c.next_of.new.rest.items) (sym pushed);
      home = subst (BeginAt c.args.self.now.set c.args.server) (sym pushed) (begin_next c.args.self.now.set c.args.server before c.in-Some.next was.home next.1);
      some = omega (arith, was.some, ap length pushed, length-append before (c.in-Some.next ∷ []));
    }
