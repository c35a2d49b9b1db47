use Rattle.std.proofs.Common.{◌≡◌, ◌∙◌, ◌++◌, ◌∷◌, [], ap, arith, length, refl, sym, take}
use Rattle.std.proofs.lemmas.List.{nil_from_length}
use Rattle.lynx_entry.specs.Entry.{History}
use Rattle.lynx_follow.proofs.Comparings.{all_done, all_kept, other_is, same_next}
use Rattle.lynx_follow.proofs.following.Opened.compare.Goals as goal

pub loop-entry-init : goal.loop-entry-init
loop-entry-init g c = record { follower = refl; rest = refl }

pub returns-in_default-clause-same : goal.returns-in_default-clause-same
returns-in_default-clause-same g c =
    let kept = c.args.self.rest.items in
    let rest = c.loop-entry.self.rest in
    let none : rest.items ≡ [] = nil_from_length rest.items (omega (arith, rest.ok, c.in_default.ensures.cases.0)) in
    let left : c.pop_front.new.self.items ≡ [] = sym c.in_default.ensures.items ∙ none in
    all_kept kept c.args.did.now c.loop-entry.entry-index (omega (arith, c.loop-entry.auto.entry-index-end))
    (c.loop-entry.invariant.rest ∙ ap (λ l. take c.loop-entry.entry-index c.args.did.now ++ l) none)
    ∙ ap (λ l. take (length kept) c.args.did.now ++ l) (sym left)

pub returns-in_default-clause-follower : goal.returns-in_default-clause-follower
returns-in_default-clause-follower g c = c.loop-entry.invariant.follower

pub returns-then-not-is_same-clause-other : goal.returns-then-not-is_same-clause-other
returns-then-not-is_same-clause-other g c rest other =
    let did = c.args.did.now in
    let index = c.loop-entry.entry-index in
    other_is c.args.self.rest.items did c.pop_front.new.self.items rest index c.in-Some.kept c.entry-item.result
    (omega (arith, c.loop-entry-test.true)) c.entry-item.is
    (c.loop-entry.invariant.rest ∙ ap (λ l. take index did ++ l) c.in-Some.ensures.items) differs other
  where
    differs : c.in-Some.kept ≡ c.entry-item.result → ⊥
    differs same = let clash = sym c.if-not-is_same.true ∙ c.is_same.ensures.1 same in cc

pub loop-entry-preserved : goal.loop-entry-preserved
loop-entry-preserved g c = record {
  follower = c.loop-entry.invariant.follower;
  rest = same_next c.args.self.rest.items c.args.did.now c.loop-entry.self.rest.items c.pop_front.new.self.items c.loop-entry.entry-index
      c.entry-item.result (omega (arith, c.loop-entry-test.true)) c.entry-item.is c.loop-entry.invariant.rest
      (c.in-Some.ensures.items ∙ ap (λ x. x ∷ c.pop_front.new.self.items) (c.if-not-is_same.ensures.0 refl));
}

pub returns-clause-same : goal.returns-clause-same
returns-clause-same g c =
    all_done c.args.self.rest.items c.args.did.now c.loop-entry.self.rest.items c.loop-entry.entry-index
    (omega (arith, c.loop-entry-test.false)) c.loop-entry.invariant.rest

pub returns-clause-follower : goal.returns-clause-follower
returns-clause-follower g c = c.loop-entry.invariant.follower
