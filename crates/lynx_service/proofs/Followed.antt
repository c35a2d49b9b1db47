-- A store that follows, as it is opened and closed.
use Rattle.std.proofs.Common.{◌≡◌, ◌∙◌, ◌++◌, [], List, Option, None, Some, ap, drop, length, subst, sym, take}
use Rattle.std.specs.Prelude.{IfSome}
use Rattle.std.proofs.lemmas.List.{append-nil, take-append-drop}
use Rattle.lynx_entry.specs.Entry.{History}
use Rattle.lynx_follow.specs.declared.following.Follower.{Follower}
use Rattle.lynx_follow.specs.declared.following.Opened.{Opened}
use Rattle.lynx_follow.specs.Following.{Follows, IsOpened}
use Rattle.lynx_follow.specs.Fronts.{IsFront}
use Rattle.lynx_keep.specs.Kept.{Terms}
use Rattle.lynx_set.specs.Set.{Set}

-- what was compared to its end is a front
pub front_of : (kept left did history : History) → did ≡ history → left ≡ [] → kept ≡ take (length kept) did ++ left → IsFront kept history
front_of kept left did history same none is =
    let whole : kept ≡ take (length kept) did = is ∙ ap (λ l. take (length kept) did ++ l) none ∙ append-nil (take (length kept) did) in
    record {
      rest = drop (length kept) did;
      is = sym same ∙ sym (take-append-drop (length kept) did) ∙ ap (λ l. l ++ drop (length kept) did) (sym whole);
    }

-- a store that was compared to its end follows a front
pub follows_front : {K : Type 0} (terms : Terms K) (set : Set) (did history : History) (keeper : K) (opened same : Opened K) (follower : Follower K) → IsOpened terms set keeper opened → did ≡ history →
    opened.rest.items ≡ take (length opened.rest.items) did ++ same.rest.items → same.follower ≡ opened.follower → follower ≡ same.follower → same.rest.items ≡ [] →
    (front : History) × Follows terms set front follower × IsFront front history
follows_front {K} terms set did history keeper opened same follower is all compared kept taken none =
    (opened.rest.items, subst (λ (f : Follower K). Follows terms set opened.rest.items f) (sym (taken ∙ kept)) is.follows, front_of opened.rest.items same.rest.items did history all none compared)

-- what holds of the keeper that is to be closed holds of that of the store that followed
pub of_followed : {F K : Type 0} (keeper_of : F → K) (follower : Option F) (found : Option K) (P : K → Type 0) → IfSome follower (λ it. found ≡ Some (keeper_of it)) → IfSome found P →
    IfSome follower (λ it. P (keeper_of it))
of_followed keeper_of None found P is closed = tt
of_followed keeper_of (Some it) found P is closed = subst (λ o. IfSome o P) is closed
