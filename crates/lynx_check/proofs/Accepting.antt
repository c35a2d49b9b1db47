-- What an excuse tells of its set.
use Rattle.std.proofs.Common.{◌≡◌, List, Option, Some, None, MatchOption, inl, inr, subst}
use Rattle.lynx_set.specs.Set.{Set}
use Rattle.lynx_graph.specs.declared.visit.Visit.{Visit}
use Rattle.lynx_graph.specs.Acceptance.{IsAccepted}
use Rattle.lynx_check.specs.Reasons.{IsExcuse, IsReason, reason_of}
use Rattle.lynx_graph.specs.Walks.{IsOffending, NoWalkOffends}

pub accepted_from_excuse : (set : Set) (excused : Option (List Visit)) → IsExcuse set excused → IsAccepted set
accepted_from_excuse set None is = inl is
accepted_from_excuse set (Some walk) is = inr is.1

pub reason_from_excuse : (set : Set) (excused : Option (List Visit)) → IsExcuse set excused → IsReason set (reason_of excused)
reason_from_excuse set None is = is
reason_from_excuse set (Some walk) is = (λ none. none walk is.0, is.1)

-- a search that found nothing
pub none_offends : (set : Set) (found : Option (List Visit)) → MatchOption found (NoWalkOffends set) (IsOffending set) → found ≡ None → NoWalkOffends set
none_offends set found judged none = subst (λ (found : Option (List Visit)). MatchOption found (NoWalkOffends set) (IsOffending set)) none judged

-- and one that found a walk
pub some_offends : (set : Set) (found : Option (List Visit)) (walk : List Visit) → MatchOption found (NoWalkOffends set) (IsOffending set) → found ≡ Some walk → IsOffending set walk
some_offends set found walk judged some = subst (λ (found : Option (List Visit)). MatchOption found (NoWalkOffends set) (IsOffending set)) some judged
