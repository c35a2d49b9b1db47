-- The best walk over the starts so far.
use Rattle.std.proofs.Common.{◌≡◌, ℕ, ◌+◌, ◌<◌, List, take, length, get_or, Option, Some, None, MatchOption, subst}
use Rattle.std.specs.Prelude.{All, IsSome}
use Rattle.std.proofs.lemmas.Bool.{false≢true}
use Rattle.std.proofs.lemmas.List.Elements.{All-more}
use Rattle.lynx_graph.specs.declared.nodes.Node.{Node}
use Rattle.lynx_check.specs.declared.search.Outcome.{Outcome}
use Rattle.lynx_check.specs.declared.search.Outcome.TheVariants.{Found, Nothing, Longer}
use Rattle.lynx_graph.specs.declared.visit.Visit.{Visit}
use Rattle.lynx_check.specs.inner.Tracing.{IsSound}
use Rattle.lynx_check.specs.inner.Searches.{Answers, ClosesNone, better}

-- the best walk offends, and where there is none no start so far closes one
abbrev pub IsBest : List Node → ℕ → Option (List Visit) → Type 0
IsBest nodes starts best = MatchOption best (All (ClosesNone nodes) (take starts nodes)) (IsSound nodes)

-- one start more
pub IsBest-more : (nodes : List Node) (starts : ℕ) (start : Node) (best : Option (List Visit)) (limit : Option ℕ) (outcome : Outcome) → starts < length nodes → start ≡ get_or nodes starts start →
    IsBest nodes starts best → (IsSome limit → IsSome best) → Answers nodes start limit outcome → IsBest nodes (starts + 1) (better best outcome)
IsBest-more nodes starts start best limit (Found walk) within is so_far limited answer = answer
IsBest-more nodes starts start (Some walk) limit Nothing within is so_far limited answer = so_far
IsBest-more nodes starts start None limit Nothing within is so_far limited answer =
    All-more (ClosesNone nodes) nodes starts start within so_far (subst (ClosesNone nodes) is answer)
IsBest-more nodes starts start (Some walk) limit Longer within is so_far limited answer = so_far
IsBest-more nodes starts start None limit Longer within is so_far limited answer = absurd (false≢true (limited answer))
