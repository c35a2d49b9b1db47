-- Begins that the desk of a client asks together, by those of its session.
use Rattle.std.proofs.Common.{◌≡◌, ◌∙◌, ◌++◌, ◌∷◌, [], refl, List, ap, sym, subst, map, append-nil}
use Rattle.std.specs.Prelude.{All}
use Rattle.std.proofs.lemmas.List.Elements.{All-nil, All-cons}
use Rattle.lynx_cluster.specs.Calls.{AnswersBegin, AnswersBeginAll}
use Rattle.lynx_cluster.specs.Sessions.{SessionState}
use Rattle.lynx_codec.specs.Ranges.{IsAnswerInRange}
use Rattle.lynx_entry.specs.declared.answer.Answer.{Answer}
use Rattle.lynx_entry.specs.declared.request.Request.{Request}
use Rattle.lynx_port.specs.Desks.{BeginsAll}
use Rattle.lynx_weave.specs.declared.told.ToldItem.{ToldItem}
use Rattle.lynx_service.specs.Desks.{stopped}
use Rattle.lynx_set.specs.Set.{Set}

-- the desk with that session
module _ {D : Type 0} (set : Set) (set_in : D → Set) (session_in : D → SessionState) (put : SessionState → D)
    (same_set : (s : SessionState) → set_in (put s) ≡ set) (same_session : (s : SessionState) → session_in (put s) ≡ s) where
  pub desk_begins : (old last : SessionState) (requests : List Request) (given : List Answer) → AnswersBeginAll set old requests given last
      → BeginsAll (λ (d : D) (r : Request) (a : Answer) (n : D). AnswersBegin (set_in d) (session_in d) r a (session_in n)) (put old) requests given (put last)
  desk_begins old last [] [] a = ap put a
  desk_begins old last [] (g ∷ given) a = absurd a
  desk_begins old last (r ∷ requests) [] a = absurd a
  desk_begins old last (r ∷ requests) (g ∷ given) a = (
    put a.0,
    subst (λ (s : Set). AnswersBegin s (session_in (put old)) r g (session_in (put a.0))) (sym (same_set old))
        (subst (λ (s : SessionState). AnswersBegin set s r g (session_in (put a.0))) (sym (same_session old))
        (subst (λ (s : SessionState). AnswersBegin set old r g s) (sym (same_session a.0)) a.1)),
    desk_begins a.0 last requests given a.2,
  )

pub all_in_range : (set : Set) (old last : SessionState) (requests : List Request) (given : List Answer) → AnswersBeginAll set old requests given last → All IsAnswerInRange given
all_in_range set old last [] [] a = All-nil IsAnswerInRange
all_in_range set old last [] (g ∷ given) a = absurd a
all_in_range set old last (r ∷ requests) [] a = absurd a
all_in_range set old last (r ∷ requests) (g ∷ given) a = All-cons IsAnswerInRange g given a.1.range (all_in_range set a.0 last requests given a.2)

-- all requests were answered, once none is left
pub all_stopped : (given : List Answer) (asked rest : List Request) → rest ≡ [] → given ++ map stopped rest ≡ map stopped asked → given ≡ map stopped asked
all_stopped given asked rest ended so_far = sym (append-nil given) ∙ ap (λ (end : List Request). given ++ map stopped end) (sym ended) ∙ so_far

-- a request that is answered so tells the session nothing
pub stops : (set : Set) (session : SessionState) (request : Request) → AnswersBegin set session request (stopped request) session
stops set session request = record {
  told = ap (λ (told : List ToldItem). record session { told = told }) (sym (append-nil session.told));
  above = tt;
  fits = tt;
  range = tt;
}

-- and so do all
pub stops_all : (set : Set) (session : SessionState) (requests : List Request) → AnswersBeginAll set session requests (map stopped requests) session
stops_all set session [] = refl
stops_all set session (r ∷ requests) = (session, stops set session r, stops_all set session requests)
