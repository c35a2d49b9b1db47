-- Begins of a session, some after others.
use Rattle.std.proofs.Common.{◌≡◌, ◌++◌, ◌∷◌, [], List, append_assoc, refl, sym, ap, subst, ◌∙◌}
use Rattle.std.proofs.lemmas.List.{append-nil}
use Rattle.lynx_entry.specs.declared.answer.Answer.{Answer}
use Rattle.lynx_entry.specs.declared.request.Request.{Request}
use Rattle.lynx_set.specs.Set.{Set}
use Rattle.lynx_cluster.specs.Calls.{AnswersBegin, AnswersBeginAll}
use Rattle.lynx_cluster.specs.inner.Together.{BeginsLeading}
use Rattle.lynx_cluster.specs.Sessions.{SessionState}

-- one request is answered by itself
pub one_told : (set : Set) (old new : SessionState) (first : Request) (rest : List Request) (before : List Answer) (answer : Answer)
    → AnswersBegin set old first answer new → BeginsLeading set old (first ∷ rest) rest before (before ++ answer ∷ []) new
one_told set old new first rest before answer begins = record {
  leading = first ∷ [];
  answers = answer ∷ [];
  split = refl;
  given_is = refl;
  begins = (new, begins, refl);
}

-- one that is alone
pub one_pushed : (set : Set) (old new : SessionState) (first : Request) (rest : List Request) (before later : List Answer) (answer : Answer)
    → AnswersBegin set old first answer new → later ≡ before ++ answer ∷ [] → BeginsLeading set old (first ∷ rest) rest before later new
one_pushed set old new first rest before later answer begins pushed =
    subst (λ (gs : List Answer). BeginsLeading set old (first ∷ rest) rest before gs new) (sym pushed) (one_told set old new first rest before answer begins)

-- runs behind runs
begins_append : (set : Set) (old middle last : SessionState) (requests more : List Request) (given later : List Answer)
    → AnswersBeginAll set old requests given middle → AnswersBeginAll set middle more later last
    → AnswersBeginAll set old (requests ++ more) (given ++ later) last
begins_append set old middle last [] more [] later a b = subst (λ (s : SessionState). AnswersBeginAll set s more later last) a b
begins_append set old middle last [] more (g ∷ given) later a b = absurd a
begins_append set old middle last (r ∷ requests) more [] later a b = absurd a
begins_append set old middle last (r ∷ requests) more (g ∷ given) later a b =
    (a.0, a.1, begins_append set a.0 middle last requests more given later a.2 b)

pub leads_more : (set : Set) (old middle last : SessionState) (requests rest next more : List Request) (before given later : List Answer)
    → BeginsLeading set old requests rest before given middle → rest ≡ next → BeginsLeading set middle next more given later last
    → BeginsLeading set old requests more before later last
leads_more set old middle last requests rest next more before given later a same b = record {
  leading = a.leading ++ b.leading;
  answers = a.answers ++ b.answers;
  split = a.split ∙ ap (λ (end : List Request). a.leading ++ end) (same ∙ b.split) ∙ sym (append_assoc a.leading b.leading more);
  given_is = b.given_is ∙ ap (λ (start : List Answer). start ++ b.answers) a.given_is ∙ append_assoc before a.answers b.answers;
  begins = begins_append set old middle last a.leading b.leading a.answers b.answers a.begins b.begins;
}

pub leads_next : (set : Set) (old middle last : SessionState) (requests rest more : List Request) (before given later : List Answer) (request : Request) (answer : Answer)
    → BeginsLeading set old requests rest before given middle → rest ≡ request ∷ more → AnswersBegin set middle request answer last → later ≡ given ++ answer ∷ []
    → BeginsLeading set old requests more before later last
leads_next set old middle last requests rest more before given later request answer a same begins pushed =
    leads_more set old middle last requests rest (request ∷ more) more before given later a same (one_pushed set middle last request more given later answer begins pushed)

pub leads_all : (set : Set) (old new : SessionState) (requests rest : List Request) (given : List Answer)
    → BeginsLeading set old requests rest [] given new → rest ≡ [] → AnswersBeginAll set old requests given new
leads_all set old new requests rest given a none =
    let all : requests ≡ a.leading = a.split ∙ ap (λ (end : List Request). a.leading ++ end) none ∙ append-nil a.leading in
    subst (λ (rs : List Request). AnswersBeginAll set old rs given new) (sym all)
    (subst (λ (gs : List Answer). AnswersBeginAll set old a.leading gs new) (sym a.given_is) a.begins)

pub leads_start : (set : Set) (old : SessionState) (requests rest : List Request) (given : List Answer)
    → rest ≡ requests → given ≡ [] → BeginsLeading set old requests rest [] given old
leads_start set old requests rest given same none = record { leading = []; answers = []; split = sym same; given_is = none; begins = refl }
