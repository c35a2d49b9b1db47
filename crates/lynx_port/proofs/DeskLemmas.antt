-- Requests that a desk answers one after the other.
use Rattle.std.proofs.Common.{◌≡◌, List, [], ◌∷◌, ◌++◌, length, map, suc, append_assoc, refl, sym, ap, ◌∙◌, subst}
use Rattle.lynx_entry.specs.declared.request.Request.{Request}
use Rattle.lynx_entry.specs.declared.answer.Answer.{Answer}
use Rattle.lynx_codec.specs.declared.item.Item.TheVariants as items
use Rattle.lynx_port.specs.Desks.{Begins, BeginsAll, Looks, Replies}
use Rattle.lynx_port.specs.Talks.{Talks}
use Rattle.lynx_port.specs.inner.Steps.{as_frames}

-- one request more
pub begins_push : {D : Type 0} (begins : Begins D) (first middle last : D) (requests : List Request) (answers : List Answer) (request : Request) (answer : Answer)
    → BeginsAll begins first requests answers middle → begins middle request answer last
    → BeginsAll begins first (requests ++ request ∷ []) (answers ++ answer ∷ []) last
begins_push begins first middle last [] [] request answer a b = (last, subst (λ desk. begins desk request answer last) a b, refl)
begins_push begins first middle last [] (x ∷ answers) request answer a b = absurd a
begins_push begins first middle last (x ∷ requests) [] request answer a b = absurd a
begins_push begins first middle last (x ∷ requests) (y ∷ answers) request answer a b =
    (a.0, a.1, begins_push begins a.0 middle last requests answers request answer a.2 b)

-- of these requests the rest was not asked yet
pub record Asks {D : Type 0} (begins : Begins D) (first last : D) (requests rest : List Request) (answers : List Answer) : Type 0 where
  pub done : List Request
  pub split : requests ≡ done ++ rest
  pub begun : BeginsAll begins first done answers last

pub asks_none : {D : Type 0} (begins : Begins D) (desk : D) (requests : List Request) → Asks begins desk desk requests requests []
asks_none begins desk requests = record { done = []; split = refl; begun = refl }

pub asks_more : {D : Type 0} (begins : Begins D) (first middle last : D) (requests rest more : List Request) (answers : List Answer) (request : Request) (answer : Answer)
    → Asks begins first middle requests rest answers → rest ≡ request ∷ more → begins middle request answer last
    → Asks begins first last requests more (answers ++ answer ∷ [])
asks_more begins first middle last requests rest more answers request answer a next begun = record {
  done = a.done ++ request ∷ [];
  split = a.split ∙ ap (λ end. a.done ++ end) next ∙ sym (append_assoc a.done (request ∷ []) more);
  begun = begins_push begins first middle last a.done answers request answer a.begun begun;
}

append_nil_same : (xs : List Request) → xs ++ [] ≡ xs
append_nil_same [] = refl
append_nil_same (x ∷ xs) = ap (λ ys. x ∷ ys) (append_nil_same xs)

pub asks_all : {D : Type 0} (begins : Begins D) (first last : D) (requests rest : List Request) (answers : List Answer)
    → Asks begins first last requests rest answers → rest ≡ [] → BeginsAll begins first requests answers last
asks_all begins first last requests rest answers a none =
    let all : requests ≡ a.done = a.split ∙ ap (λ end. a.done ++ end) none ∙ append_nil_same a.done in
    subst (λ requests. BeginsAll begins first requests answers last) (sym all) a.begun

-- one answer for each request
pub answers_length : {D : Type 0} (begins : Begins D) (first last : D) (requests : List Request) (answers : List Answer)
    → BeginsAll begins first requests answers last → length answers ≡ length requests
answers_length begins first last [] [] a = refl
answers_length begins first last [] (answer ∷ answers) a = absurd a
answers_length begins first last (request ∷ requests) [] a = absurd a
answers_length begins first last (request ∷ requests) (answer ∷ answers) a =
    ap suc (answers_length begins a.0 last requests answers a.2)

-- as a talk
pub begins_talk : {D : Type 0} (begins : Begins D) (looks : Looks D) (first last : D) (requests : List Request) (answers : List Answer)
    → BeginsAll begins first requests answers last → Talks (Replies begins looks) first (as_frames requests) (map items.Answer answers) last
begins_talk begins looks first last [] [] a = a
begins_talk begins looks first last [] (answer ∷ answers) a = absurd a
begins_talk begins looks first last (request ∷ requests) [] a = absurd a
begins_talk begins looks first last (request ∷ requests) (answer ∷ answers) a =
    (a.0, a.1, begins_talk begins looks a.0 last requests answers a.2)
