-- What a begin was answered is the definition's.
use Rattle.std.proofs.Common.{◌≡◌, ℕ, sym, ap, ◌∙◌, subst}
use Rattle.lynx_entry.specs.declared.answer.Answer.{Answer}
use Rattle.lynx_entry.specs.declared.request.Request.{Request}
use Rattle.lynx_set.specs.Set.{Set}
use Rattle.lynx_entry.specs.Entry.{History}
use Rattle.lynx_keep.specs.Kept.{Terms}
use Rattle.lynx_rules.specs.Answers.{Begins, answer}
use Rattle.lynx_server.specs.History.{grown}
use Rattle.lynx_server.specs.Keeping.{kept_of}
use Rattle.lynx_server.specs.inner.Keeping.{Fails}
use Rattle.lynx_server.specs.Serving.{Serving, Becomes, IsAnswered}

pub answered : {K : Type 0} (old new : Serving K) (request : Request) (seen : ℕ) (given : Answer) (begins : Begins) →
    answer old.set old.server old.history request seen ≡ begins → given ≡ begins.answer → Becomes old begins.added old.held new →
    IsAnswered old request seen given new
answered old new request seen given begins is given_is becomes = record {
  answer_is = given_is ∙ sym (ap (λ (b : Begins). b.answer) is);
  becomes = subst (λ (b : Begins). Becomes old b.added old.held new) (sym is) becomes;
}

-- what was to be added is known by another name
pub failed-so : {K : Type 0} (terms : Terms K) (old new : K) (set : Set) (history : History) (begins other : Begins) → other ≡ begins →
    Fails terms old new (kept_of set history) (kept_of set (grown history begins.added)) →
    Fails terms old new (kept_of set history) (kept_of set (grown history other.added))
failed-so terms old new set history begins other same fails =
    subst (λ (b : Begins). Fails terms old new (kept_of set history) (kept_of set (grown history b.added))) (sym same) fails
