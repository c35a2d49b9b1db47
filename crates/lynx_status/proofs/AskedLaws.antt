-- What a request asks for, by the steps in which it is told.
use Rattle.std.proofs.Common.{◌≡◌, List, ℕ, Bool, true, Option, Some, None, cond, refl, sym, ap, ◌∙◌}
use Rattle.std.specs.Prelude.{Err, IfSome, Ok, Result, bytes_eq, codes}
use Rattle.lynx_lex.proofs.Equal.{none_some, some_is}
use Rattle.lynx_status.specs.Asking.{Fits, IsAsked, path_of, refused_by}
use Rattle.lynx_status.specs.Hosts.{is_local}
use Rattle.lynx_status.specs.declared.asking.Asked.{Asked}
use Rattle.lynx_status.specs.declared.asking.Refusal.{Refusal}
use Rattle.lynx_status.specs.declared.asking.Refusal.TheVariants.{OtherHost, OtherMethod, NotFound}

-- a request of this machine is refused by its method alone
pub by_method : (method : List ℕ) (host : Option (List ℕ)) (one : List ℕ) (is_get : Bool) → host ≡ Some one → is_local one ≡ true → bytes_eq method (codes "GET") ≡ is_get →
    refused_by method host ≡ cond is_get None (Some OtherMethod)
by_method method host one is_get is local get =
    ap (refused_by method) is
    ∙ ap (λ (b : Bool). cond b (cond (bytes_eq method (codes "GET")) None (Some OtherMethod)) (Some OtherHost)) local
    ∙ ap (λ (b : Bool). cond b None (Some OtherMethod)) get

refused_so : (o : Option Refusal) (why : Refusal) (asked : Result Asked Refusal) → o ≡ Some why → asked ≡ Err why → IfSome o (λ other. asked ≡ Err other)
refused_so None why asked is so = absurd (none_some is)
refused_so (Some other) why asked is so = so ∙ sym (ap Err (some_is other why is))

not_refused : (o : Option Refusal) (asked : Result Asked Refusal) → o ≡ None → IfSome o (λ other. asked ≡ Err other)
not_refused None asked is = tt
not_refused (Some other) asked is = absurd (none_some (sym is))

-- a refusal that comes before its path is looked at
pub asked_refused : (method : List ℕ) (host : Option (List ℕ)) (path : List ℕ) (why : Refusal) → refused_by method host ≡ Some why → IsAsked method host path (Err why)
asked_refused method host path why is = record {
  refused = refused_so (refused_by method host) why (Err why) is refl;
  only = tt;
  found = λ one none fits same. absurd (none_some (sym none ∙ is));
  not_found = λ none no. absurd (none_some (sym none ∙ is));
}

-- what a path is of
pub asked_found : (method : List ℕ) (host : Option (List ℕ)) (path : List ℕ) (one : Asked) → refused_by method host ≡ None → Fits one → path ≡ path_of one →
    ((other : Asked) → Fits other → path ≡ path_of other → ◌≡◌ {A = Option Asked} (Some one) (Some other)) → IsAsked method host path (Ok one)
asked_found method host path one none fits is only = record {
  refused = not_refused (refused_by method host) (Ok one) none;
  only = (none, is);
  found = λ other no there same. ap Ok (some_is one other (only other there same));
  not_found = λ no nothing. absurd (nothing one fits is);
}

-- a path of nothing
pub asked_none : (method : List ℕ) (host : Option (List ℕ)) (path : List ℕ) → refused_by method host ≡ None →
    ((other : Asked) → Fits other → path ≡ path_of other → ◌≡◌ {A = Option Asked} None (Some other)) → IsAsked method host path (Err NotFound)
asked_none method host path none only = record {
  refused = not_refused (refused_by method host) (Err NotFound) none;
  only = tt;
  found = λ other no there same. absurd (none_some (only other there same));
  not_found = λ no nothing. refl;
}
