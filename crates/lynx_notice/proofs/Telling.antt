-- What a text tells of a service, by its lines.
use Rattle.std.proofs.Common.{◌≡◌, ◌++◌, ◌∙◌, sym, ap, refl, List, ◌∷◌, ℕ, Option, Some, None, codes}
use Rattle.std.proofs.lemmas.List.{append_cancel_left}
use Rattle.lynx_lex.proofs.Equal.{some_is}
use Rattle.lynx_notice.specs.Notices.{port_line, status_line}

pub pair_is : (a c : ℕ) (b d : List ℕ) → ◌≡◌ {A = Option (ℕ × List ℕ)} (Some (a, b)) (Some (c, d)) → (a ≡ c) × (b ≡ d)
pair_is a c b d told =
    let left : ℕ × List ℕ = (a, b) in
    let right : ℕ × List ℕ = (c, d) in
    let same : left ≡ right = some_is left right told in
    (ap (λ (p : ℕ × List ℕ). p.0) same, ap (λ (p : ℕ × List ℕ). p.1) same)

pub triple : (a b : ℕ) (s t : Option ℕ) (x y : List ℕ) → a ≡ b → s ≡ t → x ≡ y → ◌≡◌ {A = Option (ℕ × Option ℕ × List ℕ)} (Some (a, s, x)) (Some (b, t, y))
triple a b s t x y one two three = cc

-- text that begins with a line of a port, and goes on so
pub goes_on : (text rest more line : List ℕ) → text ≡ line ++ rest → rest ≡ more → text ≡ line ++ more
goes_on text rest more line is same = is ∙ ap (λ r. line ++ r) same

differ : (one other : List ℕ) → 45 ∷ one ≡ 115 ∷ other → ⊥
differ one other same = absurd cc

-- where the set stands behind the first line, there is no status
pub no_status : (rest set other : List ℕ) (status : Option ℕ) → rest ≡ codes "--\n" ++ set → rest ≡ status_line status ++ (codes "--\n" ++ other) → (status ≡ None) × (set ≡ other)
no_status rest set other None is told = (refl, append_cancel_left (codes "--\n") set other (sym is ∙ told))
no_status rest set other (Some port) is told =
    absurd (differ (codes "-\n" ++ set) _ (sym is ∙ told))

-- .. and where it doesn't, there is one
pub some_status : (rest other : List ℕ) (status : Option ℕ) → ((set : List ℕ) → rest ≡ codes "--\n" ++ set → ⊥) → rest ≡ status_line status ++ (codes "--\n" ++ other) →
    (port : ℕ) × (status ≡ Some port) × (rest ≡ port_line (codes "status 127.0.0.1:") port ++ (codes "--\n" ++ other))
some_status rest other None none told = absurd (none other told)
some_status rest other (Some port) none told = (port, refl, told)

pub no_value : {A : Type 0} {x : A} → ◌≡◌ {A = Option A} None (Some x) → ⊥
no_value is = cc
