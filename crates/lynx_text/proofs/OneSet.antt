-- No text spells two sets.
use Rattle.std.proofs.Common.{◌≡◌, ℕ, ◌≤◌, List, [], ◌∷◌, map, length, refl, sym, ap, subst, ◌∙◌}
use Rattle.std.proofs.Math.Bridge.{le_prop}
use Rattle.lynx_shards.specs.declared.shard.Shard.{Shard}
use Rattle.lynx_set.specs.declared.action.Action.{Action}
use Rattle.lynx_set.specs.declared.program.Hop.{Hop}
use Rattle.lynx_set.specs.declared.program.ParameterRange.{ParameterRange}
use Rattle.lynx_set.specs.declared.program.Program.{Program}
use Rattle.lynx_text.specs.Parts.{read_text}
use Rattle.lynx_set.specs.Plain.{PlainHop, PlainProgram, PlainSet, plain_hop, plain_program, plain_named, plain_set}
use Rattle.lynx_set.specs.Rules.{IsSet}
use Rattle.lynx_set.specs.Set.{Set}
use Rattle.lynx_set.specs.declared.version.Version.{Version}
use Rattle.lynx_set.specs.Text.{text_of}
use Rattle.lynx_text.proofs.SetAgain.{again}
use Rattle.lynx_lex.proofs.Equal.{first_is, rest_is, some_is}

abbrev hop_of : (server : ℕ) (actions : List Action) → length actions ≤ 16 → Hop
hop_of server actions few = record { server = server; actions = actions; few_actions = few }

hop_is : (a b : Hop) → plain_hop a ≡ plain_hop b → a ≡ b
hop_is a b e =
    ap (λ (n : ℕ). hop_of n a.actions a.few_actions) (ap (λ (h : PlainHop). h.server) e)
    ∙ subst (λ (actions : List Action). (few : length actions ≤ 16) → hop_of b.server a.actions a.few_actions ≡ hop_of b.server actions few) (ap (λ (h : PlainHop). h.actions) e)
    (λ few. ap (hop_of b.server a.actions) (le_prop a.few_actions few)) b.few_actions

hops_are : (some others : List Hop) → map plain_hop some ≡ map plain_hop others → some ≡ others
hops_are [] [] e = refl
hops_are [] (b ∷ bs) e = absurd cc
hops_are (a ∷ some) [] e = absurd cc
hops_are (a ∷ some) (b ∷ others) e =
    ap (λ (hop : Hop). hop ∷ some) (hop_is a b (first_is (plain_hop a) (plain_hop b) (map plain_hop some) (map plain_hop others) e))
    ∙ ap (λ (hops : List Hop). b ∷ hops) (hops_are some others (rest_is (plain_hop a) (plain_hop b) (map plain_hop some) (map plain_hop others) e))

abbrev program_of : (parameters : ℕ) (names : List (List ℕ)) (ranges : List ParameterRange) (hops : List Hop) → parameters ≤ 8 → length hops ≤ 8 → Program
program_of parameters names ranges hops few many = record { parameters = parameters; names = names; ranges = ranges; hops = hops; few_parameters = few; few_hops = many }

program_is : (a b : Program) → plain_program a ≡ plain_program b → a ≡ b
program_is a b e =
    let hops : a.hops ≡ b.hops = hops_are a.hops b.hops (ap (λ (p : PlainProgram). p.hops) e) in
    let parameters : a.parameters ≡ b.parameters = ap (λ (p : PlainProgram). p.parameters) e in
    ap (λ (names : List (List ℕ)). program_of a.parameters names a.ranges a.hops a.few_parameters a.few_hops) (ap (λ (p : PlainProgram). p.names) e)
    ∙ ap (λ (ranges : List ParameterRange). program_of a.parameters b.names ranges a.hops a.few_parameters a.few_hops) (ap (λ (p : PlainProgram). p.ranges) e)
    ∙ subst (λ (n : ℕ). (few : n ≤ 8) → program_of a.parameters b.names b.ranges a.hops a.few_parameters a.few_hops ≡ program_of n b.names b.ranges a.hops few a.few_hops) parameters
    (λ few. ap (λ f. program_of a.parameters b.names b.ranges a.hops f a.few_hops) (le_prop a.few_parameters few)) b.few_parameters
    ∙ subst (λ (hops : List Hop). (many : length hops ≤ 8) → program_of b.parameters b.names b.ranges a.hops b.few_parameters a.few_hops ≡ program_of b.parameters b.names b.ranges hops b.few_parameters many) hops
    (λ many. ap (program_of b.parameters b.names b.ranges a.hops b.few_parameters) (le_prop a.few_hops many)) b.few_hops

programs_are : (some others : List (List ℕ × Program)) → map plain_named some ≡ map plain_named others → some ≡ others
programs_are [] [] e = refl
programs_are [] (b ∷ others) e = absurd cc
programs_are (a ∷ some) [] e = absurd cc
programs_are (a ∷ some) (b ∷ others) e =
    let first = first_is (plain_named a) (plain_named b) (map plain_named some) (map plain_named others) e in
    let named : List ℕ → Program → List ℕ × Program = λ name program. (name, program) in
    ap (λ (name : List ℕ). named name a.1 ∷ some) (ap (λ (p : List ℕ × PlainProgram). p.0) first)
    ∙ ap (λ (program : Program). named b.0 program ∷ some) (program_is a.1 b.1 (ap (λ (p : List ℕ × PlainProgram). p.1) first))
    ∙ ap (λ (programs : List (List ℕ × Program)). b ∷ programs) (programs_are some others (rest_is (plain_named a) (plain_named b) (map plain_named some) (map plain_named others) e))

set_is : (s t : Set) → plain_set s ≡ plain_set t → s ≡ t
set_is s t e =
    let made : Version → ℕ → List (List ℕ) → List (List Shard) → List (List ℕ × Program) → Set = λ v n names shards programs. record { version = v; servers = n; tables = names; shards = shards; programs = programs } in
    ap (λ (v : Version). made v s.servers s.tables s.shards s.programs) (ap (λ (p : PlainSet). p.version) e)
    ∙ ap (λ (n : ℕ). made t.version n s.tables s.shards s.programs) (ap (λ (p : PlainSet). p.servers) e)
    ∙ ap (λ (names : List (List ℕ)). made t.version t.servers names s.shards s.programs) (ap (λ (p : PlainSet). p.tables) e)
    ∙ ap (λ (shards : List (List Shard)). made t.version t.servers t.tables shards s.programs) (ap (λ (p : PlainSet). p.shards) e)
    ∙ ap (λ (programs : List (List ℕ × Program)). made t.version t.servers t.tables t.shards programs) (programs_are s.programs t.programs (ap (λ (p : PlainSet). p.programs) e))

-- two sets with one text are the same
pub one_set : (s t : Set) → IsSet s → IsSet t → text_of s ≡ text_of t → s ≡ t
one_set s t s_is t_is e = set_is s t (some_is (plain_set s) (plain_set t) (sym (again s s_is.0 s_is.1) ∙ ap read_text e ∙ again t t_is.0 t_is.1))
