-- Lines of actions: what is read is spelled so.
use Rattle.std.proofs.Common.{◌≡◌, inl, inr, ℕ, ◌<◌, true, cond, ltb, List, [], ◌∷◌, ◌++◌, length, Option, Some, None, is_none, refl, sym, ap, subst, ◌∙◌}
use Rattle.std.specs.Prelude.{codes}
use Rattle.std.specs.Str.{bytes_eq}
use Rattle.std.proofs.lemmas.Bool.{ltb-true}
use Rattle.std.proofs.lemmas.Slice.Eq.{bytes_eq-Decides}
use Rattle.lynx_set.specs.declared.action.Action.TheVariants.{Get, Update, Let, Need}
use Rattle.lynx_set.specs.declared.action.Update.{Update as TheUpdate}
use Rattle.lynx_set.specs.declared.action.Update.TheVariants.{Set as SetTo, Add, Sub, Max}
use Rattle.lynx_set.specs.declared.version.Version.{Version}
use Rattle.lynx_set.specs.declared.version.Version.TheVariants.{One, Two}
use Rattle.lynx_set.specs.declared.action.Key.{Key}
use Rattle.lynx_set.specs.declared.action.Operand.{Operand}
use Rattle.lynx_set.specs.declared.action.Operator.{Operator}
use Rattle.lynx_set.specs.declared.action.Operator.TheVariants.{Plus, Minus}
use Rattle.lynx_set.specs.declared.action.Relation.{Relation}
use Rattle.lynx_set.specs.declared.action.Relation.TheVariants.{Below, AtMost, Same, Differs, AtLeast, Above}
use Rattle.lynx_text.specs.declared.action_line.ActionLine.{ActionLine}
use Rattle.lynx_lex.specs.Lines.{◌>>=◌, only_if}
use Rattle.lynx_lex.specs.Word.{is_name}
use Rattle.lynx_set.specs.Rules.{IsNew, FitsKey, FitsOperand, FitsAction, HasUpdate, BindsNew, bound}
use Rattle.lynx_set.specs.Names.{place_of}
use Rattle.lynx_set.specs.Scopes.{PlainScope, is_home}
use Rattle.lynx_text.specs.Reading.{name_of, new_name, table_of, read_key, operand_of, room, home, binding, plain, changing, operator_of, relation_of, get_of, change_of, let_of, need_of, max_in, update_named, update_of, action_of}
use Rattle.lynx_set.specs.Text.{name_at, key_word, operand_word, operator_word, relation_word, update_word, action_words}
use Rattle.lynx_text.proofs.Lookups.{bind_some, only_if_some, choose, name_at-next, table_take, key_take, operand_take}
use Rattle.lynx_lex.proofs.Equal.{some_is, none_some}

-- a line that can stand there, and its words, whatever names come after
pub record IsLine (scope : PlainScope) (line : ActionLine) (words : List (List ℕ)) : Type 0 where
  pub room : scope.actions < 16
  pub fits : FitsAction scope line.action
  pub binds : BindsNew scope line.action line.binds
  pub spelled : (more : List (List ℕ)) → words ≡ action_words scope.tables (scope.names ++ (bound line.binds ++ more)) (length scope.names) line.action

pub new_take : (names : List (List ℕ)) (word name : List ℕ) → new_name names word ≡ Some name → IsNew names name × (word ≡ name)
new_take names word name e =
    let read = bind_some (name_of word) (λ n. only_if (is_none (place_of names n)) n) name e in
    let named = only_if_some (is_name word) word read.0 read.1 in
    let new = only_if_some (is_none (place_of names read.0)) read.0 name read.2 in
    let same : word ≡ name = named.1 ∙ new.1 in
    (record { named = ap is_name (sym same) ∙ named.0; new = ap (place_of names) (sym new.1) ∙ none_is (place_of names read.0) new.0 }, same)
  where
    none_is : (o : Option ℕ) → is_none o ≡ true → o ≡ None
    none_is None h = refl
    none_is (Some x) h = absurd cc

room_take : (scope : PlainScope) (x : Unit {0}) → room scope ≡ Some x → scope.actions < 16
room_take scope x e = ltb-true _ _ (only_if_some (ltb scope.actions 16) tt x e).0

home_take : (scope : PlainScope) (table : ℕ) (key : Key) (x : Unit {0}) → home scope table key ≡ Some x → is_home scope.shards scope.server table key ≡ true
home_take scope table key x e = (only_if_some (is_home scope.shards scope.server table key) tt x e).0

operator_take : (word : List ℕ) (operator : Operator) → operator_of word ≡ Some operator → word ≡ operator_word operator
unfolding operator_of
operator_take word operator e =
    elim (choose (bytes_eq word (codes "+")) (Some Plus) (cond (bytes_eq word (codes "-")) (Some Minus) None) (Some operator) e) [
      | inl p ↦ (bytes_eq-Decides word (codes "+")).0 p.0 ∙ ap operator_word (some_is Plus operator p.1)
      | inr p ↦ let q = only_if_some (bytes_eq word (codes "-")) Minus operator p.1 in (bytes_eq-Decides word (codes "-")).0 q.0 ∙ ap operator_word q.1
    ]

relation_take : (word : List ℕ) (relation : Relation) → relation_of word ≡ Some relation → word ≡ relation_word relation
unfolding relation_of
relation_take word relation e =
    elim (choose (bytes_eq word (codes "<")) (Some Below) (cond (bytes_eq word (codes "<=")) (Some AtMost) (cond (bytes_eq word (codes "=")) (Some Same) (cond (bytes_eq word (codes "!=")) (Some Differs) (cond (bytes_eq word (codes ">=")) (Some AtLeast) (cond (bytes_eq word (codes ">")) (Some Above) None))))) (Some relation) e) [
      | inl p0 ↦ (bytes_eq-Decides word (codes "<")).0 p0.0 ∙ ap relation_word (some_is Below relation p0.1)
      | inr p0 ↦ elim (choose (bytes_eq word (codes "<=")) (Some AtMost) (cond (bytes_eq word (codes "=")) (Some Same) (cond (bytes_eq word (codes "!=")) (Some Differs) (cond (bytes_eq word (codes ">=")) (Some AtLeast) (cond (bytes_eq word (codes ">")) (Some Above) None)))) (Some relation) p0.1) [
        | inl p1 ↦ (bytes_eq-Decides word (codes "<=")).0 p1.0 ∙ ap relation_word (some_is AtMost relation p1.1)
        | inr p1 ↦ elim (choose (bytes_eq word (codes "=")) (Some Same) (cond (bytes_eq word (codes "!=")) (Some Differs) (cond (bytes_eq word (codes ">=")) (Some AtLeast) (cond (bytes_eq word (codes ">")) (Some Above) None))) (Some relation) p1.1) [
          | inl p2 ↦ (bytes_eq-Decides word (codes "=")).0 p2.0 ∙ ap relation_word (some_is Same relation p2.1)
          | inr p2 ↦ elim (choose (bytes_eq word (codes "!=")) (Some Differs) (cond (bytes_eq word (codes ">=")) (Some AtLeast) (cond (bytes_eq word (codes ">")) (Some Above) None)) (Some relation) p2.1) [
            | inl p3 ↦ (bytes_eq-Decides word (codes "!=")).0 p3.0 ∙ ap relation_word (some_is Differs relation p3.1)
            | inr p3 ↦ elim (choose (bytes_eq word (codes ">=")) (Some AtLeast) (cond (bytes_eq word (codes ">")) (Some Above) None) (Some relation) p3.1) [
              | inl p4 ↦ (bytes_eq-Decides word (codes ">=")).0 p4.0 ∙ ap relation_word (some_is AtLeast relation p4.1)
              | inr p4 ↦ let q = only_if_some (bytes_eq word (codes ">")) Above relation p4.1 in (bytes_eq-Decides word (codes ">")).0 q.0 ∙ ap relation_word q.1
            ]
          ]
        ]
      ]
    ]

-- the words behind a verb, where the verb makes them whole
abbrev pub IsLineAfter : List ℕ → PlainScope → ActionLine → List (List ℕ) → Type 0
IsLineAfter verb scope line words = IsLine scope line (verb ∷ words)

get_take : (scope : PlainScope) (words : List (List ℕ)) (line : ActionLine) → get_of scope words ≡ Some line → IsLineAfter (codes "get") scope line words
unfolding get_of
get_take scope [] line e = absurd cc
get_take scope (a ∷ []) line e = absurd cc
get_take scope (a ∷ b ∷ []) line e = absurd cc
get_take scope (a ∷ b ∷ c ∷ d ∷ words) line e = absurd cc
get_take scope (name ∷ table ∷ key ∷ []) line e =
    let s_ok = bind_some (room scope) (λ ok. new_name scope.names name >>= λ n. table_of scope.tables table >>= λ t. read_key scope.names scope.parameters key >>= λ k. home scope t k >>= λ at. Some (binding n (Get t k))) line e in
    let s_n = bind_some (new_name scope.names name) (λ n. table_of scope.tables table >>= λ t. read_key scope.names scope.parameters key >>= λ k. home scope t k >>= λ at. Some (binding n (Get t k))) line s_ok.2 in
    let s_t = bind_some (table_of scope.tables table) (λ t. read_key scope.names scope.parameters key >>= λ k. home scope t k >>= λ at. Some (binding s_n.0 (Get t k))) line s_n.2 in
    let s_k = bind_some (read_key scope.names scope.parameters key) (λ k. home scope s_t.0 k >>= λ at. Some (binding s_n.0 (Get s_t.0 k))) line s_t.2 in
    let s_at = bind_some (home scope s_t.0 s_k.0) (λ at. Some (binding s_n.0 (Get s_t.0 s_k.0))) line s_k.2 in
    let new = new_take scope.names name s_n.0 s_n.1 in
    let at = table_take scope.tables table s_t.0 s_t.1 in
    subst (λ (l : ActionLine). IsLine scope l (codes "get" ∷ name ∷ table ∷ key ∷ [])) (some_is (binding s_n.0 (Get s_t.0 s_k.0)) line s_at.2) (record {
      room = room_take scope s_ok.0 s_ok.1;
      fits = record { table_is = at.0; numbered = at.2; key_is = (key_take scope.names [] scope.parameters key s_k.0 s_k.1).0; at_home = home_take scope s_t.0 s_k.0 s_at.0 s_at.1 };
      binds = new.0;
      spelled = λ more.
          ap (λ (w : List ℕ). codes "get" ∷ w ∷ table ∷ key ∷ []) (new.1 ∙ sym (name_at-next scope.names s_n.0 more))
          ∙ ap (λ (w : List ℕ). codes "get" ∷ name_at (scope.names ++ s_n.0 ∷ more) (length scope.names) ∷ w ∷ key ∷ []) at.1
          ∙ ap (λ (w : List ℕ). codes "get" ∷ name_at (scope.names ++ s_n.0 ∷ more) (length scope.names) ∷ name_at scope.tables s_t.0 ∷ w ∷ []) (key_take scope.names (s_n.0 ∷ more) scope.parameters key s_k.0 s_k.1).1;
    })

let_take : (scope : PlainScope) (words : List (List ℕ)) (line : ActionLine) → let_of scope words ≡ Some line → IsLineAfter (codes "let") scope line words
unfolding let_of
let_take scope [] line e = absurd cc
let_take scope (a ∷ []) line e = absurd cc
let_take scope (a ∷ b ∷ []) line e = absurd cc
let_take scope (a ∷ b ∷ c ∷ []) line e = absurd cc
let_take scope (a ∷ b ∷ c ∷ d ∷ f ∷ words) line e = absurd cc
let_take scope (name ∷ left ∷ operator ∷ right ∷ []) line e =
    let s_o = bind_some (operator_of operator) (λ o. room scope >>= λ ok. new_name scope.names name >>= λ n. operand_of scope.names left >>= λ l. operand_of scope.names right >>= λ r. Some (binding n (Let l o r))) line e in
    let s_ok = bind_some (room scope) (λ ok. new_name scope.names name >>= λ n. operand_of scope.names left >>= λ l. operand_of scope.names right >>= λ r. Some (binding n (Let l s_o.0 r))) line s_o.2 in
    let s_n = bind_some (new_name scope.names name) (λ n. operand_of scope.names left >>= λ l. operand_of scope.names right >>= λ r. Some (binding n (Let l s_o.0 r))) line s_ok.2 in
    let s_l = bind_some (operand_of scope.names left) (λ l. operand_of scope.names right >>= λ r. Some (binding s_n.0 (Let l s_o.0 r))) line s_n.2 in
    let s_r = bind_some (operand_of scope.names right) (λ r. Some (binding s_n.0 (Let s_l.0 s_o.0 r))) line s_l.2 in
    let new = new_take scope.names name s_n.0 s_n.1 in
    subst (λ (x : ActionLine). IsLine scope x (codes "let" ∷ name ∷ left ∷ operator ∷ right ∷ [])) (some_is (binding s_n.0 (Let s_l.0 s_o.0 s_r.0)) line s_r.2) (record {
      room = room_take scope s_ok.0 s_ok.1;
      fits = ((operand_take scope.names [] left s_l.0 s_l.1).0, (operand_take scope.names [] right s_r.0 s_r.1).0);
      binds = new.0;
      spelled = λ more.
          let names : List (List ℕ) = scope.names ++ s_n.0 ∷ more in
          ap (λ (w : List ℕ). codes "let" ∷ w ∷ left ∷ operator ∷ right ∷ []) (new.1 ∙ sym (name_at-next scope.names s_n.0 more))
          ∙ ap (λ (w : List ℕ). codes "let" ∷ name_at names (length scope.names) ∷ w ∷ operator ∷ right ∷ []) (operand_take scope.names (s_n.0 ∷ more) left s_l.0 s_l.1).1
          ∙ ap (λ (w : List ℕ). codes "let" ∷ name_at names (length scope.names) ∷ operand_word names s_l.0 ∷ w ∷ right ∷ []) (operator_take operator s_o.0 s_o.1)
          ∙ ap (λ (w : List ℕ). codes "let" ∷ name_at names (length scope.names) ∷ operand_word names s_l.0 ∷ operator_word s_o.0 ∷ w ∷ []) (operand_take scope.names (s_n.0 ∷ more) right s_r.0 s_r.1).1;
    })

need_take : (scope : PlainScope) (words : List (List ℕ)) (line : ActionLine) → need_of scope words ≡ Some line → IsLineAfter (codes "need") scope line words
unfolding need_of
need_take scope [] line e = absurd cc
need_take scope (a ∷ []) line e = absurd cc
need_take scope (a ∷ b ∷ []) line e = absurd cc
need_take scope (a ∷ b ∷ c ∷ d ∷ words) line e = absurd cc
need_take scope (left ∷ relation ∷ right ∷ []) line e =
    let s_o = bind_some (relation_of relation) (λ o. only_if {X = Unit {0}} scope.is_first tt >>= λ first. room scope >>= λ ok. operand_of scope.names left >>= λ l. operand_of scope.names right >>= λ r. Some (plain (Need l o r))) line e in
    let s_first = bind_some (only_if {X = Unit {0}} scope.is_first tt) (λ first. room scope >>= λ ok. operand_of scope.names left >>= λ l. operand_of scope.names right >>= λ r. Some (plain (Need l s_o.0 r))) line s_o.2 in
    let s_ok = bind_some (room scope) (λ ok. operand_of scope.names left >>= λ l. operand_of scope.names right >>= λ r. Some (plain (Need l s_o.0 r))) line s_first.2 in
    let s_l = bind_some (operand_of scope.names left) (λ l. operand_of scope.names right >>= λ r. Some (plain (Need l s_o.0 r))) line s_ok.2 in
    let s_r = bind_some (operand_of scope.names right) (λ r. Some (plain (Need s_l.0 s_o.0 r))) line s_l.2 in
    subst (λ (x : ActionLine). IsLine scope x (codes "need" ∷ left ∷ relation ∷ right ∷ [])) (some_is (plain (Need s_l.0 s_o.0 s_r.0)) line s_r.2) (record {
      room = room_take scope s_ok.0 s_ok.1;
      fits = ((only_if_some scope.is_first tt s_first.0 s_first.1).0, (operand_take scope.names [] left s_l.0 s_l.1).0, (operand_take scope.names [] right s_r.0 s_r.1).0);
      binds = tt;
      spelled = λ more.
          let names : List (List ℕ) = scope.names ++ more in
          ap (λ (w : List ℕ). codes "need" ∷ w ∷ relation ∷ right ∷ []) (operand_take scope.names more left s_l.0 s_l.1).1
          ∙ ap (λ (w : List ℕ). codes "need" ∷ operand_word names s_l.0 ∷ w ∷ right ∷ []) (relation_take relation s_o.0 s_o.1)
          ∙ ap (λ (w : List ℕ). codes "need" ∷ operand_word names s_l.0 ∷ relation_word s_o.0 ∷ w ∷ []) (operand_take scope.names more right s_r.0 s_r.1).1;
    })

-- what changes a cell, and its words
pub record IsChange (scope : PlainScope) (change : ℕ × Key × Operand) (words : List (List ℕ)) : Type 0 where
  pub room : scope.actions < 16
  pub table : change.0 < length scope.tables
  pub numbered : change.0 < 64
  pub key : FitsKey scope.parameters change.1
  pub home : is_home scope.shards scope.server change.0 change.1 ≡ true
  pub value : FitsOperand (length scope.names) change.2
  pub spelled : (more : List (List ℕ)) → words ≡ name_at scope.tables change.0 ∷ key_word (scope.names ++ more) change.1 ∷ operand_word (scope.names ++ more) change.2 ∷ []

change_take : (scope : PlainScope) (words : List (List ℕ)) (line : ℕ × Key × Operand) → change_of scope words ≡ Some line → IsChange scope line words
unfolding change_of
change_take scope [] line e = absurd cc
change_take scope (a ∷ []) line e = absurd cc
change_take scope (a ∷ b ∷ []) line e = absurd cc
change_take scope (a ∷ b ∷ c ∷ d ∷ words) line e = absurd cc
change_take scope (table ∷ key ∷ value ∷ []) line e =
    let s_ok = bind_some (room scope) (λ ok. table_of scope.tables table >>= λ t. read_key scope.names scope.parameters key >>= λ k. operand_of scope.names value >>= λ v. home scope t k >>= λ at. Some (t, k, v)) line e in
    let s_t = bind_some (table_of scope.tables table) (λ t. read_key scope.names scope.parameters key >>= λ k. operand_of scope.names value >>= λ v. home scope t k >>= λ at. Some (t, k, v)) line s_ok.2 in
    let s_k = bind_some (read_key scope.names scope.parameters key) (λ k. operand_of scope.names value >>= λ v. home scope s_t.0 k >>= λ at. Some (s_t.0, k, v)) line s_t.2 in
    let s_v = bind_some (operand_of scope.names value) (λ v. home scope s_t.0 s_k.0 >>= λ at. Some (s_t.0, s_k.0, v)) line s_k.2 in
    let s_at = bind_some (home scope s_t.0 s_k.0) (λ at. Some (s_t.0, s_k.0, s_v.0)) line s_v.2 in
    let at = table_take scope.tables table s_t.0 s_t.1 in
    let made : ℕ × Key × Operand = (s_t.0, s_k.0, s_v.0) in
    subst (λ (c : ℕ × Key × Operand). IsChange scope c (table ∷ key ∷ value ∷ [])) (some_is made line s_at.2) (record {
      room = room_take scope s_ok.0 s_ok.1;
      table = at.0;
      numbered = at.2;
      key = (key_take scope.names [] scope.parameters key s_k.0 s_k.1).0;
      home = home_take scope s_t.0 s_k.0 s_at.0 s_at.1;
      value = (operand_take scope.names [] value s_v.0 s_v.1).0;
      spelled = λ more.
          ap (λ (w : List ℕ). w ∷ key ∷ value ∷ []) at.1
          ∙ ap (λ (w : List ℕ). name_at scope.tables s_t.0 ∷ w ∷ value ∷ []) (key_take scope.names more scope.parameters key s_k.0 s_k.1).1
          ∙ ap (λ (w : List ℕ). name_at scope.tables s_t.0 ∷ key_word (scope.names ++ more) s_k.0 ∷ w ∷ []) (operand_take scope.names more value s_v.0 s_v.1).1;
    })

-- an update of the version, spelled so
record IsNamed (version : Version) (word : List ℕ) (update : TheUpdate) : Type 0 where
  has : HasUpdate version update
  spelled : word ≡ update_word update

max_take : (version : Version) (word : List ℕ) (update : TheUpdate) → word ≡ codes "max" → max_in version ≡ Some update → IsNamed version word update
max_take One word update is e = absurd (none_some e)
max_take Two word update is e = subst (IsNamed Two word) (some_is Max update e) (record { has = refl; spelled = is })

named_take : (version : Version) (word : List ℕ) (update : TheUpdate) → update_named version word ≡ Some update → IsNamed version word update
unfolding update_named
named_take version word update e =
    elim (choose (bytes_eq word (codes "set")) (Some SetTo) (cond (bytes_eq word (codes "add")) (Some Add) (cond (bytes_eq word (codes "sub")) (Some Sub) (cond (bytes_eq word (codes "max")) (max_in version) None))) (Some update) e) [
      | inl p ↦ subst (IsNamed version word) (some_is SetTo update p.1) (record { has = tt; spelled = (bytes_eq-Decides word (codes "set")).0 p.0 })
      | inr p ↦ elim (choose (bytes_eq word (codes "add")) (Some Add) (cond (bytes_eq word (codes "sub")) (Some Sub) (cond (bytes_eq word (codes "max")) (max_in version) None)) (Some update) p.1) [
        | inl q ↦ subst (IsNamed version word) (some_is Add update q.1) (record { has = tt; spelled = (bytes_eq-Decides word (codes "add")).0 q.0 })
        | inr q ↦ elim (choose (bytes_eq word (codes "sub")) (Some Sub) (cond (bytes_eq word (codes "max")) (max_in version) None) (Some update) q.1) [
          | inl r ↦ subst (IsNamed version word) (some_is Sub update r.1) (record { has = tt; spelled = (bytes_eq-Decides word (codes "sub")).0 r.0 })
          | inr r ↦ elim (choose (bytes_eq word (codes "max")) (max_in version) None (Some update) r.1) [
            | inl m ↦ max_take version word update ((bytes_eq-Decides word (codes "max")).0 m.0) m.1
            | inr m ↦ absurd (none_some m.1)
          ]
        ]
      ]
    ]

update_take : (scope : PlainScope) (verb : List ℕ) (words : List (List ℕ)) (line : ActionLine) → update_of scope verb words ≡ Some line → IsLine scope line (verb ∷ words)
unfolding update_of
update_take scope verb words line e =
    let named = bind_some (update_named scope.version verb) (λ update. change_of scope words >>= λ change. Some (changing update change)) line e in
    let read = bind_some (change_of scope words) (λ change. Some (changing named.0 change)) line named.2 in
    let change = change_take scope words read.0 read.1 in
    let is = named_take scope.version verb named.0 named.1 in
    subst (λ (l : ActionLine). IsLine scope l (verb ∷ words)) (some_is (changing named.0 read.0) line read.2) (record {
      room = change.room;
      fits = (record { table_is = change.table; numbered = change.numbered; key_is = change.key; at_home = change.home }, change.value, is.has);
      binds = tt;
      spelled = λ more. ap (λ (w : List ℕ). w ∷ words) is.spelled ∙ ap (λ (ws : List (List ℕ)). update_word named.0 ∷ ws) (change.spelled more);
    })

-- an action that is read is spelled so
pub action_take : (scope : PlainScope) (words : List (List ℕ)) (line : ActionLine) → action_of scope words ≡ Some line → IsLine scope line words
unfolding action_of
action_take scope [] line e = absurd cc
action_take scope (verb ∷ words) line e =
    elim (choose (bytes_eq verb (codes "get")) (get_of scope words) (cond (bytes_eq verb (codes "let")) (let_of scope words) (cond (bytes_eq verb (codes "need")) (need_of scope words) (update_of scope verb words))) (Some line) e) [
      | inl p0 ↦ subst (λ (v : List ℕ). IsLine scope line (v ∷ words)) (sym ((bytes_eq-Decides verb (codes "get")).0 p0.0)) (get_take scope words line p0.1)
      | inr p0 ↦ elim (choose (bytes_eq verb (codes "let")) (let_of scope words) (cond (bytes_eq verb (codes "need")) (need_of scope words) (update_of scope verb words)) (Some line) p0.1) [
        | inl p1 ↦ subst (λ (v : List ℕ). IsLine scope line (v ∷ words)) (sym ((bytes_eq-Decides verb (codes "let")).0 p1.0)) (let_take scope words line p1.1)
        | inr p1 ↦ elim (choose (bytes_eq verb (codes "need")) (need_of scope words) (update_of scope verb words) (Some line) p1.1) [
          | inl p2 ↦ subst (λ (v : List ℕ). IsLine scope line (v ∷ words)) (sym ((bytes_eq-Decides verb (codes "need")).0 p2.0)) (need_take scope words line p2.1)
          | inr p2 ↦ update_take scope verb words line p2.1
        ]
      ]
    ]
