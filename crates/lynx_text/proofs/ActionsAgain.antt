-- Lines of actions: what is spelled so is read.
use Rattle.std.proofs.Common.{◌≡◌, ℕ, ◌<◌, ◌≤◌, true, ltb, List, [], ◌∷◌, ◌++◌, length, Option, Some, None, refl, ap, ◌∙◌, arith}
use Rattle.std.specs.Prelude.{codes}
use Rattle.std.specs.List.{list_all}
use Rattle.std.proofs.lemmas.Bool.{lt-ltb}
use Rattle.lynx_set.specs.declared.action.Action.{Action}
use Rattle.lynx_set.specs.declared.action.Action.TheVariants.{Get, Update, Let, Need}
use Rattle.lynx_set.specs.declared.action.Update.{Update as TheUpdate}
use Rattle.lynx_set.specs.declared.action.Update.TheVariants.{Set as SetTo, Add, Sub, Max}
use Rattle.lynx_set.specs.declared.version.Version.{Version}
use Rattle.lynx_set.specs.declared.version.Version.TheVariants.{Two}
use Rattle.lynx_set.specs.declared.action.Key.{Key}
use Rattle.lynx_set.specs.declared.action.Operand.{Operand}
use Rattle.lynx_set.specs.declared.action.Operator.{Operator}
use Rattle.lynx_set.specs.declared.action.Operator.TheVariants.{Plus, Minus}
use Rattle.lynx_set.specs.declared.action.Relation.{Relation}
use Rattle.lynx_set.specs.declared.action.Relation.TheVariants.{Below, AtMost, Same, Differs, AtLeast, Above}
use Rattle.lynx_text.specs.declared.action_line.ActionLine.{ActionLine}
use Rattle.lynx_lex.specs.Lines.{◌>>=◌, is_word, AreWords, only_if}
use Rattle.lynx_set.specs.Scopes.{PlainScope, is_home}
use Rattle.lynx_text.specs.Reading.{new_name, table_of, read_key, operand_of, room, home, binding, plain, changing, operator_of, relation_of, get_of, change_of, let_of, need_of, max_in, update_named, update_of, action_of}
use Rattle.lynx_set.specs.Rules.{IsNew, FitsOperand, FitsCell, FitsAction, HasUpdate, BindsNew, bound}
use Rattle.lynx_set.specs.Text.{name_at, key_word, operand_word, operator_word, relation_word, update_word, action_words}
use Rattle.lynx_lex.proofs.WordLaws.{both_true, name-word}
use Rattle.lynx_text.proofs.Lookups.{name_at-next}
use Rattle.lynx_text.proofs.Known.{bind_is, only_if_yes, Known, new_again, table_again, key_again, operand_again}

operator_again : (operator : Operator) → (operator_of (operator_word operator) ≡ Some operator) × (is_word (operator_word operator) ≡ true)
unfolding operator_of
operator_again Plus = (refl, refl)
operator_again Minus = (refl, refl)

relation_again : (relation : Relation) → (relation_of (relation_word relation) ≡ Some relation) × (is_word (relation_word relation) ≡ true)
unfolding relation_of
relation_again Below = (refl, refl)
relation_again AtMost = (refl, refl)
relation_again Same = (refl, refl)
relation_again Differs = (refl, refl)
relation_again AtLeast = (refl, refl)
relation_again Above = (refl, refl)

-- where the names and tables are known, and there is room
pub record IsOpen (scope : PlainScope) : Type 0 where
  pub names : Known scope.names
  pub tables : Known scope.tables
  pub few : scope.parameters ≤ length scope.names

-- the words are read as this line
pub record IsRead (scope : PlainScope) (line : ActionLine) (words : List (List ℕ)) : Type 0 where
  pub read : action_of scope words ≡ Some line
  pub are : AreWords words

get_again : (scope : PlainScope) (name : List ℕ) (table : ℕ) (key : Key) (more : List (List ℕ)) → IsOpen scope → scope.actions < 16 → FitsCell scope table key → IsNew scope.names name
    → IsRead scope (binding name (Get table key)) (action_words scope.tables (scope.names ++ (name ∷ more)) (length scope.names) (Get table key))
unfolding get_of action_of
get_again scope name table key more open_ free cell new =
    let names : List (List ℕ) = scope.names ++ (name ∷ more) in
    record {
      read = bind_is (room scope) (λ ok. new_name scope.names (name_at names (length scope.names)) >>= λ n. table_of scope.tables (name_at scope.tables table) >>= λ t. read_key scope.names scope.parameters (key_word names key) >>= λ k. home scope t k >>= λ at. Some (binding n (Get t k))) tt (Some (binding name (Get table key))) (only_if_yes (ltb scope.actions 16) tt (lt-ltb _ _ free))
          (bind_is (new_name scope.names (name_at names (length scope.names))) (λ n. table_of scope.tables (name_at scope.tables table) >>= λ t. read_key scope.names scope.parameters (key_word names key) >>= λ k. home scope t k >>= λ at. Some (binding n (Get t k))) name (Some (binding name (Get table key))) (ap (new_name scope.names) (name_at-next scope.names name more) ∙ new_again scope.names name new)
          (bind_is (table_of scope.tables (name_at scope.tables table)) (λ t. read_key scope.names scope.parameters (key_word names key) >>= λ k. home scope t k >>= λ at. Some (binding name (Get t k))) table (Some (binding name (Get table key))) (table_again scope.tables table open_.tables cell.table_is cell.numbered)
          (bind_is (read_key scope.names scope.parameters (key_word names key)) (λ k. home scope table k >>= λ at. Some (binding name (Get table k))) key (Some (binding name (Get table key))) ((key_again scope.names (name ∷ more) scope.parameters key open_.names open_.few cell.key_is).0)
          (bind_is (home scope table key) (λ at. Some (binding name (Get table key))) tt (Some (binding name (Get table key))) (only_if_yes (is_home scope.shards scope.server table key) tt cell.at_home)
          (refl)))));
      are = (
        omega arith,
        both_true (is_word (codes "get")) (list_all is_word (name_at names (length scope.names) ∷ name_at scope.tables table ∷ key_word names key ∷ [])) (refl)
            (both_true (is_word (name_at names (length scope.names))) (list_all is_word (name_at scope.tables table ∷ key_word names key ∷ [])) (ap is_word (name_at-next scope.names name more) ∙ name-word name new.named)
            (both_true (is_word (name_at scope.tables table)) (list_all is_word (key_word names key ∷ [])) (name-word (name_at scope.tables table) (open_.tables.named table cell.table_is))
            (both_true (is_word (key_word names key)) (list_all is_word ([])) ((key_again scope.names (name ∷ more) scope.parameters key open_.names open_.few cell.key_is).1)
            (refl)))),
      );
    }

let_again : (scope : PlainScope) (name : List ℕ) (left : Operand) (operator : Operator) (right : Operand) (more : List (List ℕ)) → IsOpen scope → scope.actions < 16
    → FitsOperand (length scope.names) left × FitsOperand (length scope.names) right → IsNew scope.names name
    → IsRead scope (binding name (Let left operator right)) (action_words scope.tables (scope.names ++ (name ∷ more)) (length scope.names) (Let left operator right))
unfolding let_of action_of
let_again scope name left operator right more open_ free fits new =
    let names : List (List ℕ) = scope.names ++ (name ∷ more) in
    record {
      read = bind_is (operator_of (operator_word operator)) (λ o. room scope >>= λ ok. new_name scope.names (name_at names (length scope.names)) >>= λ n. operand_of scope.names (operand_word names left) >>= λ l. operand_of scope.names (operand_word names right) >>= λ r. Some (binding n (Let l o r))) operator (Some (binding name (Let left operator right))) ((operator_again operator).0)
          (bind_is (room scope) (λ ok. new_name scope.names (name_at names (length scope.names)) >>= λ n. operand_of scope.names (operand_word names left) >>= λ l. operand_of scope.names (operand_word names right) >>= λ r. Some (binding n (Let l operator r))) tt (Some (binding name (Let left operator right))) (only_if_yes (ltb scope.actions 16) tt (lt-ltb _ _ free))
          (bind_is (new_name scope.names (name_at names (length scope.names))) (λ n. operand_of scope.names (operand_word names left) >>= λ l. operand_of scope.names (operand_word names right) >>= λ r. Some (binding n (Let l operator r))) name (Some (binding name (Let left operator right))) (ap (new_name scope.names) (name_at-next scope.names name more) ∙ new_again scope.names name new)
          (bind_is (operand_of scope.names (operand_word names left)) (λ l. operand_of scope.names (operand_word names right) >>= λ r. Some (binding name (Let l operator r))) left (Some (binding name (Let left operator right))) ((operand_again scope.names (name ∷ more) left open_.names fits.0).0)
          (bind_is (operand_of scope.names (operand_word names right)) (λ r. Some (binding name (Let left operator r))) right (Some (binding name (Let left operator right))) ((operand_again scope.names (name ∷ more) right open_.names fits.1).0)
          (refl)))));
      are = (
        omega arith,
        both_true (is_word (codes "let")) (list_all is_word (name_at names (length scope.names) ∷ operand_word names left ∷ operator_word operator ∷ operand_word names right ∷ [])) (refl)
            (both_true (is_word (name_at names (length scope.names))) (list_all is_word (operand_word names left ∷ operator_word operator ∷ operand_word names right ∷ [])) (ap is_word (name_at-next scope.names name more) ∙ name-word name new.named)
            (both_true (is_word (operand_word names left)) (list_all is_word (operator_word operator ∷ operand_word names right ∷ [])) ((operand_again scope.names (name ∷ more) left open_.names fits.0).1)
            (both_true (is_word (operator_word operator)) (list_all is_word (operand_word names right ∷ [])) ((operator_again operator).1)
            (both_true (is_word (operand_word names right)) (list_all is_word ([])) ((operand_again scope.names (name ∷ more) right open_.names fits.1).1)
            (refl))))),
      );
    }

need_again : (scope : PlainScope) (left : Operand) (relation : Relation) (right : Operand) (more : List (List ℕ)) → IsOpen scope → scope.actions < 16
    → (scope.is_first ≡ true) × FitsOperand (length scope.names) left × FitsOperand (length scope.names) right
    → IsRead scope (plain (Need left relation right)) (action_words scope.tables (scope.names ++ more) (length scope.names) (Need left relation right))
unfolding need_of action_of
need_again scope left relation right more open_ free fits =
    let names : List (List ℕ) = scope.names ++ more in
    record {
      read = bind_is (relation_of (relation_word relation)) (λ o. only_if {X = Unit {0}} scope.is_first tt >>= λ first. room scope >>= λ ok. operand_of scope.names (operand_word names left) >>= λ l. operand_of scope.names (operand_word names right) >>= λ r. Some (plain (Need l o r))) relation (Some (plain (Need left relation right))) ((relation_again relation).0)
          (bind_is (only_if {X = Unit {0}} scope.is_first tt) (λ first. room scope >>= λ ok. operand_of scope.names (operand_word names left) >>= λ l. operand_of scope.names (operand_word names right) >>= λ r. Some (plain (Need l relation r))) tt (Some (plain (Need left relation right))) (only_if_yes scope.is_first tt fits.0)
          (bind_is (room scope) (λ ok. operand_of scope.names (operand_word names left) >>= λ l. operand_of scope.names (operand_word names right) >>= λ r. Some (plain (Need l relation r))) tt (Some (plain (Need left relation right))) (only_if_yes (ltb scope.actions 16) tt (lt-ltb _ _ free))
          (bind_is (operand_of scope.names (operand_word names left)) (λ l. operand_of scope.names (operand_word names right) >>= λ r. Some (plain (Need l relation r))) left (Some (plain (Need left relation right))) ((operand_again scope.names more left open_.names fits.1).0)
          (bind_is (operand_of scope.names (operand_word names right)) (λ r. Some (plain (Need left relation r))) right (Some (plain (Need left relation right))) ((operand_again scope.names more right open_.names fits.2).0)
          (refl)))));
      are = (
        omega arith,
        both_true (is_word (codes "need")) (list_all is_word (operand_word names left ∷ relation_word relation ∷ operand_word names right ∷ [])) (refl)
            (both_true (is_word (operand_word names left)) (list_all is_word (relation_word relation ∷ operand_word names right ∷ [])) ((operand_again scope.names more left open_.names fits.1).1)
            (both_true (is_word (relation_word relation)) (list_all is_word (operand_word names right ∷ [])) ((relation_again relation).1)
            (both_true (is_word (operand_word names right)) (list_all is_word ([])) ((operand_again scope.names more right open_.names fits.2).1)
            (refl)))),
      );
    }

change_again : (scope : PlainScope) (table : ℕ) (key : Key) (value : Operand) (more : List (List ℕ)) → IsOpen scope → scope.actions < 16 → FitsCell scope table key → FitsOperand (length scope.names) value
    → (change_of scope (name_at scope.tables table ∷ key_word (scope.names ++ more) key ∷ operand_word (scope.names ++ more) value ∷ []) ≡ Some (table, key, value))
    × (list_all is_word (name_at scope.tables table ∷ key_word (scope.names ++ more) key ∷ operand_word (scope.names ++ more) value ∷ []) ≡ true)
unfolding change_of
change_again scope table key value more open_ free cell fits =
    let names : List (List ℕ) = scope.names ++ more in (
      bind_is (room scope) (λ ok. table_of scope.tables (name_at scope.tables table) >>= λ t. read_key scope.names scope.parameters (key_word names key) >>= λ k. operand_of scope.names (operand_word names value) >>= λ v. home scope t k >>= λ at. Some (t, k, v)) tt (Some (table, key, value)) (only_if_yes (ltb scope.actions 16) tt (lt-ltb _ _ free))
          (bind_is (table_of scope.tables (name_at scope.tables table)) (λ t. read_key scope.names scope.parameters (key_word names key) >>= λ k. operand_of scope.names (operand_word names value) >>= λ v. home scope t k >>= λ at. Some (t, k, v)) table (Some (table, key, value)) (table_again scope.tables table open_.tables cell.table_is cell.numbered)
          (bind_is (read_key scope.names scope.parameters (key_word names key)) (λ k. operand_of scope.names (operand_word names value) >>= λ v. home scope table k >>= λ at. Some (table, k, v)) key (Some (table, key, value)) ((key_again scope.names more scope.parameters key open_.names open_.few cell.key_is).0)
          (bind_is (operand_of scope.names (operand_word names value)) (λ v. home scope table key >>= λ at. Some (table, key, v)) value (Some (table, key, value)) ((operand_again scope.names more value open_.names fits).0)
          (bind_is (home scope table key) (λ at. Some (table, key, value)) tt (Some (table, key, value)) (only_if_yes (is_home scope.shards scope.server table key) tt cell.at_home)
          (refl))))),
      both_true (is_word (name_at scope.tables table)) (list_all is_word (key_word names key ∷ operand_word names value ∷ [])) (name-word (name_at scope.tables table) (open_.tables.named table cell.table_is))
          (both_true (is_word (key_word names key)) (list_all is_word (operand_word names value ∷ [])) ((key_again scope.names more scope.parameters key open_.names open_.few cell.key_is).1)
          (both_true (is_word (operand_word names value)) (list_all is_word ([])) ((operand_again scope.names more value open_.names fits).1)
          (refl))),
    )

named_again : (version : Version) (update : TheUpdate) → HasUpdate version update → (update_named version (update_word update) ≡ Some update) × (is_word (update_word update) ≡ true)
unfolding update_named
named_again version SetTo has = (refl, refl)
named_again version Add has = (refl, refl)
named_again version Sub has = (refl, refl)
named_again version Max has = (ap max_in has, refl)

-- the line of an update is read as one
read_as_update : (scope : PlainScope) (update : TheUpdate) (words : List (List ℕ)) → action_of scope (update_word update ∷ words) ≡ update_of scope (update_word update) words
unfolding action_of
read_as_update scope SetTo words = refl
read_as_update scope Add words = refl
read_as_update scope Sub words = refl
read_as_update scope Max words = refl

update_again : (scope : PlainScope) (update : TheUpdate) (table : ℕ) (key : Key) (value : Operand) (more : List (List ℕ)) → IsOpen scope → scope.actions < 16 → FitsCell scope table key → FitsOperand (length scope.names) value → HasUpdate scope.version update
    → IsRead scope (plain (Update update table key value)) (action_words scope.tables (scope.names ++ more) (length scope.names) (Update update table key value))
unfolding update_of
update_again scope update table key value more open_ free cell fits has =
    let names : List (List ℕ) = scope.names ++ more in
    let words : List (List ℕ) = name_at scope.tables table ∷ key_word names key ∷ operand_word names value ∷ [] in
    let change = change_again scope table key value more open_ free cell fits in
    let named = named_again scope.version update has in
    record {
      read = read_as_update scope update words
          ∙ bind_is (update_named scope.version (update_word update)) (λ u. change_of scope words >>= λ c. Some (changing u c)) update (Some (plain (Update update table key value))) named.0
          (bind_is (change_of scope words) (λ c. Some (changing update c)) (table, key, value) (Some (plain (Update update table key value))) change.0 refl);
      are = (omega arith, both_true (is_word (update_word update)) (list_all is_word words) named.1 change.1);
    }

-- an action that fits is read again
pub action_again : (scope : PlainScope) (action : Action) (binds : Option (List ℕ)) (more : List (List ℕ)) → IsOpen scope → scope.actions < 16 → FitsAction scope action → BindsNew scope action binds
    → IsRead scope (record { action = action; binds = binds }) (action_words scope.tables (scope.names ++ (bound binds ++ more)) (length scope.names) action)
action_again scope (Get table key) None more open_ free fits new = absurd new
action_again scope (Get table key) (Some name) more open_ free fits new = get_again scope name table key more open_ free fits new
action_again scope (Update update table key value) None more open_ free fits new = update_again scope update table key value more open_ free fits.0 fits.1 fits.2
action_again scope (Update update table key value) (Some name) more open_ free fits new = absurd new
action_again scope (Let left operator right) None more open_ free fits new = absurd new
action_again scope (Let left operator right) (Some name) more open_ free fits new = let_again scope name left operator right more open_ free fits new
action_again scope (Need left relation right) None more open_ free fits new = need_again scope left relation right more open_ free fits
action_again scope (Need left relation right) (Some name) more open_ free fits new = absurd new
