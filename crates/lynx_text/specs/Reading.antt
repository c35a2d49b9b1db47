-- Reading the lines of a set; none where a line has a fault.
use Rattle.std.specs.Prelude.{ℕ, ◌^◌, List, [], ◌∷◌, Option, Some, None, option_map, is_none, nat_lt, if◌then◌else◌, codes}
use Rattle.std.specs.Str.{bytes_eq}
use Rattle.lynx_names.specs.declared.limits.TheConstants.{MAX_ACTIONS, MAX_TABLES}
use Rattle.lynx_set.specs.declared.action.Action.{Action}
use Rattle.lynx_set.specs.declared.action.Action.TheVariants.{Get, Update, Let, Need}
use Rattle.lynx_set.specs.declared.action.Update.{Update as TheUpdate}
use Rattle.lynx_set.specs.declared.action.Update.TheVariants.{Set as SetTo, Add, Sub, Max}
use Rattle.lynx_set.specs.declared.version.Version.{Version}
use Rattle.lynx_set.specs.declared.version.Version.TheVariants.{One, Two}
use Rattle.lynx_set.specs.declared.action.Key.{Key}
use Rattle.lynx_set.specs.declared.action.Key.TheVariants.{Literal, Param}
use Rattle.lynx_set.specs.declared.action.Operand.{Operand}
use Rattle.lynx_set.specs.declared.action.Operand.TheVariants.{Number, Name}
use Rattle.lynx_set.specs.declared.action.Operator.{Operator}
use Rattle.lynx_set.specs.declared.action.Operator.TheVariants.{Plus, Minus}
use Rattle.lynx_set.specs.declared.action.Relation.{Relation}
use Rattle.lynx_set.specs.declared.action.Relation.TheVariants.{Below, AtMost, Same, Differs, AtLeast, Above}
use Rattle.lynx_set.specs.Names.{place_of, place_below}
use Rattle.lynx_set.specs.Scopes.{PlainScope, is_home}
use Rattle.lynx_text.specs.declared.action_line.ActionLine.{ActionLine}
use Rattle.lynx_lex.specs.Digits.{read_number, begins_with_digit}
use Rattle.lynx_lex.specs.Lines.{◌>>=◌, only_if}
use Rattle.lynx_lex.specs.Word.{is_name}

-- a word that is a name
abbrev pub name_of : List ℕ → Option (List ℕ)
name_of word = only_if (is_name word) word

-- a name that isn't known
abbrev pub new_name : List (List ℕ) → List ℕ → Option (List ℕ)
new_name names word = name_of word >>= λ name. only_if (is_none (place_of names name)) name

-- the place of a known name
abbrev pub known_name : List (List ℕ) → List ℕ → Option ℕ
known_name names word = name_of word >>= λ name. place_below (2 ^ 8) names name

-- the number of a table
abbrev pub table_of : List (List ℕ) → List ℕ → Option ℕ
table_of tables word = name_of word >>= λ name. place_below MAX_TABLES tables name

-- a number, or one of so many parameters
abbrev pub read_key : List (List ℕ) → ℕ → List ℕ → Option Key
read_key names parameters word =
    if begins_with_digit word then option_map Literal (read_number word)
    else (known_name names word >>= λ place. only_if (nat_lt place parameters) (Param place))

-- a number, or a name
abbrev pub operand_of : List (List ℕ) → List ℕ → Option Operand
operand_of names word =
    if begins_with_digit word then option_map Number (read_number word) else option_map Name
    (known_name names word)

unfoldable pub operator_of : List ℕ → Option Operator
operator_of word =
    if bytes_eq word (codes "+") then Some Plus
    else (if bytes_eq word (codes "-") then Some Minus else None)

unfoldable pub relation_of : List ℕ → Option Relation
relation_of word =
    if bytes_eq word (codes "<") then Some Below
    else (if bytes_eq word (codes "<=") then Some AtMost
    else (if bytes_eq word (codes "=") then Some Same
    else (if bytes_eq word (codes "!=") then Some Differs
    else (if bytes_eq word (codes ">=") then Some AtLeast
    else (if bytes_eq word (codes ">") then Some Above else None)))))

-- the hop has room for one more action
abbrev pub room : PlainScope → Option (Unit {0})
room scope = only_if (nat_lt scope.actions MAX_ACTIONS) tt

-- a literal key is at the hop's server
abbrev pub home : PlainScope → ℕ → Key → Option (Unit {0})
home scope table key = only_if (is_home scope.shards scope.server table key) tt

-- an action that binds a name
abbrev pub binding : List ℕ → Action → ActionLine
binding name action = record { action = action; binds = Some name }

-- and one that binds none
abbrev pub plain : Action → ActionLine
plain action = record { action = action; binds = None }

-- NAME TABLE KEY
unfoldable pub get_of : PlainScope → List (List ℕ) → Option ActionLine
get_of scope (name ∷ table ∷ key ∷ []) = do
  ok ← room scope
  n ← new_name scope.names name
  t ← table_of scope.tables table
  k ← read_key scope.names scope.parameters key
  at ← home scope t k
  Some (binding n (Get t k))
get_of scope words = None

-- TABLE KEY VALUE
unfoldable pub change_of : PlainScope → List (List ℕ) → Option (ℕ × Key × Operand)
change_of scope (table ∷ key ∷ value ∷ []) = do
  ok ← room scope
  t ← table_of scope.tables table
  k ← read_key scope.names scope.parameters key
  v ← operand_of scope.names value
  at ← home scope t k
  Some (t, k, v)
change_of scope words = None

-- NAME VALUE OPERATOR VALUE
unfoldable pub let_of : PlainScope → List (List ℕ) → Option ActionLine
let_of scope (name ∷ left ∷ operator ∷ right ∷ []) = do
  o ← operator_of operator
  ok ← room scope
  n ← new_name scope.names name
  l ← operand_of scope.names left
  r ← operand_of scope.names right
  Some (binding n (Let l o r))
let_of scope words = None

-- VALUE RELATION VALUE
unfoldable pub need_of : PlainScope → List (List ℕ) → Option ActionLine
need_of scope (left ∷ relation ∷ right ∷ []) = do
  o ← relation_of relation
  first ← only_if {X = Unit {0}} scope.is_first tt
  ok ← room scope
  l ← operand_of scope.names left
  r ← operand_of scope.names right
  Some (plain (Need l o r))
need_of scope words = None

-- `max`, where the version has it
abbrev pub max_in : Version → Option TheUpdate
max_in One = None
max_in Two = Some Max

-- what changes a cell
unfoldable pub update_named : Version → List ℕ → Option TheUpdate
update_named version word =
    if bytes_eq word (codes "set") then Some SetTo
    else (if bytes_eq word (codes "add") then Some Add
    else (if bytes_eq word (codes "sub") then Some Sub
    else (if bytes_eq word (codes "max") then max_in version else None)))

-- an action that changes a cell
abbrev pub changing : TheUpdate → ℕ × Key × Operand → ActionLine
changing update change = plain (Update update change.0 change.1 change.2)

-- UPDATE TABLE KEY VALUE
unfoldable pub update_of : PlainScope → List ℕ → List (List ℕ) → Option ActionLine
update_of scope verb words = do
  update ← update_named scope.version verb
  change ← change_of scope words
  Some (changing update change)

-- the words of an action's line
unfoldable pub action_of : PlainScope → List (List ℕ) → Option ActionLine
action_of scope [] = None
action_of scope (verb ∷ words) =
    if bytes_eq verb (codes "get") then get_of scope words
    else (if bytes_eq verb (codes "let") then let_of scope words
    else (if bytes_eq verb (codes "need") then need_of scope words else update_of scope verb words))
