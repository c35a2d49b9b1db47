-- Hops and their actions: what is spelled so is read.
use Rattle.std.proofs.Common.{◌≡◌, not, ℕ, zero, suc, ◌+◌, ◌<◌, ◌≤◌, Bool, true, false, cond, ◌&&◌, List, [], ◌∷◌, ◌++◌, length, Option, Some, None, refl, sym, ap, subst, ◌∙◌, append_assoc, arith}
use Rattle.std.specs.Prelude.{codes}
use Rattle.std.specs.Str.{bytes_eq}
use Rattle.std.proofs.lemmas.List.{append-nil, length-append}
use Rattle.lynx_set.specs.declared.action.Action.{Action}
use Rattle.lynx_set.specs.declared.action.Action.TheVariants.{Get, Update, Let, Need}
use Rattle.lynx_set.specs.declared.action.Update.{Update as TheUpdate}
use Rattle.lynx_set.specs.declared.action.Update.TheVariants.{Set as SetTo, Add, Sub, Max}
use Rattle.lynx_text.specs.declared.action_line.ActionLine.{ActionLine}
use Rattle.lynx_lex.specs.Lines.{◌>>=◌, words_in, AreWords, joined}
use Rattle.lynx_text.specs.Pieces.{until, next_piece, next_words, begins}
use Rattle.lynx_set.specs.Scopes.{scope_in}
use Rattle.lynx_text.specs.Parts.{parts, with_name, next_action, goes_action}
use Rattle.lynx_set.specs.Plain.{PlainProgram, PlainSet}
use Rattle.lynx_set.specs.Scopes.{PlainScope}
use Rattle.lynx_text.specs.Reading.{action_of}
use Rattle.lynx_set.specs.Rules.{bound, BindsNew, FitsAction, next_scope, FitActions}
use Rattle.lynx_set.specs.Text.{name_at, key_word, operand_word, operator_word, relation_word, bound_names, action_words, action_lines}
use Rattle.lynx_text.proofs.PieceLaws.{first_piece}
use Rattle.lynx_lex.proofs.LineLaws.{split-joined, words_again}
use Rattle.lynx_text.proofs.Known.{bind_is, Known, one_known}
use Rattle.lynx_text.proofs.ActionsAgain.{IsOpen, action_again}
use Rattle.lynx_text.proofs.Hops.{raw, scope_next, binds-count, names_over}

-- something is left of a text, if only its end
pub record IsMore (rest : List (List ℕ)) : Type 0 where
  pub first : List ℕ
  pub others : List (List ℕ)
  pub is : rest ≡ first ∷ others

pub more_behind : (lines : List (List (List ℕ))) (rest : List (List ℕ)) → IsMore rest → IsMore (raw lines ++ rest)
more_behind [] rest more = more
more_behind (line ∷ lines) rest more = record { first = joined line; others = raw lines ++ rest; is = refl }

pub next_words_again : (words : List (List ℕ)) (rest : List (List ℕ)) → AreWords words → IsMore rest → next_words (joined words ∷ rest) ≡ Some (words, rest)
next_words_again words rest are more =
    bind_is (next_piece (joined words ∷ rest)) (λ n. words_in n.0 >>= λ w. Some (w, n.1)) (joined words, rest) (Some (words, rest))
    (ap (λ r. next_piece (joined words ∷ r)) more.is ∙ ap (λ r. Some (joined words, r)) (sym more.is))
    (bind_is (words_in (joined words)) (λ w. Some (w, rest)) words (Some (words, rest)) (words_again words are) refl)

cons_head : {X : Type 0} (a b : X) (xs ys : List X) → a ∷ xs ≡ b ∷ ys → a ≡ b
cons_head a b xs ys e = cc

-- the first word of a line
pub begins_again : (word : List ℕ) (words : List (List ℕ)) (rest : List (List ℕ)) (wanted : List ℕ) → AreWords (word ∷ words) → begins (joined (word ∷ words) ∷ rest) wanted ≡ bytes_eq word wanted
begins_again word words rest wanted are =
    let piece = first_piece 32 (joined (word ∷ words)) in
    ap (λ w. bytes_eq w wanted) (cons_head (until (joined (word ∷ words)) 32) word piece.0 words (sym piece.1 ∙ split-joined (word ∷ words) are.0 are.1))

-- ---- loops

pub parts_stop : {S : Type 0} (goes : List (List ℕ) → Bool) (part : S → List (List ℕ) → Option (S × List (List ℕ))) (room : ℕ) (s : S) (lines : List (List ℕ)) → goes lines ≡ false → parts goes part room s lines ≡ Some (s, lines)
unfolding parts
parts_stop goes part zero s lines stops = ap (λ b. cond b None (Some (s, lines))) stops
parts_stop goes part (suc room) s lines stops = ap (λ b. cond b (part s lines >>= λ r. parts goes part room r.0 r.1) (Some (s, lines))) stops

pub parts_step : {S : Type 0} (goes : List (List ℕ) → Bool) (part : S → List (List ℕ) → Option (S × List (List ℕ))) (room : ℕ) (s next : S) (lines rest : List (List ℕ))
    → goes lines ≡ true → part s lines ≡ Some (next, rest) → parts goes part (suc room) s lines ≡ parts goes part room next rest
unfolding parts
parts_step goes part room s next lines rest goes_on read =
    ap (λ b. cond b (part s lines >>= λ r. parts goes part room r.0 r.1) (Some (s, lines))) goes_on ∙ ap (λ r. r >>= λ x. parts goes part room x.0 x.1) read

-- ---- actions

goes_verb : (verb : List ℕ) (words : List (List ℕ)) (rest : List (List ℕ)) → AreWords (verb ∷ words) → bytes_eq verb (codes "hop") ≡ false → bytes_eq verb (codes "end") ≡ false → goes_action (joined (verb ∷ words) ∷ rest) ≡ true
goes_verb verb words rest are no_hop no_end =
    ap (λ b. not b && not (begins (joined (verb ∷ words) ∷ rest) (codes "end"))) (begins_again verb words rest (codes "hop") are ∙ no_hop)
    ∙ ap not (begins_again verb words rest (codes "end") are ∙ no_end)

goes_line : (tables names : List (List ℕ)) (scope : ℕ) (action : Action) (rest : List (List ℕ)) → AreWords (action_words tables names scope action) → goes_action (joined (action_words tables names scope action) ∷ rest) ≡ true
goes_line tables names scope (Get table key) rest are = goes_verb (codes "get") (name_at names scope ∷ name_at tables table ∷ key_word names key ∷ []) rest are refl refl
goes_line tables names scope (Update SetTo table key value) rest are = goes_verb (codes "set") (name_at tables table ∷ key_word names key ∷ operand_word names value ∷ []) rest are refl refl
goes_line tables names scope (Update Add table key value) rest are = goes_verb (codes "add") (name_at tables table ∷ key_word names key ∷ operand_word names value ∷ []) rest are refl refl
goes_line tables names scope (Update Sub table key value) rest are = goes_verb (codes "sub") (name_at tables table ∷ key_word names key ∷ operand_word names value ∷ []) rest are refl refl
goes_line tables names scope (Update Max table key value) rest are = goes_verb (codes "max") (name_at tables table ∷ key_word names key ∷ operand_word names value ∷ []) rest are refl refl
goes_line tables names scope (Let left operator right) rest are = goes_verb (codes "let") (name_at names scope ∷ operand_word names left ∷ operator_word operator ∷ operand_word names right ∷ []) rest are refl refl
goes_line tables names scope (Need left relation right) rest are = goes_verb (codes "need") (operand_word names left ∷ relation_word relation ∷ operand_word names right ∷ []) rest are refl refl

-- the next action's scope is open too
known_next : (scope : PlainScope) (action : Action) (binds : Option (List ℕ)) → Known scope.names → BindsNew scope action binds → Known (scope.names ++ bound binds)
known_next scope action None known new = subst Known (sym (append-nil scope.names)) known
known_next scope (Get table key) (Some name) known new = one_known scope.names name known new
known_next scope (Let left operator right) (Some name) known new = one_known scope.names name known new
known_next scope (Update update table key value) (Some name) known new = absurd new
known_next scope (Need left relation right) (Some name) known new = absurd new

pub open_next : (scope : PlainScope) (action : Action) (binds : Option (List ℕ)) → IsOpen scope → BindsNew scope action binds → IsOpen (next_scope scope binds)
open_next scope action binds open_ new = record {
  names = known_next scope action binds open_.names new;
  tables = open_.tables;
  few = omega (arith, open_.few, length-append scope.names (bound binds));
}

-- the names that actions leave begin with those that were known
pub grown_names : (scope : PlainScope) (actions : List Action) (after : List (List ℕ)) → FitActions scope actions after → (more : List (List ℕ)) × (after ≡ scope.names ++ more)
grown_names scope [] after fit = ([], sym fit ∙ sym (append-nil scope.names))
grown_names scope (action ∷ actions) after fit =
    let later = grown_names (next_scope scope fit.2) actions after fit.4 in
    (bound fit.2 ++ later.0, later.1 ∙ append_assoc scope.names (bound fit.2) later.0)

pub few_actions : (scope : PlainScope) (actions : List Action) (after : List (List ℕ)) → FitActions scope actions after → scope.actions ≤ 16 → scope.actions + length actions ≤ 16
few_actions scope [] after fit few = omega arith
few_actions scope (action ∷ actions) after fit few = omega (arith, few_actions (next_scope scope fit.2) actions after fit.4 (omega (arith, fit.0)))

-- all names are known at the end
pub known_after : (scope : PlainScope) (actions : List Action) (after : List (List ℕ)) → FitActions scope actions after → Known scope.names → Known after
known_after scope [] after fit known = subst Known fit known
known_after scope (action ∷ actions) after fit known = known_after (next_scope scope fit.2) actions after fit.4 (known_next scope action fit.2 known fit.3)

-- one action
pub one_again : (set : PlainSet) (server : ℕ) (program : PlainProgram) (before : List Action) (action : Action) (binds : Option (List ℕ)) (more rest : List (List ℕ))
    → IsOpen (scope_in set server program before) → length before < 16 → FitsAction (scope_in set server program before) action → BindsNew (scope_in set server program before) action binds → IsMore rest
    → (next_action set server (program, before) (joined (action_words set.tables (program.names ++ (bound binds ++ more)) (length program.names) action) ∷ rest) ≡ Some ((with_name program binds, before ++ action ∷ []), rest))
    × (goes_action (joined (action_words set.tables (program.names ++ (bound binds ++ more)) (length program.names) action) ∷ rest) ≡ true)
unfolding next_action
one_again set server program before action binds more rest open_ free fits new left =
    let scope = scope_in set server program before in
    let words = action_words set.tables (program.names ++ (bound binds ++ more)) (length program.names) action in
    let line : ActionLine = record { action = action; binds = binds } in
    let is = action_again scope action binds more open_ free fits new in (
      bind_is (next_words (joined words ∷ rest)) (λ w. action_of scope w.0 >>= λ l. Some ((with_name program l.binds, before ++ l.action ∷ []), w.1)) (words, rest) (Some ((with_name program binds, before ++ action ∷ []), rest))
          (next_words_again words rest is.are left)
          (bind_is (action_of scope words) (λ l. Some ((with_name program l.binds, before ++ l.action ∷ []), rest)) line (Some ((with_name program binds, before ++ action ∷ []), rest)) is.read refl),
      goes_line set.tables (program.names ++ (bound binds ++ more)) (length program.names) action rest is.are,
    )

pub names_with : (program : PlainProgram) (binds : Option (List ℕ)) → (with_name program binds).names ≡ program.names ++ bound binds
names_with program None = sym (append-nil program.names)
names_with program (Some name) = refl

-- the actions that are left of a hop
pub actions_again : (set : PlainSet) (server : ℕ) (program : PlainProgram) (before actions : List Action) (after later : List (List ℕ)) (room : ℕ) (rest : List (List ℕ))
    → FitActions (scope_in set server program before) actions after → IsOpen (scope_in set server program before) → length actions ≤ room → IsMore rest → goes_action rest ≡ false
    → parts goes_action (next_action set server) room (program, before) (raw (action_lines set.tables (after ++ later) (length program.names) actions) ++ rest) ≡ Some ((record program { names = after }, before ++ actions), rest)
actions_again set server program before [] after later room rest fit open_ few left stops =
    let start : PlainProgram × List Action = (program, before) in
    parts_stop goes_action (next_action set server) room start rest stops
    ∙ ap (λ (names : List (List ℕ)). let p : PlainProgram × List Action = (record program { names = names }, before) in Some (p, rest)) fit
    ∙ ap (λ (actions : List Action). let p : PlainProgram × List Action = (record program { names = after }, actions) in Some (p, rest)) (sym (append-nil before))
actions_again set server program before (action ∷ actions) after later zero rest fit open_ few left stops = absurd (omega arith)
actions_again set server program before (action ∷ actions) after later (suc room) rest fit open_ few left stops =
    let scope = scope_in set server program before in
    let binds = fit.2 in
    let grown = grown_names (next_scope scope binds) actions after fit.4 in
    let whole : after ++ later ≡ program.names ++ (bound binds ++ (grown.0 ++ later)) =
    ap (λ a. a ++ later) grown.1 ∙ append_assoc (program.names ++ bound binds) grown.0 later ∙ append_assoc program.names (bound binds) (grown.0 ++ later) in
    let tail : List (List ℕ) = raw (action_lines set.tables (after ++ later) (length program.names + bound_names action) actions) ++ rest in
    let one = one_again set server program before action binds (grown.0 ++ later) tail open_ fit.0 fit.1 fit.3 (more_behind (action_lines set.tables (after ++ later) (length program.names + bound_names action) actions) rest left) in
    let next : PlainProgram × List Action = (with_name program binds, before ++ action ∷ []) in
    let same_scope = scope_next set server program before action binds in
    let count : length (with_name program binds).names ≡ length program.names + bound_names action =
    ap length (names_with program binds) ∙ length-append program.names (bound binds) ∙ ap (λ n. length program.names + n) (binds-count scope action binds fit.3) in
    ap (λ ns. parts goes_action (next_action set server) (suc room) (program, before) (joined (action_words set.tables ns (length program.names) action) ∷ tail)) whole
    ∙ parts_step goes_action (next_action set server) room (program, before) next (joined (action_words set.tables (program.names ++ (bound binds ++ (grown.0 ++ later))) (length program.names) action) ∷ tail) tail one.1 one.0
    ∙ ap (λ n. parts goes_action (next_action set server) room next (raw (action_lines set.tables (after ++ later) n actions) ++ rest)) (sym count)
    ∙ actions_again set server (with_name program binds) (before ++ action ∷ []) actions after later room rest
    (subst (λ (p : PlainScope). FitActions p actions after) (sym same_scope) fit.4) (subst IsOpen (sym same_scope) (open_next scope action binds open_ fit.3)) (omega arith) left stops
    ∙ ap (λ (p : PlainProgram). let o : PlainProgram × List Action = (p, (before ++ action ∷ []) ++ actions) in Some (o, rest)) (names_over program binds after)
    ∙ ap (λ (a : List Action). let o : PlainProgram × List Action = (record program { names = after }, a) in Some (o, rest)) (append_assoc before (action ∷ []) actions)
