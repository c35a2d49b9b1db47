-- Hops and their actions: what is read is spelled so.
use Rattle.std.proofs.Common.{◌≡◌, inl, inr, ℕ, zero, suc, ◌+◌, ◌-◌, ◌<◌, ltb, List, [], ◌∷◌, ◌++◌, map, length, Option, Some, None, refl, sym, ap, subst, ◌∙◌, append_assoc, arith}
use Rattle.std.specs.Prelude.{codes, decimal, ◌==◌}
use Rattle.std.specs.Str.{bytes_eq}
use Rattle.std.proofs.lemmas.Bool.{ltb-true}
use Rattle.std.proofs.lemmas.List.{append-nil, length-append, length_push, map-append}
use Rattle.std.proofs.lemmas.Slice.Eq.{bytes_eq-Decides}
use Rattle.lynx_set.specs.declared.action.Action.{Action}
use Rattle.lynx_set.specs.declared.action.Action.TheVariants.{Get, Update, Let, Need}
use Rattle.lynx_text.specs.declared.action_line.ActionLine.{ActionLine}
use Rattle.lynx_lex.specs.Digits.{read_number}
use Rattle.lynx_lex.specs.Lines.{◌>>=◌, words_in, AreWords, only_if, joined}
use Rattle.lynx_text.specs.Pieces.{next_piece, next_words, one_after}
use Rattle.lynx_set.specs.Scopes.{scope_in}
use Rattle.lynx_text.specs.Parts.{parts, with_name, next_action, goes_action, hop_line, next_hop, goes_hop}
use Rattle.lynx_set.specs.Plain.{PlainHop, PlainProgram, PlainSet}
use Rattle.lynx_set.specs.Scopes.{PlainScope}
use Rattle.lynx_text.specs.Reading.{action_of}
use Rattle.lynx_set.specs.Rules.{bound, BindsNew, next_scope, FitActions, FitHops, with_hop}
use Rattle.lynx_set.specs.Text.{bound_names, bound_in, action_words, action_lines}
use Rattle.lynx_lex.proofs.NumberLaws.{number_takes}
use Rattle.lynx_lex.proofs.LineLaws.{words_take}
use Rattle.lynx_text.proofs.Lookups.{bind_some, only_if_some, choose, both, both_is}
use Rattle.lynx_text.proofs.Actions.{IsLine, action_take}
use Rattle.lynx_lex.proofs.Equal.{none_some}

-- lines as they stand in the text, without their line feeds
abbrev pub raw : List (List (List ℕ)) → List (List ℕ)
raw lines = map joined lines

-- the next line is these words
pub record IsNext (lines : List (List ℕ)) (words : List (List ℕ)) (rest : List (List ℕ)) : Type 0 where
  pub are : AreWords words
  pub spelled : lines ≡ joined words ∷ rest

next_take : (lines : List (List ℕ)) (line : List ℕ) (rest : List (List ℕ)) → next_piece lines ≡ Some (line, rest) → lines ≡ line ∷ rest
next_take [] line rest e = absurd cc
next_take (a ∷ []) line rest e = absurd cc
next_take (a ∷ b ∷ ls) line rest e = let p = both_is a line (b ∷ ls) rest e in ap (λ l. l ∷ b ∷ ls) p.0 ∙ ap (λ r. line ∷ r) p.1

pub next_words_take : (lines : List (List ℕ)) (words : List (List ℕ)) (rest : List (List ℕ)) → next_words lines ≡ Some (words, rest) → IsNext lines words rest
next_words_take lines words rest e =
    let next = bind_some (next_piece lines) (λ n. words_in n.0 >>= λ w. Some (w, n.1)) (words, rest) e in
    let read = bind_some (words_in next.0.0) (λ w. Some (w, next.0.1)) (words, rest) next.2 in
    let pair = both_is read.0 words next.0.1 rest read.2 in
    let taken = words_take next.0.0 read.0 read.1 in
    record {
      are = subst AreWords pair.0 taken.0;
      spelled = next_take lines next.0.0 next.0.1 next.1 ∙ ap (λ l. l ∷ next.0.1) (taken.1 ∙ ap joined pair.0) ∙ ap (λ r. joined words ∷ r) pair.1;
    }

-- these actions were read, after which these names are known
pub record ActionsRead (scope : PlainScope) (lines : List (List ℕ)) (added : List Action) (after : List (List ℕ)) (rest : List (List ℕ)) : Type 0 where
  pub fit : FitActions scope added after
  pub more : List (List ℕ)
  pub grown : after ≡ scope.names ++ more
  pub spelled : (later : List (List ℕ)) → lines ≡ raw (action_lines scope.tables (after ++ later) (length scope.names) added) ++ rest

-- none
none_read : (scope : PlainScope) (lines : List (List ℕ)) → ActionsRead scope lines [] scope.names lines
none_read scope lines = record { fit = refl; more = []; grown = sym (append-nil scope.names); spelled = λ later. refl }

pub binds-count : (scope : PlainScope) (action : Action) (binds : Option (List ℕ)) → BindsNew scope action binds → length (bound binds) ≡ bound_names action
binds-count scope (Get table key) None h = absurd h
binds-count scope (Get table key) (Some name) h = refl
binds-count scope (Update update table key value) None h = refl
binds-count scope (Update update table key value) (Some name) h = absurd h
binds-count scope (Let left operator right) None h = absurd h
binds-count scope (Let left operator right) (Some name) h = refl
binds-count scope (Need left relation right) None h = refl
binds-count scope (Need left relation right) (Some name) h = absurd h

-- one more before them
one_read : (scope : PlainScope) (line : ActionLine) (words : List (List ℕ)) (lines mid : List (List ℕ)) (added : List Action) (after rest : List (List ℕ))
    → IsLine scope line words → IsNext lines words mid → ActionsRead (next_scope scope line.binds) mid added after rest → ActionsRead scope lines (line.action ∷ added) after rest
one_read scope line words lines mid added after rest is next read =
    let names : List (List ℕ) = scope.names ++ bound line.binds in
    let whole : (later : List (List ℕ)) → after ++ later ≡ scope.names ++ (bound line.binds ++ (read.more ++ later)) =
    λ later. ap (λ a. a ++ later) read.grown ∙ append_assoc names read.more later ∙ append_assoc scope.names (bound line.binds) (read.more ++ later) in
    let count : length names ≡ length scope.names + bound_names line.action =
    length-append scope.names (bound line.binds) ∙ ap (λ n. length scope.names + n) (binds-count scope line.action line.binds is.binds) in
    record {
      fit = (is.room, is.fits, line.binds, is.binds, read.fit);
      more = bound line.binds ++ read.more;
      grown = read.grown ∙ append_assoc scope.names (bound line.binds) read.more;
      spelled = λ later.
          next.spelled
          ∙ ap (λ w. joined w ∷ mid) (is.spelled (read.more ++ later) ∙ ap (λ ns. action_words scope.tables ns (length scope.names) line.action) (sym (whole later)))
          ∙ ap (λ m. joined (action_words scope.tables (after ++ later) (length scope.names) line.action) ∷ m)
          (read.spelled later ∙ ap (λ n. raw (action_lines scope.tables (after ++ later) n added) ++ rest) count);
    }

-- the scope after an action
pub scope_next : (set : PlainSet) (server : ℕ) (program : PlainProgram) (actions : List Action) (action : Action) (binds : Option (List ℕ))
    → scope_in set server (with_name program binds) (actions ++ action ∷ []) ≡ next_scope (scope_in set server program actions) binds
scope_next set server program actions action None =
    let mk : List (List ℕ) → ℕ → PlainScope = λ ns n. record { version = set.version; tables = set.tables; shards = set.shards; parameters = program.parameters; names = ns; is_first = length program.hops == 0; server = server; actions = n } in
    ap (λ (ns : List (List ℕ)). mk ns (length (actions ++ action ∷ []))) (sym (append-nil program.names)) ∙ ap (mk (program.names ++ [])) (length_push actions action)
scope_next set server program actions action (Some name) =
    let mk : List (List ℕ) → ℕ → PlainScope = λ ns n. record { version = set.version; tables = set.tables; shards = set.shards; parameters = program.parameters; names = ns; is_first = length program.hops == 0; server = server; actions = n } in
    ap (mk (program.names ++ name ∷ [])) (length_push actions action)

-- what an action's line leaves
pub record ActionRead (set : PlainSet) (server : ℕ) (program : PlainProgram) (actions : List Action) (lines : List (List ℕ)) (out : PlainProgram × List Action) (rest : List (List ℕ)) : Type 0 where
  pub line : ActionLine
  pub words : List (List ℕ)
  pub is : IsLine (scope_in set server program actions) line words
  pub next : IsNext lines words rest
  pub leaves : out ≡ (with_name program line.binds, actions ++ line.action ∷ [])

next_action_take : (set : PlainSet) (server : ℕ) (program : PlainProgram) (actions : List Action) (lines : List (List ℕ)) (out : PlainProgram × List Action) (rest : List (List ℕ))
    → next_action set server (program, actions) lines ≡ Some (out, rest) → ActionRead set server program actions lines out rest
unfolding next_action
next_action_take set server program actions lines out rest e =
    let scope = scope_in set server program actions in
    let words = bind_some (next_words lines) (λ w. action_of scope w.0 >>= λ l. Some ((with_name program l.binds, actions ++ l.action ∷ []), w.1)) (out, rest) e in
    let line = bind_some (action_of scope words.0.0) (λ l. Some ((with_name program l.binds, actions ++ l.action ∷ []), words.0.1)) (out, rest) words.2 in
    let made : PlainProgram × List Action = (with_name program line.0.binds, actions ++ line.0.action ∷ []) in
    let same = both_is made out words.0.1 rest line.2 in
    let next = next_words_take lines words.0.0 words.0.1 words.1 in
    record {
      line = line.0;
      words = words.0.0;
      is = action_take scope words.0.0 line.0 line.1;
      next = subst (λ (r : List (List ℕ)). IsNext lines words.0.0 r) same.1 next;
      leaves = sym same.0;
    }

-- what the actions of a hop leave
pub record ActionsLeft (set : PlainSet) (server : ℕ) (program : PlainProgram) (actions : List Action) (lines : List (List ℕ)) (out : PlainProgram × List Action) (rest : List (List ℕ)) : Type 0 where
  pub added : List Action
  pub names : List (List ℕ)
  pub read : ActionsRead (scope_in set server program actions) lines added names rest
  pub leaves : out ≡ (record program { names = names }, actions ++ added)

pub names_over : (program : PlainProgram) (binds : Option (List ℕ)) (names : List (List ℕ)) → record (with_name program binds) { names = names } ≡ record program { names = names }
names_over program None names = refl
names_over program (Some name) names = refl

-- one action and those after it
abbrev more_left : (set : PlainSet) (server : ℕ) (program : PlainProgram) (actions : List Action) (lines mid : List (List ℕ)) (next out : PlainProgram × List Action) (rest : List (List ℕ))
    → ActionRead set server program actions lines next mid → ActionsLeft set server next.0 next.1 mid out rest → ActionsLeft set server program actions lines out rest
more_left set server program actions lines mid next out rest first later =
    let moved = subst (λ (n : PlainProgram × List Action). ActionsLeft set server n.0 n.1 mid out rest) first.leaves later in
    let read = subst (λ (p : PlainScope). ActionsRead p mid moved.added moved.names rest) (scope_next set server program actions first.line.action first.line.binds) moved.read in
    record {
      added = first.line.action ∷ moved.added;
      names = moved.names;
      read = one_read (scope_in set server program actions) first.line first.words lines mid moved.added moved.names rest first.is first.next read;
      leaves = moved.leaves
          ∙ ap (λ (p : PlainProgram). let o : PlainProgram × List Action = (p, (actions ++ first.line.action ∷ []) ++ moved.added) in o) (names_over program first.line.binds moved.names)
          ∙ ap (λ (a : List Action). let o : PlainProgram × List Action = (record program { names = moved.names }, a) in o) (append_assoc actions (first.line.action ∷ []) moved.added);
    }

none_left : (set : PlainSet) (server : ℕ) (program : PlainProgram) (actions : List Action) (lines : List (List ℕ)) (out : PlainProgram × List Action) (rest : List (List ℕ))
    → both (program, actions) lines ≡ both out rest → ActionsLeft set server program actions lines out rest
none_left set server program actions lines out rest e =
    let start : PlainProgram × List Action = (program, actions) in
    let same = both_is start out lines rest e in
    record {
      added = [];
      names = program.names;
      read = subst (λ (r : List (List ℕ)). ActionsRead (scope_in set server program actions) lines [] program.names r) same.1 (none_read (scope_in set server program actions) lines);
      leaves = sym same.0 ∙ ap (λ (a : List Action). let o : PlainProgram × List Action = (program, a) in o) (sym (append-nil actions));
    }

actions_take : (room : ℕ) (set : PlainSet) (server : ℕ) (program : PlainProgram) (actions : List Action) (lines : List (List ℕ)) (out : PlainProgram × List Action) (rest : List (List ℕ))
    → parts goes_action (next_action set server) room (program, actions) lines ≡ Some (out, rest) → ActionsLeft set server program actions lines out rest
unfolding parts
actions_take zero set server program actions lines out rest e =
    elim (choose (goes_action lines) None (Some ((program, actions), lines)) (Some (out, rest)) e) [
      | inl p ↦ absurd (none_some p.1)
      | inr p ↦ none_left set server program actions lines out rest p.1
    ]
actions_take (suc room) set server program actions lines out rest e =
    elim (choose (goes_action lines) (next_action set server (program, actions) lines >>= λ n. parts goes_action (next_action set server) room n.0 n.1) (Some ((program, actions), lines)) (Some (out, rest)) e) [
      | inl p ↦
          let step = bind_some (next_action set server (program, actions) lines) (λ n. parts goes_action (next_action set server) room n.0 n.1) (out, rest) p.1 in
          more_left set server program actions lines step.0.1 step.0.0 out rest (next_action_take set server program actions lines step.0.0 step.0.1 step.1)
          (actions_take room set server step.0.0.0 step.0.0.1 step.0.1 out rest step.2)
      | inr p ↦ none_left set server program actions lines out rest p.1
    ]

-- the two words of a line
one_after_take : (first : List ℕ) (words : List (List ℕ)) (word : List ℕ) → one_after first words ≡ Some word → words ≡ first ∷ word ∷ []
one_after_take first [] word e = absurd cc
one_after_take first (a ∷ []) word e = absurd cc
one_after_take first (a ∷ b ∷ []) word e =
    let test = only_if_some (bytes_eq a first) b word e in
    ap (λ x. x ∷ b ∷ []) ((bytes_eq-Decides a first).0 test.0) ∙ ap (λ x. first ∷ x ∷ []) test.1
one_after_take first (a ∷ b ∷ c ∷ words) word e = absurd cc

pub one_take : (first : List ℕ) (words : List (List ℕ)) (word : List ℕ) → one_after first words ≡ Some word → words ≡ first ∷ word ∷ []
one_take first words word e = one_after_take first words word e

hop_line_take : (servers hops : ℕ) (words : List (List ℕ)) (server : ℕ) → hop_line servers hops words ≡ Some server → (hops < 8) × (server < servers) × (words ≡ codes "hop" ∷ decimal server ∷ [])
unfolding hop_line
hop_line_take servers hops words server e =
    let word = bind_some (one_after (codes "hop") words) (λ w. only_if {X = Unit {0}} (ltb hops 8) tt >>= λ ok. read_number w >>= λ n. only_if (ltb n servers) n) server e in
    let room = bind_some (only_if {X = Unit {0}} (ltb hops 8) tt) (λ ok. read_number word.0 >>= λ n. only_if (ltb n servers) n) server word.2 in
    let number = bind_some (read_number word.0) (λ n. only_if (ltb n servers) n) server room.2 in
    let test = only_if_some (ltb number.0 servers) number.0 server number.2 in
    let below : number.0 < servers = ltb-true _ _ test.0 in (
      ltb-true _ _ (only_if_some (ltb hops 8) tt room.0 room.1).0,
      omega (arith, test.1),
      one_take (codes "hop") words word.0 word.1 ∙ ap (λ w. codes "hop" ∷ w ∷ []) ((number_takes word.0 number.0 number.1).0 ∙ ap decimal test.1),
    )

-- what a hop's lines leave
pub record HopRead (set : PlainSet) (program : PlainProgram) (lines : List (List ℕ)) (out : PlainProgram) (rest : List (List ℕ)) : Type 0 where
  pub hop : PlainHop
  pub names : List (List ℕ)
  pub few : length program.hops < 8
  pub known : hop.server < set.servers
  pub some : 0 < length hop.actions
  pub fit : FitActions (scope_in set hop.server program []) hop.actions names
  pub more : List (List ℕ)
  pub grown : names ≡ program.names ++ more
  pub leaves : out ≡ with_hop program hop names
  pub spelled : (later : List (List ℕ)) → lines ≡ raw ((codes "hop" ∷ decimal hop.server ∷ []) ∷ action_lines set.tables (names ++ later) (length program.names) hop.actions) ++ rest

pub next_hop_take : (set : PlainSet) (program : PlainProgram) (lines : List (List ℕ)) (out : PlainProgram) (rest : List (List ℕ)) → next_hop set program lines ≡ Some (out, rest) → HopRead set program lines out rest
unfolding next_hop
next_hop_take set program lines out rest e =
    let done : ℕ → (PlainProgram × List Action) × List (List ℕ) → Option (PlainProgram × List (List ℕ)) = λ s r. Some (record r.0.0 { hops = r.0.0.hops ++ (record { server = s; actions = r.0.1 }) ∷ [] }, r.1) in
    let words = bind_some (next_words lines) (λ w. hop_line set.servers (length program.hops) w.0 >>= λ s. next_action set s (program, []) w.1 >>= λ f. parts goes_action (next_action set s) (16 - length f.0.1) f.0 f.1 >>= done s) (out, rest) e in
    let server = bind_some (hop_line set.servers (length program.hops) words.0.0) (λ s. next_action set s (program, []) words.0.1 >>= λ f. parts goes_action (next_action set s) (16 - length f.0.1) f.0 f.1 >>= done s) (out, rest) words.2 in
    let first = bind_some (next_action set server.0 (program, []) words.0.1) (λ f. parts goes_action (next_action set server.0) (16 - length f.0.1) f.0 f.1 >>= done server.0) (out, rest) server.2 in
    let later = bind_some (parts goes_action (next_action set server.0) (16 - length first.0.0.1) first.0.0 first.0.1) (done server.0) (out, rest) first.2 in
    let head = next_words_take lines words.0.0 words.0.1 words.1 in
    let line = hop_line_take set.servers (length program.hops) words.0.0 server.0 server.1 in
    let one = next_action_take set server.0 program [] words.0.1 first.0.0 first.0.1 first.1 in
    let others = actions_take (16 - length first.0.0.1) set server.0 first.0.0.0 first.0.0.1 first.0.1 later.0.0 later.0.1 later.1 in
    let moved = subst (λ (n : PlainProgram × List Action). ActionsLeft set server.0 n.0 n.1 first.0.1 later.0.0 later.0.1) one.leaves others in
    let left = more_left set server.0 program [] words.0.1 first.0.1 first.0.0 later.0.0 later.0.1 one others in
    let same = both_is (record later.0.0.0 { hops = later.0.0.0.hops ++ (record { server = server.0; actions = later.0.0.1 }) ∷ [] }) out later.0.1 rest later.2 in
    let read = subst (λ (r : List (List ℕ)). ActionsRead (scope_in set server.0 program []) words.0.1 left.added left.names r) same.1 left.read in
    record {
      hop = record { server = server.0; actions = left.added };
      names = left.names;
      few = line.0;
      known = line.1;
      some = omega arith;
      fit = read.fit;
      more = read.more;
      grown = read.grown;
      leaves = sym same.0 ∙ ap (λ (o : PlainProgram × List Action). let p : PlainProgram = record o.0 { hops = o.0.hops ++ (record { server = server.0; actions = o.1 }) ∷ [] } in p) left.leaves;
      spelled = λ more. head.spelled ∙ ap (λ w. joined w ∷ words.0.1) line.2 ∙ ap (λ ls. joined (codes "hop" ∷ decimal server.0 ∷ []) ∷ ls) (read.spelled more);
    }

-- the lines of hops
abbrev pub lines_of_hops : List (List ℕ) → List (List ℕ) → ℕ → List PlainHop → List (List (List ℕ))
lines_of_hops tables names scope [] = []
lines_of_hops tables names scope (hop ∷ hops) =
    ((codes "hop" ∷ decimal hop.server ∷ []) ∷ action_lines tables names scope hop.actions) ++ lines_of_hops tables names (scope + bound_in hop.actions) hops

-- what the hops of a program leave
pub record HopsLeft (set : PlainSet) (program : PlainProgram) (lines : List (List ℕ)) (out : PlainProgram) (rest : List (List ℕ)) : Type 0 where
  pub added : List PlainHop
  pub names : List (List ℕ)
  pub fit : FitHops set program added names
  pub more : List (List ℕ)
  pub grown : names ≡ program.names ++ more
  pub leaves : out ≡ record program { names = names; hops = program.hops ++ added }
  pub spelled : (later : List (List ℕ)) → lines ≡ raw (lines_of_hops set.tables (names ++ later) (length program.names) added) ++ rest

-- as many names as actions bind
pub count_actions : (scope : PlainScope) (actions : List Action) (after : List (List ℕ)) → FitActions scope actions after → length after ≡ length scope.names + bound_in actions
count_actions scope [] after fit = omega (arith, ap length fit)
count_actions scope (action ∷ actions) after fit =
    omega (arith, count_actions (next_scope scope fit.2) actions after fit.4, length-append scope.names (bound fit.2), binds-count scope action fit.2 fit.3)

no_hops_left : (set : PlainSet) (program : PlainProgram) (lines : List (List ℕ)) (out : PlainProgram) (rest : List (List ℕ)) → both program lines ≡ both out rest → HopsLeft set program lines out rest
no_hops_left set program lines out rest e =
    let same = both_is program out lines rest e in
    record {
      added = [];
      names = program.names;
      fit = refl;
      more = [];
      grown = sym (append-nil program.names);
      leaves = sym same.0 ∙ ap (λ (h : List PlainHop). let p : PlainProgram = record program { hops = h } in p) (sym (append-nil program.hops));
      spelled = λ later. same.1;
    }

-- one hop and those after it
abbrev pub more_hops : (set : PlainSet) (program : PlainProgram) (lines mid : List (List ℕ)) (next out : PlainProgram) (rest : List (List ℕ))
    → HopRead set program lines next mid → HopsLeft set next mid out rest → HopsLeft set program lines out rest
more_hops set program lines mid next out rest first later =
    let moved = subst (λ (p : PlainProgram). HopsLeft set p mid out rest) first.leaves later in
    let names : List (List ℕ) = moved.names in
    let count : length first.names ≡ length program.names + bound_in first.hop.actions = count_actions (scope_in set first.hop.server program []) first.hop.actions first.names first.fit in
    let hop_lines : List (List ℕ) → List (List (List ℕ)) = λ ns. (codes "hop" ∷ decimal first.hop.server ∷ []) ∷ action_lines set.tables ns (length program.names) first.hop.actions in
    record {
      added = first.hop ∷ moved.added;
      names = names;
      fit = (first.few, first.known, first.some, first.names, first.fit, moved.fit);
      more = first.more ++ moved.more;
      grown = moved.grown ∙ ap (λ n. n ++ moved.more) first.grown ∙ append_assoc program.names first.more moved.more;
      leaves = moved.leaves ∙ ap (λ (h : List PlainHop). let p : PlainProgram = record program { names = names; hops = h } in p) (append_assoc program.hops (first.hop ∷ []) moved.added);
      spelled = λ more.
          first.spelled (moved.more ++ more)
          ∙ ap (λ ns. raw (hop_lines ns) ++ mid) (sym (append_assoc first.names moved.more more) ∙ ap (λ n. n ++ more) (sym moved.grown))
          ∙ ap (λ m. raw (hop_lines (names ++ more)) ++ m) (moved.spelled more ∙ ap (λ n. raw (lines_of_hops set.tables (names ++ more) n moved.added) ++ rest) count)
          ∙ sym (append_assoc (raw (hop_lines (names ++ more))) (raw (lines_of_hops set.tables (names ++ more) (length program.names + bound_in first.hop.actions) moved.added)) rest)
          ∙ ap (λ ls. ls ++ rest) (sym (map-append joined (hop_lines (names ++ more)) (lines_of_hops set.tables (names ++ more) (length program.names + bound_in first.hop.actions) moved.added)));
    }

pub hops_take : (room : ℕ) (set : PlainSet) (program : PlainProgram) (lines : List (List ℕ)) (out : PlainProgram) (rest : List (List ℕ)) → parts goes_hop (next_hop set) room program lines ≡ Some (out, rest) → HopsLeft set program lines out rest
unfolding parts
hops_take zero set program lines out rest e =
    elim (choose (goes_hop lines) None (Some (program, lines)) (Some (out, rest)) e) [
      | inl p ↦ absurd (none_some p.1)
      | inr p ↦ no_hops_left set program lines out rest p.1
    ]
hops_take (suc room) set program lines out rest e =
    elim (choose (goes_hop lines) (next_hop set program lines >>= λ n. parts goes_hop (next_hop set) room n.0 n.1) (Some (program, lines)) (Some (out, rest)) e) [
      | inl p ↦
          let step = bind_some (next_hop set program lines) (λ n. parts goes_hop (next_hop set) room n.0 n.1) (out, rest) p.1 in
          more_hops set program lines step.0.1 step.0.0 out rest (next_hop_take set program lines step.0.0 step.0.1 step.1) (hops_take room set step.0.0 step.0.1 out rest step.2)
      | inr p ↦ no_hops_left set program lines out rest p.1
    ]
