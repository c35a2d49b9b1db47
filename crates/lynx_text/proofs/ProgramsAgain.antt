-- Programs and their hops: what is spelled so is read.
use Rattle.std.proofs.Common.{◌≡◌, not, ℕ, zero, suc, ◌+◌, ◌-◌, ◌<◌, ◌≤◌, Bool, true, false, ltb, leb, ◌&&◌, List, [], ◌∷◌, ◌++◌, map, take, length, Option, Some, None, is_none, refl, sym, ap, subst, ◌∙◌, append_assoc, arith}
use Rattle.std.specs.Prelude.{codes, decimal}
use Rattle.std.specs.List.{list_all}
use Rattle.std.specs.Str.{bytes_eq}
use Rattle.std.proofs.lemmas.Bool.{lt-ltb, le-leb}
use Rattle.std.proofs.lemmas.List.{append-nil, length-append, length_push, map-append, take_at}
use Rattle.std.proofs.lemmas.Slice.Eq.{bytes_eq-Decides}
use Rattle.lynx_set.specs.declared.action.Action.{Action}
use Rattle.lynx_lex.specs.Digits.{read_number}
use Rattle.lynx_lex.specs.Lines.{◌>>=◌, is_word, AreWords, only_if, joined}
use Rattle.lynx_text.specs.Pieces.{next_words, begins, one_after}
use Rattle.lynx_set.specs.Scopes.{scope_in}
use Rattle.lynx_text.specs.Parts.{parts, with_name, next_action, goes_action, hop_line, next_hop, goes_hop, parameters_of, program_line, program_head, end_line, next_program, goes_program}
use Rattle.lynx_set.specs.declared.program.ParameterRange.{ParameterRange}
use Rattle.lynx_set.specs.declared.version.Version.{Version}
use Rattle.lynx_set.specs.declared.version.Version.TheVariants.{One, Two}
use Rattle.lynx_set.specs.Plain.{PlainHop, PlainProgram, PlainSet}
use Rattle.lynx_set.specs.Names.{place_of}
use Rattle.lynx_set.specs.Scopes.{PlainScope}
use Rattle.lynx_text.specs.Ranges.{next_range, goes_range}
use Rattle.lynx_text.specs.Reading.{name_of, new_name}
use Rattle.lynx_set.specs.Rules.{IsNew, AreNew, bound, next_scope, FitActions, FitHops, with_hop, FitRanges, HasRanges, FitsProgram, FitPrograms, with_program}
use Rattle.lynx_set.specs.Text.{bound_names, bound_in, action_words, action_lines}
use Rattle.lynx_lex.specs.Word.{is_name}
use Rattle.lynx_lex.proofs.WordLaws.{both_true, name-word, number-word}
use Rattle.lynx_lex.proofs.NumberLaws.{number_again}
use Rattle.lynx_text.proofs.Lookups.{both}
use Rattle.lynx_text.proofs.Known.{bind_is, only_if_yes, Known, none_known, one_known, new_again}
use Rattle.lynx_text.proofs.ActionsAgain.{IsOpen}
use Rattle.lynx_text.proofs.Hops.{raw, scope_next, binds-count, count_actions, names_over, lines_of_hops}
use Rattle.lynx_text.proofs.HopsAgain.{IsMore, more_behind, next_words_again, begins_again, parts_stop, parts_step, open_next, grown_names, few_actions, known_after, one_again, names_with, actions_again}
use Rattle.lynx_text.proofs.Programs.{lines_of_program, lines_of_programs, names_count, raw_three, start}
use Rattle.lynx_text.proofs.Ranges.{lines_of_ranges}
use Rattle.lynx_text.proofs.RangesAgain.{all_ranges}

-- a line of two words
pub one_after_again : (first word : List ℕ) → one_after first (first ∷ word ∷ []) ≡ Some word
one_after_again first word = only_if_yes (bytes_eq first first) word ((bytes_eq-Decides first first).1 refl)

pub two_words : (first word : List ℕ) → is_word first ≡ true → is_word word ≡ true → AreWords (first ∷ word ∷ [])
two_words first word a b = (omega arith, both_true (is_word first) (list_all is_word (word ∷ [])) a (both_true (is_word word) true b refl))

pub bind_bind : {A B C : Type 0} (o : Option A) (f : A → Option B) (g : B → Option C) → (o >>= λ x. f x >>= g) ≡ (o >>= f >>= g)
bind_bind None f g = refl
bind_bind (Some x) f g = refl

-- ---- hops

pub hop_words : (server : ℕ) → server < 16 → AreWords (codes "hop" ∷ decimal server ∷ [])
hop_words server fits = two_words (codes "hop") (decimal server) refl (number-word server (omega arith)).0

hop_line_again : (servers hops server : ℕ) → hops < 8 → server < servers → server < 16 → hop_line servers hops (codes "hop" ∷ decimal server ∷ []) ≡ Some server
unfolding hop_line
hop_line_again servers hops server few lt fits =
    bind_is (one_after (codes "hop") (codes "hop" ∷ decimal server ∷ [])) (λ w. only_if {X = Unit {0}} (ltb hops 8) tt >>= λ ok. read_number w >>= λ n. only_if (ltb n servers) n) (decimal server) (Some server) (one_after_again (codes "hop") (decimal server))
    (bind_is (only_if {X = Unit {0}} (ltb hops 8) tt) (λ ok. read_number (decimal server) >>= λ n. only_if (ltb n servers) n) tt (Some server) (only_if_yes (ltb hops 8) tt (lt-ltb _ _ few))
    (bind_is (read_number (decimal server)) (λ n. only_if (ltb n servers) n) server (Some server) (number_again server (omega arith)) (only_if_yes (ltb server servers) server (lt-ltb _ _ lt))))

-- the actions of a hop, the first of which has to be there
first_again : (set : PlainSet) (server : ℕ) (program : PlainProgram) (action : Action) (actions : List Action) (names later rest : List (List ℕ))
    → FitActions (scope_in set server program []) (action ∷ actions) names → IsOpen (scope_in set server program []) → IsMore rest → goes_action rest ≡ false
    → (next_action set server (program, []) (raw (action_lines set.tables (names ++ later) (length program.names) (action ∷ actions)) ++ rest)
    >>= λ f. parts goes_action (next_action set server) (16 - length f.0.1) f.0 f.1) ≡ Some ((record program { names = names }, action ∷ actions), rest)
first_again set server program action actions names later rest fit open_ left stops =
    let binds = fit.2 in
    let scope = scope_in set server program [] in
    let grown = grown_names (next_scope scope binds) actions names fit.4 in
    let whole : names ++ later ≡ program.names ++ (bound binds ++ (grown.0 ++ later)) =
    ap (λ a. a ++ later) grown.1 ∙ append_assoc (program.names ++ bound binds) grown.0 later ∙ append_assoc program.names (bound binds) (grown.0 ++ later) in
    let tail : List (List ℕ) = raw (action_lines set.tables (names ++ later) (length program.names + bound_names action) actions) ++ rest in
    let one = one_again set server program [] action binds (grown.0 ++ later) tail open_ fit.0 fit.1 fit.3 (more_behind (action_lines set.tables (names ++ later) (length program.names + bound_names action) actions) rest left) in
    let then_ : (PlainProgram × List Action) × List (List ℕ) → Option ((PlainProgram × List Action) × List (List ℕ)) = λ f. parts goes_action (next_action set server) (16 - length f.0.1) f.0 f.1 in
    let next : PlainProgram × List Action = (with_name program binds, action ∷ []) in
    let out : PlainProgram × List Action = (record program { names = names }, action ∷ actions) in
    let count : length (with_name program binds).names ≡ length program.names + bound_names action =
    ap length (names_with program binds) ∙ length-append program.names (bound binds) ∙ ap (λ n. length program.names + n) (binds-count scope action binds fit.3) in
    let same_scope = place_after set server program action binds in
    let few : length actions ≤ 15 = omega (arith, few_actions scope (action ∷ actions) names fit (omega arith)) in
    ap (λ ns. next_action set server (program, []) (joined (action_words set.tables ns (length program.names) action) ∷ tail) >>= then_) whole
    ∙ bind_is (next_action set server (program, []) (joined (action_words set.tables (program.names ++ (bound binds ++ (grown.0 ++ later))) (length program.names) action) ∷ tail)) then_ (next, tail) (Some (out, rest)) one.0
    (ap (λ n. parts goes_action (next_action set server) 15 next (raw (action_lines set.tables (names ++ later) n actions) ++ rest)) (sym count)
    ∙ actions_again set server (with_name program binds) (action ∷ []) actions names later 15 rest
    (subst (λ (p : PlainScope). FitActions p actions names) (sym same_scope) fit.4) (subst IsOpen (sym same_scope) (open_next scope action binds open_ fit.3)) few left stops
    ∙ ap (λ (p : PlainProgram). let o : PlainProgram × List Action = (p, action ∷ actions) in Some (o, rest)) (names_over program binds names))
  where
    place_after : (set : PlainSet) (server : ℕ) (program : PlainProgram) (action : Action) (binds : Option (List ℕ)) → scope_in set server (with_name program binds) (action ∷ []) ≡ next_scope (scope_in set server program []) binds
    place_after set server program action binds = scope_next set server program [] action binds

pub hop_again : (set : PlainSet) (program : PlainProgram) (server : ℕ) (actions : List Action) (names later rest : List (List ℕ))
    → set.servers ≤ 16 → length program.hops < 8 → server < set.servers → 0 < length actions → FitActions (scope_in set server program []) actions names
    → IsOpen (scope_in set server program []) → IsMore rest → goes_action rest ≡ false
    → next_hop set program (joined (codes "hop" ∷ decimal server ∷ []) ∷ raw (action_lines set.tables (names ++ later) (length program.names) actions) ++ rest) ≡ Some (with_hop program (record { server = server; actions = actions }) names, rest)
unfolding next_hop
hop_again set program server [] names later rest limit few known some fit open_ left stops = absurd (omega arith)
hop_again set program server (action ∷ actions) names later rest limit few known some fit open_ left stops =
    let tail : List (List ℕ) = raw (action_lines set.tables (names ++ later) (length program.names) (action ∷ actions)) ++ rest in
    let words : List (List ℕ) = codes "hop" ∷ decimal server ∷ [] in
    let done : ℕ → (PlainProgram × List Action) × List (List ℕ) → Option (PlainProgram × List (List ℕ)) = λ s r. Some (record r.0.0 { hops = r.0.0.hops ++ (record { server = s; actions = r.0.1 }) ∷ [] }, r.1) in
    let out : PlainProgram = with_hop program (record { server = server; actions = action ∷ actions }) names in
    bind_is (next_words (joined words ∷ tail)) (λ w. hop_line set.servers (length program.hops) w.0 >>= λ s. next_action set s (program, []) w.1 >>= λ f. parts goes_action (next_action set s) (16 - length f.0.1) f.0 f.1 >>= done s) (words, tail) (Some (out, rest))
    (next_words_again words tail (hop_words server (omega arith)) (record { first = joined (action_words set.tables (names ++ later) (length program.names) action); others = raw (action_lines set.tables (names ++ later) (length program.names + bound_names action) actions) ++ rest; is = refl }))
    (bind_is (hop_line set.servers (length program.hops) words) (λ s. next_action set s (program, []) tail >>= λ f. parts goes_action (next_action set s) (16 - length f.0.1) f.0 f.1 >>= done s) server (Some (out, rest))
    (hop_line_again set.servers (length program.hops) server few known (omega arith))
    (bind_bind (next_action set server (program, []) tail) (λ f. parts goes_action (next_action set server) (16 - length f.0.1) f.0 f.1) (done server)
    ∙ bind_is (next_action set server (program, []) tail >>= λ f. parts goes_action (next_action set server) (16 - length f.0.1) f.0 f.1) (done server) ((record program { names = names }, action ∷ actions), rest) (Some (out, rest))
    (first_again set server program action actions names later rest fit open_ left stops) refl))

-- the names that hops leave begin with those that were known
pub grown_by_hops : (set : PlainSet) (program : PlainProgram) (hops : List PlainHop) (after : List (List ℕ)) → FitHops set program hops after → (more : List (List ℕ)) × (after ≡ program.names ++ more)
grown_by_hops set program [] after fit = ([], sym fit ∙ sym (append-nil program.names))
grown_by_hops set program (hop ∷ hops) after fit =
    let first = grown_names (scope_in set hop.server program []) hop.actions fit.3 fit.4 in
    let later = grown_by_hops set (with_hop program hop fit.3) hops after fit.5 in
    (first.0 ++ later.0, later.1 ∙ ap (λ n. n ++ later.0) first.1 ∙ append_assoc program.names first.0 later.0)

few_hops : (set : PlainSet) (program : PlainProgram) (hops : List PlainHop) (after : List (List ℕ)) → FitHops set program hops after → length program.hops ≤ 8 → length program.hops + length hops ≤ 8
few_hops set program [] after fit few = omega arith
few_hops set program (hop ∷ hops) after fit few =
    omega (arith, few_hops set (with_hop program hop fit.3) hops after fit.5 (omega (arith, fit.0, length_push program.hops hop)), length_push program.hops hop)

-- what hops leave is not one more action
hops_stop : (set : PlainSet) (program : PlainProgram) (hops : List PlainHop) (names after rest : List (List ℕ)) (scope : ℕ)
    → set.servers ≤ 16 → FitHops set program hops after → goes_action rest ≡ false → goes_action (raw (lines_of_hops set.tables names scope hops) ++ rest) ≡ false
hops_stop set program [] names after rest scope limit fit stops = stops
hops_stop set program (hop ∷ hops) names after rest scope limit fit stops =
    let words : List (List ℕ) = codes "hop" ∷ decimal hop.server ∷ [] in
    let below : List (List ℕ) = raw (action_lines set.tables names scope hop.actions ++ lines_of_hops set.tables names (scope + bound_in hop.actions) hops) ++ rest in
    ap (λ b. not b && not (begins (joined words ∷ below) (codes "end"))) (begins_again (codes "hop") (decimal hop.server ∷ []) below (codes "hop") (hop_words hop.server (omega (arith, fit.1))) ∙ hop_is)
  where
    hop_is : bytes_eq (codes "hop") (codes "hop") ≡ true
    hop_is = refl

hop_goes : (server : ℕ) (below : List (List ℕ)) → server < 16 → goes_hop (joined (codes "hop" ∷ decimal server ∷ []) ∷ below) ≡ true
hop_goes server below fits = begins_again (codes "hop") (decimal server ∷ []) below (codes "hop") (hop_words server fits) ∙ hop_is
  where
    hop_is : bytes_eq (codes "hop") (codes "hop") ≡ true
    hop_is = refl

-- one hop, and the lines of others behind it
one_hop : (set : PlainSet) (program : PlainProgram) (hop : PlainHop) (hops : List PlainHop) (after later rest : List (List ℕ))
    → set.servers ≤ 16 → Known set.tables → Known program.names → program.parameters ≤ length program.names → FitHops set program (hop ∷ hops) after → IsMore rest → goes_action rest ≡ false
    → (names : List (List ℕ)) × (fit : FitHops set (with_hop program hop names) hops after) × Known names × (program.parameters ≤ length names)
    × (next_hop set program (raw (lines_of_hops set.tables (after ++ later) (length program.names) (hop ∷ hops)) ++ rest) ≡ Some (with_hop program hop names, raw (lines_of_hops set.tables (after ++ later) (length names) hops) ++ rest))
one_hop set program hop hops after later rest limit tables known enough fit left stops =
    let names : List (List ℕ) = fit.3 in
    let scope = scope_in set hop.server program [] in
    let grown = grown_names scope hop.actions names fit.4 in
    let more = grown_by_hops set (with_hop program hop names) hops after fit.5 in
    let whole : after ++ later ≡ names ++ (more.0 ++ later) = ap (λ a. a ++ later) more.1 ∙ append_assoc names more.0 later in
    let count : length names ≡ length program.names + bound_in hop.actions = count_actions scope hop.actions names fit.4 in
    let own_lines : List (List ℕ) → List (List (List ℕ)) = λ ns. (codes "hop" ∷ decimal hop.server ∷ []) ∷ action_lines set.tables ns (length program.names) hop.actions in
    let others : ℕ → List (List (List ℕ)) = λ n. lines_of_hops set.tables (after ++ later) n hops in
    let tail : List (List ℕ) = raw (others (length names)) ++ rest in
    let open_ : IsOpen scope = record { names = known; tables = tables; few = enough } in (
      names,
      fit.5,
      known_after scope hop.actions names fit.4 known,
      omega (arith, ap length grown.1, length-append program.names grown.0),
      ap (next_hop set program) (ap (λ ls. ls ++ rest) (map-append joined (own_lines (after ++ later)) (others (length program.names + bound_in hop.actions)))
          ∙ append_assoc (raw (own_lines (after ++ later))) (raw (others (length program.names + bound_in hop.actions))) rest
          ∙ ap (λ n. raw (own_lines (after ++ later)) ++ (raw (others n) ++ rest)) (sym count)
          ∙ ap (λ ns. raw (own_lines ns) ++ tail) whole)
          ∙ hop_again set program hop.server hop.actions names (more.0 ++ later) tail limit fit.0 fit.1 fit.2 fit.4 open_ (more_behind (others (length names)) rest left)
          (hops_stop set (with_hop program hop names) hops (after ++ later) after rest (length names) limit fit.5 stops),
    )

-- the hops that are left of a program
pub hops_again : (set : PlainSet) (program : PlainProgram) (hops : List PlainHop) (after later : List (List ℕ)) (room : ℕ) (rest : List (List ℕ))
    → set.servers ≤ 16 → Known set.tables → Known program.names → program.parameters ≤ length program.names → FitHops set program hops after → length hops ≤ room
    → IsMore rest → goes_action rest ≡ false → goes_hop rest ≡ false
    → parts goes_hop (next_hop set) room program (raw (lines_of_hops set.tables (after ++ later) (length program.names) hops) ++ rest) ≡ Some (record program { names = after; hops = program.hops ++ hops }, rest)
hops_again set program [] after later room rest limit tables known enough fit few left stops ends =
    parts_stop goes_hop (next_hop set) room program rest ends
    ∙ ap (λ (names : List (List ℕ)). let p : PlainProgram = record program { names = names } in Some (p, rest)) fit
    ∙ ap (λ (hops : List PlainHop). let p : PlainProgram = record program { names = after; hops = hops } in Some (p, rest)) (sym (append-nil program.hops))
hops_again set program (hop ∷ hops) after later zero rest limit tables known enough fit few left stops ends = absurd (omega arith)
hops_again set program (hop ∷ hops) after later (suc room) rest limit tables known enough fit few left stops ends =
    let one = one_hop set program hop hops after later rest limit tables known enough fit left stops in
    let next : PlainProgram = with_hop program hop one.0 in
    let below : List (List ℕ) = raw (action_lines set.tables (after ++ later) (length program.names) hop.actions ++ lines_of_hops set.tables (after ++ later) (length program.names + bound_in hop.actions) hops) ++ rest in
    parts_step goes_hop (next_hop set) room program next (raw (lines_of_hops set.tables (after ++ later) (length program.names) (hop ∷ hops)) ++ rest) (raw (lines_of_hops set.tables (after ++ later) (length one.0) hops) ++ rest)
    (hop_goes hop.server below (omega (arith, fit.1))) one.4
    ∙ hops_again set next hops after later room rest limit tables one.2 one.3 one.1 (omega arith) left stops ends
    ∙ ap (λ (hops : List PlainHop). let p : PlainProgram = record program { names = after; hops = hops } in Some (p, rest)) (append_assoc program.hops (hop ∷ []) hops)

-- ---- programs

-- names that are new, one after another, are read
pub parameters_again : (known words : List (List ℕ)) → AreNew known words → parameters_of known words ≡ Some (known ++ words)
parameters_again known [] new = ap Some (sym (append-nil known))
parameters_again known (word ∷ words) new =
    bind_is (new_name known word) (λ name. parameters_of (known ++ name ∷ []) words) word (Some (known ++ word ∷ words)) (new_again known word new.0)
    (parameters_again (known ++ word ∷ []) words new.1 ∙ ap Some (append_assoc known (word ∷ []) words))

-- and are known then
pub known_new : (known words : List (List ℕ)) → Known known → AreNew known words → Known (known ++ words)
known_new known [] is new = subst Known (sym (append-nil known)) is
known_new known (word ∷ words) is new = subst Known (append_assoc known (word ∷ []) words) (known_new (known ++ word ∷ []) words (one_known known word is new.0) new.1)

names_are_words : (known words : List (List ℕ)) → AreNew known words → list_all is_word words ≡ true
names_are_words known [] new = refl
names_are_words known (word ∷ words) new = both_true (is_word word) (list_all is_word words) (name-word word new.0.named) (names_are_words (known ++ word ∷ []) words new.1)

pub program_words_are : (name : List ℕ) (parameters programs : List (List ℕ)) → IsNew programs name → AreNew [] parameters → AreWords (codes "program" ∷ name ∷ parameters)
program_words_are name parameters programs new names =
    (omega arith, both_true (is_word (codes "program")) (list_all is_word (name ∷ parameters)) refl (both_true (is_word name) (list_all is_word parameters) (name-word name new.named) (names_are_words [] parameters names)))

program_line_again : (programs : List (List ℕ)) (name : List ℕ) (parameters : List (List ℕ)) → length programs < 64 → length parameters ≤ 8 → IsNew programs name → AreNew [] parameters
    → program_line programs (codes "program" ∷ name ∷ parameters) ≡ both name parameters
unfolding program_line
program_line_again programs name parameters room few new names =
    let limits = both_true (ltb (length programs) 64) (leb (length parameters) 8) (lt-ltb _ _ room) (le-leb _ _ few) in
    bind_is (only_if {X = Unit {0}} (bytes_eq (codes "program") (codes "program")) tt) (λ is. only_if {X = Unit {0}} (ltb (length programs) 64 && leb (length parameters) 8) tt >>= λ ok. name_of name >>= λ n. only_if {X = Unit {0}} (is_none (place_of programs n)) tt >>= λ new. parameters_of [] parameters >>= λ ns. both n ns) tt (both name parameters) refl
    (bind_is (only_if {X = Unit {0}} (ltb (length programs) 64 && leb (length parameters) 8) tt) (λ ok. name_of name >>= λ n. only_if {X = Unit {0}} (is_none (place_of programs n)) tt >>= λ new. parameters_of [] parameters >>= λ ns. both n ns) tt (both name parameters) (only_if_yes (ltb (length programs) 64 && leb (length parameters) 8) tt limits)
    (bind_is (name_of name) (λ n. only_if {X = Unit {0}} (is_none (place_of programs n)) tt >>= λ new. parameters_of [] parameters >>= λ ns. both n ns) name (both name parameters) (only_if_yes (is_name name) name new.named)
    (bind_is (only_if {X = Unit {0}} (is_none (place_of programs name)) tt) (λ new. parameters_of [] parameters >>= λ ns. both name ns) tt (both name parameters) (only_if_yes (is_none (place_of programs name)) tt (ap is_none new.new))
    (bind_is (parameters_of [] parameters) (λ ns. both name ns) parameters (both name parameters) (parameters_again [] parameters names) refl))))

abbrev end_words : List (List ℕ)
end_words = codes "end" ∷ []

pub end_are : AreWords (codes "end" ∷ [])
end_are = (omega arith, refl)

-- the end is no action and no hop
end_stops : (rest : List (List ℕ)) → (goes_action (joined end_words ∷ rest) ≡ false) × (goes_hop (joined end_words ∷ rest) ≡ false)
end_stops rest = (
  ap (λ b. not (begins (joined end_words ∷ rest) (codes "hop")) && not b) (begins_again (codes "end") [] rest (codes "end") end_are ∙ same) ∙ and_no (not (begins (joined end_words ∷ rest) (codes "hop"))),
  begins_again (codes "end") [] rest (codes "hop") end_are ∙ other,
)
  where
    same : bytes_eq (codes "end") (codes "end") ≡ true
    same = refl

    other : bytes_eq (codes "end") (codes "hop") ≡ false
    other = refl

    and_no : (b : Bool) → (b && false) ≡ false
    and_no true = refl
    and_no false = refl

-- all hops of a program, the first of which has to be there
all_hops : (set : PlainSet) (names : List (List ℕ)) (ranges : List ParameterRange) (hops : List PlainHop) (after rest : List (List ℕ))
    → set.servers ≤ 16 → Known set.tables → Known names → FitHops set (start names ranges) hops after → 0 < length hops → IsMore rest → goes_action rest ≡ false → goes_hop rest ≡ false
    → (next_hop set (start names ranges) (raw (lines_of_hops set.tables after (length names) hops) ++ rest) >>= λ f. parts goes_hop (next_hop set) (8 - length f.0.hops) f.0 f.1)
    ≡ Some ((record { parameters = length names; names = after; ranges = ranges; hops = hops }), rest)
all_hops set names ranges [] after rest limit tables known fit some left stops ends = absurd (omega arith)
all_hops set names ranges (hop ∷ hops) after rest limit tables known fit some left stops ends =
    let one = one_hop set (start names ranges) hop hops after [] rest limit tables known (omega arith) fit left stops in
    let next : PlainProgram = with_hop (start names ranges) hop one.0 in
    let tail : List (List ℕ) = raw (lines_of_hops set.tables (after ++ []) (length one.0) hops) ++ rest in
    let out : PlainProgram = record { parameters = length names; names = after; ranges = ranges; hops = hop ∷ hops } in
    let then_ : PlainProgram × List (List ℕ) → Option (PlainProgram × List (List ℕ)) = λ f. parts goes_hop (next_hop set) (8 - length f.0.hops) f.0 f.1 in
    let few : length hops ≤ 7 = omega (arith, few_hops set (start names ranges) (hop ∷ hops) after fit (omega arith)) in
    ap (λ ns. next_hop set (start names ranges) (raw (lines_of_hops set.tables ns (length names) (hop ∷ hops)) ++ rest) >>= then_) (sym (append-nil after))
    ∙ bind_is (next_hop set (start names ranges) (raw (lines_of_hops set.tables (after ++ []) (length names) (hop ∷ hops)) ++ rest)) then_ (next, tail) (Some (out, rest)) one.4
    (hops_again set next hops after [] 7 rest limit tables one.2 one.3 one.1 few left stops ends)

-- the hops of a program are no ranges
hops_no_range : (version : Version) (set : PlainSet) (program : PlainProgram) (hops : List PlainHop) (names after rest : List (List ℕ)) (place : ℕ) → set.servers ≤ 16 → FitHops set program hops after → 0 < length hops
    → goes_range version (raw (lines_of_hops set.tables names place hops) ++ rest) ≡ false
hops_no_range One set program hops names after rest place limit fit some = refl
hops_no_range Two set program [] names after rest place limit fit some = absurd (omega arith)
hops_no_range Two set program (hop ∷ hops) names after rest place limit fit some =
    let below : List (List ℕ) = raw (action_lines set.tables names place hop.actions ++ lines_of_hops set.tables names (place + bound_in hop.actions) hops) ++ rest in
    begins_again (codes "hop") (decimal hop.server ∷ []) below (codes "range") (hop_words hop.server (omega (arith, fit.1))) ∙ other
  where
    other : bytes_eq (codes "hop") (codes "range") ≡ false
    other = refl

-- a program's head
program_head_again : (set : PlainSet) (name : List ℕ) (names : List (List ℕ)) (ranges : List ParameterRange) (more tail : List (List ℕ))
    → length set.programs < 64 → IsNew (map (λ named. named.0) set.programs) name → length names ≤ 8 → AreNew [] names → FitRanges (length names) 0 ranges → HasRanges set.version ranges
    → IsMore tail → goes_range set.version tail ≡ false
    → program_head set (joined (codes "program" ∷ name ∷ names) ∷ (raw (lines_of_ranges (names ++ more) ranges) ++ tail)) ≡ both (name, start names ranges) tail
unfolding program_head
program_head_again set name names ranges more tail room new few parameters fit has left stops =
    let known : List (List ℕ) = map (λ named. named.0) set.programs in
    let words : List (List ℕ) = codes "program" ∷ name ∷ names in
    let mid : List (List ℕ) = raw (lines_of_ranges (names ++ more) ranges) ++ tail in
    let goes = goes_range set.version in
    let out : Option ((List ℕ × PlainProgram) × List (List ℕ)) = both (name, start names ranges) tail in
    bind_is (next_words (joined words ∷ mid)) (λ w. program_line known w.0 >>= λ h. parts goes next_range 8 (start h.1 []) w.1 >>= λ r. both (h.0, r.0) r.1) (words, mid) out
    (next_words_again words mid (program_words_are name names known new parameters) (more_behind (lines_of_ranges (names ++ more) ranges) tail left))
    (bind_is (program_line known words) (λ h. parts goes next_range 8 (start h.1 []) mid >>= λ r. both (h.0, r.0) r.1) (name, names) out
    (program_line_again known name names (omega (arith, names_count set.programs)) few new parameters)
    (bind_is (parts goes next_range 8 (start names []) mid) (λ r. both (name, r.0) r.1) (start names ranges, tail) out
    (all_ranges set.version (start names []) ranges more tail (known_new [] names none_known parameters) few refl fit has left stops) refl))

-- one program
program_read : (set : PlainSet) (name : List ℕ) (names : List (List ℕ)) (ranges : List ParameterRange) (hops : List PlainHop) (more after rest : List (List ℕ))
    → set.servers ≤ 16 → Known set.tables → length set.programs < 64 → IsNew (map (λ named. named.0) set.programs) name → length names ≤ 8 → AreNew [] names → FitRanges (length names) 0 ranges → HasRanges set.version ranges
    → FitHops set (start names ranges) hops after → 0 < length hops → IsMore rest
    → next_program set (joined (codes "program" ∷ name ∷ names) ∷ (raw (lines_of_ranges (names ++ more) ranges) ++ (raw (lines_of_hops set.tables after (length names) hops) ++ joined end_words ∷ rest)))
    ≡ Some (with_program set (name, record { parameters = length names; names = after; ranges = ranges; hops = hops }), rest)
unfolding next_program
program_read set name names ranges hops more after rest limit tables room new few parameters fit_ranges has fit some left =
    let below : List (List ℕ) = joined end_words ∷ rest in
    let below_is : IsMore below = record { first = joined end_words; others = rest; is = refl } in
    let tail : List (List ℕ) = raw (lines_of_hops set.tables after (length names) hops) ++ below in
    let made : PlainProgram = record { parameters = length names; names = after; ranges = ranges; hops = hops } in
    let out : PlainSet = with_program set (name, made) in
    let end_of : List ℕ → PlainProgram × List (List ℕ) → Option (PlainSet × List (List ℕ)) = λ name r. next_words r.1 >>= λ last. end_line last.0 >>= λ ok. Some (record set { programs = set.programs ++ (name, r.0) ∷ [] }, last.1) in
    let lines : List (List ℕ) = joined (codes "program" ∷ name ∷ names) ∷ (raw (lines_of_ranges (names ++ more) ranges) ++ tail) in
    let begun : (List ℕ × PlainProgram) × List (List ℕ) = ((name, start names ranges), tail) in
    let stops = end_stops rest in
    bind_is (program_head set lines) (λ h. next_hop set h.0.1 h.1 >>= λ f. parts goes_hop (next_hop set) (8 - length f.0.hops) f.0 f.1 >>= end_of h.0.0) begun (Some (out, rest))
    (program_head_again set name names ranges more tail room new few parameters fit_ranges has (more_behind (lines_of_hops set.tables after (length names) hops) below below_is) (hops_no_range set.version set (start names ranges) hops after after below (length names) limit fit some))
    (bind_bind (next_hop set (start names ranges) tail) (λ f. parts goes_hop (next_hop set) (8 - length f.0.hops) f.0 f.1) (end_of name)
    ∙ bind_is (next_hop set (start names ranges) tail >>= λ f. parts goes_hop (next_hop set) (8 - length f.0.hops) f.0 f.1) (end_of name) (made, below) (Some (out, rest))
    (all_hops set names ranges hops after below limit tables (known_new [] names none_known parameters) fit some below_is stops.0 stops.1)
    (bind_is (next_words below) (λ last. end_line last.0 >>= λ ok. Some (record set { programs = set.programs ++ (name, made) ∷ [] }, last.1)) (end_words, rest) (Some (out, rest))
    (next_words_again end_words rest end_are left) refl))

pub spelled_parameters : (set : PlainSet) (program : PlainProgram) (fit : FitsProgram set program) → take program.parameters program.names ≡ fit.parameters
spelled_parameters set program fit =
    let names : List (List ℕ) = fit.parameters in
    let grown = grown_by_hops set (start names program.ranges) program.hops program.names fit.hops in
    ap (λ n. take n program.names) fit.count ∙ ap (take (length names)) grown.1 ∙ take_at names grown.0 (length names) refl

pub program_again : (set : PlainSet) (program : List ℕ × PlainProgram) (rest : List (List ℕ))
    → set.servers ≤ 16 → Known set.tables → length set.programs < 64 → IsNew (map (λ named. named.0) set.programs) program.0 → FitsProgram set program.1 → IsMore rest
    → next_program set (raw (lines_of_program set.tables program) ++ rest) ≡ Some (with_program set program, rest)
program_again set (name, program) rest limit tables room new fit left =
    let names : List (List ℕ) = fit.parameters in
    let grown = grown_by_hops set (start names program.ranges) program.hops program.names fit.hops in
    let rows : List (List ℕ) → List (List ℕ) = λ ns. raw (lines_of_ranges ns program.ranges) in
    let lines : ℕ → List (List (List ℕ)) = λ n. lines_of_hops set.tables program.names n program.hops in
    ap (next_program set) (ap (λ ps. joined (codes "program" ∷ name ∷ ps) ∷ (raw (lines_of_ranges program.names program.ranges ++ lines program.parameters ++ end_words ∷ []) ++ rest)) (spelled_parameters set program fit)
    ∙ ap (λ n. joined (codes "program" ∷ name ∷ names) ∷ (raw (lines_of_ranges program.names program.ranges ++ lines n ++ end_words ∷ []) ++ rest)) fit.count
    ∙ ap (λ ls. joined (codes "program" ∷ name ∷ names) ∷ ls) (raw_three (lines_of_ranges program.names program.ranges) (lines (length names)) (end_words ∷ []) rest)
    ∙ ap (λ ns. joined (codes "program" ∷ name ∷ names) ∷ (rows ns ++ (raw (lines (length names)) ++ joined end_words ∷ rest))) grown.1)
    ∙ program_read set name names program.ranges program.hops grown.0 program.names rest limit tables room new fit.few fit.names fit.ranges fit.has_ranges fit.hops fit.some left
    ∙ ap (λ n. let s : PlainSet = with_program set (name, record { parameters = n; names = program.names; ranges = program.ranges; hops = program.hops }) in Some (s, rest)) (sym fit.count)

pub program_begins : (set : PlainSet) (program : List ℕ × PlainProgram) (tables rest : List (List ℕ)) (wanted : List ℕ)
    → IsNew (map (λ named. named.0) set.programs) program.0 → FitsProgram set program.1 → begins (raw (lines_of_program tables program) ++ rest) wanted ≡ bytes_eq (codes "program") wanted
program_begins set (name, program) tables rest wanted new fit =
    let names : List (List ℕ) = fit.parameters in
    let below : List (List ℕ) = raw (lines_of_ranges program.names program.ranges ++ lines_of_hops tables program.names program.parameters program.hops ++ end_words ∷ []) ++ rest in
    ap (λ ps. begins (joined (codes "program" ∷ name ∷ ps) ∷ below) wanted) (spelled_parameters set program fit)
    ∙ begins_again (codes "program") (name ∷ names) below wanted (program_words_are name names (map (λ named. named.0) set.programs) new fit.names)

-- the end of a text
abbrev pub over : List (List ℕ)
over = [] ∷ []

pub over_is : IsMore over
over_is = record { first = []; others = []; is = refl }

-- the programs that are left of a set
pub programs_again : (set : PlainSet) (programs : List (List ℕ × PlainProgram)) (room : ℕ)
    → set.servers ≤ 16 → Known set.tables → FitPrograms set programs → length programs ≤ room
    → parts goes_program next_program room set (raw (lines_of_programs set.tables programs) ++ over) ≡ Some (record set { programs = set.programs ++ programs }, over)
programs_again set [] room limit tables fit few =
    parts_stop goes_program next_program room set over refl
    ∙ ap (λ (programs : List (List ℕ × PlainProgram)). let s : PlainSet = record set { programs = programs } in Some (s, over)) (sym (append-nil set.programs))
programs_again set (program ∷ programs) zero limit tables fit few = absurd (omega arith)
programs_again set (program ∷ programs) (suc room) limit tables fit few =
    let tail : List (List ℕ) = raw (lines_of_programs set.tables programs) ++ over in
    let lines : List (List ℕ) = raw (lines_of_program set.tables program) ++ tail in
    let next : PlainSet = with_program set program in
    ap (parts goes_program next_program (suc room) set)
    (ap (λ ls. ls ++ over) (map-append joined (lines_of_program set.tables program) (lines_of_programs set.tables programs))
    ∙ append_assoc (raw (lines_of_program set.tables program)) (raw (lines_of_programs set.tables programs)) over)
    ∙ parts_step goes_program next_program room set next lines tail (program_begins set program set.tables tail (codes "program") fit.1 fit.2 ∙ same)
    (program_again set program tail limit tables fit.0 fit.1 fit.2 (more_behind (lines_of_programs set.tables programs) over over_is))
    ∙ programs_again next programs room limit tables fit.3 (omega arith)
    ∙ ap (λ (programs : List (List ℕ × PlainProgram)). let s : PlainSet = record set { programs = programs } in Some (s, over)) (append_assoc set.programs (program ∷ []) programs)
  where
    same : bytes_eq (codes "program") (codes "program") ≡ true
    same = refl

pub few_programs : (set : PlainSet) (programs : List (List ℕ × PlainProgram)) → FitPrograms set programs → length set.programs ≤ 64 → length set.programs + length programs ≤ 64
few_programs set [] fit few = omega arith
few_programs set (program ∷ programs) fit few =
    omega (arith, few_programs (with_program set program) programs fit.3 (omega (arith, fit.0, length_push set.programs program)), length_push set.programs program)
