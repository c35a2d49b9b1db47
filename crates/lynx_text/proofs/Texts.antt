-- Lines one after another.
use Rattle.std.proofs.Common.{◌≡◌, ℕ, List, [], ◌∷◌, ◌++◌, refl, sym, ap, ◌∙◌, append_assoc, ◌+◌, ◌<◌, ◌≤◌, length, get_or, drop, arith}
use Rattle.std.proofs.lemmas.List.{at_drop_more, at_drop_all}
use Rattle.lynx_shards.specs.declared.shard.Shard.{Shard}
use Rattle.std.proofs.lemmas.List.{append-nil}
use Rattle.std.specs.Prelude.{codes, decimal}
use Rattle.lynx_set.specs.declared.action.Action.{Action}
use Rattle.lynx_set.specs.declared.version.Version.{Version}
use Rattle.lynx_set.specs.declared.version.Version.TheVariants.{One, Two}
use Rattle.lynx_set.specs.declared.action.Action.TheVariants.{Get, Update, Let, Need}
use Rattle.lynx_lex.specs.Lines.{line}
use Rattle.lynx_set.specs.Text.{text, table_lines, tables_lines, version_word, version_words, head_lines, bound_names, bound_in}

-- the text of two lists of lines
pub text_append : (xs ys : List (List (List ℕ))) → text (xs ++ ys) ≡ text xs ++ text ys
text_append [] ys = refl
text_append (x ∷ xs) ys = ap (λ rest. line x ++ rest) (text_append xs ys) ∙ sym (append_assoc (line x) (text xs) (text ys))

-- what is written next is the front of what is left
pub next_written : (mid before total : List ℕ) (lines rest whole : List (List (List ℕ))) → before ++ text whole ≡ total → mid ≡ before ++ text lines → whole ≡ lines ++ rest → mid ++ text rest ≡ total
next_written mid before total lines rest whole so_far wrote splits =
    ap (λ w. w ++ text rest) wrote ∙ append_assoc before (text lines) (text rest)
    ∙ ap (λ t. before ++ t) (sym (text_append lines rest) ∙ ap text (sym splits)) ∙ so_far

-- three parts written one after another
pub three_written : (first second third before : List ℕ) (a b c : List (List (List ℕ))) → first ≡ before ++ text a → second ≡ first ++ text b → third ≡ second ++ text c → third ≡ before ++ text (a ++ b ++ c)
three_written first second third before a b c wrote_a wrote_b wrote_c =
    wrote_c ∙ ap (λ w. w ++ text c) (wrote_b ∙ ap (λ w. w ++ text b) wrote_a)
    ∙ append_assoc (before ++ text a) (text b) (text c) ∙ append_assoc before (text a) (text b ++ text c)
    ∙ ap (λ t. before ++ t) (sym (append_assoc (text a) (text b) (text c)) ∙ ap (λ t. t ++ text c) (sym (text_append a b)) ∙ sym (text_append (a ++ b) c))

-- and four
pub four_written : (first second third fourth before : List ℕ) (a b c d : List (List (List ℕ))) → first ≡ before ++ text a → second ≡ first ++ text b → third ≡ second ++ text c → fourth ≡ third ++ text d
    → fourth ≡ before ++ text (a ++ (b ++ c ++ d))
four_written first second third fourth before a b c d wrote_a wrote_b wrote_c wrote_d =
    three_written second third fourth first b c d wrote_b wrote_c wrote_d
    ∙ ap (λ w. w ++ text (b ++ c ++ d)) wrote_a ∙ append_assoc before (text a) (text (b ++ c ++ d))
    ∙ ap (λ t. before ++ t) (sym (text_append a (b ++ c ++ d)))

-- names without shards have no lines
tables_lines-none : (names : List (List ℕ)) → tables_lines names [] ≡ []
tables_lines-none [] = refl
tables_lines-none (name ∷ names) = refl

-- the lines of the tables from a place on
pub tables_lines-more : (names : List (List ℕ)) (tables : List (List Shard)) (i : ℕ) (name : List ℕ) (shards : List Shard) → i < length names → i < length tables
    → name ≡ get_or names i name → shards ≡ get_or tables i shards
    → tables_lines (drop i names) (drop i tables) ≡ table_lines name shards ++ tables_lines (drop (i + 1) names) (drop (i + 1) tables)
tables_lines-more names tables i name shards lt_names lt_tables name_is shards_is =
    at_drop_more (λ ns. tables_lines ns (drop i tables)) names i name lt_names
    ∙ at_drop_more (tables_lines (get_or names i name ∷ drop (i + 1) names)) tables i shards lt_tables
    ∙ ap (λ n. table_lines n (get_or tables i shards) ++ tables_lines (drop (i + 1) names) (drop (i + 1) tables)) (sym name_is)
    ∙ ap (λ s. table_lines name s ++ tables_lines (drop (i + 1) names) (drop (i + 1) tables)) (sym shards_is)

-- past the last shards there are none
pub tables_lines-past : (names more : List (List ℕ)) (tables : List (List Shard)) (i : ℕ) → length tables ≤ i → tables_lines names (drop i tables) ≡ tables_lines more (drop (i + 1) tables)
tables_lines-past names more tables i le =
    at_drop_all (tables_lines names) tables i le ∙ tables_lines-none names
    ∙ sym (at_drop_all (tables_lines more) tables (i + 1) (omega arith) ∙ tables_lines-none more)

-- the front of the first two lines, in three writes
abbrev pub front_of : Version → List ℕ
front_of version = (codes "lynx " ++ version_word version) ++ codes "\nservers "

front_joined : (version : Version) (digits : List ℕ) → (front_of version ++ digits) ++ 10 ∷ [] ≡ text (version_words version ∷ (codes "servers" ∷ digits ∷ []) ∷ [])
front_joined version digits =
    let tail : digits ++ 10 ∷ [] ≡ ((digits ++ []) ++ 10 ∷ []) ++ [] = sym (append-nil ((digits ++ []) ++ 10 ∷ []) ∙ ap (λ d. d ++ 10 ∷ []) (append-nil digits)) in
    by version tail
  where
    by : (version : Version) → digits ++ 10 ∷ [] ≡ ((digits ++ []) ++ 10 ∷ []) ++ [] → (front_of version ++ digits) ++ 10 ∷ [] ≡ text (version_words version ∷ (codes "servers" ∷ digits ∷ []) ∷ [])
    by One tail = ap (λ t. codes "lynx 1\nservers " ++ t) tail
    by Two tail = ap (λ t. codes "lynx 2\nservers " ++ t) tail

pub front_written : (first second third before lynx word servers : List ℕ) (version : Version) → first ≡ before ++ lynx → lynx ≡ codes "lynx " → second ≡ first ++ word → word ≡ version_word version
    → third ≡ second ++ servers → servers ≡ codes "\nservers " → third ≡ before ++ front_of version
front_written first second third before lynx word servers version wrote_first lynx_is wrote_second word_is wrote_third servers_are =
    wrote_third ∙ ap (λ s. second ++ s) servers_are
    ∙ ap (λ w. w ++ codes "\nservers ") (wrote_second ∙ ap (λ w. first ++ w) word_is ∙ ap (λ w. w ++ version_word version) (wrote_first ∙ ap (λ b. before ++ b) lynx_is) ∙ append_assoc before (codes "lynx ") (version_word version))
    ∙ append_assoc before (codes "lynx " ++ version_word version) (codes "\nservers ")

-- the first two lines
pub head_written : (front second third before : List ℕ) (version : Version) (n m : ℕ) → front ≡ before ++ front_of version → second ≡ front ++ decimal m → m ≡ n → third ≡ second ++ 10 ∷ [] → third ≡ before ++ text (head_lines version n)
head_written front second third before version n m wrote_front wrote_second same wrote_third =
    wrote_third
    ∙ ap (λ w. w ++ 10 ∷ []) (wrote_second ∙ ap (λ w. w ++ decimal m) wrote_front ∙ ap (λ k. (before ++ front_of version) ++ decimal k) same)
    ∙ ap (λ w. w ++ 10 ∷ []) (append_assoc before (front_of version) (decimal n))
    ∙ append_assoc before (front_of version ++ decimal n) (10 ∷ [])
    ∙ ap (λ t. before ++ t) (front_joined version (decimal n))

-- no action binds more than one name
bound_names-le : (action : Action) → bound_names action ≤ 1
bound_names-le (Get table key) = omega arith
bound_names-le (Update update table key value) = omega arith
bound_names-le (Let left operator right) = omega arith
bound_names-le (Need left relation right) = omega arith

pub bound_in-le : (actions : List Action) → bound_in actions ≤ length actions
bound_in-le [] = omega arith
bound_in-le (action ∷ actions) = omega (arith, bound_names-le action, bound_in-le actions)
