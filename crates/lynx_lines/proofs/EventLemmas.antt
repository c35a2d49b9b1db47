-- The words of an event are words, and only it has them.
use Rattle.std.proofs.Common.{◌≡◌, ◌≢◌, ◌⊎◌, inl, inr, not, eqb, nat_eq, eq-eqb, ℕ, suc, ◌^◌, ◌<◌, true, false, List, [], ◌∷◌, ◌++◌, map, length, get_or, Some, refl, sym, ap, subst, ◌∙◌, append_assoc, arith}
use Rattle.std.specs.Prelude.{codes, decimal}
use Rattle.std.specs.Borrow.{Bor}
use Rattle.std.specs.List.{AllByRecursion, list_all}
use Rattle.std.proofs.lemmas.Bool.Decides.{nat_tests}
use Rattle.std.proofs.lemmas.List.Folds.{list_all-append}
use Rattle.lynx_names.specs.declared.chain.ChainId.{ChainId}
use Rattle.lynx_lex.specs.declared.fault.FaultKind.{FaultKind}
use Rattle.lynx_lex.specs.declared.fault.FaultKind.TheVariants.{TooLong, BadVersion, BadLine, BadName, BadNumber, Repeated, Unknown, NeedNotFirst, LimitPassed, LiteralElsewhere, Shard, Memory}
use Rattle.lynx_lex.specs.Gives.{Fails as TextFails}
use Rattle.lynx_lex.specs.Lines.{is_word, is_filled, is_graphic, AreWords, next_line, words_in, texts, joined, line}
use Rattle.lynx_set.specs.Set.{Set}
use Rattle.lynx_set.specs.Text.{name_at}
use Rattle.lynx_lex.proofs.WordLaws.{and_true, both_true, number-word, name-word, next_line_again}
use Rattle.lynx_entry.specs.declared.request.Request.{Request}
use Rattle.lynx_entry.specs.declared.event.Event.{Event}
use Rattle.lynx_entry.specs.declared.event.Event.TheVariants.{Begin, Deliver, Wake, Lost, Restart}
use Rattle.lynx_names.specs.Chain.{chain_text}
use Rattle.lynx_lines.specs.Scripts.{begin_words, message_words, event_words, FitsBegin, FitsServer, FitsMessage, FitsEvent, script_of}
use Rattle.lynx_lines.specs.inner.Spelled.{MeansUnread}
use Rattle.lynx_lex.proofs.Equal.{first_is, rest_is, some_none}
use Rattle.lynx_set.specs.Lookups.{program_names}

-- the fourth of some words
pub fourth : (words : List (Bor (List ℕ))) (a b c d : List ℕ) (more : List (List ℕ)) (x : Bor (List ℕ)) → texts words ≡ a ∷ b ∷ c ∷ d ∷ more → (get_or words 3 x).now ≡ d
fourth [] a b c d more x e = absurd cc
fourth (u ∷ []) a b c d more x e = absurd cc
fourth (u ∷ v ∷ []) a b c d more x e = absurd cc
fourth (u ∷ v ∷ w ∷ []) a b c d more x e = absurd cc
fourth (u ∷ v ∷ w ∷ y ∷ words) a b c d more x e = cc

-- ---- words

colon_word : (left right : List ℕ) → is_word left ≡ true → is_word right ≡ true → is_word (left ++ 58 ∷ right) ≡ true
colon_word [] right l r = absurd cc
colon_word (byte ∷ bytes) right l r =
    let l_both = and_true (is_filled (byte ∷ bytes)) (list_all is_graphic (byte ∷ bytes)) l in
    let r_both = and_true (is_filled right) (list_all is_graphic right) r in
    both_true (is_filled (byte ∷ bytes ++ 58 ∷ right)) (list_all is_graphic (byte ∷ bytes ++ 58 ∷ right)) (filled (bytes ++ 58 ∷ right))
    (list_all-append is_graphic (byte ∷ bytes) (58 ∷ right) ∙ both_true (list_all is_graphic (byte ∷ bytes)) (list_all is_graphic (58 ∷ right)) l_both.1 r_both.1)
  where
    filled : (bytes : List ℕ) → is_filled (byte ∷ bytes) ≡ true
    filled bytes = nonzero (length bytes)
      where
        nonzero : (n : ℕ) → not (eqb (suc n) 0) ≡ true
        nonzero n = grind (arith, nat_tests)

chain_is_word : (chain : ChainId) → chain.origin < 2 ^ 64 → chain.index < 2 ^ 64 → is_word (chain_text chain) ≡ true
chain_is_word chain origin index = colon_word (decimal chain.origin) (decimal chain.index) (number-word chain.origin origin).0 (number-word chain.index index).0

numbers_are_words : (numbers : List ℕ) → AllByRecursion (λ number. number < 2 ^ 64) numbers → list_all is_word (map decimal numbers) ≡ true
numbers_are_words [] fit = refl
numbers_are_words (number ∷ numbers) fit = both_true (is_word (decimal number)) (list_all is_word (map decimal numbers)) (number-word number fit.0).0 (numbers_are_words numbers fit.1)

server_is_word : (verb : List ℕ) (server : ℕ) → is_word verb ≡ true → server < 2 ^ 64 → list_all is_word (verb ∷ decimal server ∷ []) ≡ true
server_is_word verb server is below =
    both_true (is_word verb) _ is (both_true (is_word (decimal server)) true (number-word server below).0 refl)

-- an event's words are words
pub event_are_words : (set : Set) (event : Event) → FitsEvent set event → AreWords (event_words (program_names set) event)
event_are_words set (Begin server request seen) fits = (
  omega arith,
  both_true (is_word (codes "begin")) (list_all is_word (begin_words (program_names set) server request)) refl
      (both_true (is_word (decimal server)) _ (number-word server (omega (arith, fits.server_is.numbered))).0
      (both_true (is_word (decimal request.client)) _ (number-word request.client fits.client).0
      (both_true (is_word (decimal request.number)) _ (number-word request.number fits.number).0
      (both_true (is_word (name_at (program_names set) request.program)) _ (name-word (name_at (program_names set) request.program) fits.program.named) (numbers_are_words request.args fits.args))))),
)
event_are_words set (Deliver chain hop) fits = (
  omega arith,
  both_true (is_word (codes "deliver")) (list_all is_word (message_words chain hop)) refl
      (both_true (is_word (chain_text chain)) _ (chain_is_word chain (omega (arith, fits.origin_is.numbered)) fits.index)
      (both_true (is_word (decimal hop)) true (number-word hop (omega (arith, fits.small))).0 refl)),
)
event_are_words set (Wake server) fits = (omega arith, server_is_word (codes "wake") server refl (omega (arith, fits.numbered)))
event_are_words set (Lost chain hop) fits = (
  omega arith,
  both_true (is_word (codes "lose")) (list_all is_word (message_words chain hop)) refl
      (both_true (is_word (chain_text chain)) _ (chain_is_word chain (omega (arith, fits.origin_is.numbered)) fits.index)
      (both_true (is_word (decimal hop)) true (number-word hop (omega (arith, fits.small))).0 refl)),
)
event_are_words set (Restart server) fits = (omega arith, server_is_word (codes "restart") server refl (omega (arith, fits.numbered)))

-- ---- verbs

-- a verb and what follows it, of words that begin with it: no two verbs have one first letter
other_verb : (words others more : List (List ℕ)) (verb other : List ℕ) → nat_eq (get_or verb 0 0) (get_or other 0 0) ≡ false → words ≡ verb ∷ others →
    words ≢ other ∷ more
other_verb words others more verb other differs is e =
    let alike = eq-eqb (get_or verb 0 0) (get_or other 0 0) (ap (λ (letters : List ℕ). get_or letters 0 0) (first_is verb other others more (sym is ∙ e))) in
    cc

same_verb : (words others more : List (List ℕ)) (verb : List ℕ) → others ≢ more → words ≡ verb ∷ others → words ≢ verb ∷ more
same_verb words others more verb differs is e = differs (rest_is verb verb others more (sym is ∙ e))

-- words behind `begin` that spell no begin are no event's
pub no_begin : (set : Set) (words others : List (List ℕ)) → words ≡ codes "begin" ∷ others
    → ((begin : ℕ × Request) → FitsBegin set begin.0 begin.1 0 → others ≢ begin_words (program_names set) begin.0 begin.1)
    → (event : Event) → FitsEvent set event → words ≢ event_words (program_names set) event
no_begin set words others is none (Begin server request seen) fits =
    same_verb words others (begin_words (program_names set) server request) (codes "begin") (none (server, request) (subst (FitsBegin set server request) fits.unseen fits)) is
no_begin set words others is none (Deliver chain hop) fits =
    other_verb words others (message_words chain hop) (codes "begin") (codes "deliver") refl is
no_begin set words others is none (Wake server) fits =
    other_verb words others (decimal server ∷ []) (codes "begin") (codes "wake") refl is
no_begin set words others is none (Lost chain hop) fits =
    other_verb words others (message_words chain hop) (codes "begin") (codes "lose") refl is
no_begin set words others is none (Restart server) fits =
    other_verb words others (decimal server ∷ []) (codes "begin") (codes "restart") refl is

-- words behind `deliver` that spell no message are no event's
pub no_deliver : (set : Set) (words others : List (List ℕ)) → words ≡ codes "deliver" ∷ others
    → ((message : ChainId × ℕ) → FitsMessage set message.0 message.1 → others ≢ message_words message.0 message.1)
    → (event : Event) → FitsEvent set event → words ≢ event_words (program_names set) event
no_deliver set words others is none (Begin server request seen) fits =
    other_verb words others (begin_words (program_names set) server request) (codes "deliver") (codes "begin") refl is
no_deliver set words others is none (Deliver chain hop) fits =
    same_verb words others (message_words chain hop) (codes "deliver") (none (chain, hop) fits) is
no_deliver set words others is none (Wake server) fits =
    other_verb words others (decimal server ∷ []) (codes "deliver") (codes "wake") refl is
no_deliver set words others is none (Lost chain hop) fits =
    other_verb words others (message_words chain hop) (codes "deliver") (codes "lose") refl is
no_deliver set words others is none (Restart server) fits =
    other_verb words others (decimal server ∷ []) (codes "deliver") (codes "restart") refl is

-- words behind `lose` that spell no message are no event's
pub no_lose : (set : Set) (words others : List (List ℕ)) → words ≡ codes "lose" ∷ others
    → ((message : ChainId × ℕ) → FitsMessage set message.0 message.1 → others ≢ message_words message.0 message.1)
    → (event : Event) → FitsEvent set event → words ≢ event_words (program_names set) event
no_lose set words others is none (Begin server request seen) fits =
    other_verb words others (begin_words (program_names set) server request) (codes "lose") (codes "begin") refl is
no_lose set words others is none (Deliver chain hop) fits =
    other_verb words others (message_words chain hop) (codes "lose") (codes "deliver") refl is
no_lose set words others is none (Wake server) fits =
    other_verb words others (decimal server ∷ []) (codes "lose") (codes "wake") refl is
no_lose set words others is none (Lost chain hop) fits =
    same_verb words others (message_words chain hop) (codes "lose") (none (chain, hop) fits) is
no_lose set words others is none (Restart server) fits =
    other_verb words others (decimal server ∷ []) (codes "lose") (codes "restart") refl is

-- words behind `wake` that spell no server are no event's
pub no_wake : (set : Set) (words others : List (List ℕ)) → words ≡ codes "wake" ∷ others
    → ((server : ℕ) → FitsServer set server → others ≢ decimal server ∷ [])
    → (event : Event) → FitsEvent set event → words ≢ event_words (program_names set) event
no_wake set words others is none (Begin server request seen) fits =
    other_verb words others (begin_words (program_names set) server request) (codes "wake") (codes "begin") refl is
no_wake set words others is none (Deliver chain hop) fits =
    other_verb words others (message_words chain hop) (codes "wake") (codes "deliver") refl is
no_wake set words others is none (Wake server) fits =
    same_verb words others (decimal server ∷ []) (codes "wake") (none server fits) is
no_wake set words others is none (Lost chain hop) fits =
    other_verb words others (message_words chain hop) (codes "wake") (codes "lose") refl is
no_wake set words others is none (Restart server) fits =
    other_verb words others (decimal server ∷ []) (codes "wake") (codes "restart") refl is

-- words behind `restart` that spell no server are no event's
pub no_restart : (set : Set) (words others : List (List ℕ)) → words ≡ codes "restart" ∷ others
    → ((server : ℕ) → FitsServer set server → others ≢ decimal server ∷ [])
    → (event : Event) → FitsEvent set event → words ≢ event_words (program_names set) event
no_restart set words others is none (Begin server request seen) fits =
    other_verb words others (begin_words (program_names set) server request) (codes "restart") (codes "begin") refl is
no_restart set words others is none (Deliver chain hop) fits =
    other_verb words others (message_words chain hop) (codes "restart") (codes "deliver") refl is
no_restart set words others is none (Wake server) fits =
    other_verb words others (decimal server ∷ []) (codes "restart") (codes "wake") refl is
no_restart set words others is none (Lost chain hop) fits =
    other_verb words others (message_words chain hop) (codes "restart") (codes "lose") refl is
no_restart set words others is none (Restart server) fits =
    same_verb words others (decimal server ∷ []) (codes "restart") (none server fits) is

-- ---- lines

pub no_words : (kind : FaultKind) (bytes : List ℕ) → TextFails kind (words_in bytes) → ((words : List (List ℕ)) → AreWords words → bytes ≡ joined words → TextFails kind (Some words))
    → MeansUnread kind ((words : List (List ℕ)) → AreWords words → bytes ≢ joined words)
no_words TooLong bytes exact only = exact
no_words BadVersion bytes exact only = exact
no_words BadLine bytes exact only = λ words are is. some_none (only words are is)
no_words BadName bytes exact only = λ words are is. some_none (only words are is)
no_words BadNumber bytes exact only = λ words are is. some_none (only words are is)
no_words Repeated bytes exact only = λ words are is. some_none (only words are is)
no_words Unknown bytes exact only = λ words are is. some_none (only words are is)
no_words NeedNotFirst bytes exact only = λ words are is. some_none (only words are is)
no_words LimitPassed bytes exact only = λ words are is. some_none (only words are is)
no_words LiteralElsewhere bytes exact only = λ words are is. some_none (only words are is)
no_words (Shard fault) bytes exact only = λ words are is. some_none (only words are is)
no_words Memory bytes exact only = tt

-- a fault is want of memory, or means what it means
pub memory_or : (kind : FaultKind) (only : Type 0) → MeansUnread kind only → (kind ≡ Memory) ⊎ only
memory_or TooLong only h = absurd h
memory_or BadVersion only h = absurd h
memory_or BadLine only h = inr h
memory_or BadName only h = inr h
memory_or BadNumber only h = inr h
memory_or Repeated only h = inr h
memory_or Unknown only h = inr h
memory_or NeedNotFirst only h = inr h
memory_or LimitPassed only h = inr h
memory_or LiteralElsewhere only h = inr h
memory_or (Shard fault) only h = inr h
memory_or Memory only h = inl refl

-- the first line of a text that begins with an event's
pub event_line : (set : Set) (event : Event) (bytes more : List ℕ) → FitsEvent set event → bytes ≡ line (event_words (program_names set) event) ++ more
    → next_line bytes ≡ Some (joined (event_words (program_names set) event), more)
event_line set event bytes more fits is = ap next_line is ∙ next_line_again (event_words (program_names set) event) more (event_are_words set event fits)

-- ---- scripts

-- one more event's line
pub script-push : (set : Set) (events : List Event) (event : Event) (more : List ℕ) → script_of set (events ++ event ∷ []) ++ more ≡ script_of set events ++ (line (event_words (program_names set) event) ++ more)
script-push set [] event more = append_assoc (line (event_words (program_names set) event)) [] more
script-push set (first ∷ events) event more =
    let own : List ℕ = line (event_words (program_names set) first) in
    append_assoc own (script_of set (events ++ event ∷ [])) more ∙ ap (λ rest. own ++ rest) (script-push set events event more)
    ∙ sym (append_assoc own (script_of set events) (line (event_words (program_names set) event) ++ more))

-- what is left of a script where it isn't empty
pub script_left : (set : Set) (others : List Event) (rest : List ℕ) → 0 < length rest → AllByRecursion (FitsEvent set) others → rest ≡ script_of set others
    → (event : Event) × (later : List Event) × FitsEvent set event × AllByRecursion (FitsEvent set) later × (rest ≡ line (event_words (program_names set) event) ++ script_of set later)
script_left set [] rest some fit is = absurd (omega (arith, some, ap length is))
script_left set (event ∷ later) rest some fit is = (event, later, fit.0, fit.1, is)

-- one more event fits
pub all-push : (set : Set) (events : List Event) (event : Event) → AllByRecursion (FitsEvent set) events → FitsEvent set event → AllByRecursion (FitsEvent set) (events ++ event ∷ [])
all-push set [] event all one = (one, tt)
all-push set (first ∷ events) event all one = (all.0, all-push set events event all.1 one)
