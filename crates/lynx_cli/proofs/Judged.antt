-- A run over a set that was read or judged before, by the set's text.
use Rattle.std.proofs.Common.{◌≡◌, ◌∙◌, ℕ, Bool, true, false, List, Option, Result, Ok, Err, inr, ap, refl, sym, subst}
use Rattle.std.specs.Bool.{MatchBool}
use Rattle.std.specs.Prelude.{IfErr, IfOk}
use Rattle.sqlite.specs.State.{State}
use Rattle.lynx_keep.specs.Kept.{Terms}
use Rattle.lynx_graph.specs.Acceptance.{IsAccepted as IsAcceptedSet}
use Rattle.lynx_set.proofs.Literals.{literals_home}
use Rattle.lynx_set.specs.Home.{AreLiteralsHome}
use Rattle.lynx_set.specs.Rules.{IsSet}
use Rattle.lynx_set.specs.Set.{Set}
use Rattle.lynx_set.specs.Text.{text_of}
use Rattle.lynx_text.proofs.OneSet.{one_set}
use Rattle.lynx_order.specs.Explained.{GivesOrder}
use Rattle.lynx_order.specs.declared.explained.Explained.{Explained}
use Rattle.lynx_order.specs.declared.explained.Explained.TheVariants.{Cycle, Order}
use Rattle.lynx_report.specs.Options.{PrintsOwed, PrintsWith}
use Rattle.lynx_report.specs.Refusals.{Accepts}
use Rattle.lynx_report.specs.Runs.{Prints, ending_of}
use Rattle.lynx_report.specs.declared.run.Ending.{Ending}
use Rattle.lynx_report.specs.declared.options.RunOptions.{RunOptions}
use Rattle.lynx_rerun.specs.Reruns.{Reruns}
use Rattle.lynx_store_files.specs.Terms.{StoreTerms}
use Rattle.lynx_cli.specs.declared.fault.Fault.{Fault}
use Rattle.lynx_cli.specs.Done.{HasExtended, HasGivenText, HasRerunJudged, HasRerunTexts, HasRunJudged, HasRunTexts, HasServedJudged, HasServedText}
use Rattle.lynx_cli.specs.Statuses.{status_of_ending}
use Rattle.lynx_cli.specs.Stopped.{StopsRunJudged, StopsRunTexts}

-- what holds of the set's text, and of what is written from here on, holds of the text, and of what was written before
at_text : (Holds : List ℕ → Option (List ℕ) → Type 0) (text spelled : List ℕ) (old mid : Option (List ℕ)) → text ≡ spelled → mid ≡ old → Holds spelled mid → Holds text old
at_text Holds text spelled old mid same kept holds = subst (λ bytes. Holds bytes old) (sym same) (subst (Holds spelled) kept holds)

-- the text's set is that which is accepted
accepted_text : (text : List ℕ) (set other : Set) → Accepts text set → IsSet other → text ≡ text_of other → IsAcceptedSet other
accepted_text text set other accepts is spelled =
    subst IsAcceptedSet (one_set set other accepts.is_set is (sym accepts.spelled ∙ spelled)) accepts.accepted

-- so its run ends with an order
ends_ordered : (options : RunOptions) (text script : List ℕ) (set : Set) (ending : Ending) (printed : List ℕ) → Accepts text set → PrintsWith options text script ending printed →
    status_of_ending ending ≡ 0
ends_ordered options text script set ending printed accepts prints = by options.owed prints
  where
    by : (owed : Bool) → MatchBool owed (PrintsOwed text script ending printed) (Prints text script ending printed) → status_of_ending ending ≡ 0
    by true owes = ap status_of_ending (owes.promised.ordered (accepted_text text set owes.chains accepts owes.is_set owes.set_spelled))
    by false plain = ap status_of_ending (plain.promised.ordered (accepted_text text set plain.chains accepts plain.is_set plain.set_spelled))

pub judged_done : (options : RunOptions) (text script : List ℕ) (set : Set) (result : Result ℕ Fault) (old mid new : Option (List ℕ)) → Accepts text set → mid ≡ old →
    IfOk result (HasRunTexts options (text_of set) script mid new) → IfOk result (HasRunJudged options text script old new)
judged_done options text script set (Err fault) old mid new accepts kept run = tt
judged_done options text script set (Ok status) old mid new accepts kept run =
    let ran = at_text (λ bytes before. HasRunTexts options bytes script before new status) text (text_of set) old mid accepts.spelled kept run in
    inr ((set, accepts), ran, ran.status_is ∙ ends_ordered options text script set ran.ending ran.printed accepts ran.prints)

pub judged_stops : (options : RunOptions) (text script : List ℕ) (set : Set) (result : Result ℕ Fault) (old mid new : Option (List ℕ)) → Accepts text set → mid ≡ old →
    IfErr result (StopsRunTexts options (text_of set) script mid new) → IfErr result (StopsRunJudged options text script old new)
judged_stops options text script set (Ok status) old mid new accepts kept stops = tt
judged_stops options text script set (Err fault) old mid new accepts kept stops =
    inr ((set, accepts), at_text (λ bytes before. StopsRunTexts options bytes script before new fault) text (text_of set) old mid accepts.spelled kept stops)

-- ---- the same of a run over stores

order_status : (explained : Explained) → GivesOrder explained → status_of_ending (ending_of explained) ≡ 0
order_status (Order chains) given = refl
order_status (Cycle chains) given = absurd given

-- what the stores of an accepted set keep has an order
rerun_ordered : {K : Type 0} (terms : Terms K) (stores : StoreTerms K) (folder : List ℕ) (set : Set) (script : List ℕ) (owed : Bool) (ending : Ending) (printed : List ℕ) → IsSet set → IsAcceptedSet set →
    Reruns terms stores folder set script owed ending printed → status_of_ending ending ≡ 0
rerun_ordered terms stores folder set script owed ending printed is accepted reruns =
    let end = reruns.ends.end.end in
    let of_set : reruns.ends.world.set ≡ set = reruns.ends.gathered.woven.set_is in
    ap status_of_ending end.ending_is
    ∙ order_status end.explained (end.explains.accepted (subst AreLiteralsHome (sym of_set) (literals_home set is)) (subst IsAcceptedSet (sym of_set) accepted))

pub rerun_done : {K : Type 0} (terms : Terms K) (stores : StoreTerms K) (folder : List ℕ) (options : RunOptions) (text script : List ℕ) (set : Set) (result : Result ℕ Fault) (old new : Option (List ℕ)) →
    text ≡ text_of set → IfOk result (HasRerunTexts terms stores folder options (text_of set) script old new) → IfOk result (HasRerunTexts terms stores folder options text script old new)
rerun_done terms stores folder options text script set (Err fault) old new same run = tt
rerun_done terms stores folder options text script set (Ok status) old new same run = subst (λ bytes. HasRerunTexts terms stores folder options bytes script old new status) (sym same) run

pub rerun_judged_done : {K : Type 0} (terms : Terms K) (stores : StoreTerms K) (folder : List ℕ) (options : RunOptions) (text script : List ℕ) (set : Set) (result : Result ℕ Fault) (old mid new : Option (List ℕ)) →
    Accepts text set → mid ≡ old → IfOk result (HasRerunTexts terms stores folder options (text_of set) script mid new) → IfOk result (HasRerunJudged terms stores folder options text script old new)
rerun_judged_done terms stores folder options text script set (Err fault) old mid new accepts kept run = tt
rerun_judged_done terms stores folder options text script set (Ok status) old mid new accepts kept run =
    let ran = at_text (λ bytes before. HasRerunTexts terms stores folder options bytes script before new status) text (text_of set) old mid accepts.spelled kept run in
    let accepted = accepted_text text set ran.chains accepts ran.is_set ran.spelled in
    inr ((set, accepts), ran, ran.status_is ∙ rerun_ordered terms stores folder ran.chains script options.owed ran.ending ran.printed ran.is_set accepted ran.reruns)

-- a folder's stores are given to the set of a text, which is accepted
pub extended_so : {K C : Type 0} (stores : StoreTerms K) (folder : List ℕ) (state_of : C → State) (OpenedAt : ℕ → Option C → Type 0) (DatabaseClosed : C → Bool → Type 0) (text : List ℕ) (result : Result ℕ Fault) (old mid new : Option (List ℕ)) →
    mid ≡ old → IfOk result (HasGivenText stores folder state_of OpenedAt DatabaseClosed text mid new) →
    IfOk result (λ status. (read : List ℕ) × HasExtended stores folder state_of OpenedAt DatabaseClosed read old new status)
extended_so stores folder state_of OpenedAt DatabaseClosed text (Err fault) old mid new kept done = tt
extended_so stores folder state_of OpenedAt DatabaseClosed text (Ok status) old mid new kept done =
    (text, inr (subst (λ before. HasGivenText stores folder state_of OpenedAt DatabaseClosed text before new status) kept done))

-- clients are served over a text's set, which is accepted
pub served_so : {K : Type 0} (terms : Terms K) (stores : StoreTerms K) (folder : List ℕ) (apart : Bool) (text : List ℕ) (result : Result ℕ Fault) (old mid new : Option (List ℕ)) →
    mid ≡ old → IfOk result (λ status. (explained : Explained) × HasServedText terms stores folder apart text explained mid new status) →
    IfOk result (λ status. (read : List ℕ) × HasServedJudged terms stores folder apart read old new status)
served_so terms stores folder apart text (Err fault) old mid new kept done = tt
served_so terms stores folder apart text (Ok status) old mid new kept done =
    (text, inr (done.0, subst (λ before. HasServedText terms stores folder apart text done.0 before new status) kept done.1))
