-- A set that has a text has one at version 2.
use Rattle.std.proofs.Common.{◌≡◌, ℕ, List, [], ◌∷◌, Option, Some, None, length, ◌≤◌, refl, subst, sym}
use Rattle.lynx_names.specs.declared.limits.TheConstants.{MAX_TEXT_BYTES}
use Rattle.lynx_shards.specs.declared.shard.Shard.{Shard}
use Rattle.lynx_set.specs.declared.action.Action.{Action}
use Rattle.lynx_set.specs.declared.action.Action.TheVariants.{Get, Update, Let, Need}
use Rattle.lynx_set.specs.declared.action.Key.{Key}
use Rattle.lynx_set.specs.declared.action.Update.{Update as TheUpdate}
use Rattle.lynx_set.specs.declared.action.Update.TheVariants.{Set as SetTo, Add, Sub, Max}
use Rattle.lynx_set.specs.declared.program.ParameterRange.{ParameterRange}
use Rattle.lynx_set.specs.declared.version.Version.{Version}
use Rattle.lynx_set.specs.declared.version.Version.TheVariants.{One, Two}
use Rattle.lynx_set.specs.Plain.{PlainHop, PlainProgram, PlainSet, plain_set}
use Rattle.lynx_set.specs.Rules.{FitsCell, FitsAction, HasUpdate, BindsNew, FitActions, FitHops, FitTables, FitsProgram, FitPrograms, HasRanges, IsSet, next_scope, no_programs, no_tables, with_hop, with_program, with_table}
use Rattle.lynx_set.specs.Scopes.{PlainScope, scope_in}
use Rattle.lynx_set.specs.Set.{Set}
use Rattle.lynx_set.specs.Text.{text_of}

-- the same at version 2
abbrev scope_two : PlainScope → PlainScope
scope_two scope = record scope { version = Two }

abbrev plain_two : PlainSet → PlainSet
plain_two set = record set { version = Two }

abbrev pub set_two : Set → Set
set_two set = record set { version = Two }

has_update : (version : Version) (update : TheUpdate) → HasUpdate version update → HasUpdate Two update
has_update version SetTo has = tt
has_update version Add has = tt
has_update version Sub has = tt
has_update version Max has = refl

has_ranges : (version : Version) (ranges : List ParameterRange) → HasRanges version ranges → HasRanges Two ranges
has_ranges version [] has = tt
has_ranges version (range ∷ ranges) has = refl

fits_cell : (scope : PlainScope) (table : ℕ) (key : Key) → FitsCell scope table key → FitsCell (scope_two scope) table key
fits_cell scope table key fits = record { table_is = fits.table_is; numbered = fits.numbered; key_is = fits.key_is; at_home = fits.at_home }

fits_action : (scope : PlainScope) (action : Action) → FitsAction scope action → FitsAction (scope_two scope) action
fits_action scope (Get table key) fits = fits_cell scope table key fits
fits_action scope (Update update table key value) fits = (fits_cell scope table key fits.0, fits.1, has_update scope.version update fits.2)
fits_action scope (Let left operator right) fits = fits
fits_action scope (Need left relation right) fits = fits

binds_new : (scope : PlainScope) (action : Action) (binds : Option (List ℕ)) → BindsNew scope action binds → BindsNew (scope_two scope) action binds
binds_new scope (Get table key) None new = absurd new
binds_new scope (Get table key) (Some name) new = new
binds_new scope (Update update table key value) None new = tt
binds_new scope (Update update table key value) (Some name) new = absurd new
binds_new scope (Let left operator right) None new = absurd new
binds_new scope (Let left operator right) (Some name) new = new
binds_new scope (Need left relation right) None new = tt
binds_new scope (Need left relation right) (Some name) new = absurd new

fit_actions : (scope : PlainScope) (actions : List Action) (after : List (List ℕ)) → FitActions scope actions after → FitActions (scope_two scope) actions after
fit_actions scope [] after fit = fit
fit_actions scope (action ∷ actions) after fit =
    (fit.0, fits_action scope action fit.1, fit.2, binds_new scope action fit.2 fit.3, fit_actions (next_scope scope fit.2) actions after fit.4)

fit_hops : (set : PlainSet) (program : PlainProgram) (hops : List PlainHop) (after : List (List ℕ)) → FitHops set program hops after → FitHops (plain_two set) program hops after
fit_hops set program [] after fit = fit
fit_hops set program (hop ∷ hops) after fit =
    (fit.0, fit.1, fit.2, fit.3, fit_actions (scope_in set hop.server program []) hop.actions fit.3 fit.4, fit_hops set (with_hop program hop fit.3) hops after fit.5)

fits_program : (set : PlainSet) (program : PlainProgram) → FitsProgram set program → FitsProgram (plain_two set) program
fits_program set program fits = record {
  parameters = fits.parameters;
  few = fits.few;
  names = fits.names;
  count = fits.count;
  ranges = fits.ranges;
  has_ranges = has_ranges set.version program.ranges fits.has_ranges;
  some = fits.some;
  hops = fit_hops set (record { parameters = length fits.parameters; names = fits.parameters; ranges = program.ranges; hops = [] }) program.hops program.names fits.hops;
}

fit_programs : (set : PlainSet) (programs : List (List ℕ × PlainProgram)) → FitPrograms set programs → FitPrograms (plain_two set) programs
fit_programs set [] fit = tt
fit_programs set (program ∷ programs) fit = (fit.0, fit.1, fits_program set program.1 fit.2, fit_programs (with_program set program) programs fit.3)

fit_tables : (set : PlainSet) (names : List (List ℕ)) (tables : List (List Shard)) → FitTables set names tables → FitTables (plain_two set) names tables
fit_tables set [] [] fit = tt
fit_tables set [] (shards ∷ tables) fit = absurd fit
fit_tables set (name ∷ names) [] fit = absurd fit
fit_tables set (name ∷ names) (shards ∷ tables) fit = (fit.0, fit.1, fit.2, fit_tables (with_table set name shards) names tables fit.3)

-- both texts are as long as one another
same_length : (version : Version) (set : Set) → version ≡ set.version → length (text_of (set_two set)) ≡ length (text_of (record set { version = version }))
same_length One set is = refl
same_length Two set is = refl

pub upgraded_is : (set : Set) → IsSet set → IsSet (set_two set)
upgraded_is set is =
    let plain : PlainSet = plain_set set in (
      (is.0.0, is.0.1, fit_tables (no_tables set.version set.servers) set.tables set.shards is.0.2, fit_programs (no_programs plain) plain.programs is.0.3),
      subst (λ (n : ℕ). n ≤ MAX_TEXT_BYTES) (sym (same_length set.version set refl)) is.1,
    )
