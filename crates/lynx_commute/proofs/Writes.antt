-- Writes and actions of kinds that commute, or at different cells.
use Rattle.std.specs.Prelude.{◌≡◌, ◌≢◌, Bool, ℕ, ◌+◌, ◌-◌, ◌%◌, ◌^◌, List, [], ◌∷◌, true, false, map, not, IsTrue, refl}
use Rattle.std.specs.List.{filter_map}
use Rattle.std.proofs.Common.{◌≤◌, max, sym, ap, ◌∙◌, arith}
use Rattle.std.specs.Ordering.{eq_by_cmp, is_eq}
use Rattle.std.proofs.lemmas.Cmp.{tied_itself}
use Rattle.std.proofs.Math.Nat.{mod-add-mod, le-max_left, le-max_right, max-le}
use Rattle.lynx_cells.specs.Database.{cell_cmp, Database, value_at, with_value}
use Rattle.lynx_cells.proofs.CellOrder.{cell_cmp_total, same_cell}
use Rattle.lynx_cells.proofs.Writes.{value_at-with_value_same, value_at-with_value_other, with_value-with_value_same, with_value-with_value_other}
use Rattle.lynx_set.specs.declared.action.Action.{Action}
use Rattle.lynx_set.specs.declared.action.Action.TheVariants.{Get, Update, Let, Need}
use Rattle.lynx_set.specs.declared.action.Update.{Update as TheUpdate}
use Rattle.lynx_set.specs.declared.action.Update.TheVariants.{Set as SetTo, Add, Sub, Max}
use Rattle.lynx_hops.specs.Meaning.{key_of, sum_of, updated}
use Rattle.lynx_foot.specs.declared.kind.Kind.{Kind}
use Rattle.lynx_foot.specs.declared.kind.Kind.TheVariants.{Getting}
use Rattle.lynx_foot.specs.declared.touch.Touch.{Touch}
use Rattle.lynx_foot.specs.Kinds.{commute}
use Rattle.lynx_foot.specs.Feet.{foot_of, kind_of, touch_of}
use Rattle.lynx_foot.specs.Conflicts.{Collides}
use Rattle.lynx_commute.proofs.Changes.{AllPass, with_update}

-- the touches of some actions
abbrev pub touches_in : List ℕ → List Action → List Touch
touches_in args actions = map (touch_of args) (filter_map foot_of actions)

-- the touch clashes with none of the touches
abbrev pub CollidesWithNone : Touch → List Touch → Type 0
CollidesWithNone touch [] = Unit {0}
CollidesWithNone touch (other ∷ others) = ¬ Collides touch other × CollidesWithNone touch others

-- the touch of a cell
abbrev pub touch_at : ℕ → ℕ → Kind → Touch
touch_at table key kind = record { table = table; key = key; kind = kind }

-- touches of kinds that don't commute, but don't collide, are of different cells
pub apart : (table key other place : ℕ) (left right : Kind) → ¬ Collides (touch_at table key left) (touch_at other place right) → IsTrue (not (commute left right)) →
    ◌≢◌ {A = ℕ × ℕ} (other, place) (table, key)
apart table key other place left right none kinds same =
    none (record { same_table = sym (ap (λ (cell : ℕ × ℕ). cell.0) same); same_key = sym (ap (λ (cell : ℕ × ℕ). cell.1) same); kinds_collide = kinds })

pub turned : (a b : ℕ × ℕ) → a ≢ b → b ≢ a
turned a b differ same = differ (sym same)

-- ---- updates of one cell by kinds that commute may come in any order

sum_of-sum_of : (value first second : ℕ) → sum_of (sum_of value first) second ≡ sum_of (sum_of value second) first
sum_of-sum_of value first second =
    mod-add-mod (value + first) (2 ^ 64) second
    ∙ ap (λ n. n % 2 ^ 64) (omega arith)
    ∙ sym (mod-add-mod (value + second) (2 ^ 64) first)

-- the greatest of three is no greater than what none of them is
max_of_three : (a b c bound : ℕ) → a ≤ bound → b ≤ bound → c ≤ bound → max (max a b) c ≤ bound
max_of_three a b c bound first second third = max-le (max-le first second) third

-- the greatest of three, in whichever order
max-max : (held one two : ℕ) → max (max held one) two ≡ max (max held two) one
max-max held one two =
    let left = max (max held one) two in
    let right = max (max held two) one in
    let below : left ≤ right = max_of_three held one two right
    (omega (arith, le-max_left held two, le-max_left (max held two) one)) (le-max_right (max held two) one) (omega (arith, le-max_right held two, le-max_left (max held two) one)) in
    let above : right ≤ left = max_of_three held two one left
    (omega (arith, le-max_left held one, le-max_left (max held one) two)) (le-max_right (max held one) two) (omega (arith, le-max_right held one, le-max_left (max held one) two)) in
    omega (arith, below, above)

-- updates whose kinds commute may change places
updated-updated : (first second : TheUpdate) (held one two : ℕ) → commute (kind_of first) (kind_of second) ≡ true →
    updated second (updated first held one) two ≡ updated first (updated second held two) one
updated-updated SetTo SetTo held one two same = cc
updated-updated SetTo Add held one two same = cc
updated-updated SetTo Sub held one two same = cc
updated-updated SetTo Max held one two same = cc
updated-updated Add SetTo held one two same = cc
updated-updated Add Add held one two same = sum_of-sum_of held one two
updated-updated Add Sub held one two same = sum_of-sum_of held one (2 ^ 64 - two)
updated-updated Add Max held one two same = cc
updated-updated Sub SetTo held one two same = cc
updated-updated Sub Add held one two same = sum_of-sum_of held (2 ^ 64 - one) two
updated-updated Sub Sub held one two same = sum_of-sum_of held (2 ^ 64 - one) (2 ^ 64 - two)
updated-updated Sub Max held one two same = cc
updated-updated Max SetTo held one two same = cc
updated-updated Max Add held one two same = cc
updated-updated Max Sub held one two same = cc
updated-updated Max Max held one two same = max-max held one two

-- no update commutes with a get
pub update_of_get : (update : TheUpdate) → IsTrue (not (commute (kind_of update) Getting))
update_of_get SetTo = refl
update_of_get Add = refl
update_of_get Sub = refl
update_of_get Max = refl

pub get_of_update : (update : TheUpdate) → IsTrue (not (commute Getting (kind_of update)))
get_of_update SetTo = refl
get_of_update Add = refl
get_of_update Sub = refl
get_of_update Max = refl

-- ---- updates of one cell

updates_of_one : (db : Database) (table key : ℕ) (first second : TheUpdate) (one two : ℕ) →
    with_update (with_update db first table key one) second table key two ≡ with_value db table key (updated second (updated first (value_at db table key) one) two)
updates_of_one db table key first second one two =
    ap (λ value. with_value (with_update db first table key one) table key (updated second value two)) (value_at-with_value_same db table key (updated first (value_at db table key) one))
    ∙ with_value-with_value_same db table key (updated first (value_at db table key) one) (updated second (updated first (value_at db table key) one) two)

-- ---- updates of different cells

update_of_other : (db : Database) (a b : ℕ × ℕ) (update : TheUpdate) (by value : ℕ) → a ≢ b →
    with_update (with_value db a.0 a.1 value) update b.0 b.1 by ≡ with_value (with_update db update b.0 b.1 by) a.0 a.1 value
update_of_other db a b update by value differ =
    ap (λ old. with_value (with_value db a.0 a.1 value) b.0 b.1 (updated update old by)) (value_at-with_value_other db a b value (turned a b differ))
    ∙ with_value-with_value_other db a b value (updated update (value_at db b.0 b.1) by) differ

updates_of_two : (db : Database) (a b : ℕ × ℕ) (first second : TheUpdate) (one two : ℕ) → a ≢ b →
    with_update (with_update db first a.0 a.1 one) second b.0 b.1 two ≡ with_update (with_update db second b.0 b.1 two) first a.0 a.1 one
updates_of_two db a b first second one two differ =
    update_of_other db a b second two (updated first (value_at db a.0 a.1) one) differ
    ∙ ap (λ old. with_value (with_update db second b.0 b.1 two) a.0 a.1 (updated first old one)) (sym (value_at-with_value_other db b a (updated second (value_at db b.0 b.1) two) differ))

-- ---- actions that don't collide with an update pass it

-- touches of one cell that don't collide are of kinds that commute
commute_there : (a b : ℕ × ℕ) (left right : Kind) → ¬ Collides (touch_at a.0 a.1 left) (touch_at b.0 b.1 right) → a ≡ b → commute left right ≡ true
commute_there a b left right none same = by (commute left right) refl
  where
    by : (kinds : Bool) → commute left right ≡ kinds → commute left right ≡ true
    by true is = is
    by false is = absurd (none (record { same_table = ap (λ (cell : ℕ × ℕ). cell.0) same; same_key = ap (λ (cell : ℕ × ℕ). cell.1) same; kinds_collide = ap not is }))

-- updates that don't collide may come in any order
updates_pass : (db : Database) (a b : ℕ × ℕ) (first second : TheUpdate) (one two : ℕ) → ¬ Collides (touch_at a.0 a.1 (kind_of first)) (touch_at b.0 b.1 (kind_of second)) →
    with_update (with_update db first a.0 a.1 one) second b.0 b.1 two ≡ with_update (with_update db second b.0 b.1 two) first a.0 a.1 one
updates_pass db a b first second one two none =
    elim (eq_by_cmp cell_cmp a b) as (λ t. eq_by_cmp cell_cmp a b ≡ t → with_update (with_update db first a.0 a.1 one) second b.0 b.1 two ≡ with_update (with_update db second b.0 b.1 two) first a.0 a.1 one) [
      | true ↦ λ tied.
          let same = same_cell a b tied in
          ap (λ (cell : ℕ × ℕ). with_update (with_update db first a.0 a.1 one) second cell.0 cell.1 two) (sym same)
          ∙ updates_of_one db a.0 a.1 first second one two
          ∙ ap (with_value db a.0 a.1) (updated-updated first second (value_at db a.0 a.1) one two (commute_there a b (kind_of first) (kind_of second) none same))
          ∙ sym (updates_of_one db a.0 a.1 second first two one)
          ∙ ap (λ (cell : ℕ × ℕ). with_update (with_update db second cell.0 cell.1 two) first a.0 a.1 one) same
      | false ↦ λ other. updates_of_two db a b first second one two (λ same. let tied : eq_by_cmp cell_cmp a b ≡ true = ap (λ c. eq_by_cmp cell_cmp a c) (sym same) ∙ ap is_eq (tied_itself cell_cmp_total a) in cc (tied, other))
    ] refl

pub AllPass-with_update : (args : List ℕ) (actions : List Action) (update : TheUpdate) (table key by : ℕ) →
    CollidesWithNone (touch_at table key (kind_of update)) (touches_in args actions) → AllPass args (λ db. with_update db update table key by) actions
AllPass-with_update args [] update table key by none = tt
AllPass-with_update args (Get other place ∷ actions) update table key by none =
    let differ = apart table key other (key_of args place) (kind_of update) Getting none.0 (update_of_get update) in (
      λ db. value_at-with_value_other db (table, key) (other, key_of args place) (updated update (value_at db table key) by) differ,
      AllPass-with_update args actions update table key by none.1,
    )
AllPass-with_update args (Update second other place _ ∷ actions) update table key by none = (
  λ db more. updates_pass db (table, key) (other, key_of args place) update second by more none.0,
  AllPass-with_update args actions update table key by none.1,
)
AllPass-with_update args (Let left operator right ∷ actions) update table key by none = (tt, AllPass-with_update args actions update table key by none)
AllPass-with_update args (Need left relation right ∷ actions) update table key by none = (tt, AllPass-with_update args actions update table key by none)
