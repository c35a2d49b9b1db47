use Rattle.std.specs.Prelude.{◌≡◌, ◌≢◌, ◌++◌, ℕ, None, nat_lt, true}
use Rattle.std.specs.List.{AllByRecursion}
use Rattle.lynx_worker.specs.Sending.{behind_all, dues_for, parcels_of, sent_to}
use Rattle.lynx_worker.proofs.route.Route.catch_up.Given as goal

abbrev pub invariant-loop-due : goal.invariant-loop-due
invariant-loop-due g l =
    (l.self.lags_at ≡ None) × (l.self.to ≡ l.initial.self.to)
    × AllByRecursion (λ due. nat_lt due.place l.reached ≡ true) l.yielded
    × (l.next ≡ behind_all l.initial.next l.yielded)
    × ((server : ℕ) → server ≢ l.initial.self.to
    → sent_to l.ends server ≡ sent_to l.initial.ends server)
    × (sent_to l.ends l.initial.self.to ≡ sent_to l.initial.ends l.initial.self.to
    ++ parcels_of (dues_for l.initial.self.to l.yielded))
    × (l.fn.owed.dues.items ≡ l.yielded ++ l.due-iterator.rest.items)
    × (goal.iterator-loop-due g).can_next l.due-iterator
    × (goal.iterator-loop-due g).is_finite l.due-iterator
