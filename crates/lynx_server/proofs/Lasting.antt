-- A server's invariant after a commit.
use Rattle.std.proofs.Common.{◌≡◌, ◌≤◌, ◌<◌, ℕ, Bool, Option, Some, None, length, ◌∷◌, [], refl, sym, ap, subst, arith}
use Rattle.std.proofs.lemmas.List.{length-append}
use Rattle.lynx_entry.specs.declared.entry.Entry.{Entry}
use Rattle.lynx_entry.specs.Entry.{History}
use Rattle.lynx_keep.specs.Kept.{HasRisen, Terms}
use Rattle.lynx_server.specs.Books.{BooksState}
use Rattle.lynx_server.specs.inner.Begins.{books_with}
use Rattle.lynx_server.specs.History.{grown}
use Rattle.lynx_server.specs.Keeping.{kept_of}
use Rattle.lynx_server.specs.inner.Keeping.{GoesTo}
use Rattle.lynx_server.specs.Serving.{IsServing}

-- a history grows by one entry at most
grown_by_one : (history : History) (added : Option Entry) (room : ℕ) → length history < room → length (grown history added) ≤ room
grown_by_one history None room within = omega (arith, within)
grown_by_one history (Some entry) room within = omega (arith, within, length-append history (entry ∷ []))

-- what was kept is kept on, and there is room for one more mark
pub serves_on : {K : Type 0} (terms : Terms K) (books new : BooksState) (added : Option Entry) (is_stopped : Bool)
    (opened room more : ℕ) (keeper after : K) → IsServing terms books is_stopped opened room keeper → new ≡ books_with books added →
    GoesTo terms keeper after (kept_of books.set books.history) (kept_of books.set (grown books.history added)) →
    length books.history < more → IsServing terms new is_stopped opened more after
serves_on {K} terms books new added is_stopped opened room more keeper after serving grew goes within =
    subst (λ b. IsServing terms b is_stopped opened more after) (sym grew) (record {
      free = refl;
      kept = λ runs holds. goes.keeps_after holds (serving.kept runs (goes.sound_before holds));
      opened_before = omega (arith, serving.opened_before, goes.counts);
      stopped = λ stops. let rose : HasRisen opened (terms.counted keeper) = serving.stopped stops in omega (arith, rose, goes.counts);
      markable = grown_by_one books.history added more within;
    })

-- no draw is out
pub free_books : (books : BooksState) → books.out ≡ None → books ≡ record { set = books.set; server = books.server; history = books.history; out = None }
free_books books free = ap (λ out. record { set = books.set; server = books.server; history = books.history; out = out }) free

-- .. and none is out with what was added
pub free_with : (books : BooksState) (added : Option Entry) → books.out ≡ None → record books { history = grown books.history added } ≡ books_with books added
free_with books added free = ap (λ out. record { set = books.set; server = books.server; history = grown books.history added; out = out }) free
