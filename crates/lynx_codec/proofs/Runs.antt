-- What a feed gives of a stream is what begins it, in whatever pieces it comes.
use Rattle.std.proofs.Common.{◌≡◌, ℕ, List, [], ◌∷◌, ◌++◌, sym, ap, ◌∙◌, append_assoc}
use Rattle.std.specs.List.{flat_map, AllByRecursion}
use Rattle.std.proofs.lemmas.List.{append-nil}
use Rattle.std.proofs.lemmas.List.Concat.{flat_map-append}
use Rattle.lynx_codec.specs.declared.item.Item.{Item}
use Rattle.lynx_codec.specs.Encoding.{encoding}
use Rattle.lynx_codec.specs.Ranges.{IsItem}
use Rattle.lynx_codec.specs.Feeding.{Stream, BeginsNoItem, GivesAll, Run, empty, pushed_of, given_of}
use Rattle.lynx_codec.proofs.Feeds.{one_reading}

-- what these bytes are: the encodings of these items, and a rest
record IsRead (bytes : List ℕ) (items : List Item) (rest : List ℕ) : Type 0 where
  parts : bytes ≡ flat_map encoding items ++ rest
  are_items : AllByRecursion IsItem items

all_given : (old new : Stream) (items : List Item) → GivesAll old items new → IsRead old.rest items new.rest
all_given old new [] same = record { parts = ap (λ (s : Stream). s.rest) (sym same); are_items = tt }
all_given old new (item ∷ items) g =
    let others = all_given g.0 new items g.2 in
    record {
      parts = g.1.encoding_stood ∙ ap (λ (z : List ℕ). encoding item ++ z) others.parts ∙ sym (append_assoc (encoding item) (flat_map encoding items) new.rest);
      are_items = (g.1.is_item, others.are_items);
    }

all_of_both : (ours theirs : List Item) → AllByRecursion IsItem ours → AllByRecursion IsItem theirs → AllByRecursion IsItem (ours ++ theirs)
all_of_both [] theirs a b = b
all_of_both (item ∷ ours) theirs a b = (a.0, all_of_both ours theirs a.1 b)

run_is_read : (old new : Stream) (steps : List (List ℕ × List Item)) → Run old steps new → IsRead (old.rest ++ pushed_of steps) (given_of steps) new.rest
run_is_read old new [] same = record { parts = append-nil old.rest ∙ ap (λ (s : Stream). s.rest) (sym same); are_items = tt }
run_is_read old new (step ∷ steps) r =
    let first = all_given (record old { rest = old.rest ++ step.0 }) r.0 step.1 r.1 in
    let others = run_is_read r.0 new steps r.2 in
    record {
      parts =
          sym (append_assoc old.rest step.0 (pushed_of steps))
          ∙ ap (λ (z : List ℕ). z ++ pushed_of steps) first.parts
          ∙ append_assoc (flat_map encoding step.1) r.0.rest (pushed_of steps)
          ∙ ap (λ (z : List ℕ). flat_map encoding step.1 ++ z) others.parts
          ∙ sym (append_assoc (flat_map encoding step.1) (flat_map encoding (given_of steps)) new.rest)
          ∙ ap (λ (z : List ℕ). z ++ new.rest) (sym (flat_map-append encoding step.1 (given_of steps)));
      are_items = all_of_both step.1 (given_of steps) first.are_items others.are_items;
    }

pub begins_the_stream : (steps : List (List ℕ × List Item)) (now : Stream) → Run empty steps now → AllByRecursion IsItem (given_of steps) × (pushed_of steps ≡ flat_map encoding (given_of steps) ++ now.rest)
begins_the_stream steps now run =
    let r = run_is_read empty now steps run in
    (r.are_items, r.parts)

pub whatever_pieces : (ours theirs : List (List ℕ × List Item)) (x y : Stream) → Run empty ours x → Run empty theirs y → BeginsNoItem x.rest → BeginsNoItem y.rest
    → pushed_of ours ≡ pushed_of theirs → (given_of ours ≡ given_of theirs) × (x.rest ≡ y.rest)
whatever_pieces ours theirs x y our_run their_run x_none y_none same =
    let a = begins_the_stream ours x our_run in
    let b = begins_the_stream theirs y their_run in
    one_reading (given_of ours) (given_of theirs) x.rest y.rest a.0 b.0 x_none y_none (sym a.1 ∙ same ∙ b.1)
