use Rattle.std.proofs.Common.{◌≡◌, ◌∙◌, ◌<◌, ℕ, List, ap, arith, inl, inr, length, slice_index_or, sym}
use Rattle.std.proofs.lemmas.Bool.{cases_lt}
use Rattle.std.proofs.lemmas.List.FromFn.{get_or-map-range_with_len, length-map-range_with_len}
use Rattle.lynx_carry.specs.Counts.{entries_at}
use Rattle.lynx_carry.proofs.judging.check_room.Goals as goal

pub index-entries-requires : goal.index-entries-requires
index-entries-requires c =
    let len : length c.in_ok-counts.counts.items ≡ c.args.set.now.servers =
    ap length c.in_ok-counts.ensures
    ∙ length-map-range_with_len (entries_at c.args.set.now c.args.requests.now) 0 c.args.set.now.servers in
    omega (arith, len, c.in_ok-counts.counts.ok, c.index.ensures.value, c.at-server.ensures, c.loop-number-test.true, c.servers-number-end.ensures.value)

pub returns-then-entries-gt-MAX_ENTRIES-clause-err : goal.returns-then-entries-gt-MAX_ENTRIES-clause-err
returns-then-entries-gt-MAX_ENTRIES-clause-err c =
    let servers = c.args.set.now.servers in
    let within : c.index.result < servers =
    omega (arith, c.index.ensures.value, c.at-server.ensures, c.loop-number-test.true, c.servers-number-end.ensures.value) in
    let entries = c.index-entries.result.now in
    record {
      requests = c.args.requests.now;
      of_set = omega (arith, within, c.index.ensures.value);
      count = sym
          (c.index-entries.ensures ∙ ap (λ (counts : List ℕ). slice_index_or counts c.index.result entries) c.in_ok-counts.ensures
          ∙ get_or-map-range_with_len (entries_at c.args.set.now c.args.requests.now) 0 servers c.index.result c.at-server.result entries within
          (omega (arith, c.index.ensures.value)));
      many = c.if-entries-gt-MAX_ENTRIES.true;
    }

pub loop-number-preserved : goal.loop-number-preserved
loop-number-preserved c =
    let servers = c.args.set.now.servers in
    let count : ℕ → ℕ = entries_at c.args.set.now c.args.requests.now in
    let number = c.loop-number.number in
    let within : c.index.result < servers =
    omega (arith, c.index.ensures.value, c.at-server.ensures, c.loop-number-test.true, c.servers-number-end.ensures.value) in
    let entries = c.index-entries.result.now in
    let is : entries ≡ count number =
    c.index-entries.ensures ∙ ap (λ (counts : List ℕ). slice_index_or counts c.index.result entries) c.in_ok-counts.ensures
    ∙ get_or-map-range_with_len count 0 servers c.index.result number entries within
    (omega (arith, c.index.ensures.value, c.at-server.ensures)) in
    record {
      counts = c.in_ok-counts.ensures;
      room = λ server below. elim (cases_lt server number) [
        | inl before ↦ c.loop-number.invariant.room server before
        | inr past ↦
            let same : server ≡ number = omega (arith, below, past) in
            let few = ap count same in
            omega (arith, few, is, c.if-entries-gt-MAX_ENTRIES.false)
      ];
    }
