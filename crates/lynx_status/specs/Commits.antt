-- Counts of commits by how long they took.
use Rattle.std.specs.Prelude.{ℕ, nat_lt, List, [], ◌∷◌, count_by, replicate, slice_index, slice_set}
use Rattle.lynx_status.specs.Counts.{more, raised}
use Rattle.lynx_status.specs.declared.commits.CommitTimes.{CommitTimes}

-- the limits, in microseconds
abbrev pub limits : List ℕ
limits =
    100 ∷ 500 ∷ 1000 ∷ 5000 ∷ 10000 ∷ 50000 ∷ 100000 ∷ 500000 ∷ 1000000 ∷ 5000000 ∷ []

-- the place of its count: as many limits are below its time
abbrev pub bucket_of : ℕ → ℕ
bucket_of micros = count_by (λ limit. nat_lt limit micros) limits

abbrev pub no_commits : CommitTimes
no_commits = record { counts = replicate 11 0; sum_micros = 0 }

-- one more commit
abbrev pub timed : CommitTimes → ℕ → CommitTimes
timed old micros = record {
  counts = slice_set old.counts (bucket_of micros)
      (more (slice_index old.counts (bucket_of micros)));
  sum_micros = raised old.sum_micros micros;
}
