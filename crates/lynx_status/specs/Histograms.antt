-- The histogram of commits.
use Rattle.std.specs.Prelude.{ℕ, ◌-◌, ◌/◌, ◌%◌, List, ◌++◌, length, take, replicate, sum, codes, decimal}
use Rattle.lynx_status.specs.declared.commits.CommitTimes.{CommitTimes}
use Rattle.lynx_status.specs.declared.figures.ServerFigures.{ServerFigures}

-- digits with zeros before them, up to that width
abbrev pub filled : ℕ → List ℕ → List ℕ
filled width digits = replicate (width - length digits) 48 ++ digits

-- microseconds as seconds with six decimals
unfoldable pub seconds_text : ℕ → List ℕ
seconds_text micros =
    decimal (micros / 1000000) ++ codes "." ++ filled 6 (decimal (micros % 1000000))

-- the line of a limit, in seconds: how many commits took as long at most
unfoldable pub bucket_line : ℕ → List ℕ → ℕ → List ℕ
bucket_line server limit count =
    codes "lynx_commit_seconds_bucket{server=\"" ++ decimal server ++ codes "\",le=\"" ++ limit
    ++ codes "\"} " ++ decimal count ++ codes "\n"

unfoldable pub sum_line : ℕ → ℕ → List ℕ
sum_line server micros =
    codes "lynx_commit_seconds_sum{server=\"" ++ decimal server ++ codes "\"} "
    ++ seconds_text micros ++ codes "\n"

unfoldable pub count_line : ℕ → ℕ → List ℕ
count_line server count =
    codes "lynx_commit_seconds_count{server=\"" ++ decimal server ++ codes "\"} " ++ decimal count
    ++ codes "\n"

-- the lines of the limits below 0.01 seconds
abbrev pub short_lines : ℕ → List ℕ → List ℕ
short_lines server counts =
    bucket_line server (codes "0.0001") (sum (take 1 counts))
    ++ bucket_line server (codes "0.0005") (sum (take 2 counts))
    ++ bucket_line server (codes "0.001") (sum (take 3 counts))
    ++ bucket_line server (codes "0.005") (sum (take 4 counts))

-- .. from there up to 0.5 seconds
abbrev pub middle_lines : ℕ → List ℕ → List ℕ
middle_lines server counts =
    bucket_line server (codes "0.01") (sum (take 5 counts))
    ++ bucket_line server (codes "0.05") (sum (take 6 counts))
    ++ bucket_line server (codes "0.1") (sum (take 7 counts))
    ++ bucket_line server (codes "0.5") (sum (take 8 counts))

-- .. and above
abbrev pub long_lines : ℕ → List ℕ → List ℕ
long_lines server counts =
    bucket_line server (codes "1") (sum (take 9 counts))
    ++ bucket_line server (codes "5") (sum (take 10 counts))
    ++ bucket_line server (codes "+Inf") (sum counts)

-- the histogram of these commits
abbrev pub times_lines : ℕ → CommitTimes → List ℕ
times_lines server times =
    short_lines server times.counts ++ middle_lines server times.counts
    ++ long_lines server times.counts ++ sum_line server times.sum_micros
    ++ count_line server (sum times.counts)

abbrev pub commits_lines : ServerFigures → List ℕ
commits_lines server = times_lines server.server server.commits
