-- How a number that stands twice is found. Assumes nothing. No exported contract leans on it.
use Rattle.std.specs.Prelude.{ℕ}

-- numbers are sorted into so many buckets by their remainder: only one whose bucket is marked is searched among those before it
abbrev pub BUCKETS : ℕ
BUCKETS = 1024
