-- What the sections of a day file and allot come to, after measure. Assumes nothing. No exported contract leans on it.
use Rattle.std.specs.Prelude.{List, [], ◌∷◌, ◌++◌, map, ℕ}
use Rattle.numbers.specs.Lists.{flat}
use Rattle.point_day.specs.declared.Measurement.{Measurement}
use Rattle.day_book.specs.Run.{allot}
use Rattle.day_file.specs.Form.{sections}
use Rattle.day_file.specs.File.{section_calls}
use Rattle.day_file.specs.Report.{Report, in_order}
use Rattle.file_lines.specs.Entering.{unjoined}
use Rattle.std.specs.Prelude.{Option}

-- "the sections' joins and lines in order, and allot", on a measured point-day without users
abbrev pub entered_and_allotted : List ℕ → ℕ → Option Measurement → Report
entered_and_allotted f day m = in_order day (flat (map (section_calls f) (sections f)) ++ (allot ∷ [])) (unjoined m)
