-- `telemetered::of_values` meets its contract: where there is no amount to take, what the search leads to. Assumes nothing.
use mathlib.Core.Path.{◌≡◌, sym, ap, ◌∙◌}
use lib.ListN.{length}
use lib.Seq.{take_all}
use native.Mathlib.Omega.{arith}
use Rattle.std.specs.Prelude.{None}
use Rattle.numbers.specs.Lists.{every}
use Rattle.history.specs.History.{entry_right, dated}
use Rattle.history.specs.Search.{found_in}
use Rattle.std.specs.Option.{option_or}
use Rattle.telemetered.specs.OwnValue.{value_to_use}
use Rattle.telemetered.specs.Telemetered.{from_found, first_of, telemetered}
use Rattle.calendar.specs.Answers.{tested}
use Rattle.telemetered.proofs.Telemetering.{history_days, history_entries, first_is, found_answer}
use Rattle.telemetered.proofs.of_values.Goals as goal

pub search-requires : goal.search-requires
search-requires g c =
    let es = g.E.Entries.entries c.args.history.now in
    let all = take_all (length es) es (omega arith) in
    (history_days _ _ _ c.requires.entries, ap (every entry_right) (sym all) ∙ history_entries _ _ _ c.requires.entries)

pub returns : goal.returns
unfolding telemetered tested
returns g c =
    let s = c.args in
    let k = s.calendar.now in
    let es = g.E.Entries.entries c.args.history.now in
    let all = take_all (length es) es (omega arith) in
    let none : first_of s.reading (value_to_use s.own) ≡ None = first_is s.reading (value_to_use s.own) ∙ ap (option_or s.reading) (sym c.value_to_use.ensures) ∙ sym c.or.ensures ∙ c.in_default.is in
    let found : c.search.result ≡ found_in k.holidays.now k.day (length es) (dated k.day es) = c.search.ensures in
    rw (c.requires.values, c.requires.entries, sym c.if-not-is_arrival.ensures, none, all)
    (c.from_found.ensures ∙ ap (from_found s.flows) found ∙ found_answer k.holidays.now k.day s.flows (length es) (dated k.day es))
