-- `milliseconds` meets its contract: a day and a time that are possible keep the sums within 64 bits. Assumes nothing.
use mathlib.Core.Path.{sym, ◌∙◌}
use Rattle.dates.specs.Calendar.{milliseconds_of}
use Rattle.dates.proofs.Possible.{day_bounds, time_bounds}
use Rattle.dates.proofs.calendar.milliseconds.Goals as goal
use Rattle.dates.proofs.calendar.milliseconds.Goals.{then-not-possible_day-via-then-not-possible_day, then-not-possible_day-via-else-not-possible_day+then-not-possible_time}

pub returns-then-not-possible_day : goal.returns-then-not-possible_day
unfolding milliseconds_of
returns-then-not-possible_day c =
    elim c.then-not-possible_day.branch [
      | then-not-possible_day-via-then-not-possible_day w ↦
          let impossible = sym c.possible_day.ensures ∙ w.if-not-possible_day.true in
          rw impossible
      | then-not-possible_day-via-else-not-possible_day+then-not-possible_time w ↦
          let day = sym c.possible_day.ensures ∙ w.if-not-possible_day.false in
          let impossible = sym w.possible_time.ensures ∙ w.if-not-possible_time.true in
          rw (day, impossible)
    ]

pub days_before-requires : goal.days_before-requires
days_before-requires c =
    let day = sym c.possible_day.ensures ∙ c.if-not-possible_day.false in
    day_bounds _ c.requires.0 day

pub in_milliseconds-requires : goal.in_milliseconds-requires
in_milliseconds-requires c =
    let time = sym c.possible_time.ensures ∙ c.if-not-possible_time.false in
    (c.days_before.ensures.1, time_bounds _ c.requires.1 time)

pub returns : goal.returns
unfolding milliseconds_of
returns c =
    let day = sym c.possible_day.ensures ∙ c.if-not-possible_day.false in
    let time = sym c.possible_time.ensures ∙ c.if-not-possible_time.false in
    rw (day, time, ← c.days_before.ensures.0) c.in_milliseconds.ensures
