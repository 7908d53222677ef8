-- How a group is shown, as code finds it out: the caller's, and any other. Assumes nothing.
use mathlib.Core.Path.{◌≡◌}
use borrow.Author.Tests.{eq-eqb, ne_eqb}
use Rattle.foundation.specs.Text.{characters}
use Rattle.rows.specs.declared.Row.{Row}
use Rattle.shown_key.specs.Key.{shown_key}
use Rattle.listing_line.specs.Line.{shown_group, group_in}

pub group_callers : (r : Row) → r.group_kind ≡ 0 → shown_group (group_in r) ≡ characters "-"
group_callers r e = rw (eq-eqb r.group_kind 0 e)

pub group_named : (r : Row) → (r.group_kind ≡ 0 → ⊥) → shown_group (group_in r) ≡ shown_key r.group_key
group_named r f = rw (ne_eqb r.group_kind 0 f)
