-- `put_decimal` meets its contract: a number's decimal is its last digits, as many as it has. Assumes nothing.
use mathlib.Core.Path.{◌≡◌}
use Rattle.numerals.specs.Numerals.{last_digits, decimal}
use Rattle.numerals.proofs.Decimal.{last_decimal}
use Rattle.numerals.proofs.put_decimal.Goals as goal

pub returns : goal.returns
returns c =
    let a = c.args in
    let whole : last_digits 10 c.decimal_places.result a.n ≡ decimal a.n =
    rw c.decimal_places.ensures (last_decimal a.n)
    in
    rw whole at c.put_digits.ensures
