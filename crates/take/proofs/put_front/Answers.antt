-- `put_front` meets its contract: the word, and the listing of the bytes before the place. Assumes nothing.
use Rattle.foundation.proofs.Parts.{take_min}
use Rattle.take_lines.proofs.Laying.{one, listed, more}
use Rattle.take.proofs.put_front.Goals as goal

pub returns : goal.returns
returns c =
    let l = simp (c.min.ensures, take_min) at c.list.ensures in
    record { lays = more (one c.put_bytes-word.ensures) (listed l); rows = l.rows }
