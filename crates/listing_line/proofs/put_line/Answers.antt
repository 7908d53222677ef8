-- `put_line` meets its contract: the line is made, and laid as it is. Assumes nothing.
use Rattle.listing_line.proofs.Lines.{lays_made}
use Rattle.listing_line.proofs.put_line.Goals as goal

pub slice_bounds-put_bytes-end : goal.slice_bounds-put_bytes-end
slice_bounds-put_bytes-end c = c.make_row-end.ensures.begins.counts

pub returns : goal.returns
returns c = lays_made c.make_row-end.ensures c.put_bytes.ensures
