-- `tell_packet` meets its contract: by the length of the packet. Assumes nothing.
use Rattle.std.proofs.Common.{arith}
use Rattle.window.proofs.Answers.{tells_long_lem, tells_held_lem}
use Rattle.window.proofs.tell_packet.Goals as goal

pub returns-then-bytes : goal.returns-then-bytes
returns-then-bytes c = let a = c.args in tells_long_lem a.places a.packet a.rest _ _ c.in_file-start.ensures c.saturating_sub-bytes.ensures (omega arith)

pub returns : goal.returns
returns c = let a = c.args in tells_held_lem a.places a.packet a.rest _ _ c.in_file-start.ensures c.saturating_sub-bytes.ensures (omega arith)
