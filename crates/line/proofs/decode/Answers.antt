use Prim.Native.Nat.{ℕ, suc, ◌+◌, ◌*◌}
use mathlib.Core.Path.{◌≡◌, refl, sym, ap, ◌∙◌}
use native.Mathlib.Nat.{zero-add}
use native.Mathlib.Numerals.{add-one}
use native.Mathlib.Omega.{arith}
use lib.ListN.{length, get_or, set, length-set}
use lib.Seq.{paste, paste-zero, paste-suc, take-length}
use Rattle.line.specs.Read.{bytes_in}
use Rattle.line.proofs.Reading.{digit_at, length-bytes_in, byte_at}
use Rattle.line.proofs.decode.Goals as goal

pub loop-i-init : goal.loop-i-init
loop-i-init c =
    let a = c.args in
    (omega arith, paste-zero a.out.now 0 (bytes_in a.s.now), refl)

pub byte_of-requires : goal.byte_of-requires
byte_of-requires c =
    let s = c.args.s.now in
    let i = c.loop-i.i in
    (digit_at 16 s (2 * i) c.requires.s_value (omega arith), digit_at 16 s (2 * i + 1) c.requires.s_value (omega arith))

pub loop-i-preserved : goal.loop-i-preserved
loop-i-preserved c =
    let s = c.args.s.now in
    let out = c.args.out.now in
    let bytes = bytes_in s in
    let long : length bytes ≡ c.args.count = length-bytes_in c.args.count s c.requires.s_len in
    let byte : c.byte_of.result ≡ get_or bytes c.loop-i.i 0 = c.byte_of.ensures ∙ sym (byte_at c.loop-i.i s (omega arith)) in
    let stored : set (paste out 0 bytes c.loop-i.i) c.loop-i.i (get_or bytes c.loop-i.i 0) ≡ paste out 0 bytes (suc c.loop-i.i) =
    ap (λ (k : ℕ). set (paste out 0 bytes c.loop-i.i) k (get_or bytes c.loop-i.i 0)) (sym (zero-add c.loop-i.i))
    ∙ paste-suc out 0 bytes c.loop-i.i 0 (omega arith) (omega arith)
    in
    (omega arith, rw (c.loop-i.invariant.1, byte, add-one) stored, length-set c.loop-i.out c.loop-i.i c.byte_of.result ∙ c.loop-i.invariant.2)

pub returns : goal.returns
returns c =
    let s = c.args.s.now in
    let all : c.loop-i.i ≡ length (bytes_in s) = omega (arith, length-bytes_in c.args.count s c.requires.s_len) in
    c.loop-i.invariant.1 ∙ rw (all, take-length)
