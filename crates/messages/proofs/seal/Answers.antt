-- `messages::seal` meets its contract: the checksum stands inside of the packet.
use native.Mathlib.Omega.{arith}
use Rattle.lent.proofs.Laws.{written_at-inside}
use Rattle.messages.specs.Sealed.{sealed}
use Rattle.messages.proofs.SealedLaws.{one_pass}
use Prim.Native.Nat.{ℕ}
use mathlib.Core.Path.{◌≡◌, sym, ap, ◌∙◌}
use mathlib.Core.List.{◌++◌}
use lib.ListN.{length, take, drop, take-append-drop}
use lib.Seq.{length-take-le}
use Rattle.checksum.proofs.Bytes.{bytes_of}
use Rattle.messages.proofs.seal.Goals as goal

pub returns : goal.returns
unfolding sealed
returns c = let a = c.args in
    let out = a.out.now in
    let whole : length (take a.n out) ≡ a.n = length-take-le a.n out (omega arith) in
    let same = ap (λ (k : ℕ). take a.n out ++ drop k out) whole ∙ take-append-drop a.n out in
    let bytes = bytes_of out (λ i. (c.slice_known-1.given i).fits) in
    let sum = c.sum_from-sum.ensures ∙ one_pass a.n out (omega arith) (omega arith) (omega arith) bytes _ (omega arith) in
    written_at-inside 42 (take a.n out) c.word_bytes.result out (omega arith) (omega arith) (sym same) c.write_at.ensures
    ∙ rw (c.word_bytes.ensures, c.complement-field.ensures, sum)
