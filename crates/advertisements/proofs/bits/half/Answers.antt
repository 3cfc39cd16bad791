-- `advertisements::bits::half` meets its contract: each byte of the number has its own first bits.
use Prim.Native.Nat.{ℕ, ◌<◌}
use mathlib.Core.Path.{◌≡◌, ◌∙◌}
use borrow.Author.Rules.{rules}
use lib.ListN.{length, get_or}
use Rattle.advertisements.proofs.CutLaws.{cut_bytes}
use Rattle.advertisements.proofs.bits.half.Goals as goal

pub returns : goal.returns
returns c = let a = c.args in
    let full : length a.bytes ≡ 8 = search rules in
    let small : (i : ℕ) → get_or a.bytes i 0 < 256 = search rules in
    c.to_be_bytes.ensures ∙ cut_bytes a.n a.bytes full small c.from_be_bytes.result c.from_be_bytes.ensures c.first_bits.result c.first_bits.ensures
