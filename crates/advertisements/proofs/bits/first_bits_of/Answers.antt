-- `advertisements::bits::first_bits_of` meets its contract: one half is written behind the other.
use borrow.Author.Rules.{rules}
use mathlib.Core.Path.{◌≡◌, refl}
use lib.ListN.{length, replicate}
use Rattle.advertisements.proofs.CutLaws.{halves_written}
use Rattle.advertisements.proofs.bits.first_bits_of.Goals as goal

pub returns : goal.returns
returns c = let a = c.args in
    let full : length a.prefix ≡ 16 = search rules in
    halves_written a.n c.saturating_sub.result a.prefix (replicate 16 0) full refl c.saturating_sub.ensures c.half-high.ensures c.half-low.ensures c.write_at.ensures c.write_at-2.ensures
