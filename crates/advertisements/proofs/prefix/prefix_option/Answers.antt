-- `advertisements::prefix::prefix_option` meets its contract: each call's result is put in its place.
use borrow.Author.Rules.{rules}
use mathlib.Core.Path.{◌≡◌}
use mathlib.Core.List.{append-nil}
use lib.ListN.{length}
use Rattle.lent.specs.Written.{written_at}
use Rattle.advertisements.specs.Bits.{first_bits_of}
use Rattle.advertisements.specs.Options.{prefix_option}
use Rattle.advertisements.proofs.prefix.prefix_option.Goals as goal

pub returns-clause-value : goal.returns-clause-value
unfolding prefix_option written_at
returns-clause-value c = let p = c.args.prefix in
    let bits = c.first_bits_of-kept in
    let valid = rw (c.quad_bytes.ensures, c.flags.ensures) at c.write_at.ensures in
    let preferred = rw (c.quad_bytes-2.ensures, valid) at c.write_at-2.ensures in
    let full : length bits.result ≡ 16 = search rules in
    let long = rw bits.ensures at full in
    rw (bits.ensures, preferred, long, append-nil (first_bits_of p.length p.bytes)) at c.write_at-3.ensures
