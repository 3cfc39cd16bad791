-- `input::section::prefixes` meets its contract.
use Prim.Native.Nat.{◌*◌, min}
use mathlib.Core.Path.{◌≡◌}
use Rattle.input.specs.Section.{count_of, prefixes_in}
use Rattle.input.proofs.Records.{prefixes-filled}
use Rattle.input.proofs.section.prefixes.Goals as goal

pub returns : goal.returns
unfolding prefixes_in
returns c = let s = c.args.s.now in
    let n : c.min.result ≡ min (count_of s) 8 = rw c.count.ensures at c.min.ensures in
    prefixes-filled s c.front-bytes.result.now c.write_at.new.dst (c.min.result * 8) (rw n)
    (rw (c.front-bytes.ensures, c.tail.ensures)) c.write_at.ensures
