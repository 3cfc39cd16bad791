-- A field is its four bytes, read one by one.
use Rattle.std.proofs.Common.{rules}
use Rattle.bogtrumpet.proofs.Four.{four_joined}
use Rattle.bogtrumpet.proofs.plain.bytes.Goals as goal

pub returns : goal.returns
returns c =
    let x = c.args.address in
    four_joined x.first x.second x.third x.last (search rules) (search rules) (search rules) (search rules)
