-- `header::fields::padded` meets its contract: zeros stand behind the bytes.
use Rattle.header.proofs.Padded.{zeros_behind}
use Rattle.header.proofs.fields.padded.Goals as goal

pub returns : goal.returns
returns g c = rw c.copy_from_slice.ensures.after (zeros_behind g.row.N c.min-n.result c.args.d.now c.min-n.ensures)
