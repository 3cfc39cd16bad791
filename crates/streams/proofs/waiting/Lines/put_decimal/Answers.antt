-- `streams::waiting::Lines::put_decimal` meets its contract.
use Rattle.text.specs.Text.{decimal}
use Rattle.streams.proofs.PutLaws.{put-within, put-word}
use Rattle.streams.proofs.waiting.Lines.put_decimal.Goals as goal

pub invariant_of-self : goal.invariant_of-self
invariant_of-self c =
    let p = c.put_decimal-self-inside.ensures in
    let i = c.self.inside in
    rw p.value (put-within i.end (decimal c.args.n) i.text c.self.told c.self.invariant)

pub returns : goal.returns
returns c =
    let p = c.put_decimal-self-inside.ensures in
    let i = c.self.inside in
    rw (p.value, p.out_after, ← c.self.view_is) (put-word i.end (decimal c.args.n) i.text c.self.told c.self.invariant)
