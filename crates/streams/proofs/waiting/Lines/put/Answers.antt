-- `streams::waiting::Lines::put` meets its contract.
use Rattle.streams.proofs.PutLaws.{put-within, put-word}
use Rattle.streams.proofs.waiting.Lines.put.Goals as goal

pub invariant_of-self : goal.invariant_of-self
invariant_of-self c =
    let p = c.put-self-inside.ensures in
    let i = c.self.inside in
    rw p.value (put-within i.end c.args.word.now i.text c.self.told c.self.invariant)

pub returns : goal.returns
returns c =
    let p = c.put-self-inside.ensures in
    let i = c.self.inside in
    rw (p.value, p.out_after, ← c.self.view_is) (put-word i.end c.args.word.now i.text c.self.told c.self.invariant)
