-- `text::put_decimal` meets its contract: the digits are the last bytes of the array.
use Prim.Native.Nat.{◌-◌}
use mathlib.Core.Path.{◌≡◌, ◌∙◌}
use native.Mathlib.Omega.{arith}
use lib.ListN.{take, drop, length-drop}
use lib.Seq.{take_all}
use Rattle.text.specs.Text.{decimal}
use Rattle.text.proofs.put_decimal.Goals as goal

pub returns : goal.returns
returns c = let d = c.decimal_digits-start.result in
    let e : take (20 - d.start) (drop d.start d.bytes) ≡ decimal c.args.n =
    take_all (20 - d.start) (drop d.start d.bytes) (rw length-drop (omega arith)) ∙ c.decimal_digits-start.ensures.0 in
    let p = c.put.ensures in
    record {
      value = rw e at p.value;
      out_after = rw e at p.out_after;
    }
