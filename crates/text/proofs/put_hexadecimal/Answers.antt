-- `text::put_hexadecimal` meets its contract.
use Rattle.text.proofs.put_hexadecimal.Goals as goal

pub returns : goal.returns
returns c = let e = c.hex_digits.ensures in
    let p = c.put.ensures in
    record {
      value = rw e at p.value;
      out_after = rw e at p.out_after;
    }
