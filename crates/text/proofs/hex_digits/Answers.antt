-- `text::hex_digits` meets its contract.
use Rattle.text.specs.Digest.{hexadecimal}
use Rattle.text.proofs.hex_digits.Goals as goal

pub returns : goal.returns
unfolding hexadecimal
returns c = rw (c.hex_digit-8.ensures, c.hex_digit-7.ensures, c.hex_digit-6.ensures, c.hex_digit-5.ensures, c.hex_digit-4.ensures, c.hex_digit-3.ensures, c.hex_digit-2.ensures, c.hex_digit.ensures)
