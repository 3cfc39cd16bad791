-- `header::outer::sum_wrong` meets its contract: the sum is over the header, or all there is of it.
use native.Mathlib.Omega.{arith}
use Prim.Native.Nat.{ℕ, ◌%◌}
use mathlib.Core.Path.{◌≡◌}
use mathlib.Core.List.{List}
use borrow.Author.Tests.{eqb-true, leb-true}
use lib.ListN.{length, take, length-take}
use lib.Dec.{eqb, leb}
use Rattle.checksum.proofs.Bytes.{bytes_of, bytes_take}
use Rattle.checksum.proofs.Swapped.{right-exact}
use Rattle.lists.proofs.Parts.{take-least}
use Rattle.lists.proofs.Tests.{and_left, and_right}
use Rattle.header.specs.Numbers.{outer_header}
use Rattle.header.specs.Outer.{is_sum_wrong}
use Rattle.header.proofs.outer.sum_wrong.Goals as goal

pub returns-then-o-d : goal.returns-then-o-d
unfolding is_sum_wrong
returns-then-o-d c = let a = c.args in
    let plain : a.o.header ≡ outer_header = eqb-true _ _ (and_left _ _ c.if-o-d.true) in
    let long = leb-true outer_header (length a.d.now) (and_right (eqb a.o.header outer_header) (leb outer_header (length a.d.now)) c.if-o-d.true) in
    let s : List ℕ = take outer_header a.d.now in
    let even : length s % 2 ≡ 0 = rw (length-take) (omega (arith, long)) in
    let bytes = bytes_take outer_header a.d.now (bytes_of a.d.now (λ i. (c.type_inv.d i).fits)) in
    rw (c.right_words.ensures, plain, right-exact c.ten_words.result s c.ten_words.ensures.0 (omega (arith, c.ten_words.ensures.1)) even bytes)

pub returns : goal.returns
unfolding is_sum_wrong
returns c = rw (c.right.ensures, c.min.ensures, take-least)
