-- `comparing::compare` meets its contract: at each return the tests that led there say which case holds.
use Prim.Native.Nat.{◌*◌}
use mathlib.Core.Path.{◌≡◌, ap}
use mathlib.Core.Bool.{not}
use native.Mathlib.Omega.{arith}
use lib.ListN.{length}
use Rattle.comparing.specs.Compared.{report_of, compared_of, output_of}
use Rattle.comparing.proofs.Checking.{malformed_stops, short_stops, both_pass, length-of-report}
use Rattle.comparing.proofs.compare.Goals as goal

pub returns-then-not-well_formed : goal.returns-then-not-well_formed
unfolding compared_of output_of
returns-then-not-well_formed c = let a = c.args in
    let stop = malformed_stops a.masked a.first.now a.second.now (length a.out.now) (ap not (rw (c.well_formed-3.ensures, c.well_formed-2.ensures) at c.if-not-well_formed.true)) in
    record {
      value = rw stop;
      out_after = rw stop;
    }

pub returns-then-n-limit : goal.returns-then-n-limit
unfolding compared_of output_of
returns-then-n-limit c = let a = c.args in
    let good = ap not (rw (c.well_formed-3.ensures, c.well_formed-2.ensures) at c.if-not-well_formed.false) in
    let long = length-of-report a.masked a.first.now a.second.now in
    let stop = short_stops a.masked a.first.now a.second.now (length a.out.now) good (omega arith) in
    record {
      value = rw stop;
      out_after = rw stop;
    }

pub returns : goal.returns
unfolding compared_of output_of
returns c = let a = c.args in
    let good = ap not (rw (c.well_formed-3.ensures, c.well_formed-2.ensures) at c.if-not-well_formed.false) in
    let long = length-of-report a.masked a.first.now a.second.now in
    let pass = both_pass a.masked a.first.now a.second.now (length a.out.now) good (omega arith) in
    let size : c.count-n.result * 6 ≡ length (report_of a.masked a.first.now a.second.now) = omega arith in
    record {
      value = rw (pass, c.more_in.ensures, size);
      out_after = rw pass c.write.ensures;
    }
