-- `comparing::pair::Pair::write` meets its contract: a turn writes the first of the runs that are left behind what was written.
use Prim.Native.Nat.{ℕ, ◌+◌, ◌-◌, ◌*◌}
use mathlib.Core.Path.{◌≡◌, refl, sym, ap, ◌∙◌}
use mathlib.Core.List.{List, [], ◌∷◌}
use native.Mathlib.Omega.{arith}
use lib.ListN.{length, length-map}
use Rattle.lent.specs.Written.{written_at}
use Rattle.lent.proofs.Laws.{written_at-fits}
use Rattle.comparing.specs.Runs.{Run, numbered, runs_bytes, runs}
use Rattle.comparing.proofs.Running.{left, left-all, left-none, left-some, left-turn}
use Rattle.comparing.proofs.Writing.{done_none, done_more, done_end, report-one, length-report}
use Rattle.comparing.proofs.pair.Pair.write.Goals as goal

pub loop-p-init : goal.loop-p-init
loop-p-init c = let a = c.args in
    let i = c.next-p.ensures in
    let e = left-all a.self.masked a.self.a.now a.self.b.now c.next-p.result i in
    ((i.inside, i.here), refl, rw e, rw e (done_none (numbered a.number (left a.self.masked a.self.a.now a.self.b.now c.next-p.result)) a.start a.out.now))

pub write_run-requires : goal.write_run-requires
write_run-requires c = let a = c.args in
    omega (arith, left-some a.self.masked a.self.a.now a.self.b.now c.loop-p.p c.next-behind.result c.loop-p.invariant.0 (omega arith) c.next-behind.ensures)

pub overflow_add-at : goal.overflow_add-at
overflow_add-at c = let a = c.args in
    omega (arith, left-some a.self.masked a.self.a.now a.self.b.now c.loop-p.p c.next-behind.result c.loop-p.invariant.0 (omega arith) c.next-behind.ensures)

pub loop-p-smaller : goal.loop-p-smaller
loop-p-smaller c = let a = c.args in
    omega (arith, (left-turn a.self.masked a.self.a.now a.self.b.now c.loop-p.p c.next-behind.result c.next-p-in-loop-p.result c.loop-p.invariant.0 (omega arith) c.next-behind.ensures c.next-p-in-loop-p.ensures).0)

pub loop-p-preserved : goal.loop-p-preserved
loop-p-preserved c = let a = c.args in
    let i = c.next-p-in-loop-p.ensures in
    let t = left-turn a.self.masked a.self.a.now a.self.b.now c.loop-p.p c.next-behind.result c.next-p-in-loop-p.result c.loop-p.invariant.0 (omega arith) c.next-behind.ensures i in
    let e = ap length t.1 in
    let run : ℕ × Run = (a.number, record { offset = c.loop-p.p; length = c.next-behind.result - c.loop-p.p }) in
    let more = done_more (numbered a.number (runs a.self.masked a.self.a.now a.self.b.now)) (numbered a.number (left a.self.masked a.self.a.now a.self.b.now c.loop-p.p)) (run ∷ [])
    (numbered a.number (left a.self.masked a.self.a.now a.self.b.now c.next-p-in-loop-p.result)) a.start c.loop-p.at (c.loop-p.at + 6) a.out.now c.loop-p.invariant.3
    (ap (numbered a.number) t.1) (rw (report-one run)) (omega arith) (c.write_run.ensures ∙ ap (λ (w : List ℕ). written_at c.loop-p.at w c.loop-p.out) (sym (report-one run))) in
    ((i.inside, i.here), more.0, omega arith, more.1)

pub returns : goal.returns
returns c = let a = c.args in
    let rs = runs a.self.masked a.self.a.now a.self.b.now in
    let none = left-none a.self.masked a.self.a.now a.self.b.now c.loop-p.p (omega arith) in
    let d = c.loop-p.invariant.3 in
    let e = ap length none in
    let bytes = runs_bytes (numbered a.number rs) in
    let all = done_end (numbered a.number rs) (numbered a.number (left a.self.masked a.self.a.now a.self.b.now c.loop-p.p)) d.0 (rw none) d.3 in
    let long : length bytes ≡ 6 * length rs = length-report (numbered a.number rs) ∙ rw length-map in
    record {
      value = omega arith;
      out_after = d.1 ∙ rw all (sym (written_at-fits a.start bytes a.out.now (omega arith)));
    }
