-- What a packet's chain of headers means for a sending, by demand 2 and by what the chain decides. Assumes nothing.
use Rattle.std.specs.Prelude.{Ok, Err}
use Prim.Native.Nat.{ℕ, ◌≤◌}
use mathlib.Core.Path.{◌≡◌, refl, ap, ◌∙◌}
use mathlib.Core.Bool.{Bool, true, false, cond}
use mathlib.Core.List.{List}
use native.Mathlib.Omega.{arith}
use lib.Dec.{ltb}
use lib.ListN.{get_or, length}
use borrow.Author.Tests.{ltb-true}
use Rattle.lists.proofs.Decides.{fails}
use Rattle.header.specs.Inner.{may_draw_error}
use Rattle.header.specs.Draws.{UpperLayer}
use Rattle.header.proofs.DrawsLaws.{decides_draws}
use Rattle.header.proofs.ByChain.{error-silent, empty-silent, later-silent, past-silent, draws_by_first}
use Rattle.paths.specs.Packets.{largest_packet}
use Rattle.refusals.specs.Refusals.{stop_or}
use Rattle.settings.specs.Locators.{address_of}
use Rattle.settings.specs.Settings.{locator_of}
use Rattle.sending.specs.Plan.{send_check, sized_plan, plan_of}
use Rattle.sending.specs.Sending.{identification_after, sent_of, sent_output}
use Rattle.sending.specs.declared.judging.Plan.{Plan}
use Rattle.sending.specs.declared.judging.Plan.TheVariants.{Wrap, Tell, Silent}
use Rattle.settings.specs.declared.Settings.{Settings}
use Rattle.node.specs.Send.{path_size_toward, send_of, send_output}
use Rattle.node.specs.Node.{service_of}
use Rattle.node.specs.declared.Node.{Node}
use Rattle.node.specs.declared.ServiceName.{ServiceName}
use Rattle.demands.specs.Two.{Has}
use Rattle.demands.specs.BehindHeaders.{may_draw_by_first, plan_by_first, Due, Tells, answer_by_first, output_by_first, BehindHeaders}
use Rattle.demands.proofs.Others.{decides_has}
use Rattle.demands.proofs.Two.{stored, sent-answer, sent-identification, sent-output, demand_two}

-- M is 1,280 at least
largest-least : (P : ℕ) → 1280 ≤ largest_packet P
unfolding largest_packet
largest-least P = omega arith

-- a packet that is longer than M has payload
by_first_lem : (s : Settings) (P : ℕ) (packet hop : List ℕ) (k : ℕ) → UpperLayer (get_or packet 6 0) → plan_of s P packet hop k ≡ plan_by_first s P packet hop k
unfolding plan_of sized_plan
by_first_lem s P packet hop k u =
    ap (λ (plan : Plan). stop_or Err (send_check s packet hop k) (Ok plan)) (go (ltb (largest_packet P) (length packet)) refl)
  where
    go : (t : Bool) → ltb (largest_packet P) (length packet) ≡ t
        → ◌≡◌ {A = Plan}
        (cond t (cond (may_draw_error packet) (Tell (largest_packet P)) (Silent (largest_packet P))) (Wrap (address_of (locator_of s k))))
        (cond t (cond (may_draw_by_first packet) (Tell (largest_packet P)) (Silent (largest_packet P))) (Wrap (address_of (locator_of s k))))
    go true e = rw (draws_by_first packet u (omega (arith, ltb-true (largest_packet P) (length packet) e, largest-least P)))
    go false e = refl

module _ (n : Node) (w : ServiceName) (packet hop : List ℕ) (k time : ℕ) (out : List ℕ) where
  -- where no message is drawn
  silent : (M : ℕ) → Due n w packet hop k time out M → may_draw_error packet ≡ false → Tells n w packet hop k time out M 0 out
  silent M due none =
      let e = (((demand_two.calls n).present w due.0).sends packet hop k time out).exactly.too_big.silent M due.1 (fails (may_draw_error packet) (decides_draws packet) none) in
      (e.0.0, e.1)

  as_first : Has n w → UpperLayer (get_or packet 6 0)
      → ((send_of n w packet hop k time (length out)).answer ≡ answer_by_first n w packet hop k time out)
      × ((service_of (send_of n w packet hop k time (length out)).node w).identification
      ≡ identification_after (answer_by_first n w packet hop k time out) (service_of n w).identification)
      × (send_output n w packet hop k time out ≡ output_by_first n w packet hop k time out)
  unfolding sent_of sent_output
  as_first has u =
      let plan = by_first_lem (service_of n w).settings (path_size_toward n w hop time) packet hop k u in
      let there = (decides_has n w).passes has in (
        sent-answer n w there packet hop k time out ∙ rw plan,
        stored n w there packet hop k time out ∙ sent-identification n w there packet hop k time out ∙ rw plan,
        sent-output n w there packet hop k time out ∙ rw plan,
      )

  pub behind-headers : BehindHeaders n w packet hop k time out
  behind-headers = record {
    error = λ M hs at due c e. silent M due (error-silent packet hs at c e);
    empty = λ M hs at due c short. silent M due (empty-silent packet hs at c short);
    later = λ M hs upper at due c later. silent M due (later-silent packet hs upper at c later);
    past = λ M due none. silent M due (past-silent packet none);
    other = λ M hs upper at due c offsets harmless source room.
        (let e = (((demand_two.calls n).present w due.0).sends packet hop k time out).exactly.too_big.told M due.1
        (record { source = source; headers = hs; upper = upper; at = at; chain = c; offsets = offsets; harmless = harmless }) room in
        (e.0.0, e.1));
    by_first = as_first;
  }
