-- `sending::judging::source_for` meets its contract: at each return the steps that led there say which row holds.
use Rattle.std.proofs.Common.{◌≡◌, Some, arith, rules}
use Rattle.settings.specs.Locators.{is_no_locator}
use Rattle.settings.specs.Settings.{locator_of, embedded_to}
use Rattle.sending.specs.Plan.{is_not_isatap, send_check, source_for}
use Rattle.sending.proofs.Judged.{embedded-last}
use Rattle.sending.proofs.judging.source_for.Goals as goal

pub returns-then-packet_malformed : goal.returns-then-packet_malformed
unfolding source_for send_check
returns-then-packet_malformed c = search rules

pub returns-in_err-source : goal.returns-in_err-source
unfolding source_for send_check is_no_locator
returns-in_err-source c = search rules

pub returns-in_err-end : goal.returns-in_err-end
unfolding source_for send_check is_no_locator is_not_isatap
returns-in_err-end c = search rules

pub returns-then-bad_end : goal.returns-then-bad_end
unfolding source_for send_check is_no_locator is_not_isatap
returns-then-bad_end c = let a = c.args in
    let found : locator_of a.settings a.locator ≡ Some c.in_ok-source.source = grind arith in
    let embeds : embedded_to a.settings a.next_hop ≡ Some c.in_ok-end.end = grind arith in
    let last = embedded-last a.settings a.next_hop c.in_ok-end.end embeds in
    simp (← c.packet_malformed.ensures, c.if-packet_malformed.false, found, embeds, last, ← c.bad_end.ensures, c.if-bad_end.true)

pub returns : goal.returns
unfolding source_for send_check is_no_locator is_not_isatap
returns c = let a = c.args in
    let found : locator_of a.settings a.locator ≡ Some c.in_ok-source.source = grind arith in
    let embeds : embedded_to a.settings a.next_hop ≡ Some c.in_ok-end.end = grind arith in
    let last = embedded-last a.settings a.next_hop c.in_ok-end.end embeds in
    simp (← c.packet_malformed.ensures, c.if-packet_malformed.false, found, embeds, last, ← c.bad_end.ensures, c.if-bad_end.false)
