-- The starred values compute. Assumes nothing.
use mathlib.Core.Path.{refl}
use Rattle.checksum.specs.Sum as checksum-sum
use Rattle.address.specs.Address as address-address
use Rattle.address.specs.Prefixes as address-prefixes
use Rattle.header.specs.Chain as header-chain
use Rattle.header.specs.Fields as header-fields
use Rattle.header.specs.Inner as header-inner
use Rattle.header.specs.Outer as header-outer
use Rattle.header.specs.Wrap as header-wrap
use Rattle.messages.specs.Icmp as messages-icmp
use Rattle.paths.specs.Candidate as paths-candidate
use Rattle.paths.specs.Kept as paths-kept
use Rattle.paths.specs.Packets as paths-packets
use Rattle.paths.specs.Table as paths-table
use Rattle.routers.specs.Routers as routers-routers
use Rattle.settings.specs.Locators as settings-locators
use Rattle.settings.specs.Settings as settings-settings
use Rattle.reports.specs.Report as reports-report
use Rattle.sending.specs.Plan as sending-plan
use Rattle.sending.specs.Sending as sending-sending
use Rattle.receiving.specs.Collect as receiving-collect
use Rattle.receiving.specs.Receive as receiving-receive
use Rattle.node.specs.Ask as node-ask
use Rattle.node.specs.Node as node-node
use Rattle.node.specs.Receive as node-receive
use Rattle.node.specs.Report as node-report
use Rattle.node.specs.Send as Node-send
use Rattle.node.specs.Size as node-size
use Rattle.demands.specs.Starred.{Starred}

pub starred : Starred
unfolding checksum-sum.ones_sum_from checksum-sum.is_right_from address-address.is_forbidden address-address.last_quad address-address.is_under address-address.is_on_link address-address.is_identifier address-address.embedded_in address-address.link_local_of address-address.is_multicast_or_unspecified address-address.is_bad_source_with header-fields.word_at header-fields.quad_at header-fields.address_at header-inner.inner_of header-inner.is_inner_malformed header-inner.is_packet_malformed header-chain.may_draw_from header-inner.may_draw_error header-outer.outer_of header-outer.is_outer_malformed header-outer.is_sum_wrong header-outer.outer_check header-outer.payload_of header-outer.is_quote_malformed header-wrap.outer_bytes header-wrap.wrapped header-wrap.wrap_check header-wrap.wrap_answer header-wrap.wrap_output messages-icmp.too_big_check messages-icmp.too_big_answer paths-candidate.plateau_below paths-candidate.candidate_of paths-kept.while_young paths-kept.in_force paths-packets.largest_packet paths-packets.dont_fragment paths-table.kept_in paths-table.table_after settings-locators.locator_found settings-settings.locator_of settings-locators.is_no_locator address-prefixes.rows_of settings-settings.defaults_for settings-settings.forbidden_to settings-settings.is_ours settings-settings.is_our_locator settings-settings.is_bad_end settings-settings.are_locators_right settings-settings.are_routers_right settings-settings.are_numbers_right settings-settings.is_accepted routers-routers.are_distinct node-node.setup_of settings-settings.embedded_to reports-report.is_report_malformed reports-report.is_quote_foreign reports-report.report_check reports-report.candidate_for reports-report.judged_of reports-report.accepted_below sending-plan.is_not_isatap sending-plan.send_check sending-plan.sized_plan sending-plan.plan_of sending-sending.fields_for sending-sending.sent_of sending-sending.sent_output receiving-receive.embeds receiving-collect.whole_of receiving-collect.collected_of node-receive.collected_by node-ask.ask_of node-ask.asked_by node-node.node_of node-node.path_size_at node-size.path_size_of node-node.service_from node-node.raised_to node-receive.receive_of node-report.quotes_other node-report.reported_to node-report.report_answer_of node-report.report_of Node-send.sent_by Node-send.send_of Node-send.send_output Node-send.sent_through
starred = record {
  accepted = refl;
  path1300 = (refl, refl, refl);
  path1301 = (refl, refl, refl);
  path1500 = (refl, refl);
  path600 = (refl, refl);
  plateaus = (refl, refl, refl, refl);
  sizes = (refl, refl, refl);
  ages = (refl, refl);
  checksum = refl;
  identifiers = (refl, refl, refl);
}
