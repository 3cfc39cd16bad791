-- `asking::answer` meets its contract: at each return the steps that led there.
use Rattle.std.proofs.Common.{rules}
use Rattle.messages.specs.Icmp.{solicitation_check, solicitation_answer, solicitation_output}
use Rattle.asking.specs.Ask.{plan_for, ask_plan, asked_of, asked_output}
use Rattle.asking.proofs.answer.Goals as goal

pub returns-in_err-from-clause-routers_value : goal.returns-in_err-from-clause-routers_value
unfolding asked_of ask_plan plan_for
returns-in_err-from-clause-routers_value c = search rules

pub returns-in_err-from-clause-out_after : goal.returns-in_err-from-clause-out_after
unfolding asked_output ask_plan plan_for
returns-in_err-from-clause-out_after c = search rules

pub returns-in_err-router-clause-routers_value : goal.returns-in_err-router-clause-routers_value
unfolding asked_of ask_plan plan_for
returns-in_err-router-clause-routers_value c = search rules

pub returns-in_err-router-clause-out_after : goal.returns-in_err-router-clause-out_after
unfolding asked_output ask_plan plan_for
returns-in_err-router-clause-out_after c = search rules

pub returns-in_err-solicitation-clause-routers_value :
    goal.returns-in_err-solicitation-clause-routers_value
unfolding asked_of ask_plan plan_for solicitation_answer solicitation_check
returns-in_err-solicitation-clause-routers_value c = search rules

pub returns-in_err-solicitation-clause-out_after :
    goal.returns-in_err-solicitation-clause-out_after
unfolding asked_output ask_plan plan_for solicitation_output solicitation_check
returns-in_err-solicitation-clause-out_after c = search rules

pub returns-clause-routers_value : goal.returns-clause-routers_value
unfolding asked_of ask_plan plan_for solicitation_answer solicitation_check
returns-clause-routers_value c = search rules

pub returns-clause-out_after : goal.returns-clause-out_after
unfolding asked_output ask_plan plan_for solicitation_output solicitation_check
returns-clause-out_after c = search rules
