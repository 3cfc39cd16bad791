-- Each answer's number is that of its definition: by cases, 0 or the refusal's. Assumes nothing.
use Rattle.std.specs.Prelude.{ℕ, ◌≡◌, refl, Result, Ok, Err}
use mathlib.Core.Path.{ap, sym}
use Rattle.refusals.specs.Given.{Given, refused, number_in}
use Rattle.refusals.specs.declared.Refusal.{Refusal}
use Rattle.header.specs.Outer.{outer_given}
use Rattle.header.specs.Wrap.{written_given}
use Rattle.reports.specs.Report.{report_given}
use Rattle.receiving.specs.Receive.{received_given}
use Rattle.asking.specs.Ask.{ask_given}
use Rattle.hearing.specs.Heard.{heard_given}
use Rattle.node.specs.Node.{setup_given}
use Rattle.node.specs.RouterList.{list_given}
use Rattle.node.specs.Size.{size_given}
use Rattle.receiving.specs.declared.Received.{Received}
use Rattle.receiving.specs.declared.Received.TheVariants.{Delivered, Joined}
use Rattle.demands.specs.Numbered.{Numbered}

module _ {A : Type 0} (given : Result A Refusal → Given) where
  numbered_by : ((x : A) → (given (Ok x)).number ≡ 0) → ((r : Refusal) → given (Err r) ≡ refused r) → (a : Result A Refusal) → number_in a ≡ (given a).number
  numbered_by value refusal (Ok x) = sym (value x)
  numbered_by value refusal (Err r) = sym (ap (λ (g : Given). g.number) (refusal r))

standing : (x : Received) → (received_given (Ok x)).number ≡ 0
standing (Delivered offset size) = refl
standing (Joined offset size) = refl

pub numbered : Numbered
numbered = record {
  outer = numbered_by outer_given (λ x. refl) (λ r. refl);
  written = numbered_by written_given (λ x. refl) (λ r. refl);
  received = numbered_by received_given standing (λ r. refl);
  report = numbered_by report_given (λ x. refl) (λ r. refl);
  asked = numbered_by ask_given (λ x. refl) (λ r. refl);
  heard = numbered_by heard_given (λ x. refl) (λ r. refl);
  setup = numbered_by setup_given (λ x. refl) (λ r. refl);
  list = numbered_by list_given (λ x. refl) (λ r. refl);
  size = numbered_by size_given (λ x. refl) (λ r. refl);
}
