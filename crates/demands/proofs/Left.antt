-- What every call leaves: the settings of both services, the latest time raised, and the path table but for an accepted report. Assumes
-- nothing.
use Prim.Native.Nat.{ℕ, max}
use mathlib.Core.Path.{◌≡◌, refl, sym, ◌∙◌}
use mathlib.Core.List.{List, [], ◌∷◌}
use native.Mathlib.Nat.{max-zero}
use lib.ListN.{length}
use Rattle.sending.specs.Sending.{send_given}
use Rattle.reports.specs.Report.{report_given}
use Rattle.node.specs.Node.{service_of, has_service, node_with, raised_to}
use Rattle.node.specs.Receive.{receive_of}
use Rattle.node.specs.Send.{send_of}
use Rattle.node.specs.Report.{paths_after, report_answer_of, report_of}
use Rattle.node.specs.RouterList.{replace_of}
use Rattle.node.specs.Ask.{ask_of}
use Rattle.node.specs.Hear.{hear_of}
use Rattle.node.specs.declared.Node.{Node}
use Rattle.node.specs.declared.Service.{Service}
use Rattle.node.specs.declared.ServiceName.{ServiceName}
use Rattle.node.specs.declared.ServiceName.TheVariants.{First, Second}
use Rattle.node.proofs.Services.{put-kept}
use Rattle.demands.specs.Calls.{NodeCall, receiving, receiving_part, sending, reporting, relisting, asking, hearing, advertising, Outcome, outcome_of, OfSizes, a_sending, a_report, no_size, view_of, node_after}

-- what a call is to the path sizes decides what is given, and what becomes of the table
abbrev pub SizesLeft : Node → ℕ → ℕ → OfSizes → Outcome → Type 0
SizesLeft n time room (a_sending w packet hop k) o =
    (o.given ≡ send_given (send_of n w packet hop k time room).answer) × (o.node.paths ≡ n.paths)
SizesLeft n time room (a_report m) o =
    (o.given ≡ report_given (report_answer_of n m (max n.latest time)))
    × (o.node.paths ≡ paths_after (report_answer_of n m (max n.latest time)) n.paths (max n.latest time))
SizesLeft n time room no_size o = o.node.paths ≡ n.paths

pub record Left (n : Node) (time room : ℕ) (c : OfSizes) (o : Outcome) : Type 0 where
  pub settings : (w : ServiceName) → (service_of o.node w).settings ≡ (service_of n w).settings
  pub both : o.node.both ≡ n.both
  pub latest : o.node.latest ≡ max n.latest time
  pub sizes : SizesLeft n time room c o

-- a service that is put back with its settings leaves both services theirs
put-settings : (n : Node) (v : ServiceName) (s : Service) (time : ℕ) → s.settings ≡ (service_of n v).settings
    → (w : ServiceName) → (service_of (node_with n v s time) w).settings ≡ (service_of n w).settings
put-settings = put-kept (λ (s : Service). s.settings)

pub left : (n : Node) (x : NodeCall) → Left n (view_of x).time (length (view_of x).lent) (view_of x).sizes (outcome_of n x)
unfolding receive_of send_of report_of replace_of raised_to ask_of hear_of
left n (receiving v d interface time memory) = record { settings = put-settings n v _ time refl; both = refl; latest = refl; sizes = refl }
left n (receiving_part v d interface) = record { settings = λ w. refl; both = refl; latest = sym (max-zero _); sizes = refl }
left n (sending v packet hop k time out) = record { settings = put-settings n v _ time refl; both = refl; latest = refl; sizes = (refl, refl) }
left n (reporting m time) = record { settings = λ w. refl; both = refl; latest = refl; sizes = (refl, refl) }
left n (relisting v addresses count time) = record { settings = put-settings n v _ time refl; both = refl; latest = refl; sizes = refl }
left n (asking v k time out) = record { settings = put-settings n v _ time refl; both = refl; latest = refl; sizes = refl }
left n (hearing v packet time) = record { settings = put-settings n v _ time refl; both = refl; latest = refl; sizes = refl }
left n (advertising v packet k a out) = record { settings = λ w. refl; both = refl; latest = sym (max-zero _); sizes = refl }

-- no list of calls changes the settings, or the services that there are
pub settings-kept : (n : Node) (xs : List NodeCall) (w : ServiceName) → (service_of (node_after n xs) w).settings ≡ (service_of n w).settings
settings-kept n [] w = refl
settings-kept n (x ∷ xs) w = settings-kept (outcome_of n x).node xs w ∙ (left n x).settings w

pub both-kept : (n : Node) (xs : List NodeCall) → (node_after n xs).both ≡ n.both
both-kept n [] = refl
both-kept n (x ∷ xs) = both-kept (outcome_of n x).node xs ∙ (left n x).both

pub has_kept : (n m : Node) → m.both ≡ n.both → (w : ServiceName) → has_service m w ≡ has_service n w
has_kept n m e First = refl
has_kept n m e Second = rw e
