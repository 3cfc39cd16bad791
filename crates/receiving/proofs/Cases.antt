-- Two errors that look right, told from the rules: a locator is matched by its interface too, and `::1` is a bad inner source. Assumes nothing.
use Rattle.std.specs.Prelude.{Err}
use Prim.Native.Nat.{ℕ}
use mathlib.Core.Path.{◌≡◌}
use mathlib.Core.Logic.{◌⊎◌, ⊎_elim, inl, inr}
use mathlib.Core.List.{List}
use Rattle.address.specs.Facts.{Loopback, BadSource}
use Rattle.header.specs.Fields.{address_at}
use Rattle.refusals.specs.declared.Refusal.TheVariants.{NotForUs, InnerSourceBad}
use Rattle.settings.specs.declared.Settings.{Settings}
use Rattle.routers.specs.declared.Router.{Router}
use Rattle.receiving.specs.Receive.{received_of}
use Rattle.receiving.specs.Facts.{encapsulated, OuterWhole, SumRight, Encapsulates, Unfragmented, ForUs, OuterBad, InnerWhole}
use Rattle.receiving.specs.Admitted.{Admits}
use Rattle.receiving.proofs.Delivered.{first_fact}

module _ {F P Q : Type 0} (first : (F × P) ⊎ ((F → ⊥) × Q)) where
  -- the first fact holds
  here : F → P
  here f = ⊎_elim (λ h. h.1) (λ h. absurd (h.0 f)) first

  -- the first fact does not hold
  past : (F → ⊥) → Q
  past n = ⊎_elim (λ h. absurd (n h.0)) (λ h. h.1) first

module _ (s : Settings) (routers : List Router) (d : List ℕ) (interface : ℕ) where
  -- a datagram that is delivered on one interface gives 6 on another, where no locator has its destination
  pub other-interface : (there : ℕ) → Admits s routers d there → (ForUs s d interface → ⊥) → received_of s routers d interface ≡ Err NotForUs
  other-interface there a n =
      here (past (past (past (past (first_fact s routers d interface) (λ m. m a.outer_whole)) (λ m. m a.checksum_right)) (λ m. m a.protocol)) (λ m. m a.no_piece)) n

  -- the inner source `::1` gives 9, whatever embeds or is listed
  pub loopback_source : OuterWhole d → SumRight d → Encapsulates d → Unfragmented d → ForUs s d interface → (OuterBad s d → ⊥)
      → InnerWhole (encapsulated d) → Loopback (address_at (encapsulated d) 8)
      → received_of s routers d interface ≡ Err InnerSourceBad
  unfolding BadSource
  loopback_source w c e u f o i l =
      here (past (past (past (past (past (past (past (first_fact s routers d interface) (λ m. m w)) (λ m. m c)) (λ m. m e)) (λ m. m u)) (λ m. m f)) o) (λ m. m i)) (inr (inr (inl l)))
