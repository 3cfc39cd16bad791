-- What a path lets through, in plain facts. Assumes nothing.
use Prim.Native.Nat.{ℕ, ◌+◌, ◌-◌, ◌≤◌, ◌<◌}
use mathlib.Core.Path.{◌≡◌, refl}
use mathlib.Core.Bool.{Bool, true, false}
use mathlib.Core.Logic.{◌⊎◌, ⊎_elim, inl, inr}
use native.Mathlib.Omega.{arith}
use borrow.Author.Tests.{ltb-true, ltb-false}
use lib.Dec.{ltb}
use Rattle.header.specs.Numbers.{outer_header}
use Rattle.lists.proofs.Decides.{Decides, decides_as, decides_lt}
use Rattle.paths.specs.Packets.{least_mtu, largest_packet, dont_fragment, LargerOfBoth}

module _ (P : ℕ) where
  -- M is the larger of both
  pub larger-of-both : LargerOfBoth P (largest_packet P)
  unfolding largest_packet
  larger-of-both = record { least = omega arith; whole = omega arith; one = go (ltb least_mtu (P - outer_header)) refl }
    where
      go : (t : Bool) → ltb least_mtu (P - outer_header) ≡ t → (largest_packet P ≡ least_mtu) ⊎ (outer_header + largest_packet P ≡ P)
      go true e = let l = ltb-true least_mtu (P - outer_header) e in inr (omega arith)
      go false e = let l = ltb-false least_mtu (P - outer_header) e in inl (omega arith)

  -- nothing but the largest packet is the larger of both
  pub larger-is : (M : ℕ) → LargerOfBoth P M → M ≡ largest_packet P
  unfolding largest_packet
  larger-is M f = ⊎_elim (λ e. omega (arith, f.least, f.whole)) (λ e. omega (arith, f.least, f.whole)) f.one

  -- a packet of n bytes is no longer than M exactly if it is no longer than 1,280 bytes, or fits the path with its header
  pub takes : (n : ℕ) → n ≤ largest_packet P → (n ≤ least_mtu) ⊎ (outer_header + n ≤ P)
  takes n l = ⊎_elim (λ e. inl (omega arith)) (λ e. inr (omega arith)) larger-of-both.one

  pub taken : (n : ℕ) → (n ≤ least_mtu) ⊎ (outer_header + n ≤ P) → n ≤ largest_packet P
  unfolding largest_packet
  taken n = ⊎_elim (λ l. omega arith) (λ l. omega arith)

  -- the flag is set exactly if more than 1,280 bytes fit the path with the header
  pub decides_flag : Decides (dont_fragment P) (outer_header + least_mtu < P)
  unfolding dont_fragment
  decides_flag = decides_as _ (decides_lt least_mtu (P - outer_header)) (λ l. omega arith) (λ l. omega arith)
