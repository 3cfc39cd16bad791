-- R7.6, R7.11: what a path of size P lets through.
use Rattle.std.specs.Prelude.{ℕ, ◌+◌, ◌-◌, ◌≤◌, max, ◌≡◌, ◌⊎◌, Bool, ltb}
use Rattle.header.specs.Numbers.{outer_header}

-- the packet size that every IPv6 path takes (RFC 2893, 3.2)
abbrev pub least_mtu : ℕ
least_mtu = 1280

-- M, the larger of 1,280 and P − 20
unfoldable pub largest_packet : ℕ → ℕ
largest_packet P = max least_mtu (P - outer_header)

-- don't-fragment is set exactly when P − 20 > 1,280
unfoldable pub dont_fragment : ℕ → Bool
dont_fragment P = ltb least_mtu (P - outer_header)

-- M is the larger of 1,280 and P − 20, said in plain facts: below neither of them, and one of them
pub record LargerOfBoth (P M : ℕ) : Type 0 where
  pub least : 1280 ≤ M
  pub whole : P ≤ 20 + M
  pub one : (M ≡ 1280) ⊎ (20 + M ≡ P)
