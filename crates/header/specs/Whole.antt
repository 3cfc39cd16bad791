-- Whole packets, said in plain facts.
use Rattle.std.specs.Prelude.{ℕ, ◌≤◌, ◌≡◌}
use Rattle.header.specs.declared.inner.Inner.{Inner}

-- a whole IPv6 packet, where n bytes remain for it
pub record WholeInner (n : ℕ) (i : Inner) : Type 0 where
  pub some : 40 ≤ n
  pub version : i.version ≡ 6
  pub whole : i.length ≤ n

-- an IPv6 packet of n bytes and no byte behind it
pub record WholePacket (n : ℕ) (i : Inner) : Type 0 where
  pub some : 40 ≤ n
  pub version : i.version ≡ 6
  pub exact : n ≡ i.length
