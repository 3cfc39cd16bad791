-- The options that we write, said over their bytes and bits (R22.10 to R22.12).
use Rattle.std.specs.Prelude.{ℕ, ◌+◌, ◌-◌, ◌*◌, ◌/◌, ◌%◌, ◌≤◌, ◌<◌, ◌≡◌, ◌⊎◌, cond, List, [], ◌∷◌, get_or, length}
use Rattle.header.specs.Wrap.{be32}
use Rattle.advertisements.specs.declared.prefix.Prefix.{Prefix}
use Rattle.advertisements.specs.declared.route.Route.{Route}
use Rattle.advertisements.specs.declared.route.Preference.{Preference}
use Rattle.advertisements.specs.declared.route.Preference.TheVariants.{Medium, High, Low}

-- bit k of bytes, counted from the highest bit of the first byte; 0 past the end
abbrev pub bit_at : List ℕ → ℕ → ℕ
bit_at bs k = get_or bs (k / 8) 0 / get_or (128 ∷ (64 ∷ (32 ∷ (16 ∷ (8 ∷ (4 ∷ (2 ∷ (1 ∷ [])))))))) (k % 8) 1 % 2

-- the first bits of a prefix, that many, as far as the bytes written go; the other bits of these are 0
pub record FirstBits (len : ℕ) (prefix bytes : List ℕ) : Type 0 where
  -- each byte is under 256
  pub fits : (i : ℕ) → get_or bytes i 0 < 256
  -- bits below the length are the prefix's
  pub own : (k : ℕ) → k < len → k / 8 < length bytes → bit_at bytes k ≡ bit_at prefix k
  -- bits from the length on are 0
  pub zero : (k : ℕ) → len ≤ k → bit_at bytes k ≡ 0

-- RFC 4861, 4.6.2: type 3, length 4, prefix length, a byte of flags in which L is 128 and A is 64, valid and preferred lifetime, four bytes 0,
-- and a prefix of 16 bytes
pub record PrefixOptionOf (p : Prefix) (o : List ℕ) : Type 0 where
  pub prefix : List ℕ
  pub long : length prefix ≡ 16
  pub bits : FirstBits p.length p.bytes prefix
  pub bytes : o
      ≡ 3 ∷ (4 ∷ (p.length ∷ ((cond p.on_link 128 0 + cond p.autonomous 64 0)
      ∷ be32 p.valid (be32 p.preferred (0 ∷ (0 ∷ (0 ∷ (0 ∷ prefix))))))))

-- RFC 4191, 2.3: the shortest length for a prefix of that many bits
abbrev pub ShortestUnits : ℕ → ℕ → Type 0
ShortestUnits length units =
    ((length ≡ 0) × (units ≡ 1))
    ⊎ (((1 ≤ length) × (length ≤ 64) × (units ≡ 2))
    ⊎ ((65 ≤ length) × (length ≤ 128) × (units ≡ 3)))

-- RFC 4191, 2.1: high is 01, medium 00 and low 11, in the bits 3 and 4 of a byte whose others are 0
abbrev pub preference_byte : Preference → ℕ
preference_byte High = 8
preference_byte Medium = 0
preference_byte Low = 24

-- RFC 4191, 2.3: type 24, length, prefix length, preference, lifetime, and a prefix of 0, 8 or 16 bytes
pub record RouteOptionOf (r : Route) (o : List ℕ) : Type 0 where
  pub units : ℕ
  pub shortest : ShortestUnits r.length units
  pub prefix : List ℕ
  pub long : length prefix ≡ 8 * (units - 1)
  pub bits : FirstBits r.length r.bytes prefix
  pub bytes : o ≡ 24 ∷ (units ∷ (r.length ∷ (preference_byte r.preference ∷ be32 r.lifetime prefix)))
