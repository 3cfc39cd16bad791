-- A packet with one header of each kind, whose chain is what `Chain` says; and packets that draw a message, and that draw none.
-- Assumes nothing.
use Prim.Native.Nat.{ℕ}
use mathlib.Core.Path.{◌≡◌, refl}
use mathlib.Core.Logic.{inl, inr, ⊎_elim}
use mathlib.Core.Bool.{true, false}
use mathlib.Core.List.{List, [], ◌∷◌, ◌++◌, flatten}
use native.Mathlib.Omega.{arith}
use Rattle.address.specs.Address.{is_multicast_or_unspecified}
use Rattle.header.specs.Fields.{word_at, address_at}
use Rattle.header.specs.Chain.{may_draw_from}
use Rattle.header.specs.Inner.{may_draw_error}
use Rattle.header.specs.Draws.{Extensions, Chain}

-- an IPv6 header with that next header, from fe80::2 to fe80::1
abbrev front : ℕ → List ℕ
front next =
    0x60 ∷ (0 ∷ (0 ∷ (0 ∷ (0 ∷ (0 ∷ (next ∷ (64 ∷
    (0xFE ∷ (0x80 ∷ (0 ∷ (0 ∷ (0 ∷ (0 ∷ (0 ∷ (0 ∷ (0 ∷ (0 ∷ (0 ∷ (0 ∷ (0 ∷ (0 ∷ (0 ∷ (2 ∷
    (0xFE ∷ (0x80 ∷ (0 ∷ (0 ∷ (0 ∷ (0 ∷ (0 ∷ (0 ∷ (0 ∷ (0 ∷ (0 ∷ (0 ∷ (0 ∷ (0 ∷ (0 ∷ (1 ∷ [])))))))))))))))))))))))))))))))))))))))

-- hop-by-hop options, a routing header of two units, a fragment header with a reserved byte and more-fragments set, destination options
abbrev headers : List (List ℕ)
headers =
    (43 ∷ (0 ∷ (0 ∷ (0 ∷ (0 ∷ (0 ∷ (0 ∷ (0 ∷ []))))))))
    ∷ (44 ∷ (1 ∷ (0 ∷ (0 ∷ (0 ∷ (0 ∷ (0 ∷ (0 ∷ (1 ∷ (1 ∷ (1 ∷ (1 ∷ (1 ∷ (1 ∷ (1 ∷ (1 ∷ []))))))))))))))))
    ∷ (60 ∷ (7 ∷ (0 ∷ (1 ∷ (9 ∷ (9 ∷ (9 ∷ (9 ∷ []))))))))
    ∷ (58 ∷ (0 ∷ (0 ∷ (0 ∷ (0 ∷ (0 ∷ (0 ∷ (0 ∷ []))))))))
    ∷ []

abbrev packet : ℕ → List ℕ
packet kind = front 0 ++ flatten headers ++ (kind ∷ [])

chain : (kind : ℕ) → Chain (packet kind) headers 58 80
unfolding Extensions flatten
chain kind = record {
  headers = (inl (inl refl, refl), (inl (inr (inl refl), refl), (inr (refl, refl), (inl (inr (inr refl), refl), refl))));
  ends = (⊎_elim (λ z. omega (arith, z)) (⊎_elim (λ z. omega (arith, z)) (λ z. omega (arith, z))), λ z. omega (arith, z));
  offset = refl;
  bytes = refl;
}

-- eight bytes: the number of what stands behind them, the second, third and fourth, and four zeros
abbrev eight : ℕ → ℕ → ℕ → ℕ → List ℕ
eight next second third fourth = next ∷ (second ∷ (third ∷ (fourth ∷ (0 ∷ (0 ∷ (0 ∷ (0 ∷ [])))))))

record Worked : Type 0 where
  -- behind the four an echo request, an error and a redirect
  echo : may_draw_error (packet 128) ≡ true
  error : may_draw_error (packet 127) ≡ false
  redirect : may_draw_error (packet 137) ≡ false
  -- the three bits below a fragment's offset, its lowest bit, and one of its third byte
  below : may_draw_error (front 44 ++ eight 58 0 0 7 ++ (128 ∷ [])) ≡ true
  lowest : may_draw_error (front 44 ++ eight 58 0 0 8 ++ (128 ∷ [])) ≡ false
  third : may_draw_error (front 44 ++ eight 58 0 1 0 ++ (128 ∷ [])) ≡ false
  -- 51 is an upper layer, whatever stands in it
  authentication : may_draw_error (front 51 ++ eight 58 0 0 0 ++ (1 ∷ [])) ≡ true
  -- all bytes of a header, and half of them; behind it no byte of TCP, and none of ICMPv6
  whole : may_draw_error (front 60 ++ eight 6 0 0 0) ≡ true
  half : may_draw_error (front 60 ++ eight 6 1 0 0) ≡ false
  empty : may_draw_error (front 60 ++ eight 58 0 0 0) ≡ false

worked : Worked
unfolding may_draw_error may_draw_from is_multicast_or_unspecified address_at word_at flatten
worked = record {
  echo = refl;
  error = refl;
  redirect = refl;
  below = refl;
  lowest = refl;
  third = refl;
  authentication = refl;
  whole = refl;
  half = refl;
  empty = refl;
}
