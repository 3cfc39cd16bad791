-- When an advertisement is written, and how long it is. Assumes nothing.
use Rattle.std.specs.Prelude.{Result, Ok, Err}
use Prim.Native.Nat.{ℕ, ◌+◌, ◌*◌, ◌≤◌}
use mathlib.Core.Path.{◌≡◌, refl, ap}
use mathlib.Core.Bool.{Bool, true, false, cond, ◌||◌}
use mathlib.Core.List.{List, [], ◌∷◌}
use native.Mathlib.Omega.{arith}
use borrow.Author.Tests.{ltb-false}
use lib.ListN.{length, length-take}
use lib.Dec.{ltb}
use lib.Seq.{length-take-le}
use Rattle.lists.specs.Any.{any_of}
use Rattle.lists.proofs.Tests.{or_left, or_right}
use Rattle.refusals.specs.declared.Refusal.{Refusal}
use Rattle.refusals.specs.declared.Refusal.TheVariants.{OptionsBad, OutputShort}
use Rattle.advertisements.specs.declared.route.Route.{Route}
use Rattle.advertisements.specs.declared.Advertisement.{Advertisement}
use Rattle.advertisements.specs.Advertisement.{prefixes_of, routes_of, is_prefix_too_long, is_route_too_long, are_options_bad, routes_length, advertisement_length, advertisement_check, advertisement_answer}
use Rattle.header.specs.Wrap.{writer_answer}
use Rattle.advertisements.proofs.UnitLaws.{units_between}

module _ (a : Advertisement) (room : ℕ) where
  -- what an answer says of the check behind it
  pub answer_refused : (r : Refusal) → advertisement_answer a room ≡ Err r → advertisement_check a room ≡ Err r
  unfolding advertisement_answer
  answer_refused r = go (advertisement_check a room)
    where
      go : (c : Result Unit Refusal) → writer_answer c (advertisement_length a) ≡ Err r → c ≡ Err r
      go (Ok tt) e = absurd cc
      go (Err q) e = let same : q ≡ r = cc in ap Err same

  pub answer_passed : (n : ℕ) → advertisement_answer a room ≡ Ok n
      → ((are_options_bad a ≡ false) × (advertisement_length a ≤ room)) × ((advertisement_check a room ≡ Ok (tt {0})) × (n ≡ advertisement_length a))
  unfolding advertisement_answer advertisement_check
  answer_passed n = go (are_options_bad a) (ltb room (advertisement_length a)) refl refl
    where
      go : (s t : Bool) → are_options_bad a ≡ s → ltb room (advertisement_length a) ≡ t
          → writer_answer (cond s (Err OptionsBad) (cond t (Err OutputShort) (Ok (tt {0})))) (advertisement_length a) ≡ Ok n
          → ((are_options_bad a ≡ false) × (advertisement_length a ≤ room)) × ((cond (are_options_bad a) (Err OptionsBad) (cond (ltb room (advertisement_length a)) (Err OutputShort) (Ok (tt {0}))) ≡ Ok (tt {0})) × (n ≡ advertisement_length a))
      go true t e f h = absurd cc
      go false true e f h = absurd cc
      go false false e f h = ((e, ltb-false room (advertisement_length a) f), (rw (e, f), cc))

-- the length is that of the parts
pub length_parts : (a : Advertisement) → advertisement_length a ≡ 56 + (length (prefixes_of a) * 32 + routes_length (routes_of a))
unfolding advertisement_length
length_parts a = omega arith

-- routes take 24 bytes each at most
pub routes-most : (rs : List Route) → routes_length rs ≤ length rs * 24
routes-most [] = omega arith
routes-most (r ∷ rs) = let most = units_between r.length in let rest = routes-most rs in omega arith

module _ (a : Advertisement) (good : are_options_bad a ≡ false) where
  -- neither count is above 8
  pub counts : (a.prefix_count ≤ 8) × (a.route_count ≤ 8)
  unfolding are_options_bad
  counts =
      let rest = or_right (ltb 8 a.prefix_count) (ltb 8 a.route_count || (any_of is_prefix_too_long (prefixes_of a) || any_of is_route_too_long (routes_of a))) good in
      (ltb-false _ _ (or_left (ltb 8 a.prefix_count) _ good), ltb-false _ _ (or_left (ltb 8 a.route_count) _ rest))

  -- the routes take 192 bytes at most
  pub routes_eight : routes_length (routes_of a) ≤ 192
  routes_eight =
      let most = routes-most (routes_of a) in
      let few : length (routes_of a) ≤ 8 = let n = length-take a.route_count a.routes in let k = counts in omega arith in
      omega arith

  -- the length of an advertisement, of arrays that are full
  pub length-counted : length a.prefixes ≡ 8 → advertisement_length a ≡ 56 + (a.prefix_count * 32 + routes_length (routes_of a))
  unfolding advertisement_length
  length-counted full =
      let k = counts in
      ap (λ (n : ℕ). 56 + (n * 32 + routes_length (routes_of a))) (length-take-le a.prefix_count a.prefixes (omega arith))

  -- an advertisement is 504 bytes long at most
  pub length_most : advertisement_length a ≤ 504
  unfolding advertisement_length
  length_most =
      let k = counts in
      let routes = routes_eight in
      let few : length (prefixes_of a) ≤ 8 = let n = length-take a.prefix_count a.prefixes in omega arith in
      omega arith
