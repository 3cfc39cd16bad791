-- Options written one after another are options, and bytes. Assumes nothing.
use Prim.Native.Nat.{ℕ}
use mathlib.Core.Path.{refl}
use mathlib.Core.List.{List, [], ◌∷◌, ◌++◌, map, flatten, Memᴰ}
use Rattle.checksum.proofs.Bytes.{Bytes, bytes-append}
use Rattle.options.specs.Options.{IsOption, AreOptions}

pub options-append : (os ps : List (List ℕ)) → AreOptions os → AreOptions ps → AreOptions (os ++ ps)
unfolding AreOptions
options-append [] ps h k = k
options-append (o ∷ os) ps h k = (h.0, options-append os ps h.1 k)

module _ {A : Type 0} (f : A → List ℕ) where
  pub options-map : (xs : List A) → ((x : A) → Memᴰ x xs → IsOption (f x)) → AreOptions (map f xs)
  unfolding AreOptions
  options-map [] h = tt
  options-map (x ∷ xs) h = (h x (Memᴰ.head refl), options-map xs (λ y m. h y (Memᴰ.tail m)))

  pub bytes-map : (xs : List A) → ((x : A) → Memᴰ x xs → Bytes (f x)) → Bytes (flatten (map f xs))
  unfolding flatten
  bytes-map [] h = tt
  bytes-map (x ∷ xs) h = bytes-append (f x) (flatten (map f xs)) (h x (Memᴰ.head refl)) (bytes-map xs (λ y m. h y (Memᴰ.tail m)))
