-- Bytes that are read past their end have zeros behind them, and bytes that are cut off read as they do with zeros behind them. Assumes nothing.
use Prim.Native.Nat.{ℕ, zero, suc, ◌+◌, min}
use mathlib.Core.Path.{◌≡◌, refl, sym, ap, ◌∙◌}
use mathlib.Core.List.{List, [], ◌∷◌, ◌++◌}
use native.Mathlib.Omega.{arith}
use lib.ListN.{get_or, length, take, drop, replicate}
use lib.Seq.{get_or-drop}
use Rattle.header.specs.Fields.{word_at, quad_at, bytes_from, address_at}
use Rattle.header.specs.Outer.{outer_of}
use Rattle.header.specs.Inner.{inner_of}

-- behind the first byte
shifted : (n i x : ℕ) (d : List ℕ) → bytes_from n (suc i) (x ∷ d) ≡ bytes_from n i d
shifted zero i x d = refl
shifted (suc n) i x d = ap (λ (l : List ℕ). get_or d i 0 ∷ l) (shifted n (suc i) x d)

none_there : (n i : ℕ) → bytes_from n i [] ≡ replicate n 0
none_there zero i = refl
none_there (suc n) i = ap (λ (l : List ℕ). 0 ∷ l) (none_there n (suc i))

-- the first n bytes are those that are there, and zeros
pub zeros_behind : (n m : ℕ) (d : List ℕ) → m ≡ min n (length d) → take m d ++ drop m (replicate n 0) ≡ bytes_from n 0 d
zeros_behind zero m d e = let none : m ≡ 0 = omega arith in rw none
zeros_behind (suc n) m [] e = let none : m ≡ 0 = omega arith in rw none (sym (none_there (suc n) 0))
zeros_behind (suc n) zero (x ∷ d) e = absurd (omega arith)
zeros_behind (suc n) (suc m) (x ∷ d) e = rw (shifted n 0 x d) (ap (λ (l : List ℕ). x ∷ l) (zeros_behind n m d (omega arith)))

zeros_read : (n i : ℕ) → ◌≡◌ {A = ℕ} (get_or (replicate n 0) i 0) 0
zeros_read zero i = refl
zeros_read (suc n) zero = refl
zeros_read (suc n) (suc i) = zeros_read n i

-- d with as many of n zeros behind it as it leaves room for
abbrev pub padded : ℕ → ℕ → List ℕ → List ℕ
padded n k d = d ++ drop k (replicate n 0)

module _ (n k : ℕ) where
  padded_reads : (d : List ℕ) (i : ℕ) → ◌≡◌ {A = ℕ} (get_or (padded n k d) i 0) (get_or d i 0)
  padded_reads [] i = get_or-drop k (replicate n 0) i 0 ∙ zeros_read n (k + i)
  padded_reads (x ∷ d) zero = refl
  padded_reads (x ∷ d) (suc i) = padded_reads d i

  pub address_padded : (t : List ℕ) → bytes_from 16 0 (padded n k t) ≡ bytes_from 16 0 t
  address_padded t = simp padded_reads

  pub outer_padded : (d : List ℕ) → outer_of (padded n k d) ≡ outer_of d
  unfolding outer_of word_at quad_at
  outer_padded d = simp padded_reads

  pub inner_padded : (p : List ℕ) → inner_of (padded n k p) ≡ inner_of p
  unfolding inner_of word_at address_at
  inner_padded p = simp (get_or-drop, padded_reads)
