-- A list of four is its four entries, and sixteen entries are four such lists. Assumes nothing.
use Rattle.std.proofs.Common.{◌≡◌, ℕ, List, [], ◌∷◌, ◌++◌, length, get_or, refl, arith}

abbrev pub four : List ℕ → List ℕ
four l = get_or l 0 0 ∷ (get_or l 1 0 ∷ (get_or l 2 0 ∷ (get_or l 3 0 ∷ [])))

four_bytes : (l : List ℕ) → length l ≡ 4 → four l ≡ l
four_bytes [] h = absurd (omega (arith, h))
four_bytes (a ∷ []) h = absurd (omega (arith, h))
four_bytes (a ∷ (b ∷ [])) h = absurd (omega (arith, h))
four_bytes (a ∷ (b ∷ (c ∷ []))) h = absurd (omega (arith, h))
four_bytes (a ∷ (b ∷ (c ∷ (d ∷ [])))) h = refl
four_bytes (a ∷ (b ∷ (c ∷ (d ∷ (e ∷ l))))) h = absurd (omega (arith, h))

pub four_joined : (a b c d : List ℕ) → length a ≡ 4 → length b ≡ 4 → length c ≡ 4 → length d ≡ 4 → four a ++ four b ++ four c ++ four d ≡ a ++ b ++ c ++ d
four_joined a b c d la lb lc ld = cc (four_bytes a la, four_bytes b lb, four_bytes c lc, four_bytes d ld)
