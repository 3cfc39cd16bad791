-- Pieces that have come, in whatever order. Assumes nothing.
use mathlib.Core.Path.{◌≡◌, refl, sym, ◌∙◌}
use mathlib.Core.Logic.{⊎_elim, inl, inr}
use mathlib.Core.Bool.{Bool, true, false, ◌||◌, true≢false, or-true, or_assoc}
use mathlib.Core.List.{List, [], ◌∷◌, ◌++◌}
use lib.Dec.{eqb}
use Rattle.lists.proofs.Tests.{tested}
use Rattle.pieces.specs.Places.{Part}
use Rattle.pieces.proofs.Joining.{In}
use Rattle.pieces.proofs.Cut.{has_come, have_come, each_come}

-- as many have come
pub have_same : (a b ps : List Part) → ((p : Part) → In p ps → has_come a p ≡ has_come b p) → have_come a ps ≡ have_come b ps
have_same a b [] h = refl
have_same a b (p ∷ ps) h = rw (h p (inl refl), have_same a b ps (λ q i. h q (inr i)))

module _ (ps : List Part) where
  -- pieces that have come, in whatever order
  come_both : (a b : List Part) (q : Part) → has_come (a ++ b) q ≡ (has_come a q || has_come b q)
  come_both [] b q = refl
  come_both (p ∷ a) b q = rw (come_both a b q) (sym (or_assoc (eqb p.offset q.offset) (has_come a q) (has_come b q)))

  or_swap : (a b c : Bool) → (a || (b || c)) ≡ (b || (a || c))
  or_swap true b c = sym (or-true b)
  or_swap false b c = refl

  pub moved : (p : Part) (a b : List Part) → have_come (p ∷ a ++ b) ps ≡ have_come (a ++ p ∷ b) ps
  moved p a b = have_same (p ∷ a ++ b) (a ++ p ∷ b) ps
      (λ q i. rw (come_both a b q, come_both a (p ∷ b) q) (or_swap (eqb p.offset q.offset) (has_come a q) (has_come b q)))

  -- while one of more is missing, one of fewer is
  pub fewer : (a b : List Part) → have_come (a ++ b) ps ≡ false → have_come b ps ≡ false
  fewer a b h = ⊎_elim (λ e. absurd (true≢false (sym (more e) ∙ h))) (λ e. e) (tested (have_come b ps))
    where
      more : have_come b ps ≡ true → have_come (a ++ b) ps ≡ true
      more e = go ps (λ q i. rw (come_both a b q, each_come b ps e q i) (or-true (has_come a q)))
        where
          go : (qs : List Part) → ((q : Part) → In q qs → has_come (a ++ b) q ≡ true) → have_come (a ++ b) qs ≡ true
          go [] f = refl
          go (q ∷ qs) f = rw (f q (inl refl)) (go qs (λ r i. f r (inr i)))
