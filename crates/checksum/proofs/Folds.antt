-- The folds are given what `Folds` says, and make of it what it says. Assumes nothing.
use Rattle.std.proofs.Common.{◌≡◌, ℕ, zero, suc, ◌+◌, ◌*◌, ◌/◌, ◌^◌, ◌<◌, ◌≤◌, Bool, true, false, ltb, List, [], ◌∷◌, length, get_or, take, drop, sym, refl, ap, ◌∙◌, add-one, arith, length-drop, take_all, drop-drop, ltb-false, ltb-true}
use Rattle.checksum.specs.Sum.{carried, all_ones}
use Rattle.checksum.specs.Folding.{word_sum, folded, chunk, inputs_after, fold_inputs, final_input}
use Rattle.checksum.specs.Folds.{exact_sum, given, turns, FoldsTo, Folds}
use Rattle.checksum.proofs.Bytes.{Bytes}
use Rattle.checksum.proofs.Laws.{folded_once, folded-word}
use Rattle.checksum.proofs.FoldInputs.{sum-final}

pub word_sum-exact : (s : List ℕ) → word_sum s ≡ exact_sum s
unfolding word_sum
word_sum-exact [] = refl
word_sum-exact (hi ∷ []) = omega arith
word_sum-exact (hi ∷ (lo ∷ s)) = omega (arith, word_sum-exact s)

-- one turn more, where there is a carry
again : (x : ℕ) → all_ones < x → FoldsTo (carried x) (folded (carried x)) → FoldsTo x (folded x)
again x more f = record { count = suc f.count; carries = carry; none_left = f.none_left; result = f.result ∙ folded_once x }
  where
    carry : (k : ℕ) → k < suc f.count → all_ones < turns k x
    carry zero h = more
    carry (suc k) h = f.carries k (omega arith)

-- a turn is taken as long as there is a carry
either : (x : ℕ) → (all_ones < x → FoldsTo (carried x) (folded (carried x))) → FoldsTo x (folded x)
either x f = go (ltb all_ones x) refl
  where
    go : (t : Bool) → ltb all_ones x ≡ t → FoldsTo x (folded x)
    go true e = let more = ltb-true _ _ e in again x more (f more)
    go false e =
        let none = ltb-false _ _ e in record { count = 0; carries = λ k l. absurd (omega arith); none_left = none; result = sym (folded-word x none) }

folds_below : (bound x : ℕ) → x ≤ bound → FoldsTo x (folded x)
folds_below zero x h = either x (λ more. absurd (omega arith))
folds_below (suc bound) x h = either x (λ more. folds_below bound (carried x) (omega arith))

pub folds_to : (x : ℕ) → FoldsTo x (folded x)
folds_to x = folds_below x x (omega arith)

-- over so many full chunks

inputs_count : (full result : ℕ) (s : List ℕ) → length (inputs_after full result s) ≡ full + 1
inputs_count zero result s = refl
inputs_count (suc full) result s = omega (arith, inputs_count full (folded (result + word_sum (take chunk s))) (drop chunk s))

inputs_first : (full result : ℕ) (s : List ℕ) → length s / chunk ≡ full → get_or (inputs_after full result s) 0 0 ≡ result + word_sum (take chunk s)
inputs_first zero result s h = ap (λ (t : List ℕ). result + word_sum t) (sym (take_all chunk s (omega arith)))
inputs_first (suc full) result s h = refl

inputs_next : (full result : ℕ) (s : List ℕ) (i : ℕ) → length s / chunk ≡ full → i < full
    → get_or (inputs_after full result s) (suc i) 0 ≡ folded (get_or (inputs_after full result s) i 0) + word_sum (take chunk (drop (chunk * suc i) s))
inputs_next zero result s i h k = elim k [ ]
inputs_next (suc full) result s zero h k =
    inputs_first full (folded (result + word_sum (take chunk s))) (drop chunk s) (omega (arith, length-drop chunk s))
inputs_next (suc full) result s (suc i) h k =
    let n : chunk + chunk * suc i ≡ chunk * suc (suc i) = omega arith in
    let d : drop (chunk * suc i) (drop chunk s) ≡ drop (chunk * suc (suc i)) s = rw (drop-drop (chunk * suc i) chunk s, n) in
    inputs_next full (folded (result + word_sum (take chunk s))) (drop chunk s) i (omega (arith, length-drop chunk s)) (omega arith)
    ∙ ap (λ (t : List ℕ). folded (get_or (inputs_after (suc full) result s) (suc i) 0) + word_sum (take chunk t)) d

inputs_since : (start : ℕ) (s : List ℕ) (i : ℕ) → i < length s / chunk
    → given start s (i + 1) ≡ folded (given start s i) + exact_sum (take chunk (drop (chunk * (i + 1)) s))
unfolding fold_inputs
inputs_since start s i h =
    rw (add-one)
    (inputs_next (length s / chunk) start s i refl h
    ∙ ap (λ (n : ℕ). folded (given start s i) + n) (word_sum-exact (take chunk (drop (chunk * suc i) s))))

-- of octets and a start value of 32 bits
pub folds : (start : ℕ) (s : List ℕ) → start < 2 ^ 32 → Bytes s → Folds start s
unfolding fold_inputs final_input
folds start s fits bytes = record {
  count = inputs_count (length s / chunk) start s;
  first = inputs_first (length s / chunk) start s refl ∙ ap (λ (n : ℕ). start + n) (word_sum-exact (take chunk s));
  next = inputs_since start s;
  last = refl;
  fold = folds_to;
  sum = sum-final start s fits bytes;
}
