-- The premises can be met: eleven bytes in two pieces, the last one first and twice, with a piece of another key between, at the last
-- second. Assumes nothing.
use Prim.Native.Nat.{ℕ}
use mathlib.Core.Path.{◌≡◌, refl, sym, ap}
use mathlib.Core.Logic.{⊎_elim, inl, inr}
use mathlib.Core.Bool.{true, false, true≢false}
use mathlib.Core.List.{List, [], ◌∷◌}
use native.Mathlib.Omega.{arith}
use lib.ListN.{replicate, length-replicate}
use Rattle.units.specs.Held.{marks_in, held_of, any_held, all_held, held_with}
use Rattle.lent.specs.Written.{written_at}
use Rattle.pieces.specs.declared.Key.{Key}
use Rattle.pieces.specs.Places.{Part, memory_room, unfit, is_same, is_live, is_free, is_of, is_whole, ends_apart, extended_to}
use Rattle.pieces.specs.Take.{no_datagrams, plan_in, plan_held, plan_new, plan_of, settled, taken_of, memory_of}
use Rattle.pieces.proofs.Joining.{Step, State, Admitted, Premises, Joins}
use Rattle.pieces.proofs.Changes.{code}
use Rattle.pieces.proofs.Holds.{pieces_join}

pub ours : Key
ours = record { source = 1; destination = 2; protocol = 41; identification = 7 }

pub theirs : Key
theirs = record { source = 1; destination = 2; protocol = 41; identification = 8 }

pub front : Part
front = record { offset = 0; more = true; payload = 1 ∷ 2 ∷ 3 ∷ 4 ∷ 5 ∷ 6 ∷ 7 ∷ 8 ∷ [] }

pub back : Part
back = record { offset = 1; more = false; payload = 9 ∷ 10 ∷ 11 ∷ [] }

pub whole : List ℕ
whole = 1 ∷ 2 ∷ 3 ∷ 4 ∷ 5 ∷ 6 ∷ 7 ∷ 8 ∷ 9 ∷ 10 ∷ 11 ∷ []

pub first : Step
first = record { key = ours; piece = back; time = 100 }

pub other : Step
other = record { key = theirs; piece = front; time = 110 }

pub again : Step
again = record { key = ours; piece = back; time = 120 }

pub last : Step
last = record { key = ours; piece = front; time = 129 }

pub start : State
start = record { collection = no_datagrams; memory = replicate memory_room 0 }

-- what they answer, reckoned
admitted : Admitted ours start (first ∷ other ∷ again ∷ last ∷ [])
unfolding start first other again last front back ours theirs unfit is_same is_live is_free is_of is_whole ends_apart extended_to marks_in held_of any_held all_held held_with written_at plan_held plan_in plan_new plan_of settled taken_of memory_of
admitted = (
  λ u. (λ e. omega (arith, ap code e), λ e. omega (arith, ap code e)),
  (
    λ u. (λ e. omega (arith, ap code e), λ e. omega (arith, ap code e)),
    (
      λ u. (λ e. omega (arith, ap code e), λ e. omega (arith, ap code e)),
      (λ u. (λ e. omega (arith, ap code e), λ e. omega (arith, ap code e)), tt),
    ),
  ),
)

met : Premises ours (front ∷ back ∷ []) whole start first (other ∷ again ∷ []) last
unfolding start first other again last front back whole ours theirs unfit is_same is_live is_free is_of is_whole ends_apart extended_to marks_in held_of any_held all_held held_with written_at plan_held plan_in plan_new plan_of settled taken_of memory_of admitted
met = record {
  cut = record { runs = (refl, refl, (refl, refl)); whole = refl };
  sized = record { eight = refl; memory = rw (length-replicate {A = ℕ} memory_room 0) (omega arith) };
  new = refl;
  arrive = (
    omega arith,
    λ u. inr (inl refl),
    (
      omega arith,
      λ u. absurd (true≢false (sym u)),
      (
        omega arith,
        λ u. inr (inl refl),
        (omega arith, λ u. inl refl, tt),
      ),
    ),
  );
  in_time = omega arith;
  admitted = admitted;
  starts = refl;
  ends = refl;
  missing = (front, inl refl, λ i. ⊎_elim (λ e. apart e) (λ j. ⊎_elim (λ e. apart e) (λ n. n) j) i);
  whole = λ p i. ⊎_elim (λ e. inr (inr (inl e))) (λ j. ⊎_elim (λ e. inl e) (λ n. absurd n) j) i;
}
  where
    apart : front ≡ back → ⊥
    apart e = let z : ◌≡◌ {A = ℕ} 0 1 = ap (λ (p : Part). p.offset) e in omega arith

-- so the claim speaks of them
pub example : Joins ours whole start first (other ∷ again ∷ []) last
example = pieces_join ours (front ∷ back ∷ []) whole start first (other ∷ again ∷ []) last met
