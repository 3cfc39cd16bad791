-- A row of tests passes exactly if each of them is false; and what is known of what follows a row. Assumes nothing.
use Rattle.std.specs.Prelude.{Result, Ok, Err}
use mathlib.Core.Path.{◌≡◌, refl}
use mathlib.Core.Logic.{inl, inr}
use mathlib.Core.Bool.{Bool, true, false, cond}
use mathlib.Core.List.{List, [], ◌∷◌, ◌++◌}
use Rattle.lists.proofs.Decides.{Decides, fails}
use Rattle.refusals.specs.Refusals.{first_of, stop_or, AnswersFirst}
use Rattle.refusals.specs.declared.Refusal.{Refusal}

abbrev pub AllFalse : List (Bool × Refusal) → Type 0
AllFalse [] = Unit {0}
AllFalse (t ∷ ts) = (t.0 ≡ false) × AllFalse ts

first_pass : (t : Bool) (r : Refusal) (rest : Result Unit Refusal) → cond t (Err r) rest ≡ Ok tt → (t ≡ false) × (rest ≡ Ok tt)
first_pass true r rest h = (cc, cc)
first_pass false r rest h = (refl, h)

pub all_false : (rows : List (Bool × Refusal)) → first_of rows ≡ Ok tt → AllFalse rows
all_false [] h = tt
all_false (t ∷ ts) h =
    let f = first_pass t.0 t.1 (first_of ts) h in
    (f.0, all_false ts f.1)

pub all_pass : (rows : List (Bool × Refusal)) → AllFalse rows → first_of rows ≡ Ok tt
all_pass [] h = refl
all_pass (t ∷ ts) h = rw h.0 (all_pass ts h.1)

-- each test of a row decides the fact beside the same refusal
pub data RowsDecide : List (Bool × Refusal) → List (Type 0 × Refusal) → Type 1 where
  end : RowsDecide [] []
  row : {t : Bool} {F : Type 0} {r : Refusal} {ts : List (Bool × Refusal)} {fs : List (Type 0 × Refusal)} → Decides t F → RowsDecide ts fs → RowsDecide ((t, r) ∷ ts) ((F, r) ∷ fs)

module _ {A : Type 0} (refuse : Refusal → A) where
  -- what is no refusal comes from what follows, behind a row that passes
  pub stop_passed : (c : Result Unit Refusal) (follows given : A) → ((r : Refusal) → refuse r ≡ given → ⊥) → stop_or refuse c follows ≡ given → (c ≡ Ok tt) × (follows ≡ given)
  stop_passed (Ok tt) follows given other h = (refl, h)
  stop_passed (Err r) follows given other h = absurd (other r h)

  -- two rows one behind the other: the first row's refusal, else the second's
  pub stop_append : (xs ys : List (Bool × Refusal)) (follows : A) → stop_or refuse (first_of (xs ++ ys)) follows ≡ stop_or refuse (first_of xs) (stop_or refuse (first_of ys) follows)
  stop_append [] ys follows = refl
  stop_append (t ∷ xs) ys follows = go t.0 (stop_append xs ys follows)
    where
      go : (b : Bool) → stop_or refuse (first_of (xs ++ ys)) follows ≡ stop_or refuse (first_of xs) (stop_or refuse (first_of ys) follows)
          → stop_or refuse (cond b (Err t.1) (first_of (xs ++ ys))) follows ≡ stop_or refuse (cond b (Err t.1) (first_of xs)) (stop_or refuse (first_of ys) follows)
      go true h = refl
      go false h = h

  -- where each test decides its fact, the first test that passes is that of the first fact that holds
  pub answers-first : {ts : List (Bool × Refusal)} {fs : List (Type 0 × Refusal)} → RowsDecide ts fs → (follows : A) → AnswersFirst refuse fs follows (stop_or refuse (first_of ts) follows)
  answers-first end follows = refl
  answers-first (row {t} {F} {r} {ts} {fs} d rest) follows = go t d (answers-first rest follows)
    where
      go : (t : Bool) → Decides t F → AnswersFirst refuse fs follows (stop_or refuse (first_of ts) follows)
          → AnswersFirst refuse ((F, r) ∷ fs) follows (stop_or refuse (first_of ((t, r) ∷ ts)) follows)
      go true d h = inl (d.holds refl, refl)
      go false d h = inr (fails false d refl, h)
