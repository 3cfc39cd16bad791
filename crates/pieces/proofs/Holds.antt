-- What is claimed of the pieces of one cutting. Assumes nothing.
use Prim.Native.Nat.{ℕ}
use mathlib.Core.Path.{◌≡◌, refl, sym, ap, ◌∙◌}
use mathlib.Core.Logic.{◌⊎◌, ⊎_elim, inl, inr}
use mathlib.Core.Bool.{Bool, true, false, cond, true≢false, or-true}
use mathlib.Core.List.{List, [], ◌∷◌, ◌++◌, append-nil}
use borrow.Author.Tests.{eq-eqb}
use lib.Dec.{eqb}
use Rattle.lists.proofs.Tests.{tested}
use Rattle.refusals.specs.declared.Refusal.TheVariants.{PieceUnfit}
use Rattle.pieces.specs.declared.Key.{Key}
use Rattle.pieces.specs.declared.Plan.{Plan}
use Rattle.pieces.specs.declared.Plan.TheVariants.{Unfit}
use Rattle.pieces.specs.Places.{Part, is_unfit}
use Rattle.pieces.specs.Take.{plan_of, taken_of, taken_by}
use Rattle.pieces.proofs.Joining.{In, Step, State, answer, after, is_under, under, Arrive, Admitted, PiecesJoin}
use Rattle.pieces.proofs.Cut.{Fitted, has_come, have_come, one-missing}
use Rattle.pieces.proofs.Content.{fits, both}
use Rattle.pieces.proofs.Apart.{offsets}
use Rattle.pieces.proofs.Come.{moved, fewer}
use Rattle.pieces.proofs.Join.{under_one, beginning, goes_on}
use Rattle.std.specs.Prelude.{Err}

-- ---- those that have come, by their offsets

in-come : (come : List Part) (p : Part) → In p come → has_come come p ≡ true
in-come [] p i = absurd i
in-come (q ∷ come) p i =
    ⊎_elim (λ (e : p ≡ q). rw (eq-eqb q.offset p.offset (ap (λ (r : Part). r.offset) (sym e))))
    (λ j. rw (in-come come p j) (or-true (eqb q.offset p.offset))) i

all_come : (come ps : List Part) → ((p : Part) → In p ps → In p come) → have_come come ps ≡ true
all_come come [] h = refl
all_come come (p ∷ ps) h = rw (in-come come p (h p (inl refl))) (all_come come ps (λ q i. h q (inr i)))

-- a piece of the cutting that has come, by its offset, is among those that came
come_in : (ps : List Part) (payload : List ℕ) (cut : Fitted ps payload) (come : List Part) → ((q : Part) → In q come → In q ps) → (p : Part) → In p ps → has_come come p ≡ true → In p come
come_in ps payload cut [] h p i e = absurd (true≢false (sym e))
come_in ps payload cut (q ∷ come) h p i e =
    ⊎_elim (λ (same : q ≡ p). inl (sym same))
    (λ a. inr (come_in ps payload cut come (λ r j. h r (inr j)) p i (rw (offsets q p (fits ps payload cut q (h q (inl refl))) (fits ps payload cut p i) a) at e)))
    (both ps payload cut q p (h q (inl refl)) i)

-- ---- the steps under the key

module _ (key : Key) where
  in-under : (p : Part) (x : Step) (xs : List Step) → In p (under key (x ∷ xs)) → ((is_under key x ≡ true) × (p ≡ x.piece)) ⊎ In p (under key xs)
  in-under p x xs i = go (is_under key x) refl i
    where
      go : (b : Bool) → is_under key x ≡ b → In p (cond b (x.piece ∷ under key xs) (under key xs)) → ((is_under key x ≡ true) × (p ≡ x.piece)) ⊎ In p (under key xs)
      go true h i = ⊎_elim (λ e. inl (h, e)) (λ j. inr j) i
      go false h i = inr i

  under_in : (p : Part) (x : Step) (xs : List Step) → In p (under key xs) → In p (under key (x ∷ xs))
  under_in p x xs i = go (is_under key x)
    where
      go : (b : Bool) → In p (cond b (x.piece ∷ under key xs) (under key xs))
      go true = inr i
      go false = i

  under-front : (p : Part) (xs ys : List Step) → In p (under key xs) → In p (under key (xs ++ ys))
  under-front p [] ys i = absurd i
  under-front p (x ∷ xs) ys i =
      ⊎_elim (λ h. rw h.0 (inl h.1)) (λ j. under_in p x (xs ++ ys) (under-front p xs ys j)) (in-under p x xs i)

  -- each is a piece of the cutting
  under-pieces : (ps : List Part) (now : ℕ) (xs : List Step) → Arrive key ps now xs → (p : Part) → In p (under key xs) → In p ps
  under-pieces ps now [] a p i = absurd i
  under-pieces ps now (x ∷ xs) a p i =
      ⊎_elim (λ h. rw h.1 (a.1 h.0)) (λ j. under-pieces ps x.time xs a.2 p j) (in-under p x xs i)

  -- and was not refused by 30
  unfit-answer : (s : State) (x : Step) → is_unfit x.piece ≡ true → answer s x ≡ Err PieceUnfit
  unfolding taken_of plan_of
  unfit-answer s x h =
      let plan : plan_of x.time x.key x.piece s.collection s.memory ≡ Unfit = rw h in
      ap (λ (plan : Plan). (taken_by plan x.time x.key x.piece s.collection).answer) plan

  under-fit : (s : State) (xs : List Step) → Admitted key s xs → (p : Part) → In p (under key xs) → is_unfit p ≡ false
  under-fit s [] a p i = absurd i
  under-fit s (x ∷ xs) a p i =
      ⊎_elim (λ h. ⊎_elim (λ t. absurd ((a.0 h.0).1 (unfit-answer s x (rw h.1 at t)))) (λ t. t) (tested (is_unfit p)))
      (λ j. under-fit (after s x) xs a.1 p j) (in-under p x xs i)

pub pieces_join : PiecesJoin
pieces_join key ps payload s first others last h =
    let start = first.time in
    let cut : Fitted ps payload = record {
      runs = h.cut.runs;
      whole = h.cut.whole;
      fits = λ p i. under-fit key s (first ∷ others ++ last ∷ []) h.admitted p (h.whole p i);
    } in
    let pieces : (p : Part) → In p (under key (first ∷ others)) → In p ps =
    λ p i. under-pieces key ps start (first ∷ others ++ last ∷ []) h.arrive p (under-front key p (first ∷ others) (last ∷ []) i) in
    let missing : have_come (under key (first ∷ others)) ps ≡ false =
    one-missing (under key (first ∷ others)) ps h.missing.0 h.missing.1
    (⊎_elim (λ t. absurd (h.missing.2 (come_in ps payload cut (under key (first ∷ others)) pieces h.missing.0 h.missing.1 t))) (λ t. t)
    (tested (has_come (under key (first ∷ others)) h.missing.0))) in
    let whole = all_come (under key (first ∷ others ++ last ∷ [])) ps h.whole in
    let b = beginning key ps payload cut start s first h.starts refl (h.arrive.1 h.starts) h.sized h.new (h.admitted.0 h.starts).0 in
    let k = b.0 in
    let some : have_come (under key others ++ first.piece ∷ []) ps ≡ false =
    sym (moved ps first.piece (under key others) [])
    ∙ rw (append-nil (under key others)) (rw (under_one key ps payload cut start first others h.starts) at missing) in
    let all : have_come (under key (others ++ last ∷ []) ++ first.piece ∷ []) ps ≡ true =
    sym (moved ps first.piece (under key (others ++ last ∷ [])) [])
    ∙ rw (append-nil (under key (others ++ last ∷ []))) (rw (under_one key ps payload cut start first (others ++ last ∷ []) h.starts) at whole) in
    let w = b.2.waits (fewer ps (under key others) (first.piece ∷ []) some) in
    let r = goes_on key ps payload cut start others last (first.piece ∷ []) start k (after s first) w.1 h.arrive.2 h.in_time h.ends some all in
    record { waits = (λ e. w.0, r.waits); place = k; inside = b.1; joined = r.joined; stands = r.stands }
