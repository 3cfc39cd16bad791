-- Calls under a key that 11, 4, 6 and 7 let pass, as steps of the collection: what is said of the calls is so of the steps, and back. Assumes
-- nothing.
use Rattle.std.specs.Prelude.{Result, Ok, Err}
use Prim.Native.Nat.{ℕ, ◌≤◌, max}
use mathlib.Core.Path.{◌≡◌, refl, sym, ap, subst, ◌∙◌}
use mathlib.Core.Logic.{◌⊎◌, ⊎_elim, inl, inr}
use mathlib.Core.Bool.{Bool, true, false, cond}
use mathlib.Core.List.Memᴰ
use mathlib.Core.List.{List, [], ◌∷◌, ◌++◌, map, Memᴰ}
use native.Mathlib.Omega.{arith}
use Rattle.lists.specs.Any.{Some}
use Rattle.refusals.specs.Refusals.{number_of}
use Rattle.refusals.specs.Given.{Given}
use Rattle.refusals.specs.declared.Refusal.{Refusal}
use Rattle.refusals.specs.declared.Refusal.TheVariants.{PieceWaits, NoPlace, PieceUnfit}
use Rattle.header.specs.Fields.{quad_at}
use Rattle.header.specs.Outer.{outer_of}
use Rattle.routers.specs.Routers.{live}
use Rattle.settings.specs.declared.Settings.{Settings}
use Rattle.pieces.specs.Places.{Part, is_same}
use Rattle.pieces.specs.declared.Joined as taken
use Rattle.pieces.specs.declared.Key.{Key}
use Rattle.pieces.proofs.Joining as pieces
use Rattle.pieces.proofs.Joining.{Step, State, answer, after, after_all, In, is_under, under}
use Rattle.receiving.specs.Collect.{is_piece, joined_by}
use Rattle.receiving.specs.Receive.{received_given}
use Rattle.receiving.proofs.Facts.{decides_piece}
use Rattle.receiving.specs.declared.Received.{Received}
use Rattle.node.specs.declared.Node.{Node}
use Rattle.node.specs.declared.ServiceName.{ServiceName}
use Rattle.demands.specs.Calls.{NodeCall, Outcome, outcome_of, OfPieces, a_datagram, no_datagram, pieces_of}
use Rattle.demands.specs.Cuttings.{Cutting, Repeats}
use Rattle.demands.specs.Joining.{Hands, HandsIn, memory_after, Untouched, AtEach, OneOf, NotForeign, Admitted, WaitsOr}
use Rattle.demands.proofs.Left.{left, has_kept}
use Rattle.demands.specs.Collecting.{key_of, part_in}
use Rattle.demands.proofs.PieceOf.{is_same_lem, same-is, key_trans, key_back, same_parts, parts_same, in_parts}
use Rattle.demands.proofs.Others.{decides_has}
use Rattle.demands.proofs.Seats.{Seat, seat_of, collected_at, PiecesLeft, pieces_left}
use Rattle.demands.proofs.Steps.{arrival, step_at, step_by, steps_at, state_of, answered_step}
use Rattle.demands.proofs.Handed.{number}
use Rattle.demands.proofs.Runs.{Lends, one_step, lent_step, lends, steps_of, steps, all_steps}
use Rattle.demands.proofs.Arrivals.{judge_of, onward, passed, one_key, one_piece, one-arrival}

-- a step that is refused gives the call's number
pub step_refused : (n : Seat) (e : List ℕ) (j time : ℕ) (memory : List ℕ) (r : Refusal) → arrival n e j memory ≡ Ok tt → is_piece (outer_of e) ≡ true
    → answer (state_of n memory) (step_at (max n.latest time) e) ≡ Err r → (collected_at n e j time memory).answer ≡ Err r
step_refused n e j time memory r a b h =
    answered_step n e j time memory a b
    ∙ ap (λ (x : Result taken.Joined Refusal). joined_by n.service.settings (live n.service.routers) (quad_at e 12) x (after (state_of n memory) (step_at (max n.latest time) e)).memory) h

under-append : (key : Key) (xs ys : List Step) → under key (xs ++ ys) ≡ under key xs ++ under key ys
under-append key [] ys = refl
under-append key (x ∷ xs) ys = go (is_under key x) (under-append key xs ys)
  where
    go : (b : Bool) → under key (xs ++ ys) ≡ under key xs ++ under key ys
        → cond b (x.piece ∷ under key (xs ++ ys)) (under key (xs ++ ys)) ≡ cond b (x.piece ∷ under key xs) (under key xs) ++ under key ys
    go true h = ap (λ (l : List Part). x.piece ∷ l) h
    go false h = h

in-front : (q : Part) (xs ys : List Part) → In q xs → In q (xs ++ ys)
in-front q [] ys i = absurd i
in-front q (x ∷ xs) ys i = ⊎_elim (λ e. inl e) (λ j. inr (in-front q xs ys j)) i

in-back : (q : Part) (xs ys : List Part) → In q ys → In q (xs ++ ys)
in-back q [] ys i = i
in-back q (x ∷ xs) ys i = inr (in-back q xs ys i)

in_either : (q : Part) (xs ys : List Part) → In q (xs ++ ys) → In q xs ⊎ In q ys
in_either q [] ys i = inr i
in_either q (x ∷ xs) ys i = ⊎_elim (λ e. inl (inl e)) (λ j. ⊎_elim (λ k. inl (inr k)) (λ k. inr k) (in_either q xs ys j)) i

-- no call changes what 11, 4, 6 and 7 ask
pub judge-next : (v : ServiceName) (n : Node) (x : NodeCall) → judge_of (seat_of v (outcome_of n x).node) ≡ judge_of (seat_of v n)
judge-next v n x = rw (has_kept n (outcome_of n x).node (left n x).both v, (left n x).settings v)

-- the datagram gets the number r
abbrev pub Gives : Seat → ℕ → OfPieces → Type 0
Gives n r (a_datagram e j time memory) = number n e j time memory ≡ r
Gives n r no_datagram = ⊥

pub gives : (v : ServiceName) (n : Node) (x : NodeCall) (r : ℕ) → Gives (seat_of v n) r (pieces_of v x) → (outcome_of n x).given.number ≡ r
gives v n x r h = go (pieces_of v x) (outcome_of n x) (pieces_left v n x) h
  where
    go : (c : OfPieces) (o : Outcome) → PiecesLeft v n c o → Gives (seat_of v n) r c → o.given.number ≡ r
    go (a_datagram e j time memory) o l h = ap (λ (g : Given). g.number) l.0 ∙ h
    go no_datagram o l h = absurd h

module _ (v : ServiceName) (i : ℕ) (d : List ℕ) (ps : List (List ℕ)) (cut : Cutting d ps) where
  -- a step under the key is one of the pieces, on the interface
  own_step : (n : Node) (e : List ℕ) (j time : ℕ) (memory : List ℕ) → OneOf v i d ps n (a_datagram e j time memory) → arrival (seat_of v n) e j memory ≡ Ok tt → is_piece (outer_of e) ≡ true
      → is_same (key_of d) (key_of e) ≡ true → Some (Repeats e) ps × (j ≡ i)
  own_step n e j time memory own a b k =
      let f = passed (seat_of v n) e j memory a in
      own ((decides_has n v).holds f.there) f.right (same-is e d k) ((decides_piece e).holds b) f.encapsulates f.for_us f.allowed

  in-own : (e : List ℕ) → Some (Repeats e) ps → In (part_in e) (map part_in ps)
  in-own e r = rw (same_parts r.2) (in_parts r.0 ps r.1)

  -- ---- times and pieces

  call_arrives : (n : Node) (c : OfPieces) (o : Outcome) → PiecesLeft v n c o → n.latest ≤ o.node.latest → OneOf v i d ps n c → (now : ℕ) → now ≤ n.latest → (rest : List Step)
      → ((from : ℕ) → from ≤ o.node.latest → pieces.Arrive (key_of d) (map part_in ps) from rest) → pieces.Arrive (key_of d) (map part_in ps) now (steps_at (seat_of v n) c ++ rest)
  call_arrives n (a_datagram e j time memory) o p later own now h rest next = go (arrival (seat_of v n) e j memory) refl (is_piece (outer_of e)) refl
    where
      go : (c : Result Unit Refusal) → arrival (seat_of v n) e j memory ≡ c → (b : Bool) → is_piece (outer_of e) ≡ b
          → pieces.Arrive (key_of d) (map part_in ps) now (step_by c b (step_at (max n.latest time) e) ++ rest)
      go (Ok tt) a true b =
          (omega arith, λ k. in-own e (own_step n e j time memory own a b k).0, next (max n.latest time) (omega (arith, p.3)))
      go (Ok tt) a false b = next now (omega arith)
      go (Err r) a b z = next now (omega arith)
  call_arrives n no_datagram o p later own now h rest next = next now (omega arith)

  pub arrives : (n : Node) (xs : List NodeCall) → AtEach (NotForeign v i d ps) n xs → (now : ℕ) → now ≤ n.latest → pieces.Arrive (key_of d) (map part_in ps) now (all_steps v n xs)
  arrives n [] own now h = tt
  arrives n (x ∷ xs) own now h =
      call_arrives n (pieces_of v x) (outcome_of n x) (pieces_left v n x) (omega (arith, (left n x).latest)) own.0 now h (all_steps v (outcome_of n x).node xs)
      (λ from l. arrives (outcome_of n x).node xs own.1 from l)

  -- ---- 28 and 30

  -- one of the pieces is refused neither by 15 nor by 28 nor by 30
  abbrev pub Admits : Seat → OfPieces → Type 0
  Admits n (a_datagram e j time memory) =
      Some (λ (p : List ℕ). Repeats e p × (j ≡ i)) ps
      → (number n e j time memory ≡ 15 → ⊥) × (number n e j time memory ≡ 28 → ⊥) × (number n e j time memory ≡ 30 → ⊥)
  Admits n no_datagram = Unit {0}

  pub admits : (n : Node) (x : NodeCall) → Admitted v i d ps n x → Admits (seat_of v n) (pieces_of v x)
  admits n x ok = go (pieces_of v x) (outcome_of n x) (pieces_left v n x) ok
    where
      go : (c : OfPieces) (o : Outcome) → PiecesLeft v n c o
          → (Some (λ (p : List ℕ). Hands i p c) ps → (o.given.number ≡ 15 → ⊥) × (o.given.number ≡ 28 → ⊥) × (o.given.number ≡ 30 → ⊥)) → Admits (seat_of v n) c
      go (a_datagram e j time memory) o l ok =
          λ one. subst (λ (g : Given). (g.number ≡ 15 → ⊥) × (g.number ≡ 28 → ⊥) × (g.number ≡ 30 → ⊥)) l.0 (ok one)
      go no_datagram o l ok = tt

  call-admitted : (n : Node) (m : List ℕ) (c : OfPieces) → Lends (seat_of v n) m c → OneOf v i d ps n c → Admits (seat_of v n) c → (rest : List Step)
      → pieces.Admitted (key_of d) (after_all (state_of (seat_of v n) m) (steps_at (seat_of v n) c)) rest → pieces.Admitted (key_of d) (state_of (seat_of v n) m) (steps_at (seat_of v n) c ++ rest)
  call-admitted n m (a_datagram e j time memory) lent own admitted rest next = go (arrival (seat_of v n) e j memory) refl (is_piece (outer_of e)) refl next
    where
      y : Step
      y = step_at (max n.latest time) e

      refusal : (r : Refusal) → arrival (seat_of v n) e j memory ≡ Ok tt → is_piece (outer_of e) ≡ true → answer (state_of (seat_of v n) m) y ≡ Err r → number (seat_of v n) e j time memory ≡ number_of r
      refusal r a b h =
          ap (λ (z : Result Received Refusal). (received_given z).number)
          (step_refused (seat_of v n) e j time memory r a b (ap (λ (l : List ℕ). answer (state_of (seat_of v n) l) y) (lent_step (seat_of v n) m e j time memory a b lent) ∙ h))

      go : (c : Result Unit Refusal) → arrival (seat_of v n) e j memory ≡ c → (b : Bool) → is_piece (outer_of e) ≡ b
          → pieces.Admitted (key_of d) (after_all (state_of (seat_of v n) m) (step_by c b y)) rest
          → pieces.Admitted (key_of d) (state_of (seat_of v n) m) (step_by c b y ++ rest)
      go (Ok tt) a true b t = (
        λ k.
            let o = own_step n e j time memory own a b k in
            let not = admitted (o.0.0, o.0.1, (o.0.2, o.1)) in
            (λ full. not.1 (refusal NoPlace a b full), λ unfit. not.2 (refusal PieceUnfit a b unfit)),
        t,
      )
      go (Ok tt) a false b t = t
      go (Err r) a b z t = t
  call-admitted n m no_datagram lent own admitted rest next = next

  pub all-admitted : (n : Node) (m : List ℕ) (xs : List NodeCall) → Untouched v n m xs → AtEach (NotForeign v i d ps) n xs → AtEach (Admitted v i d ps) n xs
      → pieces.Admitted (key_of d) (state_of (seat_of v n) m) (all_steps v n xs)
  all-admitted n m [] u own admitted = tt
  all-admitted n m (x ∷ xs) u own admitted =
      call-admitted n m (pieces_of v x) (lends v n m x u.0) own.0 (admits n x admitted.0) (all_steps v (outcome_of n x).node xs)
      (subst (λ (s : State). pieces.Admitted (key_of d) s (all_steps v (outcome_of n x).node xs)) (steps v n m x u.0)
      (all-admitted (outcome_of n x).node (memory_after v n m x) xs u.1 own.1 admitted.1))

  -- ---- a call that hands in one of the pieces

  -- it is a datagram on the interface
  pub handing : (n : Seat) (F : OfPieces → Type 0) (p : List ℕ) → Memᴰ p ps
      → ((e : List ℕ) (time : ℕ) (memory : List ℕ) → Repeats e p → (number n e i time memory ≡ 15 → ⊥) → F (a_datagram e i time memory))
      → (c : OfPieces) → Hands i p c → Admits n c → F c
  handing n F p here then (a_datagram e j time memory) hands admitted =
      subst (λ (l : ℕ). Admits n (a_datagram e l time memory) → F (a_datagram e l time memory)) (sym hands.1)
      (λ ok. then e time memory hands.0 (ok (p, here, (hands.0, refl))).0) admitted
  handing n F p here then no_datagram hands admitted = absurd hands

  -- where 11, 4, 6 and 7 pass, it is one step, under the key
  module _ (q : Bool × Settings) (ok : onward q i d ≡ Ok tt) where
    step_handed : (n : Seat) → judge_of n ≡ q → (P : List Step → Type 0) (p : List ℕ) → Memᴰ p ps
        → ((e : List ℕ) (time : ℕ) → is_same (key_of d) (key_of e) ≡ true → Repeats e p → P (step_at (max n.latest time) e ∷ []))
        → (c : OfPieces) → Hands i p c → Admits n c → P (steps_at n c)
    step_handed n same P p here then =
        handing n (λ (c : OfPieces). P (steps_at n c)) p here
        (λ e time memory r long.
        let one : Some (Repeats e) ps = (p, here, r) in
        subst P (sym (one_step n [] e i time memory (one-arrival i d ps cut n e time memory one long ∙ ap (λ (t : Bool × Settings). onward t i d) same ∙ ok) (one_piece i d ps cut n e time memory one long)))
        (then e time (is_same_lem (one_key i d ps cut n e time memory one long)) r))

    -- what has come is among the steps
    pub came : (p : List ℕ) → Memᴰ p ps → (n : Node) (xs : List NodeCall) → judge_of (seat_of v n) ≡ q → AtEach (Admitted v i d ps) n xs → Some (HandsIn v i p) xs
        → In (part_in p) (under (key_of d) (all_steps v n xs))
    came p here n [] same admitted c = absurd (Memᴰ.not-nil c.1)
    came p here n (x ∷ xs) same admitted c =
        subst (λ (l : List Part). In (part_in p) l) (sym (under-append (key_of d) (steps_of v n x) (all_steps v (outcome_of n x).node xs)))
        (⊎_elim (λ (e : c.0 ≡ x). in-front (part_in p) (under (key_of d) (steps_of v n x)) _ (now (subst (HandsIn v i p) e c.2)))
        (λ later. in-back (part_in p) (under (key_of d) (steps_of v n x)) _
        (came p here (outcome_of n x).node xs (judge-next v n x ∙ same) admitted.1 (c.0, later, c.2)))
        (Memᴰ.cases_cons c.1))
      where
        now : HandsIn v i p x → In (part_in p) (under (key_of d) (steps_of v n x))
        now hands =
            step_handed (seat_of v n) same (λ (l : List Step). In (part_in p) (under (key_of d) l)) p here
            (λ e time k r. rw k (inl (sym (same_parts r)))) (pieces_of v x) hands (admits n x admitted.0)

    -- a call that waits has 27
    waits_here : (n : Seat) (m : List ℕ) → judge_of n ≡ q → (p : List ℕ) → Memᴰ p ps → (rest : List Step) (c : OfPieces) → Hands i p c → Admits n c → Lends n m c
        → pieces.Wait (key_of d) (state_of n m) (steps_at n c ++ rest) → Gives n 27 c
    waits_here n m same p here rest =
        handing n (λ (c : OfPieces). Lends n m c → pieces.Wait (key_of d) (state_of n m) (steps_at n c ++ rest) → Gives n 27 c) p here
        (λ e time memory r long lent w.
        let one : Some (Repeats e) ps = (p, here, r) in
        let a : arrival n e i memory ≡ (Ok tt) = one-arrival i d ps cut n e time memory one long ∙ ap (λ (t : Bool × Settings). onward t i d) same ∙ ok in
        let b = one_piece i d ps cut n e time memory one long in
        let own : pieces.Wait (key_of d) (state_of n memory) (step_at (max n.latest time) e ∷ rest) =
        subst (λ (l : List ℕ). pieces.Wait (key_of d) (state_of n l) (step_at (max n.latest time) e ∷ rest)) (sym (lent_step n m e i time memory a b lent))
        (subst (λ (l : List Step). pieces.Wait (key_of d) (state_of n m) (l ++ rest)) (one_step n m e i time memory a b) w) in
        ap (λ (z : Result Received Refusal). (received_given z).number) (step_refused n e i time memory PieceWaits a b (own.0 (is_same_lem (one_key i d ps cut n e time memory one long)))))

    wait_next : (t : State) (xs ys : List Step) → pieces.Wait (key_of d) t (xs ++ ys) → pieces.Wait (key_of d) (after_all t xs) ys
    wait_next t [] ys w = w
    wait_next t (x ∷ xs) ys w = wait_next (after t x) xs ys w.1

    -- where every step under the key waits, every call that hands in one of the pieces does
    pub waits : (r : ℕ) (n : Node) (m : List ℕ) (xs : List NodeCall) → judge_of (seat_of v n) ≡ q → Untouched v n m xs → AtEach (Admitted v i d ps) n xs
        → pieces.Wait (key_of d) (state_of (seat_of v n) m) (all_steps v n xs) → AtEach (WaitsOr v i d ps r) n xs
    waits r n m [] same u admitted w = tt
    waits r n m (x ∷ xs) same u admitted w = (
      λ one.
          inl (gives v n x 27 (waits_here (seat_of v n) m same one.0 one.1 (all_steps v (outcome_of n x).node xs) (pieces_of v x) one.2 (admits n x admitted.0) (lends v n m x u.0) w)),
      waits r (outcome_of n x).node (memory_after v n m x) xs (judge-next v n x ∙ same) u.1 admitted.1
          (subst (λ (t : State). pieces.Wait (key_of d) t (all_steps v (outcome_of n x).node xs)) (sym (steps v n m x u.0))
          (wait_next (state_of (seat_of v n) m) (steps_of v n x) (all_steps v (outcome_of n x).node xs) w)),
    )

  back-here : (n : Node) (c : OfPieces) → OneOf v i d ps n c → (p : List ℕ) → Memᴰ p ps → In (part_in p) (under (key_of d) (steps_at (seat_of v n) c)) → Hands i p c
  back-here n (a_datagram e j time memory) own p here q = go (arrival (seat_of v n) e j memory) refl (is_piece (outer_of e)) refl q
    where
      go : (c : Result Unit Refusal) → arrival (seat_of v n) e j memory ≡ c → (b : Bool) → is_piece (outer_of e) ≡ b → In (part_in p) (under (key_of d) (step_by c b (step_at (max n.latest time) e)))
          → Repeats e p × (j ≡ i)
      go (Ok tt) a true b q = key-of (is_same (key_of d) (key_of e)) refl q
        where
          key-of : (t : Bool) → is_same (key_of d) (key_of e) ≡ t → In (part_in p) (cond t (part_in e ∷ []) []) → Repeats e p × (j ≡ i)
          key-of true k q =
              let f = passed (seat_of v n) e j memory a in
              let same : part_in e ≡ part_in p = ⊎_elim (λ z. sym z) (λ z. absurd z) q in
              (parts_same e p f.right (key_trans (same-is e d k) (key_back (cut.pieces p here).2)) same, (own_step n e j time memory own a b k).1)
          key-of false k q = absurd q
      go (Ok tt) a false b q = absurd q
      go (Err r) a b z q = absurd q
  back-here n no_datagram own p here q = absurd q

  -- what comes under the key was handed in as one of the pieces
  pub back : (p : List ℕ) → Memᴰ p ps → (n : Node) (xs : List NodeCall) → AtEach (NotForeign v i d ps) n xs → In (part_in p) (under (key_of d) (all_steps v n xs))
      → Some (HandsIn v i p) xs
  back p here n [] own q = absurd q
  back p here n (x ∷ xs) own q =
      ⊎_elim (λ now. (x, Memᴰ.head refl, back-here n (pieces_of v x) own.0 p here now))
      (λ later. let t = back p here (outcome_of n x).node xs own.1 later in (t.0, Memᴰ.tail t.1, t.2))
      (in_either (part_in p) (under (key_of d) (steps_of v n x)) (under (key_of d) (all_steps v (outcome_of n x).node xs))
      (subst (λ (l : List Part). In (part_in p) l) (under-append (key_of d) (steps_of v n x) (all_steps v (outcome_of n x).node xs)) q))
