-- Which calls hand in a piece to be collected: those that are a step of the collection. Assumes nothing.
use Rattle.std.specs.Prelude.{Result, Ok, Err}
use Prim.Native.Nat.{ℕ, ◌*◌, max}
use mathlib.Core.Path.{◌≡◌, refl, sym, ap, ◌∙◌}
use mathlib.Core.Bool.{Bool, true, false, cond, not, ◌&&◌}
use mathlib.Core.List.{List, [], ◌∷◌}
use native.Mathlib.Omega.{arith}
use lib.Dec.{eqb, ltb}
use lib.ListN.{length}
use Rattle.lists.specs.Parts.{part}
use Rattle.refusals.specs.Refusals.{number_of, first_of, stop_or}
use Rattle.refusals.specs.declared.Refusal.{Refusal}
use Rattle.refusals.specs.declared.Refusal.TheVariants.{NoLocator, OutputShort, OuterMalformed, OuterChecksum, OtherProtocol, NotForUs, OuterSourceForbidden, InnerMalformed, InnerSourceBad, OuterSourceWrong, PieceWaits}
use Rattle.address.specs.Address.{last_quad, is_bad_source_with}
use Rattle.header.specs.Numbers.{ipv6}
use Rattle.header.specs.Fields.{quad_at}
use Rattle.header.specs.Outer.{outer_of, is_outer_malformed, is_sum_wrong}
use Rattle.header.specs.Inner.{inner_of, is_inner_malformed}
use Rattle.settings.specs.Settings.{forbidden_to, is_our_locator}
use Rattle.routers.specs.Routers.{live, listed}
use Rattle.pieces.specs.Places.{Part, room, memory_room, is_whole, freed, extended, begun}
use Rattle.pieces.specs.Take.{Taken, place_at, with_place, plan_of, settled, taken_by, taken_of, joined_in}
use Rattle.pieces.specs.History.{Handed}
use Rattle.pieces.specs.declared.Joined as taken
use Rattle.pieces.specs.declared.Collection.{Collection}
use Rattle.pieces.specs.declared.Key.{Key}
use Rattle.pieces.specs.declared.Place.{Place}
use Rattle.pieces.specs.declared.Plan.{Plan}
use Rattle.pieces.specs.declared.Plan.TheVariants.{Unfit, Full, Ignore, Drop, Extend, Begin}
use Rattle.pieces.proofs.Joining.{Step, State, answer, after}
use Rattle.receiving.specs.Collect.{is_piece, joined_by}
use Rattle.receiving.specs.Receive.{is_source_right, received_given}
use Rattle.receiving.specs.declared.Received.{Received}
use Rattle.receiving.specs.declared.Received.TheVariants.{Joined}
use Rattle.demands.specs.Calls.{OfPieces, a_datagram, no_datagram}
use Rattle.demands.specs.Calls as calls
use Rattle.demands.specs.Collecting.{key_of, part_in, is_turned_away}
use Rattle.demands.proofs.Seats.{Seat, collected_at}
use Rattle.demands.proofs.Steps.{arrival, step_at, state_of, inward, stopped, answered_step}

-- whether a check turns a piece away
abbrev away : Result Unit Refusal → Bool
away (Ok tt) = false
away (Err r) = is_turned_away (number_of r)

pub pass_stop : (r : Refusal) → ◌≡◌ {A = Result Unit Refusal} (Ok tt) (Err r) → ⊥
pass_stop r e = let z : ◌≡◌ {A = ℕ} 0 1 = ap marked e in omega arith
  where
    marked : Result Unit Refusal → ℕ
    marked (Ok tt) = 0
    marked (Err q) = 1

-- 11, 15, 2, 3, 4, 6, 7 do, 8, 9, 10 do not
arrival_away : (n : Seat) (e : List ℕ) (j : ℕ) (memory : List ℕ) (r : Refusal) → arrival n e j memory ≡ Err r → is_turned_away (number_of r) ≡ true
arrival_away n e j memory r h =
    let o = outer_of e in
    let s = n.service.settings in
    ap away (sym h) ∙ go (not n.there) (ltb (length memory) memory_room) (is_outer_malformed (length e) o) (is_sum_wrong e o) (not (eqb o.protocol ipv6)) (not (is_our_locator s o.destination j)) (forbidden_to s o.source) h
  where
    go : (t a b c d f g : Bool) → first_of ((t, NoLocator) ∷ (a, OutputShort) ∷ (b, OuterMalformed) ∷ (c, OuterChecksum) ∷ (d, OtherProtocol) ∷ (f, NotForUs) ∷ (g, OuterSourceForbidden) ∷ []) ≡ Err r
        → away (first_of ((t, NoLocator) ∷ (a, OutputShort) ∷ (b, OuterMalformed) ∷ (c, OuterChecksum) ∷ (d, OtherProtocol) ∷ (f, NotForUs) ∷ (g, OuterSourceForbidden) ∷ [])) ≡ true
    go true a b c d f g z = refl
    go false true b c d f g z = refl
    go false false true c d f g z = refl
    go false false false true d f g z = refl
    go false false false false true f g z = refl
    go false false false false false true g z = refl
    go false false false false false false true z = refl
    go false false false false false false false z = absurd (pass_stop r z)

inward_away : (n : Seat) (source : ℕ) (p : List ℕ) → away (inward n source p) ≡ false
inward_away n source p =
    let s = n.service.settings in
    let i = inner_of p in
    go (is_inner_malformed (length p) i) (is_bad_source_with (forbidden_to s (last_quad i.source)) i.source) (not (is_source_right s (listed source (live n.service.routers)) source i.source))
  where
    go : (a b c : Bool) → away (first_of ((a, InnerMalformed) ∷ (b, InnerSourceBad) ∷ (c, OuterSourceWrong) ∷ [])) ≡ false
    go true b c = refl
    go false true c = refl
    go false false true = refl
    go false false false = refl

-- nor do the numbers of a piece
abbrev away_by : Result taken.Joined Refusal → Bool
away_by (Ok d) = false
away_by (Err r) = is_turned_away (number_of r)

settled_away : (k : ℕ) (d : Place) (c : Collection) → away_by (settled k d c).answer ≡ false
unfolding settled
settled_away k d c = go (is_whole d)
  where
    go : (b : Bool) → away_by (cond {A = Taken} b (record { answer = joined_in k d.end; collection = with_place k (freed d) c }) (record { answer = Err PieceWaits; collection = with_place k d c })).answer ≡ false
    go true = refl
    go false = refl

plan_away : (p : Plan) (now : ℕ) (key : Key) (x : Part) (c : Collection) → away_by (taken_by p now key x c).answer ≡ false
plan_away Unfit now key x c = refl
plan_away Full now key x c = refl
plan_away Ignore now key x c = refl
plan_away (Drop k) now key x c = refl
plan_away (Extend k) now key x c = settled_away k (extended x (place_at c k)) c
plan_away (Begin k) now key x c = settled_away k (extended x (begun key now)) c

step_away : (s : State) (x : Step) → away_by (answer s x) ≡ false
unfolding taken_of
step_away s x = plan_away (plan_of x.time x.key x.piece s.collection s.memory) x.time x.key x.piece s.collection

stop_away : (c : Result Unit Refusal) (o l : ℕ) → away c ≡ false → is_turned_away (received_given (stop_or Err c (Ok (Joined o l)))).number ≡ false
stop_away (Ok tt) o l h = refl
stop_away (Err r) o l h = h

joined_away : (n : Seat) (source : ℕ) (a : Result taken.Joined Refusal) (memory : List ℕ) → away_by a ≡ false
    → is_turned_away (received_given (joined_by n.service.settings (live n.service.routers) source a memory)).number ≡ false
joined_away n source (Ok d) memory h =
    let p : List ℕ = part (room * d.place) d.length memory in
    stop_away (inward n source p) (room * d.place) (inner_of p).length (inward_away n source p)
joined_away n source (Err r) memory h = h

-- what is handed in by a check and whether it is a piece
abbrev pub handed_at : Result Unit Refusal → Bool → Handed → List Handed
handed_at (Ok tt) true h = h ∷ []
handed_at (Ok tt) false h = []
handed_at (Err r) b h = []

module _ (n : Seat) (e : List ℕ) (j time : ℕ) (memory : List ℕ) where
  abbrev pub number : ℕ
  number = (received_given (collected_at n e j time memory).answer).number

  -- the piece that it would hand in
  abbrev pub here : Handed
  here = record { key = key_of e; piece = part_in e; time = max n.latest time; memory = memory }

  same-piece : calls.is_piece e ≡ is_piece (outer_of e)
  unfolding outer_of
  same-piece = refl

  -- it does so exactly where it is a step
  pub handed_in_lem : cond (calls.is_piece e && not (is_turned_away number)) (here ∷ []) [] ≡ handed_at (arrival n e j memory) (is_piece (outer_of e)) here
  handed_in_lem =
      ap (λ (b : Bool). cond (b && not (is_turned_away number)) (here ∷ []) []) same-piece
      ∙ go (arrival n e j memory) refl (is_piece (outer_of e)) refl
    where
      turned : (b : Bool) → is_turned_away number ≡ b → cond (true && not (is_turned_away number)) (here ∷ []) [] ≡ cond (true && not b) (here ∷ []) []
      turned b h = ap (λ (t : Bool). cond (true && not t) (here ∷ []) []) h

      go : (c : Result Unit Refusal) → arrival n e j memory ≡ c → (b : Bool) → is_piece (outer_of e) ≡ b → cond (b && not (is_turned_away number)) (here ∷ []) [] ≡ handed_at c b here
      go (Ok tt) a true b =
          turned false
          (ap (λ (x : Result Received Refusal). is_turned_away (received_given x).number) (answered_step n e j time memory a b)
          ∙ joined_away n (quad_at e 12) (answer (state_of n memory) (step_at (max n.latest time) e)) (after (state_of n memory) (step_at (max n.latest time) e)).memory
          (step_away (state_of n memory) (step_at (max n.latest time) e)))
      go (Ok tt) a false b = refl
      go (Err r) a true b =
          turned true (ap (λ (x : Result Received Refusal). is_turned_away (received_given x).number) (stopped n e j time memory r a) ∙ arrival_away n e j memory r a)
      go (Err r) a false b = refl

-- what a call hands in, by what it is to the collection
abbrev pub hands_at : Seat → OfPieces → List Handed
hands_at n (a_datagram e interface time memory) = handed_at (arrival n e interface memory) (is_piece (outer_of e)) (here n e interface time memory)
hands_at n no_datagram = []
