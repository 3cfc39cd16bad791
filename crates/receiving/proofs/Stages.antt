-- The stages that the code goes through are the tables. Assumes nothing.
use Rattle.std.specs.Prelude.{Result, Ok, Err}
use Prim.Native.Nat.{ℕ}
use mathlib.Core.Path.{◌≡◌, refl, sym, ap, ◌∙◌}
use mathlib.Core.Bool.{Bool, true, false, cond}
use mathlib.Core.List.{List, ◌++◌}
use lib.Dec.{ltb}
use lib.ListN.{length}
use Rattle.address.specs.Quads.{bytes_in}
use Rattle.address.specs.declared.quads.Quads.{Quads}
use Rattle.refusals.specs.Refusals.{first_of, stop_or}
use Rattle.refusals.proofs.Laws.{stop_append}
use Rattle.refusals.specs.declared.Refusal.{Refusal}
use Rattle.header.specs.Outer.{outer_of, header_rows, protocol_rows, piece_rows, header_check, outer_check, payload_of, read_with, header_read_of, outer_read_of}
use Rattle.header.proofs.Readers.{read_stop, read_or}
use Rattle.header.specs.Inner.{inner_of, is_inner_malformed}
use Rattle.header.specs.declared.inner.Inner.{Inner}
use Rattle.header.specs.declared.outer.Outer.{Outer}
use Rattle.settings.specs.declared.Settings.{Settings}
use Rattle.routers.specs.Routers.{listed}
use Rattle.routers.specs.declared.Router.{Router}
use Rattle.pieces.specs.Places.{memory_room}
use Rattle.pieces.specs.declared.Collection.{Collection}
use Rattle.receiving.specs.Receive.{inner_rows, received_of}
use Rattle.receiving.specs.Collect.{Collected, arrival_rows, whole_of, is_piece, fragment_of, fragment_memory, collected_of, collected_memory}
use Rattle.receiving.specs.Stages.{address_rows, address_check, inner_check, arrival_of, opened_of, whole_opened, settled_of, settled_memory}
use Rattle.receiving.specs.declared.Received.{Received}
use Rattle.receiving.specs.declared.Received.TheVariants.{Delivered}

-- 6 and 7, of a header that is read
unfoldable pub arrived_of : Settings → ℕ → Result Outer Refusal → Result Outer Refusal
arrived_of s interface r = read_or Err r (λ (o : Outer). read_with (address_check s interface o) o)

-- what comes of a datagram that is read to have arrived whole, or the number
unfoldable pub delivered_of : Settings → List Router → List ℕ → Result Outer Refusal → Result Received Refusal
delivered_of s routers d r = read_or Err r (λ (o : Outer). whole_opened s routers d o)

-- 8 to 10 ask of an inner header what is read of it
pub same_check : (s : Settings) (isListed : Bool) (source n : ℕ) (i : Inner) (q : Quads) → bytes_in q ≡ i.source
    → inner_check s isListed source n (record { version = i.version; length = i.length; next = 0; hop = 0; source = bytes_in q })
    ≡ inner_check s isListed source n i
unfolding inner_check is_inner_malformed
same_check s isListed source n i q h = rw h

module _ (s : Settings) (interface : ℕ) (rows : List (Bool × Refusal)) (o : Outer) where
  -- 6 and 7 behind a row of tests
  arrived_rows : arrived_of s interface (read_with (first_of rows) o) ≡ read_with (first_of (rows ++ address_rows s interface o)) o
  unfolding arrived_of address_check
  arrived_rows =
      read_stop Err (first_of rows) o (λ (q : Outer). read_with (address_check s interface q) q)
      ∙ sym (stop_append Err rows (address_rows s interface o) (Ok o))

module _ (s : Settings) (routers : List Router) (d : List ℕ) (rows : List (Bool × Refusal)) (o : Outer) where
  abbrev payload : List ℕ
  payload = payload_of d o

  abbrev last : List (Bool × Refusal)
  last = inner_rows s (listed o.source routers) o.source (length payload) (inner_of payload)

  -- 8 to 10 behind a row of tests
  delivered-rows : delivered_of s routers d (read_with (first_of rows) o)
      ≡ stop_or Err (first_of (rows ++ last)) (Ok (Delivered o.header (inner_of payload).length))
  unfolding delivered_of whole_opened opened_of inner_check
  delivered-rows =
      read_stop Err (first_of rows) o (λ (q : Outer). whole_opened s routers d q)
      ∙ sym (stop_append Err rows last (Ok (Delivered o.header (inner_of payload).length)))

module _ (s : Settings) (interface : ℕ) (d : List ℕ) where
  -- where enough is lent, 2 to 4 and then 6 and 7
  pub arrival_stages : (lent : ℕ) → ltb lent memory_room ≡ false → arrival_of s interface lent d ≡ arrived_of s interface (header_read_of d)
  unfolding arrival_of header_read_of header_check
  arrival_stages lent h =
      let o = outer_of d in
      rw h (sym (arrived_rows s interface (header_rows (length d) d o ++ protocol_rows o) o))

module _ (s : Settings) (routers : List Router) (d : List ℕ) (interface : ℕ) where
  -- a datagram judged by itself: 2 to 5, then 6 and 7, then 8 to 10
  pub by_stages : received_of s routers d interface ≡ delivered_of s routers d (arrived_of s interface (outer_read_of d))
  unfolding received_of outer_read_of outer_check
  by_stages =
      let o = outer_of d in
      let rows = header_rows (length d) d o ++ (protocol_rows o ++ piece_rows o) in
      sym (ap (delivered_of s routers d) (arrived_rows s interface rows o) ∙ delivered-rows s routers d (rows ++ address_rows s interface o) o)

  -- a whole datagram in the call for the number: 15, 2, 3, 4, 6, 7, then 8 to 10
  pub whole_stages : (lent : ℕ) → whole_of s routers lent d interface ≡ delivered_of s routers d (arrival_of s interface lent d)
  unfolding whole_of arrival_of
  whole_stages lent = sym (delivered-rows s routers d (arrival_rows s interface lent d (outer_of d)) (outer_of d))

-- what stays, whatever a check says
stop_same : {A : Type 0} (x : A) (k : Result Unit Refusal) → stop_or (λ (r : Refusal). x) k x ≡ x
stop_same x (Ok tt) = refl
stop_same x (Err r) = refl

-- an answer behind a check, with what stays collected
stop_kept : (c : Collection) (k : Result Unit Refusal) (x : Result Received Refusal)
    → ◌≡◌ {A = Collected} (record { answer = stop_or Err k x; pieces = c })
    (stop_or (λ (r : Refusal). record { answer = Err r; pieces = c }) k (record { answer = x; pieces = c }))
stop_kept c (Ok tt) x = refl
stop_kept c (Err r) x = refl

module _ (s : Settings) (c : Collection) (now : ℕ) (d : List ℕ) (interface : ℕ) (memory : List ℕ) where
  -- a refusal that leaves what is collected
  abbrev refusing : Refusal → Collected
  refusing r = record { answer = Err r; pieces = c }

  -- 15, 2, 3, 4, 6, 7
  abbrev check : Result Unit Refusal
  check = first_of (arrival_rows s interface (length memory) d (outer_of d))

  -- a piece and a whole datagram go through the same stages
  whole-or-piece : (routers : List Router) (t : Bool) → is_piece (outer_of d) ≡ t
      → cond t (fragment_of s routers c now d interface memory) (record { answer = whole_of s routers (length memory) d interface; pieces = c })
      ≡ stop_or refusing check (settled_of s routers c now d (outer_of d) memory)
  unfolding fragment_of arrival_of delivered_of settled_of
  whole-or-piece routers true h = rw h
  whole-or-piece routers false h =
      let x = whole_opened s routers d (outer_of d) in
      rw h
      (ap (λ (a : Result Received Refusal). record { answer = a; pieces = c })
      (whole_stages s routers d interface (length memory) ∙ read_stop Err check (outer_of d) (λ (o : Outer). whole_opened s routers d o))
      ∙ stop_kept c check x)

  -- any datagram: 15, 2, 3, 4, 6, 7, then what comes of it
  pub collected_stages : (routers : List Router)
      → collected_of s routers c now d interface memory
      ≡ read_or refusing (arrival_of s interface (length memory) d) (λ (o : Outer). settled_of s routers c now d o memory)
  unfolding collected_of arrival_of
  collected_stages routers =
      whole-or-piece routers (is_piece (outer_of d)) refl
      ∙ sym (read_stop refusing check (outer_of d) (λ (o : Outer). settled_of s routers c now d o memory))

  -- what stands in the memory, of a piece and of a whole datagram
  memory_either : (t : Bool) → is_piece (outer_of d) ≡ t
      → cond t (fragment_memory s c now d interface memory) memory ≡ stop_or (λ (r : Refusal). memory) check (settled_memory c now d (outer_of d) memory)
  unfolding fragment_memory settled_memory
  memory_either true h = rw h
  memory_either false h = rw h (sym (stop_same memory check))

  -- and what stands in the memory then
  pub collected-memory : collected_memory s c now d interface memory
      ≡ read_or (λ (r : Refusal). memory) (arrival_of s interface (length memory) d) (λ (o : Outer). settled_memory c now d o memory)
  unfolding collected_memory arrival_of
  collected-memory =
      memory_either (is_piece (outer_of d)) refl
      ∙ sym (read_stop (λ (r : Refusal). memory) check (outer_of d) (λ (o : Outer). settled_memory c now d o memory))
