-- The premises of the joining theorem can be met, through the one service of a node and through the second of two: a datagram of 60 bytes in two
-- pieces, the last one first, with an asking between, at the last second. Assumes nothing.
use Rattle.std.specs.Prelude.{None, Some as some}
use Prim.Native.Nat.{ℕ, zero, suc, max}
use mathlib.Core.Path.{◌≡◌, refl, sym, ap, subst, ◌∙◌}
use mathlib.Core.Logic.{⊎_elim}
use mathlib.Core.Bool.{Bool, true, false, cond, not, ◌&&◌}
use mathlib.Core.List.Memᴰ
use mathlib.Core.List.{List, [], ◌∷◌, Memᴰ}
use native.Mathlib.Omega.{arith}
use borrow.Author.Tests.{ltb-true}
use lib.Dec.{ltb}
use lib.ListN.{replicate, length, take, drop}
use Rattle.lists.specs.Any.{all_of, Some}
use Rattle.lists.proofs.Tests.{and_left, and_right}
use Rattle.checksum.specs.Sum as checksum-sum
use Rattle.address.specs.Address as address-address
use Rattle.address.specs.Address.{quad_of}
use Rattle.header.specs.Fields as header-fields
use Rattle.header.specs.Inner as header-inner
use Rattle.header.specs.Outer as header-outer
use Rattle.header.specs.Wrap.{be32}
use Rattle.units.specs.Held as units-held
use Rattle.lent.specs.Written as lent_written
use Rattle.pieces.specs.Places as pieces-places
use Rattle.pieces.specs.Places.{no_place}
use Rattle.pieces.specs.Take as pieces-take
use Rattle.pieces.specs.History.{Handed}
use Rattle.pieces.specs.declared.Place.{Place}
use Rattle.routers.specs.Routers as routers-routers
use Rattle.settings.specs.Settings as settings-settings
use Rattle.settings.specs.Settings.{defaults_for}
use Rattle.settings.specs.Locators.{no_locator}
use Rattle.receiving.specs.Collect as receiving-collect
use Rattle.receiving.specs.Receive as receiving-receive
use Rattle.receiving.specs.Facts.{Unfragmented}
use Rattle.node.specs.Ask as node-ask
use Rattle.node.specs.Node as node-node
use Rattle.node.specs.Node.{service_of}
use Rattle.node.specs.Receive as node-receive
use Rattle.node.specs.declared.Node.{Node}
use Rattle.node.specs.declared.ServiceName.{ServiceName}
use Rattle.node.specs.declared.ServiceName.TheVariants.{First, Second}
use Rattle.demands.specs.Starts.{Start, is_right, start_of}
use Rattle.demands.specs.Calls.{NodeCall, receiving, asking, outcome_of, OfPieces, is_piece, node_after}
use Rattle.demands.specs.Collecting.{key_of, part_in, is_turned_away, handed_with}
use Rattle.demands.specs.Cuttings.{HeaderRight, SameKey, Cutting, Repeats}
use Rattle.demands.specs.Fragments as fragments-specs
use Rattle.demands.specs.Fragments.{Bytes, Selects, fragments_of}
use Rattle.demands.specs.Joining.{Hands, HandsIn, IsLent, memory_after, OneOf, NotForeign, Admitted, Arrive, number_by, delivered_by, GetsTheWhole, PiecesJoin}
use Rattle.demands.specs.Starred.{us, neighbour, settings, inner, datagram, memory}
use Rattle.demands.proofs.Fragments.{fragments}
use Rattle.demands.proofs.Joining.{own-call, pieces_join_on_nodes}

-- the whole datagram: the inner packet of 40 bytes behind a header of 20
abbrev pub whole : List ℕ
whole = datagram 2

-- its first 24 bytes of payload, more-fragments set
abbrev pub front : List ℕ
front = 0x45 ∷ 0x00 ∷ 0x00 ∷ 0x2C ∷ 0x00 ∷ 0x01 ∷ 0x20 ∷ 0x00 ∷ 0x40 ∷ 0x29 ∷ 0x46 ∷ 0xA6 ∷ be32 neighbour (be32 us (take 24 (inner 2)))

-- the 16 others, at offset 3
abbrev pub back : List ℕ
back = 0x45 ∷ 0x00 ∷ 0x00 ∷ 0x24 ∷ 0x00 ∷ 0x01 ∷ 0x00 ∷ 0x03 ∷ 0x40 ∷ 0x29 ∷ 0x66 ∷ 0xAB ∷ be32 neighbour (be32 us (drop 24 (inner 2)))

front-right : HeaderRight front
unfolding header-fields.word_at checksum-sum.ones_sum_from address-address.link_local_of
front-right = record {
  whole = record { some = omega arith; version = refl; words = omega arith; whole = omega arith; inside = omega arith; all = omega arith };
  sum = refl;
}

back-right : HeaderRight back
unfolding header-fields.word_at checksum-sum.ones_sum_from address-address.link_local_of
back-right = record {
  whole = record { some = omega arith; version = refl; words = omega arith; whole = omega arith; inside = omega arith; all = omega arith };
  sum = refl;
}

whole-right : HeaderRight whole
unfolding header-fields.word_at checksum-sum.ones_sum_from address-address.link_local_of
whole-right = record {
  whole = record { some = omega arith; version = refl; words = omega arith; whole = omega arith; inside = omega arith; all = omega arith };
  sum = refl;
}

-- ---- the procedure makes them of it, and they are a cutting

pub identity_selects : Selects (λ (h : List ℕ). h)
identity_selects h header = (header, record { source = refl; destination = refl; protocol = refl; identification = refl }, omega arith)

pub made : fragments_of 2 (λ (h : List ℕ). h) 44 whole ≡ front ∷ back ∷ []
unfolding header-fields.word_at checksum-sum.ones_sum_from address-address.link_local_of fragments-specs.corrected
made = refl

-- what is so of both is so of each
of-both : (F : List ℕ → Type 0) → F front → F back → (p : List ℕ) → Memᴰ p (front ∷ back ∷ []) → F p
of-both F x y p i =
    ⊎_elim (λ (e : p ≡ front). subst F (sym e) x)
    (λ j. ⊎_elim (λ (e : p ≡ back). subst F (sym e) y) (λ none. absurd (Memᴰ.not-nil none)) (Memᴰ.cases_cons j)) (Memᴰ.cases_cons i)

pub cutting : Cutting whole (front ∷ back ∷ [])
unfolding header-fields.word_at header-fields.quad_at address-address.link_local_of
cutting = record {
  right = whole-right;
  whole = refl;
  pieces =
      of-both (λ (p : List ℕ). HeaderRight p × (Unfragmented p → ⊥) × SameKey p whole)
      (front-right, λ z. omega (arith, z), record { source = refl; destination = refl; protocol = refl; identification = refl })
      (back-right, λ z. omega (arith, z), record { source = refl; destination = refl; protocol = refl; identification = refl });
  runs = (refl, refl, (refl, λ z. omega (arith, z)));
  payload = refl;
}

-- ---- what is asked of a carrier can be met: a datagram of 80 bytes where 68 pass

abbrev pub longer : List ℕ
longer = 0x45 ∷ 0x00 ∷ 0x00 ∷ 0x50 ∷ 0x00 ∷ 0x01 ∷ 0x00 ∷ 0x00 ∷ 0x40 ∷ 0x29 ∷ 0x66 ∷ 0x82 ∷ be32 neighbour (be32 us (replicate 60 0))

bytes_of : (s : List ℕ) → all_of (λ (x : ℕ). ltb x 256) s ≡ true → Bytes s
bytes_of [] h i = omega arith
bytes_of (x ∷ s) h zero = ltb-true x 256 (and_left (ltb x 256) (all_of (λ (y : ℕ). ltb y 256) s) h)
bytes_of (x ∷ s) h (suc i) = bytes_of s (and_right (ltb x 256) (all_of (λ (y : ℕ). ltb y 256) s) h) i

longer-right : HeaderRight longer
unfolding header-fields.word_at checksum-sum.ones_sum_from
longer-right = record { whole = record { some = omega arith; version = refl; words = omega arith; whole = omega arith; inside = omega arith; all = omega arith }; sum = refl }

pub carried : Cutting longer (fragments_of 60 (λ (h : List ℕ). h) 68 longer)
unfolding header-fields.word_at
carried =
    fragments.cuts (λ (h : List ℕ). h) identity_selects 68 (omega arith) longer (bytes_of longer refl) longer-right refl (omega arith) 60 (omega arith)

-- of two pieces
pub two : length (fragments_of 60 (λ (h : List ℕ). h) 68 longer) ≡ 2
unfolding header-fields.word_at checksum-sum.ones_sum_from fragments-specs.corrected
two = refl

-- ---- a start of one service, and the same service as the second of two

abbrev pub alone : Start
alone = record { first = settings; second = None }

-- the first has another locator
abbrev pub beside : Start
beside = record {
  first = defaults_for (record { address = quad_of 10 0 0 3; interface = 0 } ∷ replicate 7 no_locator) 1 (replicate 64 0) 0 (replicate 16 0) 0;
  second = some settings;
}

-- ---- the calls: the last piece, an asking through the first service, the first piece

abbrev pub other : NodeCall
other = asking First 0 15 (replicate 100 0)

module _ (s : Start) (v : ServiceName) where
  abbrev pub first : NodeCall
  first = receiving v back 0 0 memory

  -- what the first call leaves in the memory
  abbrev pub left : List ℕ
  left = (outcome_of (start_of s) first).output

  abbrev pub last : NodeCall
  last = receiving v front 0 29 left

  -- the node at the last call
  abbrev pub then : Node
  then = node_after (start_of s) (first ∷ other ∷ [])

  -- what computes of them
  record Reckoned : Type 0 where
    -- the settings keep the rules; a new node's places are not in use, and its time is 0
    accepted : is_right s ≡ true
    places : (service_of (start_of s) v).pieces.places ≡ replicate 8 no_place
    latest : (start_of s).latest ≡ 0
    -- the last piece waits, and what it leaves of the memory is lent onward
    waits : number_by v (start_of s) back 0 0 memory ≡ 27
    writes : memory_after v (start_of s) memory first ≡ left
    -- the first one comes at 29, which is in time, and is not refused
    onward : then.latest ≡ 15
    admits : number_by v then front 0 29 left ≡ 0
    -- the whole datagram in its place would get 0, and the inner packet would be delivered
    number : number_by v then whole 0 29 left ≡ 0
    bytes : delivered_by v then whole 0 29 left ≡ inner 2

  -- the premises of the theorem
  abbrev pub Premises : Type 0
  Premises = Arrive v 0 whole (front ∷ back ∷ []) (start_of s) back 0 memory (other ∷ []) front 29 left

  -- the last piece's number is 0, and the 40 inner bytes are delivered
  pub record Delivers : Type 0 where
    pub number : number_by v then front 0 29 left ≡ 0
    pub bytes : delivered_by v then front 0 29 left ≡ inner 2

reckoned : Reckoned alone First × Reckoned beside Second
unfolding header-fields.word_at header-fields.quad_at header-fields.address_at header-inner.inner_of header-inner.is_inner_malformed header-outer.outer_of header-outer.is_outer_malformed header-outer.is_sum_wrong header-outer.payload_of checksum-sum.ones_sum_from checksum-sum.is_right_from address-address.is_forbidden address-address.last_quad address-address.is_under address-address.is_on_link address-address.is_identifier address-address.embedded_in address-address.link_local_of address-address.is_multicast_or_unspecified address-address.is_bad_source_with settings-settings.defaults_for settings-settings.forbidden_to settings-settings.is_ours settings-settings.is_our_locator settings-settings.is_bad_end settings-settings.are_locators_right settings-settings.are_routers_right settings-settings.are_numbers_right settings-settings.is_accepted settings-settings.share_address settings-settings.are_pair_accepted routers-routers.are_distinct settings-settings.embedded_to node-node.setup_of node-node.setup_pair_of node-node.node_of node-node.pair_of node-node.service_from receiving-receive.embeds receiving-collect.whole_of receiving-collect.piece_of receiving-collect.taken_piece receiving-collect.taken_memory receiving-collect.fragment_of receiving-collect.fragment_memory receiving-collect.collected_of receiving-collect.collected_memory node-receive.collected_by node-receive.collected_through node-receive.receive_of node-receive.receive_memory node-ask.ask_of node-ask.asked_by pieces-places.unfit pieces-places.is_same pieces-places.is_live pieces-places.is_free pieces-places.is_of pieces-places.is_whole pieces-places.ends_apart pieces-places.extended_to units-held.marks_in units-held.held_of units-held.any_held units-held.all_held units-held.held_with lent_written.written_at pieces-take.plan_held pieces-take.plan_in pieces-take.plan_new pieces-take.plan_of pieces-take.settled pieces-take.taken_of pieces-take.memory_of
reckoned = (
  record { accepted = refl; places = refl; latest = refl; waits = refl; writes = refl; onward = refl; admits = refl; number = refl; bytes = refl },
  record { accepted = refl; places = refl; latest = refl; waits = refl; writes = refl; onward = refl; admits = refl; number = refl; bytes = refl },
)

-- ---- the premises

itself : (d : List ℕ) → HeaderRight d → Repeats d d
itself d right =
    record { right = right; key = record { source = refl; destination = refl; protocol = refl; identification = refl }; fragment = refl; payload = refl }

front-one : Some (Repeats front) (front ∷ back ∷ [])
front-one = (front, Memᴰ.head refl, itself front front-right)

back_one : Some (Repeats back) (front ∷ back ∷ [])
back_one = (back, Memᴰ.tail (Memᴰ.head refl), itself back back-right)

apart : Repeats back front → ⊥
unfolding header-fields.word_at
apart r = let z : ◌≡◌ {A = ℕ} 3 0x2000 = r.fragment in omega (arith, z)

-- no place of a new node is in use
unused : (k : ℕ) (c : Place) → Memᴰ c (replicate k no_place) → c.used ≡ 0
unused zero c i = absurd (Memᴰ.not-nil i)
unused (suc k) c i = ⊎_elim (λ (e : c ≡ no_place). ap (λ (x : Place). x.used) e) (λ j. unused k c j) (Memᴰ.cases_cons i)

-- a call is lent its own memory
lent : (b : Bool) (x h : Handed) → Memᴰ h (cond b (x ∷ []) []) → h.memory ≡ x.memory
lent true x h i = ⊎_elim (λ (e : h ≡ x). ap (λ (y : Handed). y.memory) e) (λ none. absurd (Memᴰ.not-nil none)) (Memᴰ.cases_cons i)
lent false x h i = absurd (Memᴰ.not-nil i)

module _ (v : ServiceName) where
  hands : (e : List ℕ) (t : ℕ) (m : List ℕ) → HeaderRight e → HandsIn v 0 e (receiving v e 0 t m)
  hands e t m right = subst (Hands 0 e) (sym (own-call v e 0 t m)) (itself e right, refl)

  is-lent : (n : Node) (e : List ℕ) (i t : ℕ) (m : List ℕ) → IsLent v n m (receiving v e i t m)
  is-lent n e i t m h here =
      let number : ℕ = (outcome_of n (receiving v e i t m)).given.number in
      lent (is_piece e && not (is_turned_away number)) (record { key = key_of e; piece = part_in e; time = max n.latest t; memory = m }) h
      (subst (λ (c : OfPieces). Memᴰ h (handed_with n number c)) (own-call v e i t m) here)

  is-own : (n : Node) (e : List ℕ) (t : ℕ) (m : List ℕ) → Some (Repeats e) (front ∷ back ∷ []) → NotForeign v 0 whole (front ∷ back ∷ []) n (receiving v e 0 t m)
  is-own n e t m one =
      subst (OneOf v 0 whole (front ∷ back ∷ []) n) (sym (own-call v e 0 t m)) (λ has right key piece protocol us allowed. (one, refl))

  -- a number that is none of 15, 28, 30
  admitted_by : (n : Node) (x : NodeCall) (r : ℕ) → (outcome_of n x).given.number ≡ r → (r ≡ 15 → ⊥) × (r ≡ 28 → ⊥) × (r ≡ 30 → ⊥) → Admitted v 0 whole (front ∷ back ∷ []) n x
  admitted_by n x r is other = λ one. subst (λ (k : ℕ). (k ≡ 15 → ⊥) × (k ≡ 28 → ⊥) × (k ≡ 30 → ⊥)) (sym is) other

module _ (s : Start) (v : ServiceName) (known : Reckoned s v) where
  not_handed : Some (HandsIn v 0 front) (first s v ∷ other ∷ []) → ⊥
  not_handed (x, i, h) =
      ⊎_elim (λ (e : x ≡ first s v). apart (subst (Hands 0 front) (own-call v back 0 0 memory) (subst (HandsIn v 0 front) e h)).0)
      (λ j. ⊎_elim (λ (e : x ≡ other). absurd (subst (HandsIn v 0 front) e h)) (λ none. absurd (Memᴰ.not-nil none)) (Memᴰ.cases_cons j))
      (Memᴰ.cases_cons i)

  handed : (p : List ℕ) → Memᴰ p (front ∷ back ∷ []) → Some (HandsIn v 0 p) (first s v ∷ other ∷ last s v ∷ [])
  handed =
      of-both (λ (p : List ℕ). Some (HandsIn v 0 p) (first s v ∷ other ∷ last s v ∷ []))
      (last s v, Memᴰ.tail (Memᴰ.tail (Memᴰ.head refl)), hands v front 29 (left s v) front-right)
      (first s v, Memᴰ.head refl, hands v back 0 memory back-right)

  premises : Premises s v
  premises = record {
    cutting = cutting;
    starts = (back, Memᴰ.tail (Memᴰ.head refl), hands v back 0 memory back-right);
    ends = (front, Memᴰ.head refl, hands v front 29 (left s v) front-right);
    missing = (front, Memᴰ.head refl, (itself front front-right, not_handed));
    all = handed;
    new = λ c i key used now. used (unused 8 c (subst (λ (l : List Place). Memᴰ c l) known.places i));
    own = (is-own v (start_of s) back 0 memory back_one, (tt, (is-own v (then s v) front 29 (left s v) front-one, tt)));
    in_time = omega (arith, known.onward, known.latest);
    untouched = (
      is-lent v (start_of s) back 0 0 memory,
      (
        λ h i. absurd (Memᴰ.not-nil i),
        (subst (λ (m : List ℕ). IsLent v (then s v) m (last s v)) (sym known.writes) (is-lent v (then s v) front 0 29 (left s v)), tt),
      ),
    );
    admitted = (
      admitted_by v (start_of s) (first s v) 27 known.waits (λ e. omega arith, λ e. omega arith, λ e. omega arith),
      (
        λ one. absurd one.2,
        (admitted_by v (then s v) (last s v) 0 known.admits (λ e. omega arith, λ e. omega arith, λ e. omega arith), tt),
      ),
    );
  }

  -- ---- what the theorem says of them

  example : GetsTheWhole v 0 whole (front ∷ back ∷ []) (start_of s) back 0 memory (other ∷ []) front 29 (left s v)
  unfolding PiecesJoin
  example = pieces_join_on_nodes s known.accepted v [] 0 whole (front ∷ back ∷ []) back 0 memory (other ∷ []) front 29 (left s v) premises

  delivers : Delivers s v
  delivers = record { number = example.number ∙ known.number; bytes = example.bytes ∙ known.bytes }

-- ---- of both

pub met : Premises alone First × Premises beside Second
met = (premises alone First reckoned.0, premises beside Second reckoned.1)

pub delivered : Delivers alone First × Delivers beside Second
delivered = (delivers alone First reckoned.0, delivers beside Second reckoned.1)
