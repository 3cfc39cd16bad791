-- Advertising does exactly what the rules say. Assumes nothing.
use Rattle.std.specs.Prelude.{Option, Result, Ok, Err}
use Prim.Native.Nat.{ℕ, ◌≤◌}
use mathlib.Core.Path.{◌≡◌, refl}
use mathlib.Core.Bool.{Bool, false}
use mathlib.Core.List.{List, [], ◌∷◌, ◌++◌}
use native.Mathlib.Omega.{arith}
use borrow.Author.Tests.{le-ltb, ltb-false, not-false}
use lib.Dec.{ltb}
use lib.ListN.{length}
use Rattle.lists.proofs.Decides.{Decides, fails, refutes, decides_and, decides_not, decides_lack, decides_lt}
use Rattle.address.specs.Address.{link_local_of}
use Rattle.address.specs.Facts.{formed}
use Rattle.address.proofs.Facts.{decides_link_local, decides_identifier}
use Rattle.lent.specs.Written.{written}
use Rattle.refusals.specs.Refusals.{first_of, stop_or, AnswersFirst}
use Rattle.refusals.proofs.Laws.{all_false, all_pass, stop_passed, stop_append, RowsDecide, end, row, answers-first}
use Rattle.refusals.specs.declared.Refusal.{Refusal}
use Rattle.refusals.specs.declared.Refusal.TheVariants as refusal
use Rattle.header.specs.Fields.{address_at}
use Rattle.header.specs.Inner.{inner_of, is_inner_malformed}
use Rattle.header.specs.Whole.{WholeInner}
use Rattle.header.proofs.InnerLaws.{inner-whole, whole-inner}
use Rattle.settings.specs.Locators.{address_of}
use Rattle.settings.specs.Settings.{locator_of}
use Rattle.settings.specs.Facts.{LocatorAt}
use Rattle.settings.proofs.Facts.{locator-found, locator-there, decides_no_locator}
use Rattle.settings.specs.declared.Settings.{Settings}
use Rattle.hearing.specs.Facts.{fields_of}
use Rattle.hearing.proofs.SolicitationLaws.{decides_solicitation}
use Rattle.advertisements.specs.Advertisement.{are_options_bad, advertisement_of, advertisement_length, advertisement_check, advertisement_answer, advertisement_output}
use Rattle.advertisements.specs.Fits.{AdvertisementFits}
use Rattle.advertisements.proofs.Laws.{decides_bad, advertisement-of, length-advertisement}
use Rattle.advertisements.specs.declared.Advertisement.{Advertisement}
use Rattle.advertising.specs.Advertise.{asker_of, is_asker_right, asker_rows, asker_check, advertised_of, advertised_output}
use Rattle.advertising.specs.Facts.{LinkLocalIsatap, MayAdvertise, advertise_facts, AdvertisedExactly}

untouched_by : (asker writer : Result Unit Refusal) (n : ℕ) (w out : List ℕ) (r : Refusal) → stop_or Err asker (stop_or Err writer (Ok n)) ≡ Err r
    → stop_or (λ x. out) asker (stop_or (λ x. out) writer (written w out)) ≡ out
untouched_by (Ok a) (Ok b) n w out r h = cc
untouched_by (Ok a) (Err x) n w out r h = refl
untouched_by (Err x) writer n w out r h = refl

-- after a refusal the output is as before
pub refused-untouched : (f : Option ℕ) (packet : List ℕ) (a : Advertisement) (out : List ℕ) (r : Refusal) → advertised_of f packet a (length out) ≡ Err r
    → advertised_output f packet a out ≡ out
unfolding advertised_of advertised_output advertisement_answer advertisement_output
refused-untouched f packet a out r h =
    untouched_by (asker_check f packet) (advertisement_check a (length out)) (advertisement_length a) (advertisement_of (link_local_of (address_of f)) (asker_of packet) a) out r h

module _ (s : Settings) (packet : List ℕ) (k : ℕ) (a : Advertisement) where
  abbrev size : ℕ
  size = advertisement_length a

  abbrev rows : List (Bool × Refusal)
  rows = asker_rows (locator_of s k) packet

  -- 26 and 15, the writer's
  abbrev writer_rows : ℕ → List (Bool × Refusal)
  writer_rows room = (are_options_bad a, refusal.OptionsBad) ∷ ((ltb room size, refusal.OutputShort) ∷ [])

  whole-holds : is_inner_malformed (length packet) (inner_of packet) ≡ false → WholeInner (length packet) (fields_of packet)
  unfolding inner_of
  whole-holds h = inner-whole (length packet) (inner_of packet) h

  whole-passes : WholeInner (length packet) (fields_of packet) → is_inner_malformed (length packet) (inner_of packet) ≡ false
  unfolding inner_of
  whole-passes w = whole-inner (length packet) (inner_of packet) w

  decides_asker : Decides (is_asker_right (asker_of packet)) (LinkLocalIsatap (fields_of packet).source)
  unfolding is_asker_right
  decides_asker = decides_and _ _ (decides_link_local (asker_of packet)) (decides_identifier (asker_of packet))

  -- each test decides its fact
  rows_decide : (room : ℕ) → RowsDecide (rows ++ writer_rows room) (advertise_facts s packet k a size room)
  rows_decide room =
      row (decides_lack _ whole-holds whole-passes)
      (row (decides_no_locator s k)
      (row (decides_not _ (decides_solicitation packet))
      (row (decides_not _ decides_asker)
      (row (decides_bad a)
      (row (decides_lt room size) end)))))

  first_fact : (room : ℕ) → AnswersFirst Err (advertise_facts s packet k a size room) (Ok size) (advertised_of (locator_of s k) packet a room)
  unfolding advertised_of asker_check advertisement_answer advertisement_check
  first_fact room = rw (← stop_append Err rows (writer_rows room) (Ok size)) (answers-first Err (rows_decide room) (Ok size))

  -- a packet that passes 8, 11, 24 and 25 has the facts
  passed : (from : ℕ) → LocatorAt s k from → asker_check (locator_of s k) packet ≡ Ok tt → are_options_bad a ≡ false → MayAdvertise s packet k a from
  unfolding asker_check
  passed from l e b =
      let f = all_false rows e in
      record {
        whole = whole-holds f.0;
        locator = l;
        solicitation = (decides_solicitation packet).holds (not-false _ f.1.1.0);
        asker = decides_asker.holds (not-false _ f.1.1.1.0);
        options = fails _ (decides_bad a) b;
      }

  -- the locator's address is there
  from_there : asker_check (locator_of s k) packet ≡ Ok tt → LocatorAt s k (address_of (locator_of s k))
  unfolding asker_check
  from_there e = locator-there s k (all_false rows e).1.0

  -- where the facts hold the row passes
  passes : (from : ℕ) → MayAdvertise s packet k a from → asker_check (locator_of s k) packet ≡ Ok tt
  unfolding asker_check
  passes from m =
      all_pass rows (
        whole-passes m.whole,
        (
          refutes _ (decides_no_locator s k) (λ n. n from m.locator),
          (
            refutes _ (decides_not _ (decides_solicitation packet)) (λ n. n m.solicitation),
            (refutes _ (decides_not _ decides_asker) (λ n. n m.asker), tt),
          ),
        ),
      )

  no_length : (n : ℕ) (r : Refusal) → Err r ≡ Ok n → ⊥
  no_length n r e = let z : ◌≡◌ {A = ℕ} 0 1 = cc in omega arith

  only_if : (room n : ℕ) → advertised_of (locator_of s k) packet a room ≡ Ok n → (n ≡ size) × (size ≤ room) × ((from : ℕ) × MayAdvertise s packet k a from)
  unfolding advertised_of advertisement_answer advertisement_check
  only_if room n h =
      let c = stop_passed Err (asker_check (locator_of s k) packet) _ (Ok n) (no_length n) h in
      let w = stop_passed Err (first_of (writer_rows room)) _ (Ok n) (no_length n) c.1 in
      let f = all_false (writer_rows room) w.0 in
      let same : n ≡ size = cc in
      (same, ltb-false _ _ f.1.0, (address_of (locator_of s k), passed (address_of (locator_of s k)) (from_there c.0) c.0 f.0))

  module _ (from : ℕ) (m : MayAdvertise s packet k a from) where
    -- the operator's prefixes and routes can be written
    pub good : are_options_bad a ≡ false
    good = refutes _ (decides_bad a) m.options

    writes : (out : List ℕ) → size ≤ length out
        → (advertised_of (locator_of s k) packet a (length out) ≡ Ok size)
        × (advertised_output (locator_of s k) packet a out ≡ written (advertisement_of (formed from) (fields_of packet).source a) out)
    unfolding advertised_of advertised_output advertisement_answer advertisement_output advertisement_check link_local_of
    writes out h =
        let pass = passes from m in
        let fits = le-ltb (length out) size h in
        (rw (pass, good, fits), rw (pass, locator-found s k from m.locator, good, fits))

  -- what stands in the output where a length is answered, for the laws over two nodes: v is the locator's address
  pub answered-written : (out : List ℕ) (n v : ℕ) → LocatorAt s k v → advertised_of (locator_of s k) packet a (length out) ≡ Ok n
      → (n ≡ advertisement_length a)
      × MayAdvertise s packet k a v
      × (advertised_output (locator_of s k) packet a out ≡ written (advertisement_of (formed v) (fields_of packet).source a) out)
  answered-written out n v l h =
      let o = only_if (length out) n h in
      let f = o.2.1 in
      let m : MayAdvertise s packet k a v = record { whole = f.whole; locator = l; solicitation = f.solicitation; asker = f.asker; options = f.options } in
      (o.0, m, (writes v m out o.1).1)

module _ (s : Settings) (packet : List ℕ) (k : ℕ) (a : Advertisement) (fits : AdvertisementFits a) (out : List ℕ) where
  pub advertised-exactly : AdvertisedExactly s packet k a out (advertised_of (locator_of s k) packet a (length out)) (advertised_output (locator_of s k) packet a out)
  unfolding address_at
  advertised-exactly = record {
    size = advertisement_length a;
    answers = first_fact s packet k a (length out);
    only_if = only_if s packet k a (length out);
    whenever = λ from m. (
      advertisement_of (formed from) (fields_of packet).source a,
      advertisement-of (formed from) (fields_of packet).source a fits (good s packet k a from m),
      length-advertisement (formed from) (fields_of packet).source a fits (good s packet k a from m) refl refl,
      writes s packet k a from m out,
    );
    untouched = refused-untouched (locator_of s k) packet a out;
  }
