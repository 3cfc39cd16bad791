-- Each test of receiving decides a plain fact. Assumes nothing.
use Rattle.std.specs.Prelude.{Option, Some, None}
use Prim.Native.Nat.{ℕ}
use mathlib.Core.Path.{◌≡◌, refl, sym, ap, ◌∙◌}
use mathlib.Core.Logic.{◌⊎◌}
use mathlib.Core.Bool.{Bool, true, false, true≢false}
use mathlib.Core.List.{List, ◌++◌}
use borrow.Author.Tests.{eqb-true, eq-eqb}
use lib.ListN.{length}
use Rattle.lists.proofs.Decides.{Decides, decides_eq, decides_lt, decides_not, decides_lack, decides_or}
use Rattle.checksum.specs.Sum.{is_right_from}
use Rattle.refusals.proofs.Laws.{RowsDecide, end, row}
use Rattle.refusals.specs.declared.Refusal.{Refusal}
use Rattle.header.specs.Outer.{outer_of, is_outer_malformed, is_sum_wrong}
use Rattle.header.proofs.OuterLaws.{outer_whole_lem, whole_outer}
use Rattle.header.specs.Inner.{inner_of, is_inner_malformed}
use Rattle.header.proofs.InnerLaws.{inner-whole, whole-inner}
use Rattle.settings.specs.Settings.{embedded_to}
use Rattle.settings.specs.Facts.{IsatapTo}
use Rattle.settings.proofs.Facts.{embedded_to_lem, isatap_to, decides_forbidden_to, decides_our_locator, decides_bad_source_to}
use Rattle.settings.specs.declared.Settings.{Settings}
use Rattle.routers.specs.Routers.{listed}
use Rattle.routers.specs.Facts.{Listed}
use Rattle.routers.proofs.Facts.{decides_listed}
use Rattle.routers.specs.declared.Router.{Router}
use Rattle.receiving.specs.Receive.{is_embedded, embeds, is_source_right, inner_rows}
use Rattle.receiving.specs.Collect.{arrival_rows, is_piece}
use Rattle.receiving.specs.Facts.{Unfragmented, OuterWhole, InnerWhole, inner_facts}
use Rattle.receiving.specs.CollectFacts.{arrival_facts}

module _ (s : Settings) (a : List ℕ) (v : ℕ) where
  pub decides_embeds : Decides (embeds s a v) (IsatapTo s a v)
  unfolding embeds
  decides_embeds = record { holds = go (embedded_to s a) refl; passes = λ f. rw (isatap_to s a v f) (eq-eqb v v refl) }
    where
      go : (e : Option ℕ) → embedded_to s a ≡ e → is_embedded e v ≡ true → IsatapTo s a v
      go (Some b) q h = embedded_to_lem s a v (q ∙ ap Some (eqb-true b v h))
      go None q h = absurd (true≢false (sym h))

  pub decides_source-right : (routers : List Router) → Decides (is_source_right s (listed v routers) v a) (IsatapTo s a v ⊎ Listed v routers)
  decides_source-right routers = decides_or _ _ decides_embeds (decides_listed v routers)

module _ (d : List ℕ) where
  pub outer_whole-bytes : is_outer_malformed (length d) (outer_of d) ≡ false → OuterWhole d
  unfolding outer_of
  outer_whole-bytes h =
      let w = outer_whole_lem (length d) (outer_of d) h in
      record { some = w.some; version = w.version; words = w.words; whole = w.whole; inside = w.inside; all = w.all }

  pub bytes-whole_outer : OuterWhole d → is_outer_malformed (length d) (outer_of d) ≡ false
  unfolding outer_of
  bytes-whole_outer w =
      whole_outer (length d) (outer_of d) (record { some = w.some; version = w.version; words = w.words; whole = w.whole; inside = w.inside; all = w.all })

  pub inner-whole-bytes : is_inner_malformed (length d) (inner_of d) ≡ false → InnerWhole d
  unfolding inner_of
  inner-whole-bytes h =
      let w = inner-whole (length d) (inner_of d) h in
      record { some = w.some; version = w.version; whole = w.whole }

  pub bytes-whole-inner : InnerWhole d → is_inner_malformed (length d) (inner_of d) ≡ false
  unfolding inner_of
  bytes-whole-inner w = whole-inner (length d) (inner_of d) (record { some = w.some; version = w.version; whole = w.whole })

module _ (s : Settings) (routers : List Router) (v : ℕ) (p : List ℕ) where
  -- each test of 8 to 10 decides its fact
  pub inner_decides : RowsDecide (inner_rows s (listed v routers) v (length p) (inner_of p)) (inner_facts s routers v p)
  unfolding inner_of
  inner_decides =
      row (decides_lack _ (inner-whole-bytes p) (bytes-whole-inner p))
      (row (decides_bad_source_to s _)
      (row (decides_not _ (decides_source-right s _ _ routers)) end))

module _ (s : Settings) (d : List ℕ) (interface lent : ℕ) {ts : List (Bool × Refusal)} {fs : List (Type 0 × Refusal)} where
  -- each test of 15, 2, 3, 4, 6, 7 decides its fact, and so does each of those behind them
  pub arrival_decides : RowsDecide ts fs → RowsDecide (arrival_rows s interface lent d (outer_of d) ++ ts) (arrival_facts s d interface lent ++ fs)
  unfolding outer_of is_sum_wrong is_right_from
  arrival_decides rest =
      row (decides_lt lent 16384)
      (row (decides_lack _ (outer_whole-bytes d) (bytes-whole_outer d))
      (row (decides_not _ (decides_eq _ _))
      (row (decides_not _ (decides_eq _ _))
      (row (decides_not _ (decides_our_locator s _ _))
      (row (decides_forbidden_to s _) rest)))))

-- a datagram is a piece exactly if it is fragmented
pub decides_piece : (d : List ℕ) → Decides (is_piece (outer_of d)) (Unfragmented d → ⊥)
unfolding outer_of
decides_piece d = decides_not _ (decides_eq _ 0)
