-- The readings that facts and tests share are those of the bytes and members. Assumes nothing.
use Prim.Native.Nat.{ℕ, zero, suc, ◌+◌, ◌*◌, ◌<◌}
use mathlib.Core.Path.{◌≡◌, refl, ap}
use mathlib.Core.List.{List, []}
use native.Mathlib.Omega.{arith}
use lib.ListN.{get_or}
use Rattle.address.specs.Address.{last_quad}
use Rattle.address.specs.Prefixes.{row_at, rows_of}
use Rattle.paths.specs.Kept.{in_force}
use Rattle.header.specs.Fields.{word_at, quad_at}
use Rattle.routers.proofs.Rows.{pairs-length, pair-at}
use Rattle.units.proofs.Facts.{marks_holds, with-holds}
use Rattle.demands.specs.Readings.{Readings}

-- a row has eight bytes from its place on
row-bytes : (flat : List ℕ) (k i : ℕ) → i < 8 → get_or (row_at flat k) i 0 ≡ get_or flat (k + i) 0
row-bytes flat k zero h = ap (λ (x : ℕ). get_or flat x 0) (omega arith)
row-bytes flat k (suc zero) h = refl
row-bytes flat k (suc (suc zero)) h = refl
row-bytes flat k (suc (suc (suc zero))) h = refl
row-bytes flat k (suc (suc (suc (suc zero)))) h = refl
row-bytes flat k (suc (suc (suc (suc (suc zero))))) h = refl
row-bytes flat k (suc (suc (suc (suc (suc (suc zero)))))) h = refl
row-bytes flat k (suc (suc (suc (suc (suc (suc (suc zero))))))) h = refl
row-bytes flat k (suc (suc (suc (suc (suc (suc (suc (suc i)))))))) h = absurd (omega arith)

prefix-bytes : (flat : List ℕ) (k i : ℕ) → k < 8 → i < 8 → get_or (get_or (rows_of flat) k []) i 0 ≡ get_or flat (k * 8 + i) 0
unfolding rows_of
prefix-bytes flat zero i l h = row-bytes flat 0 i h
prefix-bytes flat (suc zero) i l h = row-bytes flat 8 i h
prefix-bytes flat (suc (suc zero)) i l h = row-bytes flat 16 i h
prefix-bytes flat (suc (suc (suc zero))) i l h = row-bytes flat 24 i h
prefix-bytes flat (suc (suc (suc (suc zero)))) i l h = row-bytes flat 32 i h
prefix-bytes flat (suc (suc (suc (suc (suc zero))))) i l h = row-bytes flat 40 i h
prefix-bytes flat (suc (suc (suc (suc (suc (suc zero)))))) i l h = row-bytes flat 48 i h
prefix-bytes flat (suc (suc (suc (suc (suc (suc (suc zero))))))) i l h = row-bytes flat 56 i h
prefix-bytes flat (suc (suc (suc (suc (suc (suc (suc (suc k)))))))) i l h = absurd (omega arith)

pub readings : Readings
unfolding word_at quad_at last_quad in_force
readings = record {
  word = λ d k. refl;
  quad = λ a b c d. refl;
  quad_in = λ d k. refl;
  last = λ a. refl;
  link_local = refl;
  prefixes = prefix-bytes;
  locators = λ s. refl;
  routers = λ l. refl;
  places = λ l. pairs-length l.addresses l.dues;
  place = λ l k h j. pair-at k l.addresses l.dues h j;
  quote = λ m. refl;
  numbers = refl;
  unit = λ h u inside. ((marks_holds h u inside).holds, (marks_holds h u inside).passes);
  units_besides = with-holds;
  smaller = λ link size. refl;
  none_kept = λ link. refl;
}
