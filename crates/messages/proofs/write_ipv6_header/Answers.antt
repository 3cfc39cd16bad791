-- `messages::write_ipv6_header` meets its contract: three writes, each right behind the last.
use native.Mathlib.Omega.{arith}
use Rattle.lent.proofs.Laws.{written_at-first, written_at-more}
use Prim.Native.Nat.{ℕ}
use mathlib.Core.Path.{refl}
use mathlib.Core.List.{List, [], ◌∷◌, ◌++◌}
use Rattle.header.specs.Wrap.{be16}
use Rattle.messages.proofs.write_ipv6_header.Goals as goal

pub returns : goal.returns
returns c = let a = c.args in
    let out = a.out.now in
    let front : List ℕ = 96 ∷ (0 ∷ (0 ∷ (0 ∷ be16 a.n (58 ∷ (a.hop ∷ []))))) in
    let first = rw c.word_bytes.ensures at c.write_at.ensures in
    let d₁ = written_at-first front out (omega arith) first in
    let d₂ = written_at-more 8 front a.from out refl (omega arith) d₁ c.write_at-2.ensures in
    written_at-more 24 (front ++ a.from) a.to out (omega arith) (omega arith) d₂ c.write_at-3.ensures
