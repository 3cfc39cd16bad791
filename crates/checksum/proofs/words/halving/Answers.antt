-- `checksum::words::halving` meets its contract: what is left is shorter than two blocks, and in the end than one word.
use Rattle.std.proofs.Common.{◌≡◌, ℕ, zero, suc, ◌*◌, ◌/◌, ◌%◌, ◌^◌, ◌<◌, length, inl, inr, arith}
use Rattle.checksum.proofs.Blocks.{words-front, words_fit, bytes_in}
use Rattle.checksum.proofs.words.halving.Invariants.{Shorter}
use Rattle.checksum.proofs.words.halving.Goals as goal
use Rattle.checksum.proofs.words.halving.Goals.{then-n-rest, else-n-rest}

halved : (k left n : ℕ) → n ≡ 2 ^ k → left < 2 * n → Shorter left (n / 2)
halved zero left n e h = inr (omega arith)
halved (suc k) left n e h = inl ((k, omega arith), omega arith)

-- a turn leaves less than a block
less : (left after n : ℕ) → 0 < n → Shorter left n → (left < 4 * n → after < 2 * n) → Shorter after (n / 2)
less left after n p w f = elim w [ inl w ↦ halved w.0.0 after n w.0.1 (f w.1) | inr w ↦ absurd (omega (arith, w.0)) ]

pub overflow_add-sum : goal.overflow_add-sum
overflow_add-sum c =
    let parts = c.split_at.ensures in
    let front : length c.split_at.result.0.now % 2 ≡ 0 = omega (arith, parts.front_len) in
    omega (arith, words_fit c.args.s.now (bytes_in _ c.type_inv.s), words-front c.loop-n.rest.now _ _ parts.by_index.0 front)

pub loop-n-preserved : goal.loop-n-preserved
loop-n-preserved c =
    let l = c.loop-n in
    elim c.if-n-rest.branch [
      | then-n-rest w ↦
          let parts = w.split_at.ensures in
          let front : length w.split_at.result.0.now % 2 ≡ 0 = omega (arith, parts.front_len) in
          rw (w.sum-is, w.rest-is) (
            omega (arith, words-front l.rest.now _ _ parts.by_index.0 front),
            omega arith,
            less (length l.rest.now) (length w.split_at.result.1.now) l.n (omega arith) l.invariant.2 (λ h. omega (arith, parts.back_len)),
          )
      | else-n-rest w ↦
          rw (w.sum-is, w.rest-is) (l.invariant.0, omega arith, less (length l.rest.now) (length l.rest.now) l.n (omega arith) l.invariant.2 (λ h. omega arith))
    ]

pub overflow_add-result : goal.overflow_add-result
overflow_add-result c = omega (arith, words_fit c.args.s.now (bytes_in _ c.type_inv.s))
