-- `advertisements::write_prefixes` meets its contract.
use native.Mathlib.Omega.{arith}
use Prim.Native.Nat.{ℕ, ◌+◌, ◌*◌}
use mathlib.Core.Path.{◌≡◌, refl, sym, ap, ◌∙◌}
use mathlib.Core.List.{List, map, flatten}
use lib.ListN.{take, length, get_or, length-append}
use lib.Seq.{take_all}
use Rattle.lent.specs.Written.{written, written_at}
use Rattle.lent.proofs.Laws.{length-written}
use Rattle.advertisements.specs.declared.prefix.Prefix.{Prefix}
use Rattle.advertisements.specs.Options.{prefix_option}
use Rattle.advertisements.proofs.Lists.{no_prefix, write-next, flatten_next}
use Rattle.advertisements.proofs.write_prefixes.Goals as goal

pub loop-i-init : goal.loop-i-init
unfolding flatten
loop-i-init c = (refl, refl, refl)

pub loop-i-preserved : goal.loop-i-preserved
loop-i-preserved c =
    let ps = c.args.prefixes.now in
    let out = c.args.out.now in
    let i = c.loop-i.i in
    let p = get_or ps i no_prefix in
    let g : c.prefix_option.result ≡ prefix_option p = c.prefix_option.ensures.value in
    let wide : length c.prefix_option.result ≡ 32 = omega arith in
    let size : length (prefix_option p) ≡ 32 = ap length (sym g) ∙ wide in
    let put = c.write_at.ensures ∙ ap (λ (bytes : List ℕ). written_at (i * 32) bytes c.loop-i.out) g in
    let next = write-next prefix_option ps i no_prefix c.loop-i-test.true (i * 32) out c.loop-i.invariant.1 (omega arith) c.loop-i.invariant.2 put in
    let long : length (flatten (map prefix_option (take (i + 1) ps))) ≡ (i + 1) * 32 = ap length (flatten_next prefix_option ps i no_prefix c.loop-i-test.true) ∙ rw length-append (omega arith) in
    (ap length next ∙ length-written (flatten (map prefix_option (take (i + 1) ps))) out (omega arith), long, next)

pub returns : goal.returns
returns c =
    let ps = c.args.prefixes.now in
    let all : take c.loop-i.i ps ≡ ps = take_all c.loop-i.i ps (omega arith) in
    record {
      out_after = c.loop-i.invariant.2 ∙ ap (λ (xs : List Prefix). written (flatten (map prefix_option xs)) c.args.out.now) all;
      prefixes_len = ap (λ (xs : List Prefix). length (flatten (map prefix_option xs))) (sym all) ∙ c.loop-i.invariant.1 ∙ omega arith;
    }
