-- `advertisements::write_rest` meets its contract: three writes, each right behind the last.
use native.Mathlib.Omega.{arith}
use Prim.Native.Nat.{ℕ, ◌*◌}
use mathlib.Core.Path.{◌≡◌, refl, sym, ap, ◌∙◌}
use mathlib.Core.List.{List, [], ◌++◌, map, flatten}
use lib.ListN.{length, length-append}
use Rattle.header.specs.Wrap.{be32}
use Rattle.lent.specs.Written.{written}
use Rattle.lent.proofs.Laws.{written_at-first}
use Rattle.advertisements.specs.Options.{prefix_option, route_option}
use Rattle.advertisements.specs.Advertisement.{prefixes_of, routes_of}
use Rattle.advertisements.proofs.Lists.{flatten_append, part-next}
use Rattle.advertisements.proofs.write_rest.Goals as goal

pub returns : goal.returns
returns c = let a = c.args.a.now in
    let out = c.args.out.now in
    let zeros = be32 0 (be32 0 []) in
    let ps = flatten (map prefix_option (prefixes_of a)) in
    let rs = flatten (map route_option (routes_of a)) in
    let n : length c.counted_prefixes-prefixes.result.now ≡ length (prefixes_of a) = ap length c.counted_prefixes-prefixes.ensures in
    let lp : length ps ≡ length (prefixes_of a) * 32 = rw c.counted_prefixes-prefixes.ensures at c.write_prefixes.ensures.prefixes_len in
    let lr = rw c.counted_routes-routes.ensures at c.write_routes.ensures.routes_len in
    let wp = rw c.counted_prefixes-prefixes.ensures at c.write_prefixes.ensures.out_after in
    let wr = rw c.counted_routes-routes.ensures at c.write_routes.ensures.out_after in
    let d₁ = written_at-first zeros out (omega arith) c.write_at.ensures in
    let d₂ = part-next zeros ps out d₁ wp refl (omega arith) (omega arith) in
    let d₃ = part-next (zeros ++ ps) rs out d₂ wr refl (omega arith) (omega arith) in
    let both = flatten_append (map prefix_option (prefixes_of a)) (map route_option (routes_of a)) in
    record {
      out_after = d₃ ∙ ap (λ (options : List ℕ). written (be32 0 (be32 0 options)) out) (sym both);
      a_len = ap length both ∙ rw length-append (omega arith);
    }
