-- `advertisements::write` meets its contract: the check's answer says which case holds.
use native.Mathlib.Omega.{arith}
use Prim.Native.Nat.{ℕ, ◌-◌}
use mathlib.Core.Path.{◌≡◌, refl, sym, ap, ◌∙◌}
use mathlib.Core.List.{List, [], ◌∷◌, ◌++◌, flatten}
use lib.ListN.{length, take, drop, get_or, length-take, length-drop}
use Rattle.header.specs.Wrap.{be32}
use Rattle.lent.proofs.Laws.{part-over}
use Rattle.messages.proofs.EnclosedLaws.{enclosed-over}
use Rattle.advertisements.specs.Advertisement.{written_options, advertisement_of, advertisement_output}
use Rattle.advertisements.proofs.CheckLaws.{answer_refused, answer_passed, length_parts, length_most}
use Rattle.advertisements.proofs.write.Goals as goal

pub returns-in_err-n-clause-out_after : goal.returns-in_err-n-clause-out_after
unfolding advertisement_output
returns-in_err-n-clause-out_after c =
    rw (answer_refused c.args.a (length c.args.out.now) c.in_err-n.field-0.0 (sym c.checked.ensures ∙ c.in_err-n.was))

pub slice_bounds-write_rest-count : goal.slice_bounds-write_rest-count
slice_bounds-write_rest-count c =
    let pass = answer_passed c.args.a (length c.args.out.now) c.in_ok-n.n (sym c.checked.ensures ∙ c.in_ok-n.was) in
    let parts = length_parts c.args.a in
    omega arith

pub slice_bounds-write_rest-start : goal.slice_bounds-write_rest-start
slice_bounds-write_rest-start c =
    let pass = answer_passed c.args.a (length c.args.out.now) c.in_ok-n.n (sym c.checked.ensures ∙ c.in_ok-n.was) in
    let parts = length_parts c.args.a in
    omega arith

pub write_rest-requires : goal.write_rest-requires
write_rest-requires c =
    let pass = answer_passed c.args.a (length c.args.out.now) c.in_ok-n.n (sym c.checked.ensures ∙ c.in_ok-n.was) in
    let parts = length_parts c.args.a in
    let out = c.args.out.now in
    let room : length (take (length out - 48) (drop 48 out)) ≡ length out - 48 = simp (length-take, length-drop) (omega arith) in
    omega arith

pub returns-clause-out_after : goal.returns-clause-out_after
unfolding advertisement_output advertisement_of
returns-clause-out_after c = let a = c.args.a in
    let out = c.args.out.now in
    let pass = answer_passed a (length out) c.in_ok-n.n (sym c.checked.ensures ∙ c.in_ok-n.was) in
    let most = length_most a pass.0.0 in
    let parts = length_parts a in
    let rest = be32 0 (be32 0 (flatten (written_options a))) in
    let size = c.write_rest.ensures.a_len in
    let placed = ap (λ (part : List ℕ). take 48 out ++ (part ++ drop (length out - 48) (drop 48 out))) c.write_rest.ensures.out_after ∙ part-over 48 rest out (omega arith) in
    let four : List ℕ = 0 ∷ (c.flags.result ∷ (get_or c.word_bytes.result 0 0 ∷ (get_or c.word_bytes.result 1 0 ∷ []))) in
    let packet = enclosed-over 255 c.args.from c.args.to 134 four rest c.in_ok-n.n out (omega arith) (omega arith) refl (omega arith) (omega arith) (omega arith) placed c.enclose.ensures in
    rw pass.1.0 (packet ∙ rw (c.flags.ensures, c.word_bytes.ensures))
