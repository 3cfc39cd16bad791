-- `hearing::judge` meets its contract: at each return the steps that led there say which row holds.
use Rattle.std.proofs.Common.{rules}
use mathlib.Core.Path.{◌≡◌, sym, ◌∙◌}
use mathlib.Core.Bool.{true, false}
use lib.ListN.{length, take}
use Rattle.header.specs.Inner.{inner_of, is_inner_malformed}
use Rattle.hearing.specs.Heard.{is_advertisement, heard_of}
use Rattle.hearing.proofs.Stages.{message_stage, no_message}
use Rattle.hearing.proofs.judge.Goals as goal

pub returns-in_err-p : goal.returns-in_err-p
unfolding heard_of
returns-in_err-p c = search rules

pub returns-then-not-advertisement : goal.returns-then-not-advertisement
returns-then-not-advertisement c = let a = c.args in
    let m = a.packet.now in
    let right : is_inner_malformed (length m) (inner_of m) ≡ false = search rules in
    let header : c.in_ok-p.p.header ≡ inner_of m = search rules in
    let bytes : c.in_ok-p.p.bytes.now ≡ take (inner_of m).length m = search rules in
    let none : is_advertisement (inner_of m) (take (inner_of m).length m) ≡ false = rw (header, bytes) at (sym c.advertisement.ensures ∙ c.if-not-advertisement.true) in
    no_message a.settings a.routers a.time m right none

pub returns : goal.returns
returns c = let a = c.args in
    let m = a.packet.now in
    let right : is_inner_malformed (length m) (inner_of m) ≡ false = search rules in
    let header : c.in_ok-p.p.header ≡ inner_of m = search rules in
    let bytes : c.in_ok-p.p.bytes.now ≡ take (inner_of m).length m = search rules in
    let is : is_advertisement (inner_of m) (take (inner_of m).length m) ≡ true = rw (header, bytes) at (sym c.advertisement.ensures ∙ c.if-not-advertisement.false) in
    c.judge_message.ensures ∙ rw (header, bytes) (message_stage a.settings a.routers a.time m right is)
