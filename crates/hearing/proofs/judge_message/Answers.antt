-- `hearing::judge_message` meets its contract: by whether the options are whole.
use mathlib.Core.Path.{◌≡◌, ◌∙◌}
use borrow.Author.Tests.{not-false, not-true}
use Rattle.hearing.specs.Heard.{options_in}
use Rattle.hearing.proofs.Stages.{heard-whole, refused-part}
use Rattle.hearing.proofs.judge_message.Goals as goal

pub returns : goal.returns
returns c = let read : (c.options_read-read.result ≡ options_in c.args.p.now) = (c.options_read-read.ensures ∙ rw (c.word.ensures, c.tail-options.ensures, c.tail-message.ensures)) in
    let a = c.args in
    c.judge_from.ensures ∙ heard-whole a.settings a.routers a.time a.source a.p.now c.options_read-read.result read (not-false _ c.if-not-read.false)

pub returns-then-not-read : goal.returns-then-not-read
returns-then-not-read c = let read : (c.options_read-read.result ≡ options_in c.args.p.now) = (c.options_read-read.ensures ∙ rw (c.word.ensures, c.tail-options.ensures, c.tail-message.ensures)) in
    let a = c.args in
    refused-part a.settings a.routers a.time a.source a.p.now c.options_read-read.result read (not-true _ c.if-not-read.true)
