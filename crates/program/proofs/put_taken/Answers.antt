-- `put_taken` meets its contract: by cases on what setup answers.
use Rattle.program.specs.Program.{taken_text}
use Rattle.program.proofs.put_taken.Goals as goal

pub put_text-requires : goal.put_text-requires
unfolding taken_text
put_text-requires c = rw (← c.settings.ensures, ← c.new-setup.ensures, ← c.behind_settings.ensures, c.in-Ok.is) at c.requires

pub returns-in-Ok : goal.returns-in-Ok
unfolding taken_text
returns-in-Ok c = rw (← c.settings.ensures, ← c.new-setup.ensures, ← c.behind_settings.ensures, c.in-Ok.is) c.put_text.ensures

pub returns-in-Err : goal.returns-in-Err
unfolding taken_text
returns-in-Err c = rw (← c.settings.ensures, ← c.new-setup.ensures, c.in-Err.is) c.put_bad_input.ensures
