use Rattle.sa_debug.specs.script.Reading.{script_of}
use Rattle.sa_debug.proofs.script.Whole.{script_of-ok, script_of-text, same_script}
use Rattle.sa_debug.proofs.laws.scripts_are_read.Goals as goal

pub returns-clause-read : goal.returns-clause-read
returns-clause-read c = λ w text commands is. (script_of-ok w is text commands, script_of-text w is text commands)

pub returns-clause-differ : goal.returns-clause-differ
returns-clause-differ c =
    λ w text one other is a b. same_script (script_of w text) one other (script_of-text w is text one a) (script_of-text w is text other b)
