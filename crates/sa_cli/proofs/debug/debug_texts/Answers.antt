use Rattle.std.proofs.Common.{ℕ, List, subst, sym}
use Rattle.sa_input.specs.declared.limits.TheConstants.{SCRIPT_LIMIT}
use Rattle.sa_cli.specs.Streams.{streams, world_by}
use Rattle.sa_io.specs.Input.{ReadsInput}
use Rattle.sa_cli.proofs.Sessions.{over-answers, script-answers}
use Rattle.sa_cli.proofs.debug.debug_texts.Goals as goal

pub returns-in-Ok-debugged-clause-answers : goal.returns-in-Ok-debugged-clause-answers
returns-in-Ok-debugged-clause-answers g c =
    let told = world_by g.S.Source.left g.K.Sink.taken g.S.Source.faults g.K.Sink.faults in
    over-answers c.args.budget
    (told (streams c.args.source.now c.args.sink.now))
    (told (streams c.read_input.new.source c.write_session.new.sink))
    c.deref.result.now c.in-Ok-debugged.debugged.replies.items c.in-Ok-debugged.debugged.trace c.in-Ok-debugged.debugged.end c.in-Ok-debugged.debugged.events
    c.write_session.result.ran c.write_session.result.status
    (subst (λ (v : List ℕ). ReadsInput SCRIPT_LIMIT (g.S.Source.left c.args.source.now) (g.S.Source.left c.read_input.new.source) v)
    (sym c.deref.ensures.value) c.in-Ok.ensures.input)
    c.in-Ok-debugged.ensures.ok c.write_session.ensures.ran c.write_session.ensures.status

pub returns-in-Err-BadScript-clause-answers : goal.returns-in-Err-BadScript-clause-answers
returns-in-Err-BadScript-clause-answers g c =
    let told = world_by g.S.Source.left g.K.Sink.taken g.S.Source.faults g.K.Sink.faults in
    let wrong = rw c.in-Err-BadScript.field-0-is at c.in-Err-BadScript.ensures.err in
    script-answers c.args.budget
    (told (streams c.args.source.now c.args.sink.now))
    (told (streams c.read_input.new.source c.args.sink.now))
    c.deref.result.now c.in-Err-BadScript.bad c.nothing-in-Err-BadScript.result.ran c.nothing-in-Err-BadScript.result.status
    (subst (λ (v : List ℕ). ReadsInput SCRIPT_LIMIT (g.S.Source.left c.args.source.now) (g.S.Source.left c.read_input.new.source) v)
    (sym c.deref.ensures.value) c.in-Ok.ensures.input)
    wrong c.nothing-in-Err-BadScript.ensures.ran c.nothing-in-Err-BadScript.ensures.status
