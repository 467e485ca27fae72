use Rattle.std.proofs.Common.{◌≡◌, ◌+◌, ◌++◌, length, ap, ◌∙◌, subst}
use Rattle.sa_base.specs.Items.{items_at}
use Rattle.sa_instr.specs.declared.instr.Instr.{Instr}
use Rattle.sa_fast.specs.Threads.{block_at}
use Rattle.sa_fast.specs.Instruction.{Outcome, outcome_of, says_of}
use Rattle.sa_fast.proofs.instruction.run.Goals as goal

pub returns-clause-shared : goal.returns-clause-shared
returns-clause-shared c =
    let a = c.args in let x = a.shared.now in let b = block_at x.threads a.t.0 in
    ap (λ (o : Outcome). o.shared)
    (c.does.ensures ∙ ap (outcome_of a.fetch a.seen.now.pages x a.work.now a.t b) c.instr_at-instr.ensures.instr)

pub returns-clause-work : goal.returns-clause-work
returns-clause-work c =
    let a = c.args in let x = a.shared.now in let b = block_at x.threads a.t.0 in
    ap (λ (o : Outcome). o.work)
    (c.does.ensures ∙ ap (outcome_of a.fetch a.seen.now.pages x a.work.now a.t b) c.instr_at-instr.ensures.instr)

pub returns-clause-answer : goal.returns-clause-answer
returns-clause-answer c =
    let a = c.args in let x = a.shared.now in let b = block_at x.threads a.t.0 in
    ap (λ (o : Outcome). o.answer)
    (c.does.ensures ∙ ap (outcome_of a.fetch a.seen.now.pages x a.work.now a.t b) c.instr_at-instr.ensures.instr)

pub returns-clause-items : goal.returns-clause-items
returns-clause-items c =
    let a = c.args in let x = a.shared.now in let b = block_at x.threads a.t.0 in let s = a.seen.now in
    c.tell_records.ensures.items
    ∙ ap (λ (i : Instr). a.trace.now.items ++ items_at s.event s.proc (says_of x.state.space a.t b s.pages i)) c.instr_at-instr.ensures.instr

pub returns-clause-spare : goal.returns-clause-spare
returns-clause-spare c =
    let a = c.args in let x = a.shared.now in let b = block_at x.threads a.t.0 in
    subst (λ (i : Instr). c.tell_records.new.trace.spare + length (says_of x.state.space a.t b a.seen.now.pages i) ≡ a.trace.now.spare)
    c.instr_at-instr.ensures.instr c.tell_records.ensures.spare
