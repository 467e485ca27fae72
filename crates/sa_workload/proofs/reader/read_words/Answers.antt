use Rattle.std.proofs.Common.{List, ℕ, Ok, Err, sym, subst}
use Rattle.std.proofs.lemmas.Result.{err_from_is_err_and}
use Rattle.sa_base.specs.Cause.{cause_number}
use Rattle.sa_workload.specs.Next.{last_numbers, step}
use Rattle.sa_workload.specs.Stage.{position_of, Gives}
use Rattle.sa_workload.proofs.OneLine.{not_known, too_many, numbered_next}
use Rattle.sa_workload.proofs.calls.Rooms.{have_room}
use Rattle.sa_workload.proofs.reader.read_words.Goals as goal

pub returns-then-not-expects : goal.returns-then-not-expects
returns-then-not-expects c = not_known c.args.versions (position_of c.args.reader.now) c.args.word.now c.args.words.now c.if-not-expects.ensures

pub returns-then-is_full : goal.returns-then-is_full
returns-then-is_full c = too_many c.args.versions (position_of c.args.reader.now) c.args.word.now c.args.words.now c.if-not-expects.ensures c.if-is_full.ensures

pub returns-in_err-numbers : goal.returns-in_err-numbers
returns-in_err-numbers c =
    let p = err_from_is_err_and c.from_residual.result c.from_residual.ensures.1 in
    rw (p.1, p.2) (numbered_next c.args.versions (position_of c.args.reader.now) c.args.word.now c.args.words.now (Err (cause_number c.in_err-numbers.field-0.0))
    c.if-not-expects.ensures c.if-is_full.ensures c.in_err-numbers.ensures)

pub step-requires-clause-room : goal.step-requires-clause-room
step-requires-clause-room c =
    rw c.as_slice.ensures.value
    (have_room c.args.versions c.requires.few c.args.reader.now c.args.word.now c.in_ok-numbers.numbers.items c.args.reader.now.stage c.requires.reached
    (sym c.if-not-expects.ensures)
    (record { last = last_numbers (position_of c.args.reader.now) c.args.word.now; words = c.args.words.now; read = sym c.in_ok-numbers.ensures }))

pub returns : goal.returns
returns c =
    subst (λ r. Gives r (position_of c.step.new.self) c.step.result)
    (sym (numbered_next c.args.versions (position_of c.args.reader.now) c.args.word.now c.args.words.now
    (Ok c.in_ok-numbers.numbers.items) c.if-not-expects.ensures c.if-is_full.ensures c.in_ok-numbers.ensures))
    (subst (λ (ns : List ℕ). Gives (step (position_of c.args.reader.now) c.args.word.now ns) (position_of c.step.new.self) c.step.result) c.as_slice.ensures.value
    c.step.ensures)
