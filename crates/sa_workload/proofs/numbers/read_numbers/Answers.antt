use Rattle.std.proofs.Common.{◌∙◌, ◌+◌, sym, ap, arith, map, drop, Ok, Err}
use Rattle.std.proofs.lemmas.Result.{err_from_is_err_and}
use Rattle.sa_base.specs.Cause.{cause_number}
use Rattle.sa_workload.specs.Fields.{fields_at}
use Rattle.sa_workload.specs.Stage.{field_of}
use Rattle.sa_workload.proofs.calls.Calls.{Left, field-next}
use Rattle.sa_workload.proofs.numbers.read_numbers.Goals as goal

pub returns-in_err-n : goal.returns-in_err-n
returns-in_err-n c =
    let p = err_from_is_err_and c.from_residual.result c.from_residual.ensures.1 in
    rw (p.1, p.2) (sym (c.loop-field.invariant.1
    ∙ field-next c.args.fields.now c.loop-field.words c.loop-field.field-index c.loop-field.numbers.items (Err (cause_number c.in_err-n.field-0.0))
    (omega (arith, c.loop-field-test.true)) c.in_err-n.ensures))

pub loop-field-preserved : goal.loop-field-preserved
loop-field-preserved c = (
  omega (arith, c.push.ensures.len, c.loop-field.invariant.0),
  c.loop-field.invariant.1
      ∙ field-next c.args.fields.now c.loop-field.words c.loop-field.field-index c.loop-field.numbers.items (Ok (c.in_ok-n.n, c.read_number.new.words))
      (omega (arith, c.loop-field-test.true)) c.in_ok-n.ensures
      ∙ ap (λ ns. Left ns (fields_at (drop (c.loop-field.field-index + 1) (map field_of c.args.fields.now)) c.read_number.new.words))
      (sym c.push.ensures.items),
)
