use Rattle.std.proofs.Common.{rules, arith, ◌≡◌, ◌∙◌, ◌+◌, ap, sym, Ok, Err, ◌++◌, drop}
use Rattle.sa_base.specs.declared.refusal.Cause.TheVariants.{Missing}
use Rattle.sa_trace.specs.Pieces.{fields_in, and_then}
use Rattle.sa_trace.proofs.Steps.{field-missing, field-wrong, field-read}
use Rattle.sa_trace.proofs.pieces.read_fields.Goals as goal

pub returns-in_err-piece : goal.returns-in_err-piece
returns-in_err-piece c =
    let missing : fields_in c.args.fields.now c.args.words.now ≡ Err Missing =
    c.loop-field.invariant.1 ∙ ap (λ r. and_then r (λ later. Ok (c.loop-field.values.items ++ later)))
    (field-missing c.args.fields.now c.loop-field.words c.loop-field.field-index (omega arith) c.in_err-piece.ensures.0) in
    rw missing (search rules)

pub returns-in_err-value : goal.returns-in_err-value
returns-in_err-value c =
    let wrong : fields_in c.args.fields.now c.args.words.now ≡ Err c.in_err-value.field-0.0 =
    c.loop-field.invariant.1
    ∙ field-wrong c.args.fields.now c.loop-field.words c.next.new.words c.in_ok-piece.piece.now c.loop-field.field-index c.read_field.result
    c.in_err-value.field-0.0 c.loop-field.values.items (omega arith) c.in_ok-piece.ensures c.read_field.ensures c.in_err-value.was in
    rw wrong (search rules)

pub loop-field-preserved : goal.loop-field-preserved
loop-field-preserved c = (
  omega (arith, c.push.ensures.len),
  c.loop-field.invariant.1
      ∙ field-read c.args.fields.now c.loop-field.words c.next.new.words c.in_ok-piece.piece.now c.loop-field.field-index c.read_field.result
      c.in_ok-value.value c.loop-field.values.items (omega arith) c.in_ok-piece.ensures c.read_field.ensures c.in_ok-value.was
      ∙ ap (λ vs. and_then (fields_in (drop (c.loop-field.field-index + 1) c.args.fields.now) c.next.new.words) (λ later. Ok (vs ++ later)))
      (sym c.push.ensures.items),
)
