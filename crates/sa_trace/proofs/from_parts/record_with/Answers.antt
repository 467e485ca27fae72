use Rattle.std.proofs.Common.{None, refl, arith, ap, ◌∙◌, length}
use Rattle.sa_lemmas.proofs.Options.{right_number}
use Rattle.sa_trace.proofs.PartsLemmas.{made-if, unmade}
use Rattle.sa_trace.proofs.from_parts.record_with.Goals as goal

pub returns-then-fields-form-clause-record : goal.returns-then-fields-form-clause-record
returns-then-fields-form-clause-record c =
    (unmade c.args.kind c.args.fields.now None refl (λ same. absurd (omega (arith, ap length c.form.ensures.fields)))).0

pub returns-then-fields-form-clause-fit : goal.returns-then-fields-form-clause-fit
returns-then-fields-form-clause-fit c =
    (unmade c.args.kind c.args.fields.now None refl (λ same. absurd (omega (arith, ap length c.form.ensures.fields)))).1

pub returns-clause-record : goal.returns-clause-record
returns-clause-record c = c.from_fields.ensures ∙ right_number _ _ _ (omega (arith, ap length c.form.ensures.fields))

pub returns-clause-fit : goal.returns-clause-fit
returns-clause-fit c =
    (made-if c.args.kind c.args.fields.now c.from_fields.result (omega (arith, ap length c.form.ensures.fields)) c.from_fields.ensures).0

pub returns-clause-parts : goal.returns-clause-parts
returns-clause-parts c =
    (made-if c.args.kind c.args.fields.now c.from_fields.result (omega (arith, ap length c.form.ensures.fields)) c.from_fields.ensures).1
