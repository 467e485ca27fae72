use Rattle.std.proofs.Common.{◌∙◌, Ok, Err, sym, ap, map}
use Rattle.std.proofs.lemmas.Result.{err_from_is_err_and}
use Rattle.sa_base.specs.Cause.{cause_number}
use Rattle.sa_workload.specs.Fields.{unless, fields_at, at_end, order_cause}
use Rattle.sa_workload.specs.Next.{fields_of, last_numbers}
use Rattle.sa_workload.specs.Stage.{field_of, position_of}
use Rattle.sa_workload.proofs.fields.FieldLemmas.{fields-ok}
use Rattle.sa_workload.proofs.OneLine.{as_long, line_by}
use Rattle.sa_workload.proofs.reader.numbers_behind.Goals as goal

pub in_order-requires : goal.in_order-requires
in_order-requires c =
    let fields = ap (λ fs. fields_at fs c.args.words.now) (ap (map field_of) c.as_slice.ensures.value ∙ c.fields-fields.ensures) in
    let pass = fields-ok (fields_of c.args.versions (position_of c.args.reader.now) c.args.word.now) c.args.words.now
    (c.in_ok-numbers.numbers.items, c.read_numbers.new.words) (sym fields ∙ sym c.in_ok-numbers.ensures) in
    rw c.as_slice-2.ensures.value (as_long c.args.versions (position_of c.args.reader.now) c.args.word.now c.in_ok-numbers.numbers.items pass.1)

pub returns-in_err-numbers : goal.returns-in_err-numbers
returns-in_err-numbers c =
    let p = err_from_is_err_and c.from_residual.result c.from_residual.ensures.1 in
    let fields = ap (λ fs. fields_at fs c.args.words.now) (ap (map field_of) c.as_slice.ensures.value ∙ c.fields-fields.ensures) in
    rw (p.1, p.2) (sym (line_by (fields_of c.args.versions (position_of c.args.reader.now) c.args.word.now)
    (last_numbers (position_of c.args.reader.now) c.args.word.now) c.args.words.now
    (Err (cause_number c.in_err-numbers.field-0.0)) (c.in_err-numbers.ensures ∙ fields)))

pub returns-in_err-in_order : goal.returns-in_err-in_order
returns-in_err-in_order c =
    let p = err_from_is_err_and c.from_residual-in_err-in_order.result c.from_residual-in_err-in_order.ensures.1 in
    let fields = ap (λ fs. fields_at fs c.args.words.now) (ap (map field_of) c.as_slice.ensures.value ∙ c.fields-fields.ensures) in
    let order = ap (λ ns. order_cause (last_numbers (position_of c.args.reader.now) c.args.word.now) ns) (sym c.as_slice-2.ensures.value)
    ∙ c.in_err-in_order.ensures in
    rw (p.1, p.2) (sym (line_by (fields_of c.args.versions (position_of c.args.reader.now) c.args.word.now)
    (last_numbers (position_of c.args.reader.now) c.args.word.now) c.args.words.now
    (Ok (c.in_ok-numbers.numbers.items, c.read_numbers.new.words)) (c.in_ok-numbers.ensures ∙ fields)
    ∙ ap (λ o. unless o (unless (at_end c.read_numbers.new.words) (Ok c.in_ok-numbers.numbers.items))) order))

pub returns-in_err-read_end : goal.returns-in_err-read_end
returns-in_err-read_end c =
    let p = err_from_is_err_and c.from_residual-in_err-read_end.result c.from_residual-in_err-read_end.ensures.1 in
    let fields = ap (λ fs. fields_at fs c.args.words.now) (ap (map field_of) c.as_slice.ensures.value ∙ c.fields-fields.ensures) in
    let order = ap (λ ns. order_cause (last_numbers (position_of c.args.reader.now) c.args.word.now) ns) (sym c.as_slice-2.ensures.value)
    ∙ c.in_ok-in_order.ensures in
    rw (p.1, p.2) (sym (line_by (fields_of c.args.versions (position_of c.args.reader.now) c.args.word.now)
    (last_numbers (position_of c.args.reader.now) c.args.word.now) c.args.words.now
    (Ok (c.in_ok-numbers.numbers.items, c.read_numbers.new.words)) (c.in_ok-numbers.ensures ∙ fields)
    ∙ ap (λ o. unless o (unless (at_end c.read_numbers.new.words) (Ok c.in_ok-numbers.numbers.items))) order
    ∙ ap (λ o. unless o (Ok c.in_ok-numbers.numbers.items)) c.in_err-read_end.ensures))

pub returns : goal.returns
returns c =
    let fields = ap (λ fs. fields_at fs c.args.words.now) (ap (map field_of) c.as_slice.ensures.value ∙ c.fields-fields.ensures) in
    let order = ap (λ ns. order_cause (last_numbers (position_of c.args.reader.now) c.args.word.now) ns) (sym c.as_slice-2.ensures.value)
    ∙ c.in_ok-in_order.ensures in
    sym (line_by (fields_of c.args.versions (position_of c.args.reader.now) c.args.word.now)
    (last_numbers (position_of c.args.reader.now) c.args.word.now) c.args.words.now
    (Ok (c.in_ok-numbers.numbers.items, c.read_numbers.new.words)) (c.in_ok-numbers.ensures ∙ fields)
    ∙ ap (λ o. unless o (unless (at_end c.read_numbers.new.words) (Ok c.in_ok-numbers.numbers.items))) order
    ∙ ap (λ o. unless o (Ok c.in_ok-numbers.numbers.items)) c.in_ok-read_end.ensures)
