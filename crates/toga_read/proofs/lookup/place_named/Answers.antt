use Rattle.std.proofs.Common.{◌≡◌, Option, Some, true, false, ◌∙◌, ap, sym}
use Rattle.std.specs.Option.{option_map}
use Rattle.toga_draft.specs.declared.draft.LabelDraft.{LabelDraft}
use Rattle.toga_read.specs.Lookup.{is_label}
use Rattle.toga_read.proofs.Loops.{find-all, find-here, find-none}
use Rattle.toga_read.proofs.lookup.place_named.Goals as goal

pub returns-then-is_label : goal.returns-then-is_label
returns-then-is_label c =
    let passes : is_label c.args.name.now c.label-item.result ≡ true = cc in
    ap (λ (l : LabelDraft). Some l.place) c.label-item.is
    ∙ sym (ap (λ (o : Option LabelDraft). option_map (λ (l : LabelDraft). l.place) o)
    (find-here (is_label c.args.name.now) c.args.labels.now c.loop-label.label-index c.label-item.result c.loop-label-test.true c.loop-label.invariant
    (ap (is_label c.args.name.now) (sym c.label-item.is) ∙ passes)))

pub loop-label-preserved : goal.loop-label-preserved
loop-label-preserved c =
    let fails : is_label c.args.name.now c.label-item.result ≡ false = cc in
    find-none (is_label c.args.name.now) c.args.labels.now c.loop-label.label-index c.label-item.result c.loop-label-test.true c.loop-label.invariant
    (ap (is_label c.args.name.now) (sym c.label-item.is) ∙ fails)

pub returns : goal.returns
returns c =
    sym (ap (λ (o : Option LabelDraft). option_map (λ (l : LabelDraft). l.place) o)
    (find-all (is_label c.args.name.now) c.args.labels.now c.loop-label.label-index c.loop-label-test.false c.loop-label.invariant))
