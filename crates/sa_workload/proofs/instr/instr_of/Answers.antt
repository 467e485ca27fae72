use Rattle.std.proofs.Common.{◌∙◌, [], ◌∷◌, List, map, sym, ap, ap₂, subst}
use Rattle.sa_instr.specs.declared.operand.Operand.{Operand}
use Rattle.sa_instr.specs.declared.operand.OperandKind.{OperandKind}
use Rattle.sa_instr.specs.Parts.{instr_of}
use Rattle.sa_workload.specs.Next.{operands_from}
use Rattle.sa_workload.specs.Rooms.{AreBelow, room_for}
use Rattle.sa_workload.proofs.calls.Calls.{operands-none, operands-one, operands-two}
use Rattle.sa_workload.proofs.instr.instr_of.Goals as goal

pub returns-then-kinds-eq0 : goal.returns-then-kinds-eq0
returns-then-kinds-eq0 c =
    c.from_parts.ensures.instr ∙ ap (instr_of c.args.operation) (sym (operands-none c.form.result.operands.now c.args.numbers.now c.if-kinds-eq0.true))
    ∙ ap (λ ks. instr_of c.args.operation (operands_from ks c.args.numbers.now)) c.form.ensures.operands

pub returns-then-kinds-eq1 : goal.returns-then-kinds-eq1
returns-then-kinds-eq1 c =
    let room = subst (λ (ks : List OperandKind). AreBelow (map room_for ks) c.args.numbers.now) (sym c.form.ensures.operands) c.requires in
    c.from_parts-then-kinds-eq1.ensures.instr
    ∙ ap (instr_of c.args.operation)
    (ap (λ (o : Operand). o ∷ []) c.operand_of-first.ensures ∙ sym (operands-one c.form.result.operands.now _ c.args.numbers.now c.if-kinds-eq1.true room))
    ∙ ap (λ ks. instr_of c.args.operation (operands_from ks c.args.numbers.now)) c.form.ensures.operands

pub returns : goal.returns
returns c =
    let room = subst (λ (ks : List OperandKind). AreBelow (map room_for ks) c.args.numbers.now) (sym c.form.ensures.operands) c.requires in
    c.from_parts-2.ensures.instr
    ∙ ap (instr_of c.args.operation)
    (ap₂ (λ (o q : Operand). o ∷ q ∷ []) c.operand_of-first.ensures c.operand_of-second.ensures
    ∙ sym (operands-two c.form.result.operands.now _ _ c.args.numbers.now c.if-kinds-eq0.false c.if-kinds-eq1.false c.form.ensures.few room))
    ∙ ap (λ ks. instr_of c.args.operation (operands_from ks c.args.numbers.now)) c.form.ensures.operands
