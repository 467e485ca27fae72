use Rattle.std.proofs.Common.{◌≡◌, length, map, take}
use Rattle.sa_workload.specs.Bad.{operand_field}
use Rattle.sa_workload.specs.Next.{draft_numbers}
use Rattle.sa_workload.specs.Stage.{field_of, draft_of}
use Rattle.sa_workload.proofs.table.operand_fields.Given as goal

-- the fields so far are those of the operands so far
abbrev pub invariant-loop-kind : goal.invariant-loop-kind
invariant-loop-kind l =
    (length l.fields.items ≡ l.kind-index)
    × (map field_of l.fields.items ≡ map (operand_field (draft_numbers (draft_of l.draft) l.len)) (take l.kind-index l.kind-items))
