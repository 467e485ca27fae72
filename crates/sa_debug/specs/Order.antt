-- Which processors are halted, and in which order the others have their turns.
use Rattle.std.specs.Prelude.{◌≡◌, ℕ, ◌+◌, ◌-◌, ◌<◌, ◌%◌, Bool, true, false, not, List, length, map, replicate, Option, Some, None, slice_get, slice_index_or}
use Rattle.std.specs.List.{range_with_len}
use Rattle.sa_base.specs.declared.limits.TheConstants.{MAX_PROCESSORS}
use Rattle.sa_base.specs.declared.number.ProcNo.{ProcNo}
use Rattle.sa_base.specs.declared.record.Item.{Item}
use Rattle.sa_assign.specs.Reaim.{proc_no}

-- for each processor whether it is halted, where none is
abbrev pub none_halted : List Bool
none_halted = replicate MAX_PROCESSORS false

-- the processor is not halted
abbrev pub goes : List Bool → ProcNo → Bool
goes halted p = not (slice_index_or halted p.0 false)

-- no processor is halted
abbrev pub EachGoes : List Bool → Type 0
EachGoes halted = (p : ProcNo) → p.0 < MAX_PROCESSORS → goes halted p ≡ true

-- a number of processors, cyclically from one on
abbrev pub in_order : ℕ → ℕ → List ProcNo
in_order first processors = map (λ k. proc_no ((first + k) % processors)) (range_with_len 0 processors)

-- the processor of the last item
abbrev pub proc_of : Option Item → ProcNo
proc_of None = proc_no 0
proc_of (Some item) = item.proc

abbrev pub last_proc : List Item → ProcNo
last_proc items = proc_of (slice_get items (length items - 1))
