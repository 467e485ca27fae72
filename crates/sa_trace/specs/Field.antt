-- What the fields of records hold: numbers, of which some may be absent.
use Rattle.std.specs.Prelude.{ℕ, ◌^◌, ◌-◌, ◌≤◌, true, false, IsTrue, Option, Some, None, List, [], ◌∷◌, nat_le, if◌then◌else◌}
use Rattle.sa_trace.specs.declared.field.Field.{Field}
use Rattle.sa_trace.specs.declared.field.Field.TheVariants.{Space, OptionalSpace, Thread, OptionalThread, Processor, Activation, Io, Place, Value, Demand}
use Rattle.sa_trace.specs.declared.field.FieldRange.{FieldRange}

-- a number of that many bits
abbrev pub bits : ℕ → FieldRange
bits n = record { greatest = 2 ^ n - 1; optional = false }

-- a number of that many bits, or none
abbrev pub optional_bits : ℕ → FieldRange
optional_bits n = record { greatest = 2 ^ n - 1; optional = true }

-- what a field may hold
abbrev pub range_of : Field → FieldRange
range_of Space = bits 16
range_of OptionalSpace = optional_bits 16
range_of Thread = bits 16
range_of OptionalThread = optional_bits 16
range_of Processor = bits 16
range_of Activation = bits 64
range_of Io = bits 32
range_of Place = bits 16
range_of Value = bits 64
range_of Demand = bits 16

-- the field may hold this
abbrev pub FitsField : Field → Option ℕ → Type 0
FitsField field None = IsTrue (range_of field).optional
FitsField field (Some n) = n ≤ (range_of field).greatest

-- there is a value for each field, which may hold it
abbrev pub AllFit : List Field → List (Option ℕ) → Type 0
AllFit [] [] = Unit {0}
AllFit (field ∷ fields) (value ∷ values) = FitsField field value × AllFit fields values
AllFit _ _ = ⊥

-- the number that a field holds, if there is one that it may hold
abbrev pub number_in : Field → Option ℕ → Option ℕ
number_in field None = None
number_in field (Some n) = if nat_le n (range_of field).greatest then Some n else None

-- the same of a field that may be absent
abbrev pub optional_in : Field → Option ℕ → Option (Option ℕ)
optional_in field None = Some None
optional_in field (Some n) = if nat_le n (range_of field).greatest then Some (Some n) else None
