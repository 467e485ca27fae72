-- A record and its parts undo each other.
use Rattle.std.specs.Prelude.{◌≡◌, ◌↔◌, ℕ, Option, Some, List, IsSome}
use Rattle.sa_trace.specs.declared.kind.Kind.{Kind}
use Rattle.sa_base.specs.declared.record.Record.{Record}
use Rattle.sa_trace.specs.Kind.{form_of}
use Rattle.sa_trace.specs.Parts.{FitTheKind, parts, parts_of, record_of}

-- the kind and the fields of a record whose numbers are in their ranges make the record
abbrev pub PartsMakeTheRecord : Type 0
PartsMakeTheRecord =
    (r : Record) → FitTheKind (parts_of r) → record_of (parts_of r).kind (parts_of r).fields ≡ Some r

-- what a kind and fields make has this kind and these fields
abbrev pub RecordsHaveTheParts : Type 0
RecordsHaveTheParts =
    (kind : Kind) (fields : List (Option ℕ)) (r : Record) → record_of kind fields ≡ Some r → parts_of r ≡ parts kind fields

-- a kind and fields make a record exactly where the fields fit the kind
abbrev pub FittingPartsMakeRecords : Type 0
FittingPartsMakeRecords =
    (kind : Kind) (fields : List (Option ℕ)) → IsSome (record_of kind fields) ↔ FitTheKind (parts kind fields)

-- no two kinds have one word
abbrev pub WordsDiffer : Type 0
WordsDiffer = (a b : Kind) → (form_of a).word ≡ (form_of b).word → a ≡ b
