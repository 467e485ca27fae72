-- How large the numbers of a line can be, as wide as the reader keeps them. What reads line by line cites this; no clause of
-- what reads a whole text does.
use Rattle.std.specs.Prelude.{ℕ, ◌^◌, ◌<◌, ◌==◌, if◌then◌else◌, List, [], ◌∷◌, map, Option, None, Some, ⊤, codes}
use Rattle.std.specs.Str.{bytes_eq}
use Rattle.sa_instr.specs.declared.operand.OperandKind.{OperandKind}
use Rattle.sa_instr.specs.declared.operand.OperandKind.TheVariants as Kinds
use Rattle.sa_instr.specs.declared.operation.Operation.{Operation}
use Rattle.sa_instr.specs.Operation.{form_of, operation_of}
use Rattle.sa_workload.specs.declared.stage.MachineLine.{MachineLine}
use Rattle.sa_workload.specs.declared.stage.MachineLine.TheVariants.{Version, Processors, Fetch, Slice, Spaces}
use Rattle.sa_workload.specs.declared.stage.Reader.{Reader}
use Rattle.sa_workload.specs.declared.stage.Stage.{Stage}
use Rattle.sa_workload.specs.declared.stage.Stage.TheVariants.{Machine, Space, Sem, Absent, Program, Instr, Evict, Turn, Closed}

-- as many numbers as limits, each below its own
abbrev pub AreBelow : List ℕ → List ℕ → Type 0
AreBelow [] [] = ⊤
AreBelow (limit ∷ limits) (n ∷ ns) = (n < limit) × AreBelow limits ns
AreBelow _ _ = ⊥

-- a line before those of the spaces
abbrev pub room_of : MachineLine → ℕ
room_of Version = 2 ^ 16
room_of Processors = 2 ^ 16
room_of Fetch = 2 ^ 32
room_of Slice = 2 ^ 32
room_of Spaces = 2 ^ 16

-- the first line of a space, in a text of this version
abbrev pub space_rooms : ℕ → List ℕ
space_rooms version =
    2 ^ 8 ∷ 2 ^ 16 ∷ 2 ^ 16 ∷ 2 ^ 16 ∷ 2 ^ 16 ∷ (if version == 3 then 2 ^ 16 ∷ [] else [])

-- a turn, or the last line
abbrev pub turn_rooms : List ℕ → List ℕ
turn_rooms word = if bytes_eq word (codes "turn") then 2 ^ 16 ∷ [] else []

-- an eviction, or a line after all of them
abbrev pub evict_rooms : List ℕ → List ℕ
evict_rooms word = if bytes_eq word (codes "evict") then 2 ^ 64 ∷ 2 ^ 16 ∷ 2 ^ 16 ∷ [] else turn_rooms word

-- an operand
abbrev pub room_for : OperandKind → ℕ
room_for Kinds.Register = 8
room_for Kinds.Value = 2 ^ 64
room_for Kinds.Length = 2 ^ 32
room_for _ = 2 ^ 16

-- the operands of an operation, where there is one
abbrev pub AllHaveRoom : Option Operation → List ℕ → Type 0
AllHaveRoom None ns = ⊤
AllHaveRoom (Some operation) ns = AreBelow (map room_for (form_of operation).operands) ns

-- the numbers after the word in the next line
abbrev pub RoomsAt : Reader → Stage → List ℕ → List ℕ → Type 0
RoomsAt r (Machine line) word ns = AreBelow (room_of line ∷ []) ns
RoomsAt r Space word ns = AreBelow (space_rooms r.header.version) ns
RoomsAt r Sem word ns = AreBelow (2 ^ 32 ∷ []) ns
RoomsAt r Absent word ns = AreBelow (2 ^ 16 ∷ []) ns
RoomsAt r Program word ns = AreBelow (2 ^ 16 ∷ []) ns
RoomsAt r Instr word ns = AllHaveRoom (operation_of word) ns
RoomsAt r Evict word ns = AreBelow (evict_rooms word) ns
RoomsAt r Turn word ns = AreBelow (turn_rooms word) ns
RoomsAt r Closed word ns = ⊤
