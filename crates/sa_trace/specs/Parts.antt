-- A record as its kind and its fields, and back.
use Rattle.std.specs.Prelude.{ℕ, ◌==◌, Option, Some, None, List, [], ◌∷◌, length, slice_index_or, if◌then◌else◌}
use Rattle.std.specs.Option.{option_map}
use Rattle.sa_base.specs.declared.number.ProcNo.{ProcNo}
use Rattle.sa_base.specs.declared.number.SpaceNo.{SpaceNo}
use Rattle.sa_base.specs.declared.number.ThreadNo.{ThreadNo}
use Rattle.sa_base.specs.declared.number.ActNo.{ActNo}
use Rattle.sa_base.specs.declared.number.IoNo.{IoNo}
use Rattle.sa_trace.specs.declared.field.Field.TheVariants as Fields
use Rattle.sa_trace.specs.declared.kind.Kind.{Kind}
use Rattle.sa_trace.specs.declared.kind.Kind.TheVariants as Kinds
use Rattle.sa_base.specs.declared.record.Note.TheVariants.{Add, Preempted, Blocked, Unblocked}
use Rattle.sa_base.specs.declared.record.Record.{Record}
use Rattle.sa_base.specs.declared.record.Record.TheVariants.{Ins, Out, Run, Stop, Block, Unblock, Cont, Back, Ready, Take, Free, Up, Told, Move, Want, Aim, Line, Fetch, Fetched, GiveBack, Idle, Spin, Tick}
use Rattle.sa_trace.specs.Field.{AllFit, number_in, optional_in}
use Rattle.sa_trace.specs.Kind.{form_of}

-- a kind and its fields, each a number or absent
pub record RecordParts : Type 0 where
  pub kind : Kind
  pub fields : List (Option ℕ)

abbrev pub parts : Kind → List (Option ℕ) → RecordParts
parts kind fields = record { kind = kind; fields = fields }

-- the fields are those that the kind has, each in its range
abbrev pub FitTheKind : RecordParts → Type 0
FitTheKind p = AllFit (form_of p.kind).fields p.fields

-- the number of a thread, or of a space, that may be absent
abbrev pub thread_number : Option ThreadNo → Option ℕ
thread_number t = option_map (λ (n : ThreadNo). n.0) t

abbrev pub space_number : Option SpaceNo → Option ℕ
space_number s = option_map (λ (n : SpaceNo). n.0) s

-- the kind and the fields of a record
abbrev pub parts_of : Record → RecordParts
parts_of (Ins s t i) = parts Kinds.Ins (Some s.0 ∷ Some t.0 ∷ Some i ∷ [])
parts_of (Out s t v) = parts Kinds.Out (Some s.0 ∷ Some t.0 ∷ Some v ∷ [])
parts_of (Run s t) = parts Kinds.Run (Some s.0 ∷ Some t.0 ∷ [])
parts_of (Stop s t a) = parts Kinds.Stop (Some s.0 ∷ thread_number t ∷ Some a.0 ∷ [])
parts_of (Block s t a io) = parts Kinds.Block (Some s.0 ∷ thread_number t ∷ Some a.0 ∷ Some io.0 ∷ [])
parts_of (Unblock s t a) = parts Kinds.Unblock (Some s.0 ∷ thread_number t ∷ Some a.0 ∷ [])
parts_of (Cont s t) = parts Kinds.Cont (Some s.0 ∷ thread_number t ∷ [])
parts_of (Back s t) = parts Kinds.Back (Some s.0 ∷ thread_number t ∷ [])
parts_of (Ready s t) = parts Kinds.Ready (Some s.0 ∷ Some t.0 ∷ [])
parts_of (Take s l t) = parts Kinds.Take (Some s.0 ∷ Some l.0 ∷ thread_number t ∷ [])
parts_of (Free s l t) = parts Kinds.Free (Some s.0 ∷ Some l.0 ∷ thread_number t ∷ [])
parts_of (Up s a) = parts Kinds.Up (Some s.0 ∷ Some a.0 ∷ [])
parts_of (Told (Add p)) = parts Kinds.ToldAdd (Some p.0 ∷ [])
parts_of (Told (Preempted a)) = parts Kinds.ToldPreempted (Some a.0 ∷ [])
parts_of (Told (Blocked a)) = parts Kinds.ToldBlocked (Some a.0 ∷ [])
parts_of (Told (Unblocked a)) = parts Kinds.ToldUnblocked (Some a.0 ∷ [])
parts_of (Move o n) = parts Kinds.Move (space_number o ∷ space_number n ∷ [])
parts_of (Want s n) = parts Kinds.Want (Some s.0 ∷ Some n ∷ [])
parts_of (Aim p s) = parts Kinds.Aim (Some p.0 ∷ space_number s ∷ [])
parts_of (Line p) = parts Kinds.Line (Some p.0 ∷ [])
parts_of (Fetch s) = parts Kinds.Fetch (Some s.0 ∷ [])
parts_of (Fetched s) = parts Kinds.Fetched (Some s.0 ∷ [])
parts_of (GiveBack a) = parts Kinds.GiveBack (Some a.0 ∷ [])
parts_of Idle = parts Kinds.Idle []
parts_of (Spin l) = parts Kinds.Spin (Some l.0 ∷ [])
parts_of Tick = parts Kinds.Tick []

-- the field at a place
abbrev pub field_at : List (Option ℕ) → ℕ → Option ℕ
field_at fields k = slice_index_or fields k None

-- what the field at a place names, if its number is in its range
abbrev pub space_at : List (Option ℕ) → ℕ → Option SpaceNo
space_at fields k = option_map (λ n. record { 0 = n }) (number_in Fields.Space (field_at fields k))

abbrev pub thread_at : List (Option ℕ) → ℕ → Option ThreadNo
thread_at fields k = option_map (λ n. record { 0 = n }) (number_in Fields.Thread (field_at fields k))

abbrev pub processor_at : List (Option ℕ) → ℕ → Option ProcNo
processor_at fields k = option_map (λ n. record { 0 = n }) (number_in Fields.Processor (field_at fields k))

abbrev pub activation_at : List (Option ℕ) → ℕ → Option ActNo
activation_at fields k = option_map (λ n. record { 0 = n }) (number_in Fields.Activation (field_at fields k))

abbrev pub io_at : List (Option ℕ) → ℕ → Option IoNo
io_at fields k = option_map (λ n. record { 0 = n }) (number_in Fields.Io (field_at fields k))

-- the same where it may be absent
abbrev pub optional_space_at : List (Option ℕ) → ℕ → Option (Option SpaceNo)
optional_space_at fields k =
    option_map (λ field. option_map (λ n. record { 0 = n }) field) (optional_in Fields.OptionalSpace (field_at fields k))

abbrev pub optional_thread_at : List (Option ℕ) → ℕ → Option (Option ThreadNo)
optional_thread_at fields k =
    option_map (λ field. option_map (λ n. record { 0 = n }) field) (optional_in Fields.OptionalThread (field_at fields k))

-- what is made of several things, where there is each of them
abbrev pub from_two : {A B C : Type 0} → (A → B → C) → Option A → Option B → Option C
from_two make (Some a) (Some b) = Some (make a b)
from_two make _ _ = None

abbrev pub from_three : {A B C D : Type 0} → (A → B → C → D) → Option A → Option B → Option C → Option D
from_three make (Some a) (Some b) (Some c) = Some (make a b c)
from_three make _ _ _ = None

abbrev pub from_four : {A B C D E : Type 0} → (A → B → C → D → E) → Option A → Option B → Option C → Option D → Option E
from_four make (Some a) (Some b) (Some c) (Some d) = Some (make a b c d)
from_four make _ _ _ _ = None

-- the record of a kind whose fields begin like these, if they are in their ranges
abbrev pub record_from : Kind → List (Option ℕ) → Option Record
record_from Kinds.Ins f = from_three Ins (space_at f 0) (thread_at f 1) (number_in Fields.Place (field_at f 2))
record_from Kinds.Out f = from_three Out (space_at f 0) (thread_at f 1) (number_in Fields.Value (field_at f 2))
record_from Kinds.Run f = from_two Run (space_at f 0) (thread_at f 1)
record_from Kinds.Stop f = from_three Stop (space_at f 0) (optional_thread_at f 1) (activation_at f 2)
record_from Kinds.Block f = from_four Block (space_at f 0) (optional_thread_at f 1) (activation_at f 2) (io_at f 3)
record_from Kinds.Unblock f = from_three Unblock (space_at f 0) (optional_thread_at f 1) (activation_at f 2)
record_from Kinds.Cont f = from_two Cont (space_at f 0) (optional_thread_at f 1)
record_from Kinds.Back f = from_two Back (space_at f 0) (optional_thread_at f 1)
record_from Kinds.Ready f = from_two Ready (space_at f 0) (thread_at f 1)
record_from Kinds.Take f = from_three Take (space_at f 0) (processor_at f 1) (optional_thread_at f 2)
record_from Kinds.Free f = from_three Free (space_at f 0) (processor_at f 1) (optional_thread_at f 2)
record_from Kinds.Up f = from_two Up (space_at f 0) (activation_at f 1)
record_from Kinds.ToldAdd f = option_map (λ p. Told (Add p)) (processor_at f 0)
record_from Kinds.ToldPreempted f = option_map (λ a. Told (Preempted a)) (activation_at f 0)
record_from Kinds.ToldBlocked f = option_map (λ a. Told (Blocked a)) (activation_at f 0)
record_from Kinds.ToldUnblocked f = option_map (λ a. Told (Unblocked a)) (activation_at f 0)
record_from Kinds.Move f = from_two Move (optional_space_at f 0) (optional_space_at f 1)
record_from Kinds.Want f = from_two Want (space_at f 0) (number_in Fields.Demand (field_at f 1))
record_from Kinds.Aim f = from_two Aim (processor_at f 0) (optional_space_at f 1)
record_from Kinds.Line f = option_map Line (processor_at f 0)
record_from Kinds.Fetch f = option_map Fetch (space_at f 0)
record_from Kinds.Fetched f = option_map Fetched (space_at f 0)
record_from Kinds.GiveBack f = option_map GiveBack (activation_at f 0)
record_from Kinds.Idle f = Some Idle
record_from Kinds.Spin f = option_map Spin (processor_at f 0)
record_from Kinds.Tick f = Some Tick

-- the record of a kind with these fields, if they are as many as it has and in their ranges
abbrev pub record_of : Kind → List (Option ℕ) → Option Record
record_of kind fields = if length fields == length (form_of kind).fields then record_from kind fields else None
