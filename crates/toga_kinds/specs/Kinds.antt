-- Each turn of a run is of one of six kinds, by its records.
use Rattle.std.specs.Prelude.{◌≡◌, ℕ, zero, suc, ◌+◌, ◌<◌, ◌==◌, ◌&&◌, Bool, true, false, if◌then◌else◌, nat_lt, List, [], ◌∷◌, length, All, count_by}
use Rattle.std.specs.List.{fold, flat_map}
use Rattle.sa_base.specs.declared.number.ProcNo.{ProcNo}
use Rattle.sa_base.specs.declared.record.Record.{Record}
use Rattle.sa_base.specs.declared.record.Record.TheVariants as record_of
use Rattle.sa_base.specs.declared.record.Item.{Item}
use Rattle.sa_laws.specs.Event.{Event, events_of}
use Rattle.toga_kinds.specs.declared.kind.Kind.{Kind}
use Rattle.toga_kinds.specs.declared.kind.Kind.TheVariants.{Unowned, Idle, Spinning, Instructions, Package, Kernel}
use Rattle.toga_kinds.specs.declared.kind.Turn.{Turn}

-- the kind that a record makes its event
abbrev pub kind_of_record : Record → Kind
kind_of_record record_of.Tick = Unowned
kind_of_record record_of.Idle = Idle
kind_of_record (record_of.Spin l) = Spinning
kind_of_record (record_of.Ins s t i) = Instructions
kind_of_record (record_of.Take s l t) = Package
kind_of_record (record_of.Ready s t) = Package
kind_of_record (record_of.Run s t) = Package
kind_of_record (record_of.Free s l t) = Package
kind_of_record (record_of.Cont s t) = Package
kind_of_record (record_of.Back s t) = Package
kind_of_record _ = Kernel

-- the place of a kind in their order
abbrev pub order_of : Kind → ℕ
order_of Unowned = 0
order_of Idle = 1
order_of Spinning = 2
order_of Instructions = 3
order_of Package = 4
order_of Kernel = 5

abbrev pub is_same : Kind → Kind → Bool
is_same a b = order_of a == order_of b

-- the one of two kinds that comes first in that order
abbrev pub first_of : Kind → Kind → Kind
first_of a b = if nat_lt (order_of b) (order_of a) then b else a

-- the first kind that a record of these makes their event
abbrev pub kind_of : List Record → Kind
kind_of records = fold (λ kind x. first_of kind (kind_of_record x)) Kernel records

-- the turns of a history: each event but the opening, whose number is 0
abbrev pub turn_of : Event → Turn
turn_of e = record { proc = e.proc; kind = kind_of e.records }

abbrev pub turn_if : Event → List Turn
turn_if e = if e.number == 0 then [] else turn_of e ∷ []

unfoldable pub turns_of : List Item → List Turn
turns_of items = flat_map turn_if (events_of items)

-- how many turns are of a processor; of a kind; of both
abbrev pub is_on : ProcNo → Turn → Bool
is_on p turn = turn.proc.0 == p.0

abbrev pub events_on : List Turn → ProcNo → ℕ
events_on turns p = count_by (is_on p) turns

abbrev pub is_of_kind : Kind → Turn → Bool
is_of_kind kind turn = is_same turn.kind kind

abbrev pub of_kind : List Turn → Kind → ℕ
of_kind turns kind = count_by (is_of_kind kind) turns

abbrev pub counts_here : ProcNo → Kind → Turn → Bool
counts_here p kind turn = is_on p turn && is_of_kind kind turn

abbrev pub count : List Turn → ProcNo → Kind → ℕ
count turns p kind = count_by (counts_here p kind) turns

-- a sum over the six kinds
abbrev pub over_kinds : (Kind → ℕ) → ℕ
over_kinds f = f Unowned + f Idle + f Spinning + f Instructions + f Package + f Kernel

-- a sum over the processors below n
unfoldable pub over_processors : (ProcNo → ℕ) → ℕ → ℕ
over_processors f zero = 0
over_processors f (suc n) = over_processors f n + f (record { 0 = n })

-- the kinds add up to the events of a processor, and of all; the processors to the turns, if the processors of these are below n
abbrev pub KindsAddUpOn : Type 0
KindsAddUpOn = (turns : List Turn) (p : ProcNo) → over_kinds (count turns p) ≡ events_on turns p

abbrev pub KindsAddUp : Type 0
KindsAddUp = (turns : List Turn) → over_kinds (of_kind turns) ≡ length turns

abbrev pub ProcessorsAddUp : Type 0
ProcessorsAddUp = (turns : List Turn) (n : ℕ) → All (λ turn. turn.proc.0 < n) turns → over_processors (events_on turns) n ≡ length turns
