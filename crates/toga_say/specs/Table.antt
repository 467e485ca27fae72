-- The table of the turns of each processor, by their kinds.
use Rattle.std.specs.Prelude.{ℕ, zero, suc, ◌-◌, ◌++◌, List, [], ◌∷◌, length, map, max, replicate, codes, decimal, slice_index}
use Rattle.std.specs.List.{fold, flat_map, range_with_len, enumerate_from}
use Rattle.sa_base.specs.declared.number.ProcNo.{ProcNo}
use Rattle.toga_kinds.specs.declared.kind.Kind.TheVariants.{Unowned, Idle, Spinning, Instructions, Package, Kernel}
use Rattle.toga_kinds.specs.declared.kind.Turn.{Turn}
use Rattle.toga_kinds.specs.Kinds.{count, events_on}
use Rattle.toga_source.specs.Show.{with_numbers}
use Rattle.toga_say.specs.declared.table.Column.{Column}
use Rattle.toga_say.specs.declared.table.Column.TheVariants as column
use Rattle.toga_say.specs.declared.table.TheConstants.{COLUMNS}

-- the head of a column, and its number of a processor
abbrev pub head_of : Column → List ℕ
head_of column.Events = codes "events"
head_of column.Instructions = codes "instructions"
head_of column.Package = codes "package"
head_of column.Kernel = codes "kernel"
head_of column.Idle = codes "idle"
head_of column.Spinning = codes "spinning"
head_of column.Unowned = codes "unowned"

abbrev pub number_of : List Turn → ProcNo → Column → ℕ
number_of turns p column.Events = events_on turns p
number_of turns p column.Instructions = count turns p Instructions
number_of turns p column.Package = count turns p Package
number_of turns p column.Kernel = count turns p Kernel
number_of turns p column.Idle = count turns p Idle
number_of turns p column.Spinning = count turns p Spinning
number_of turns p column.Unowned = count turns p Unowned

-- a word at the right of so many columns, or at their left
abbrev pub right : ℕ → List ℕ → List ℕ
right width word = replicate (width - length word) 32 ++ word

abbrev pub left : ℕ → List ℕ → List ℕ
left width word = word ++ replicate (width - length word) 32

-- a column is as wide as its head, and as its widest number of the processors below n
abbrev pub widest : List Turn → Column → ℕ → ℕ
widest turns c zero = length (head_of c)
widest turns c (suc p) = max (widest turns c p) (length (decimal (number_of turns (record { 0 = p }) c)))

-- the table of n processors: its head, and a row for each
abbrev pub head_cell : List Turn → (n : ℕ) → Column → List ℕ
head_cell turns n c = codes "  " ++ right (widest turns c n) (head_of c)

abbrev pub cell : List Turn → (n : ℕ) → ProcNo → Column → List ℕ
cell turns n p c = codes "  " ++ right (widest turns c n) (decimal (number_of turns p c))

unfoldable pub head_text : List Turn → ℕ → List ℕ
head_text turns n = codes "  processor" ++ flat_map (head_cell turns n) COLUMNS.now ++ codes "\n"

-- a row: the number of its processor, and its cells
unfoldable pub first_text : ℕ → List ℕ
first_text p = left 9 (decimal p)

unfoldable pub numbers_text : List Turn → (n : ℕ) → ℕ → List ℕ
numbers_text turns n p = flat_map (cell turns n (record { 0 = p })) COLUMNS.now

unfoldable pub row_text : List Turn → (n : ℕ) → ℕ → List ℕ
row_text turns n p = codes "  " ++ first_text p ++ numbers_text turns n p ++ codes "\n"

unfoldable pub table_text : List Turn → ℕ → List ℕ
table_text turns n = head_text turns n ++ flat_map (row_text turns n) (range_with_len 0 n)
