-- What is written of cells: the event, the name, and the text.
use Rattle.std.specs.Prelude.{ℕ, List, [], ◌++◌, codes, decimal, if◌then◌else◌}
use Rattle.std.specs.List.{flat_map}
use Rattle.std.specs.Str.{bytes_eq}
use Rattle.sa_base.specs.declared.number.ActNo.{ActNo}
use Rattle.sa_base.specs.declared.record.Record.{Record}
use Rattle.sa_check_moment.specs.Seen.{Seen}
use Rattle.sa_cells.specs.declared.cell.Cell.{Cell}
use Rattle.sa_cells.specs.Name.{name_of}
use Rattle.sa_cells.specs.Text.{text_of}
use Rattle.sa_cells.specs.Cells.{cells_of}

-- a line: when, the cell's name, and what it holds from then on
unfoldable pub cell_line : List ℕ → List ℕ → List ℕ → List ℕ
cell_line time name text = time ++ codes " " ++ name ++ codes " " ++ text ++ codes "\n"

-- before any event
abbrev pub opening_line : Seen → Cell → List ℕ
opening_line m c = cell_line (codes "-") (name_of c) (text_of [] m c)

unfoldable pub opening_lines : Seen → List ℕ
opening_lines m = flat_map (opening_line m) (cells_of m m [])

-- after an event, with all ups up to then: the cell, if its text is another one than before
abbrev pub changed_line : ℕ → List ℕ → List ℕ → List ℕ → List ℕ
changed_line event name old new = if bytes_eq old new then [] else cell_line (decimal event) name new

abbrev pub change_line : ℕ → List ActNo → Seen → Seen → Cell → List ℕ
change_line event ups before m c = changed_line event (name_of c) (text_of ups before c) (text_of ups m c)

unfoldable pub change_lines : ℕ → List ActNo → Seen → Seen → List Record → List ℕ
change_lines event ups before m records = flat_map (change_line event ups before m) (cells_of before m records)
