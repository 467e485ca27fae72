-- What holds of every text that is written of cells and records.
use Rattle.std.specs.Prelude.{◌≡◌, Bool, true, List, Option}
use Rattle.sa_base.specs.declared.record.Record.{Record}
use Rattle.sa_base.specs.declared.number.ActNo.{ActNo}
use Rattle.sa_instr.specs.declared.instr.Instr.{Instr}
use Rattle.sa_svg.specs.Laws.{is_plain}
use Rattle.sa_check_moment.specs.Seen.{Seen}
use Rattle.sa_cells.specs.declared.cell.Cell.{Cell}
use Rattle.sa_cells.specs.Name.{name_of}
use Rattle.sa_cells.specs.Text.{text_of}
use Rattle.sa_cells.specs.Words.{words_of}

-- no byte of them is a sign of markup, so none needs an escape
abbrev pub NamesArePlain : Type 0
NamesArePlain = (c : Cell) → is_plain (name_of c) ≡ true

abbrev pub TextsArePlain : Type 0
TextsArePlain = (ups : List ActNo) (m : Seen) (c : Cell) → is_plain (text_of ups m c) ≡ true

abbrev pub WordsArePlain : Type 0
WordsArePlain = (in_copy : Bool) (instr : Option Instr) (what : Record) → is_plain (words_of in_copy instr what) ≡ true
