-- What a closing writes, and the opening, are records of a closing.
use Rattle.std.proofs.Common.{◌≡◌, ℕ, ◌++◌, ◌∷◌, [], List, true, ◌&&◌, Option, Some, None, map, refl, ap, ◌∙◌}
use Rattle.std.specs.List.{list_all}
use Rattle.std.proofs.lemmas.List.Folds.{list_all-append}
use Rattle.sa_base.specs.declared.number.SpaceNo.{SpaceNo}
use Rattle.sa_base.specs.declared.record.Record.{Record}
use Rattle.sa_spaces.specs.Workload.{WorkloadView}
use Rattle.sa_assign.specs.Aims.{Change}
use Rattle.sa_assign.specs.Reaim.{proc_no, line_at, line_records, lines_with, records_of}
use Rattle.sa_laws.specs.Shape.{is_of_closing}
use Rattle.sa_laws.specs.Readings.{opening_readings}
use Rattle.sa_laws.specs.History.{after_records}
use Rattle.sa_laws.specs.Closing.{want_one, spaces_of, aims_due}
use Rattle.sa_laws.specs.Opening.{first_wants, opening_records}

abbrev pub AreClosing : List Record → Type 0
AreClosing xs = list_all is_of_closing xs ≡ true

pub closing-append : (xs ys : List Record) → AreClosing xs → AreClosing ys → AreClosing (xs ++ ys)
closing-append xs ys one two = list_all-append is_of_closing xs ys ∙ ap (λ c. c && list_all is_of_closing ys) one ∙ two

pub closing-wants : (spaces : List SpaceNo) → AreClosing (map want_one spaces)
closing-wants [] = refl
closing-wants (s ∷ spaces) = closing-wants spaces

pub closing-aims : (event : ℕ) (lines : List (Option ℕ)) (cs : List Change) → AreClosing (records_of event lines cs)
closing-aims event lines [] = refl
closing-aims event lines (c ∷ cs) =
    let after = lines_with event lines c in
    closing-append (line_records c.proc (line_at lines c.proc)) (records_of event after cs) (line (line_at lines c.proc)) (closing-aims event after cs)
  where
    line : (at : Option ℕ) → AreClosing (line_records c.proc at)
    line None = refl
    line (Some earlier) = refl

pub closing-opening : (w : WorkloadView) → AreClosing (opening_records w)
closing-opening w =
    let wanting = after_records w 0 (proc_no 0) (opening_readings w) (first_wants w) in
    let changes = aims_due w 0 wanting in
    closing-append (first_wants w) (records_of 0 wanting.lines changes) (closing-wants (spaces_of w)) (closing-aims 0 wanting.lines changes)
