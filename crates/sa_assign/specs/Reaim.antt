-- What changed aims do to an assignment, and how they are recorded.
use Rattle.std.specs.Prelude.{ℕ, List, [], ◌∷◌, ◌++◌, Option, Some, None, slice_index_or, slice_set}
use Rattle.sa_base.specs.declared.number.ProcNo.{ProcNo}
use Rattle.sa_base.specs.declared.record.Record.{Record}
use Rattle.sa_base.specs.declared.record.Record.TheVariants.{Aim, Line}
use Rattle.sa_base.specs.declared.record.Item.{Item}
use Rattle.sa_base.specs.Items.{items_at}
use Rattle.sa_assign.specs.AssignView.{AssignView}
use Rattle.sa_assign.specs.Aims.{Change, space_no, aims_after, changes}

-- a processor by its number
abbrev pub proc_no : ℕ → ProcNo
proc_no p = record { 0 = p }

-- the event that raised the line of a processor, none where it is low
abbrev pub line_at : List (Option ℕ) → ℕ → Option ℕ
line_at lines p = slice_index_or lines p None

-- a line that is due is raised by this event, unless it is raised already
abbrev pub raised : ℕ → Option ℕ → Option ℕ
raised event None = Some event
raised event (Some earlier) = Some earlier

-- the lines after a change
abbrev pub lines_with : ℕ → List (Option ℕ) → Change → List (Option ℕ)
lines_with event lines c = slice_set lines c.proc (raised event (line_at lines c.proc))

abbrev pub lines_after : ℕ → List (Option ℕ) → List Change → List (Option ℕ)
lines_after event lines [] = lines
lines_after event lines (c ∷ cs) = lines_after event (lines_with event lines c) cs

-- the record of a raised line, where it was low
abbrev pub line_records : ℕ → Option ℕ → List Record
line_records p None = Line (proc_no p) ∷ []
line_records p (Some earlier) = []

-- the records of changes by this event: each aim, and after it its line where that was low
abbrev pub records_of : ℕ → List (Option ℕ) → List Change → List Record
records_of event lines [] = []
records_of event lines (c ∷ cs) =
    Aim (proc_no c.proc) (Some (space_no c.space))
    ∷ (line_records c.proc (line_at lines c.proc) ++ records_of event (lines_with event lines c) cs)

-- the assignment after changes by this event
abbrev pub changed : ℕ → AssignView → List Change → AssignView
changed event a cs = record a { aims = aims_after a.aims cs; lines = lines_after event a.lines cs }

-- the changes until each of that many spaces has its share
abbrev pub changes_in : ℕ → List ℕ → AssignView → List Change
changes_in spaces shares a = changes spaces shares a.marks a.aims

-- the assignment when the aims are changed until each of that many spaces has its share
abbrev pub reaimed : ℕ → ℕ → List ℕ → AssignView → AssignView
reaimed event spaces shares a = changed event a (changes_in spaces shares a)

-- the records of these changes
abbrev pub reaim_records : ℕ → ℕ → List ℕ → AssignView → List Record
reaim_records event spaces shares a = records_of event a.lines (changes_in spaces shares a)

-- an assignment and the items of a trace, after changes by this event of this processor
abbrev pub carried_out : ℕ → ProcNo → List Change → AssignView × List Item → AssignView × List Item
carried_out event proc cs x = (changed event x.0 cs, x.1 ++ items_at event proc (records_of event x.0.lines cs))
