-- The parts of an event's list of records.
use Rattle.std.specs.Prelude.{◌≡◌, ◌==◌, Bool, true, false, not, if◌then◌else◌, List, [], ◌∷◌, drop, filter, length, take_while, Option, Some, None}
use Rattle.sa_base.specs.declared.number.ProcNo.{ProcNo}
use Rattle.sa_base.specs.declared.number.SpaceNo.{SpaceNo}
use Rattle.sa_base.specs.declared.record.Note.{Note}
use Rattle.sa_base.specs.declared.record.Record.{Record}
use Rattle.sa_base.specs.declared.record.Record.TheVariants.{Up, Told, Move, Want, Aim, Line, Fetch}
use Rattle.sa_assign.specs.Aims.{Change}

-- the records of a kind
abbrev pub is_want : Record → Bool
is_want (Want s n) = true
is_want _ = false

-- a record that aims a processor at a space
abbrev pub is_aim_at : Record → Bool
is_aim_at (Aim p (Some s)) = true
is_aim_at _ = false

abbrev pub is_line : Record → Bool
is_line (Line p) = true
is_line _ = false

-- an event's own part, and after it its closing: the closing begins with the first want, aim at a space, or line that
-- is not the event's first record
abbrev pub is_of_closing : Record → Bool
is_of_closing (Want s n) = true
is_of_closing (Aim p (Some s)) = true
is_of_closing (Line p) = true
is_of_closing _ = false

abbrev pub is_own : Record → Bool
is_own x = not (is_of_closing x)

abbrev pub own_part : List Record → List Record
own_part [] = []
own_part (first ∷ others) = first ∷ take_while is_own others

abbrev pub closing_part : List Record → List Record
closing_part records = drop (length (own_part records)) records

-- all but the first
abbrev pub others_of : List Record → List Record
others_of records = drop 1 records

abbrev pub wants_in : List Record → List Record
wants_in records = filter is_want records

abbrev pub lines_in : List Record → List Record
lines_in records = filter is_line records

-- the aims at spaces, as changes
abbrev pub aims_in : List Record → List Change
aims_in [] = []
aims_in (Aim p (Some s) ∷ records) = record { proc = p.0; space = s.0 } ∷ aims_in records
aims_in (_ ∷ records) = aims_in records

-- the records before the first aim at a space
abbrev pub is_no_aim : Record → Bool
is_no_aim x = not (is_aim_at x)

abbrev pub before_aims : List Record → List Record
before_aims records = take_while is_no_aim records

-- the records before the first want that is not the event's first record
abbrev pub is_no_want : Record → Bool
is_no_want x = not (is_want x)

abbrev pub before_wants : List Record → List Record
before_wants [] = []
before_wants (first ∷ others) = first ∷ take_while is_no_want others

-- a line record that comes directly after an aim of its processor at a space; the records before the first other line
-- that is not the event's first record, and those from it on; `last` is the one directly before them
abbrev pub follows_aim : Option Record → ProcNo → Bool
follows_aim (Some (Aim p (Some s))) q = p.0 == q.0
follows_aim _ q = false

abbrev pub is_other_line : Option Record → Record → Bool
is_other_line last (Line q) = not (follows_aim last q)
is_other_line last _ = false

abbrev pub before_lines : Option Record → List Record → List Record
before_lines last [] = []
before_lines last (x ∷ xs) = if is_other_line last x then [] else x ∷ before_lines (Some x) xs

abbrev pub front_part : List Record → List Record
front_part [] = []
front_part (first ∷ others) = first ∷ before_lines (Some first) others

abbrev pub last_lines : List Record → List Record
last_lines records = drop (length (front_part records)) records

-- the notices of the run of told records with which a list begins
abbrev pub told_run : List Record → List Note
told_run (Told n ∷ records) = n ∷ told_run records
told_run _ = []

-- the records of the kinds that make a leave with which a list begins
abbrev pub is_of_leave : Record → Bool
is_of_leave (Move old new) = true
is_of_leave (Aim p None) = true
is_of_leave (Fetch s) = true
is_of_leave _ = false

abbrev pub leave_run : List Record → List Record
leave_run records = take_while is_of_leave records

-- a list begins with an up of this space
abbrev pub BeginsWithUp : SpaceNo → List Record → Type 0
BeginsWithUp s (Up of a ∷ records) = of ≡ s
BeginsWithUp s _ = ⊥
