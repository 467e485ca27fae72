-- The records of one event are gathered, as a reader's lines tell them.
use Rattle.std.specs.Prelude.{◌≡◌, ◌≢◌, false, List, [], ◌∷◌, Option, Some, None, Result, Ok, Err}
use Rattle.sa_base.specs.declared.record.Record.{Record}
use Rattle.sa_base.specs.declared.record.Item.{Item}
use Rattle.sa_base.specs.declared.refusal.Bad.{Bad}
use Rattle.sa_base.specs.declared.refusal.Unread.{Unread}
use Rattle.sa_base.specs.Items.{items_at}
use Rattle.sa_laws.specs.Ends.{LastLine}
use Rattle.sa_trace.specs.declared.line.Said.{Said}
use Rattle.sa_trace.specs.declared.line.Said.TheVariants.{Next, Last}
use Rattle.sa_trace.specs.Reading.{Told}
use Rattle.sa_trace.specs.Reader.{in_front, with_said}
use Rattle.sa_check.specs.Items.{is_with}

-- what a line says is no item of one event with this one
abbrev pub IsOther : Item → Said → Type 0
IsOther first (Next item) = is_with first item ≡ false
IsOther first (Last end events) = Unit {0}

-- the last line, if this is said by it
abbrev pub line_said : Said → Option LastLine
line_said (Next item) = None
line_said (Last end events) = Some (record { end = end; events = events })

-- these are the records of the event that begins with this item: the item, and what was left to tell after it, are the items of these records, and after them
-- what the next line says and what is left then
pub record HasGathered (first : Item) (before after : Result Told Bad) (records : List Record) (said : Said) : Type 0 where
  pub some : records ≢ []
  pub cut : in_front (first ∷ []) before ≡ in_front (items_at first.event first.proc records) (with_said said after)
  pub other : IsOther first said

-- the records of an event are gathered, or a line on the way is bad
abbrev pub Gathers : Item → Result Told Bad → Result Told Bad → List Record → Result Said Unread → Type 0
Gathers first before after records (Ok said) = HasGathered first before after records said
Gathers first before after records (Err (Unread.Bad bad)) = before ≡ Err bad
Gathers first before after records (Err Unread.OutOfMemory) = Unit {0}
