-- What a reader of a trace text has still to tell.
use Rattle.std.specs.Prelude.{ℕ, ◌+◌, ◌-◌, List, [], ◌∷◌, ◌++◌, Some, Result, Ok, Err, slice_index, slice_set}
use Rattle.sa_base.specs.declared.record.Item.{Item}
use Rattle.sa_base.specs.declared.refusal.Bad.{Bad}
use Rattle.sa_base.specs.declared.refusal.Cause.TheVariants.{Missing}
use Rattle.sa_base.specs.Cause.{bad_at}
use Rattle.sa_text.specs.LineText.{LineText}
use Rattle.sa_trace.specs.declared.line.Said.{Said}
use Rattle.sa_trace.specs.declared.line.Said.TheVariants.{Next, Last}
use Rattle.sa_trace.specs.Pieces.{unless}
use Rattle.sa_trace.specs.TraceText.{kind_number}
use Rattle.sa_trace.specs.declared.so_far.SoFar.{SoFar}
use Rattle.sa_trace.specs.Line.{line_in}
use Rattle.sa_trace.specs.Reading.{Told, told, bad_after, cause_after, after_line}

-- some items in front of what is told
abbrev pub in_front : List Item → Result Told Bad → Result Told Bad
in_front items (Ok t) = Ok (told (items ++ t.items) t.end t.events)
in_front items (Err bad) = Err bad

-- what a line says, and what the lines after it are read as
abbrev pub with_said : Said → Result Told Bad → Result Told Bad
with_said (Next item) rest = in_front (item ∷ []) rest
with_said (Last end events) rest = Ok (told [] end events)

-- one more is counted at this place
abbrev pub counted : ℕ → List ℕ → List ℕ
counted place counts = slice_set counts place (slice_index counts place + 1)

-- one item more
abbrev pub and_item : Item → SoFar → SoFar
and_item item so = record { last = Some item; counts = counted (kind_number item.what - 1) so.counts }

-- what lines are read as, of which the first has this number, after what is so far
unfoldable pub read_on : ℕ → SoFar → List LineText → Result Told Bad
read_on number so [] = Err (bad_at number Missing)
read_on number so (line ∷ rest) =
    after_line number (line_in so line) (λ item. in_front (item ∷ []) (read_on (number + 1) (and_item item so) rest))
    (λ end events. unless (bad_after cause_after (number + 1) rest) (told [] end events))

-- where a reader is: the number of the next line, what a line may depend on of those before it, and the lines that are still to come
pub record LeftToRead : Type 0 where
  pub number : ℕ
  pub so : SoFar
  pub lines : List LineText

-- what the lines that are still to come are read as
abbrev pub left : LeftToRead → Result Told Bad
left at = read_on at.number at.so at.lines
