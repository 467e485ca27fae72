-- What a text is read as: its lines in order, each after the items of those before it.
use Rattle.std.specs.Prelude.{◌≡◌, ℕ, ◌+◌, List, [], ◌∷◌, ◌++◌, Option, Some, None, Result, Ok, Err}
use Rattle.sa_base.specs.declared.record.End.{End}
use Rattle.sa_base.specs.declared.record.Item.{Item}
use Rattle.sa_base.specs.declared.refusal.Bad.{Bad}
use Rattle.sa_base.specs.declared.refusal.Cause.{Cause}
use Rattle.sa_base.specs.declared.refusal.Cause.TheVariants.{BadWord, Missing}
use Rattle.sa_base.specs.declared.refusal.Unread.{Unread}
use Rattle.sa_base.specs.Cause.{bad_at}
use Rattle.sa_text.specs.LineText.{LineText, line_texts}
use Rattle.sa_trace.specs.declared.line.Said.{Said}
use Rattle.sa_trace.specs.declared.line.Said.TheVariants.{Next, Last}
use Rattle.sa_trace.specs.declared.reading.TraceText.{TraceText}
use Rattle.sa_trace.specs.Pieces.{unless}
use Rattle.sa_trace.specs.Line.{so_far, pieces_in, line_in}

-- what a trace text tells: its items, how the run ended, and its number of events
pub record Told : Type 0 where
  pub items : List Item
  pub end : End
  pub events : ℕ

abbrev pub told : List Item → End → ℕ → Told
told items end events = record { items = items; end = end; events = events }

-- why a line may not follow the last one
abbrev pub too_many : Result (List (List ℕ)) Cause → Cause
too_many (Ok pieces) = BadWord
too_many (Err cause) = cause

abbrev pub cause_after : ℕ → LineText → Cause
cause_after number line = too_many (pieces_in line)

-- nothing follows the last line, else the first line that does is bad, by the cause that its number and it have
abbrev pub bad_after : (ℕ → LineText → Cause) → ℕ → List LineText → Option Bad
bad_after cause number [] = None
bad_after cause number (line ∷ rest) = Some (bad_at number (cause number line))

-- what comes of what a line says: it is bad, or the items go on with one more, or it is the last
abbrev pub after_line : {A : Type 0} → ℕ → Result Said Cause → (Item → Result A Bad) → (End → ℕ → Result A Bad) → Result A Bad
after_line number (Err cause) more last = Err (bad_at number cause)
after_line number (Ok (Next item)) more last = more item
after_line number (Ok (Last end events)) more last = last end events

-- what these lines are read as, after these items, where the first has this number
abbrev pub read_from : ℕ → List Item → List LineText → Result Told Bad
read_from number items [] = Err (bad_at number Missing)
read_from number items (line ∷ rest) =
    after_line number (line_in (so_far items) line) (λ item. read_from (number + 1) (items ++ item ∷ []) rest)
    (λ end events. unless (bad_after cause_after (number + 1) rest) (told items end events))

-- what a text is read as: what it tells, or the first line that is bad, from 1, and why
unfoldable pub read_of : List ℕ → Result Told Bad
read_of text = read_from 1 [] (line_texts text)

-- r is what the text was read as, or memory ran out
abbrev pub IsReading : Result Told Bad → Result TraceText Unread → Type 0
IsReading reading (Ok t) = reading ≡ Ok (told t.trace.items t.end t.events)
IsReading reading (Err (Unread.Bad bad)) = reading ≡ Err bad
IsReading reading (Err Unread.OutOfMemory) = Unit {0}
