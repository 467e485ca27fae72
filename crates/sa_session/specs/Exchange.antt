-- What is read and what is written in a session.
use Rattle.std.specs.Prelude.{◌≡◌, ℕ, List, [], ◌∷◌, ◌++◌, Option}
use Rattle.std.specs.List.{flat_map}
use Rattle.std.specs.Io.KnownBytes.{Appends, Consumes}
use Rattle.sa_io.specs.Faults.{AppendsPrefix, HasRisen}
use Rattle.sa_lines_in.specs.Reading.{ReadsLine, LacksLine}
use Rattle.sa_session.specs.declared.exchange.Heard.{Heard}
use Rattle.sa_session.specs.declared.exchange.Heard.TheVariants.{Line, Bad}
use Rattle.sa_session.specs.declared.exchange.NoTalk.{NoTalk}
use Rattle.sa_session.specs.declared.exchange.NoTalk.TheVariants.{Read, Write, OutOfMemory}

-- what was said and is not written yet, and what was read and is not used yet
pub record ExchangeView : Type 0 where
  pub said : List ℕ
  pub kept : List ℕ

-- lines, each with its line feed
abbrev pub lines_text : List (List ℕ) → List ℕ
lines_text lines = flat_map (λ line. line ++ 10 ∷ []) lines

-- Bytes came from the source. With what was kept they are these lines, and what is kept or left to be told after them.
pub record Hears (kept later : List ℕ) (before after : Option (List ℕ)) (lines : List (List ℕ)) : Type 0 where
  pub got : List ℕ
  pub taken : Consumes before after got
  pub are : kept ++ got ≡ lines_text lines ++ later

-- what one line is, or why there is none
abbrev pub IsHeard : (kept later : List ℕ) (before after : Option (List ℕ)) → Heard → Type 0
IsHeard kept later before after (Line line) = ReadsLine kept later before after line.items
IsHeard kept later before after (Bad cause) = LacksLine kept later before after cause

-- the fault that a session could not go on for was counted: at the source, or at the sink
abbrev pub FailsFor : NoTalk → (reads reads_now writes writes_now : ℕ) → Type 0
FailsFor Read reads reads_now writes writes_now = HasRisen reads reads_now
FailsFor Write reads reads_now writes writes_now = HasRisen writes writes_now
FailsFor OutOfMemory reads reads_now writes writes_now = Unit {0}

-- what the sink took of what was said before a session could not go on: all of it if a read failed, else a prefix
abbrev pub WrittenFor : NoTalk → (old new : Option (List ℕ)) → List ℕ → Type 0
WrittenFor Read old new said = Appends old new said
WrittenFor Write old new said = AppendsPrefix old new said
WrittenFor OutOfMemory old new said = AppendsPrefix old new said
