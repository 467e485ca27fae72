-- Requests and refusals, with the bytes of their texts.
use Rattle.std.specs.Prelude.{ℕ, List, map, Option}
use Rattle.std.specs.Option.{option_map}
use Rattle.std.specs.Borrow.{Bor}
use Rattle.sa_base.specs.declared.package.PackageName.{PackageName}
use Rattle.sa_command.specs.declared.command.ScheduleWord.{ScheduleWord}
use Rattle.sa_command.specs.declared.command.GiveWord.{GiveWord}
use Rattle.toga_words.specs.declared.request.Request.{Request}
use Rattle.toga_words.specs.declared.request.Request.TheVariants as request
use Rattle.toga_words.specs.declared.refusal.Setting.{Setting}
use Rattle.toga_words.specs.declared.refusal.Refusal.{Refusal}
use Rattle.toga_words.specs.declared.refusal.Refusal.TheVariants as refusal

abbrev pub Bytes : Type 0
Bytes = List ℕ

-- what is asked for; files and words are named by their bytes
pub data Asked : Type 0 where
  run : Bytes → ScheduleWord → PackageName → ℕ → Option Bytes → Option Bytes → Option Bytes → Asked
  explore : Bytes → PackageName → ℕ → Option GiveWord → Option Bytes → Asked
  check : Bytes → Bytes → PackageName → Asked
  vp : Bytes → ScheduleWord → ℕ → Option Bytes → Asked
  compile : Bytes → Option Bytes → Asked
  show : Bytes → Option Bytes → Asked
  picture : Bytes → Option ℕ → Option ℕ → ℕ → Option Bytes → Asked
  page : Bytes → Bytes → PackageName → Option Bytes → Asked
  events : Bytes → Option Bytes → Asked
  explain : List Bytes → Asked

-- why words are no request
pub data Objection : Type 0 where
  value : Setting → Bytes → Objection
  same_input : Objection
  backward : Objection

abbrev pub bytes_if : Option (Bor Bytes) → Option Bytes
bytes_if = option_map (λ s. s.now)

abbrev pub asked : Request → Asked
asked (request.Run source order level most to_trace to_page to_picture) =
    run source.now order level most (bytes_if to_trace) (bytes_if to_page) (bytes_if to_picture)
asked (request.Explore source level most goal output) = explore source.now level most goal (bytes_if output)
asked (request.Check source trace level) = check source.now trace.now level
asked (request.Vp source order most to_trace) = vp source.now order most (bytes_if to_trace)
asked (request.Compile source output) = compile source.now (bytes_if output)
asked (request.Show source output) = show source.now (bytes_if output)
asked (request.Picture trace first last width output) = picture trace.now first last width (bytes_if output)
asked (request.Page source trace level output) = page source.now trace.now level (bytes_if output)
asked (request.Events trace output) = events trace.now (bytes_if output)
asked (request.Explain words) = explain (map (λ s. s.now) words.items)

abbrev pub objected : Refusal → Objection
objected (refusal.Value which word) = value which word.now
objected refusal.SameInput = same_input
objected refusal.Backward = backward
