use Rattle.std.proofs.Common.{◌≡◌, List, ℕ, slice_get, sym, ap, ◌∙◌}
use Rattle.std.specs.Option.{is_some}
use Rattle.sa_instr.specs.Operation.{operation_of}
use Rattle.toga_read.specs.Reading.{is_instr_word}
use Rattle.toga_read.proofs.PlainTexts.{found-word}
use Rattle.toga_read.proofs.plain.is_instr.Goals as goal

pub returns-in-Some : goal.returns-in-Some
returns-in-Some c =
    let same : operation_of c.in-Some.word.now ≡ c.of_word.result =
    found-word c.of_word.result c.in-Some.word.now c.of_word.ensures.found c.of_word.ensures.none in
    c.is_some.ensures ∙ ap is_some (sym same) ∙ sym (ap (λ (ws : List (List ℕ)). is_instr_word (slice_get ws 0)) c.in-Some.ensures)

pub returns-in-None : goal.returns-in-None
returns-in-None c = sym (ap (λ (ws : List (List ℕ)). is_instr_word (slice_get ws 0)) c.in-None.ensures.0)
