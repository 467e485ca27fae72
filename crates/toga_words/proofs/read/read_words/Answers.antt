use Rattle.std.proofs.lemmas.Result.{IfOk-weaker}
use Rattle.toga_words.proofs.Comes.{IsTaken, is_answered, is_told}
use Rattle.toga_words.proofs.read.read_words.Goals as goal

pub returns-in-Ok : goal.returns-in-Ok
returns-in-Ok c =
    let t : IsTaken _ _ c.in-Ok.matches =
    record { is = c.in_ok-program.ensures; has = c.in-Ok.ensures.matches; fault = c.in-Ok.ensures.kinds } in
    IfOk-weaker c.asked_by.result _ _ (λ s h. is_answered _ _ _ s t h) c.asked_by.ensures

pub returns-in-Err : goal.returns-in-Err
returns-in-Err c =
    IfOk-weaker c.said_of.result _ _ (λ s h. is_told _ _ c.in-Err.error s c.in_ok-program.ensures c.in-Err.ensures.kinds h) c.said_of.ensures
