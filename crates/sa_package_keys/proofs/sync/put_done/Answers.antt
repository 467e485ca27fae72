use Rattle.std.proofs.Common.{not, false, ◌++◌, take, refl, ap, ◌∙◌, arith}
use Rattle.std.proofs.lemmas.List.{length-take-le}
use Rattle.sa_package_keys.specs.Codes.{flag, list}
use Rattle.sa_package_keys.proofs.Loops.{padded-all}
use Rattle.sa_package_keys.proofs.Trimmed.{trimmed-front}
use Rattle.sa_package_keys.proofs.sync.put_done.Goals as goal

pub returns : goal.returns
returns c =
    let done = c.args.done.now in
    let kept = c.kept_flags-kept.result in
    let count = length-take-le c.from.result done (omega arith) in
    let front = trimmed-front not false done c.from.result kept (λ t from low. ap not (c.requires.rest t (omega arith))) (omega arith) c.kept_flags-kept.ensures.kept in
    padded-all not flag done kept _ _ _ refl front
    (c.in_ok-put_flags.ensures ∙ ap (λ z. z ++ list flag (take kept done)) c.in_ok-put_number.ensures)
