use Rattle.std.proofs.Common.{rules, ◌++◌, ap, sym, ◌∙◌, append_assoc}
use Rattle.std.proofs.KnownBytes.{Appends-trans}
use Rattle.sa_io.proofs.PieceLemmas.{prefix-behind, filled-up}
use Rattle.sa_io.proofs.pieces.PieceWriter.put.Goals as goal
use Rattle.sa_lemmas.proofs.Results.{on_err}

pub returns-in_err-write-clause-err : goal.returns-in_err-write-clause-err
returns-in_err-write-clause-err g c =
    let at = c.loop-rest.invariant in
    let piece = c.as_slice.result.now in
    let behind = c.split_at.result.1.now in
    let whole = filled-up _ at.sent c.loop-rest.self-inside.waiting.items c.loop-rest.rest.now c.split_at.result.0.now behind piece _
    at.whole c.split_at.ensures.front c.split_at.ensures.back (c.as_slice.ensures.value ∙ c.extend.ensures) in
    on_err c.from_residual.result
    (prefix-behind _ (g.K.Sink.taken c.loop-rest.sink) _ _ at.sent piece behind (ap (λ v. v ++ c.args.text.now) (search rules) ∙ whole)
    at.taken c.in_err-write.ensures.err)

pub loop-rest-preserved : goal.loop-rest-preserved
loop-rest-preserved g c =
    let at = c.loop-rest.invariant in
    let piece = c.as_slice.result.now in
    let behind = c.split_at.result.1.now in
    let whole = filled-up _ at.sent c.loop-rest.self-inside.waiting.items c.loop-rest.rest.now c.split_at.result.0.now behind piece _
    at.whole c.split_at.ensures.front c.split_at.ensures.back (c.as_slice.ensures.value ∙ c.extend.ensures) in
    record {
      sent = at.sent ++ piece;
      taken = Appends-trans _ (g.K.Sink.taken c.loop-rest.sink) _ at.sent piece at.taken c.in_ok-write.ensures.taken;
      whole = whole ∙ sym (append_assoc at.sent piece behind) ∙ ap (λ v. (at.sent ++ piece) ++ (v ++ behind)) (sym c.clear.ensures);
      counted = search rules;
    }
