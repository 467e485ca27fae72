use Rattle.std.proofs.Common.{rules, arith, ◌≡◌, ◌∙◌, ◌+◌, Some, ap, drop}
use Rattle.sa_base.specs.declared.refusal.Cause.TheVariants.{Missing}
use Rattle.sa_trace.specs.Pieces.{wrong_count, wrong_or}
use Rattle.sa_trace.proofs.Steps.{count-missing, count-next}
use Rattle.sa_trace.proofs.pieces.check_counts.Goals as goal

pub returns-in_err-piece : goal.returns-in_err-piece
returns-in_err-piece c =
    let missing : wrong_count c.args.counts.now c.args.words.now ≡ Some Missing = c.loop-count.invariant
    ∙ count-missing c.args.counts.now c.loop-count.words c.loop-count.count-index (omega arith) c.in_err-piece.ensures.0 in
    rw missing (search rules)

pub returns-in_err-read_within : goal.returns-in_err-read_within
returns-in_err-read_within c =
    let wrong : wrong_count c.args.counts.now c.args.words.now ≡ Some c.in_err-read_within.field-0.0 =
    c.loop-count.invariant
    ∙ count-next c.args.counts.now c.loop-count.words c.next.new.words c.in_ok-piece.piece.now c.loop-count.count-index c.read_within.result
    (omega arith) c.in_ok-piece.ensures c.read_within.ensures.number
    ∙ ap (λ r. wrong_or r (wrong_count (drop (c.loop-count.count-index + 1) c.args.counts.now) c.next.new.words)) c.in_err-read_within.was in
    rw wrong (search rules)

pub loop-count-preserved : goal.loop-count-preserved
loop-count-preserved c =
    c.loop-count.invariant
    ∙ count-next c.args.counts.now c.loop-count.words c.next.new.words c.in_ok-piece.piece.now c.loop-count.count-index c.read_within.result
    (omega arith) c.in_ok-piece.ensures c.read_within.ensures.number
    ∙ ap (λ r. wrong_or r (wrong_count (drop (c.loop-count.count-index + 1) c.args.counts.now) c.next.new.words)) c.in_ok-read_within.was
