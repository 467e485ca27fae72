use Rattle.std.proofs.Common.{rules, ◌+◌}
use Rattle.sa_io.proofs.InputLemmas.{end-of-input, lost-more}
use Rattle.sa_io.proofs.input.read_input.Goals as goal

pub returns-then-count-eq0-clause-input : goal.returns-then-count-eq0-clause-input
returns-then-count-eq0-clause-input g c =
    end-of-input c.args.limit _ (g.S.Source.left c.loop-piece.source) _ c.loop-piece.input.items _ c.in_ok-count.count c.if-count-eq0.true
    c.loop-piece.invariant.limit
    c.loop-piece.invariant.taken c.in_ok-count.ensures.taken (c.in_ok-count.ensures.end (search rules))

pub returns-in_err-extend_from_slice-clause-lost : goal.returns-in_err-extend_from_slice-clause-lost
returns-in_err-extend_from_slice-clause-lost g c =
    lost-more (c.args.limit + 1) _ (g.S.Source.left c.loop-piece.source) _ c.loop-piece.input.items _ c.in_ok-count.count c.loop-piece.invariant.taken
    c.in_ok-count.ensures.taken (search rules)
