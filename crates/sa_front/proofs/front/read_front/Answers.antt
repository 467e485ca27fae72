use Rattle.std.proofs.Common.{rules, ◌+◌, ap, ◌∙◌}
use Rattle.std.proofs.lemmas.List.{take-append-le, take_rest}
use Rattle.sa_io.proofs.InputLemmas.{lost-more}
use Rattle.sa_front.proofs.Reading.{read-nothing, read-long, read-closed}
use Rattle.sa_front.proofs.front.read_front.Goals as goal

pub returns-then-count-eq0-clause-front : goal.returns-then-count-eq0-clause-front
returns-then-count-eq0-clause-front g c =
    read-nothing c.args.limit _ (g.S.Source.left c.loop-piece.source) _ c.loop-piece.text.items _ _ _ _ c.in_ok-count.count
    (ap (λ t. t.items) c.unclosed.ensures.text) c.unclosed.ensures.lines c.loop-piece.invariant.taken c.loop-piece.invariant.few c.loop-piece.invariant.no_close
    c.if-count-eq0.true c.in_ok-count.ensures.taken (c.in_ok-count.ensures.end (search rules))

pub returns-in-Some-clause-front : goal.returns-in-Some-clause-front
returns-in-Some-clause-front g c =
    read-closed c.args.limit _ (g.S.Source.left c.loop-piece.source) _ c.loop-piece.text.items _ _ _ _ _ c.in_ok-count.count _ _
    c.loop-piece.invariant.taken (search rules) c.in_ok-count.ensures.taken
    (take-append-le c.in_ok-count.count c.read.new.into _ (search rules)) c.in_ok-used.ensures c.in-Some.is
    (c.new-lines.ensures ∙ take_rest _ c.in-Some.used)

-- the bytes that were got are lost, whether they are used or not
pub returns-in_err-used-clause-lost : goal.returns-in_err-used-clause-lost
returns-in_err-used-clause-lost g c =
    lost-more (c.args.limit + 1) _ (g.S.Source.left c.loop-piece.source) _ c.loop-piece.text.items _ c.in_ok-count.count c.loop-piece.invariant.taken
    c.in_ok-count.ensures.taken (search rules)

pub returns-in-Some-clause-lost : goal.returns-in-Some-clause-lost
returns-in-Some-clause-lost g c =
    lost-more (c.args.limit + 1) _ (g.S.Source.left c.loop-piece.source) _ c.loop-piece.text.items _ c.in_ok-count.count c.loop-piece.invariant.taken
    c.in_ok-count.ensures.taken (search rules)

pub returns-clause-front : goal.returns-clause-front
returns-clause-front g c =
    read-long c.args.limit _ (g.S.Source.left c.loop-piece.source) c.loop-piece.text.items _ _ _ (ap (λ t. t.items) c.unclosed-2.ensures.text)
    c.unclosed-2.ensures.lines c.loop-piece.invariant.taken c.loop-piece.invariant.few (search rules) c.loop-piece.invariant.no_close
