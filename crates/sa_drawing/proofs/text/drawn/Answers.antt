use Rattle.std.proofs.Common.{rules, ◌≡◌, List, ℕ, Ok, subst, arith}
use Rattle.sa_trace.specs.Reading.{read_of, told}
use Rattle.sa_drawing.proofs.text.drawn.Goals as goal

pub returns-in-Ok-Some-clause-ok : goal.returns-in-Ok-Some-clause-ok
returns-in-Ok-Some-clause-ok c =
    let t = c.in-Ok.text in
    let reading = subst (λ (v : List ℕ). read_of v ≡ Ok (told t.trace.items t.end t.events)) c.trace_part.ensures.part c.in-Ok.ensures in
    record { short = omega (arith, c.if-input-gt-TRACE_LIMIT.false); told = told t.trace.items t.end t.events; read = reading; drawn = search rules }

pub returns-in-Ok-None-clause-err : goal.returns-in-Ok-None-clause-err
returns-in-Ok-None-clause-err c =
    let t = c.in-Ok.text in
    let reading = subst (λ (v : List ℕ). read_of v ≡ Ok (told t.trace.items t.end t.events)) c.trace_part.ensures.part c.in-Ok.ensures in
    record { short = omega (arith, c.if-input-gt-TRACE_LIMIT.false); told = told t.trace.items t.end t.events; read = reading; none = search rules }
