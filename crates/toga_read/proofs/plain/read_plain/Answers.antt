use Rattle.std.proofs.Common.{Result, Ok, subst, sym, ap, ◌∙◌}
use Rattle.toga_read.specs.SourceFields.{SourceView}
use Rattle.toga_read.specs.declared.unread.Unread.{Unread}
use Rattle.toga_read.specs.Reading.{Refuses, plain_by, plain_of}
use Rattle.toga_read.proofs.PlainTexts.{refused-so, text-read}
use Rattle.toga_read.proofs.plain.read_plain.Goals as goal

pub returns-in_ok-plain_source-in-Ok-clause-ok : goal.returns-in_ok-plain_source-in-Ok-clause-ok
unfolding plain_of
returns-in_ok-plain_source-in-Ok-clause-ok c =
    ap (plain_by c.args.text.now) (text-read c.args.text.now c.in-Ok.workload c.in-Ok.ensures.ok)
    ∙ ap (λ (s : SourceView). let r : Result SourceView Unread = Ok s in r) (sym c.in_ok-plain_source-in-Ok.ensures)

pub returns-in-Err-clause-err : goal.returns-in-Err-clause-err
returns-in-Err-clause-err c =
    subst (λ (u : Unread). Refuses u (plain_of c.args.text.now)) (sym c.refusal.ensures)
    (refused-so c.args.text.now c.in-Err.unread c.in-Err.ensures.bad)
