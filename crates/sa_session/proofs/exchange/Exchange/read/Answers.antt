use Rattle.std.proofs.Common.{◌≡◌, ℕ, List, ◌++◌, false, Err, sym, ap, ◌∙◌, subst, OnErr}
use Rattle.sa_lemmas.proofs.Results.{on_err}
use Rattle.sa_lines_in.specs.Line.{line_len}
use Rattle.sa_lines_in.specs.Reading.{is_decided, AnswersLine, LosesLine}
use Rattle.sa_session.specs.Exchange.{ExchangeView}
use Rattle.sa_session.proofs.Lines.{open-before}
use Rattle.sa_session.proofs.exchange.Exchange.read.Goals.{in-Ok, in-Err-Bad, in-Err-Fault}
use Rattle.sa_session.proofs.exchange.Exchange.read.Goals as goal

pub returns-clause-needed : goal.returns-clause-needed
returns-clause-needed g c =
    elim c.match-next_line.branch [
      | in-Ok w ↦ rw w.result-is tt
      | in-Err-Bad w ↦ rw w.result-is tt
      | in-Err-Fault w ↦
          let lost : LosesLine c.self.inside.lines c.next_line.new.self (g.S.Source.left c.args.source.now) (g.S.Source.left c.next_line.new.source) =
          subst (λ r. AnswersLine c.self.inside.lines c.next_line.new.self (g.S.Source.left c.args.source.now) (g.S.Source.left c.next_line.new.source) r)
          (w.in-Err-Fault.is ∙ ap Err w.in-Err-Fault.field-0-is) c.next_line.ensures.answer in
          on_err c.match-next_line.result
          (subst (λ (v : ExchangeView). is_decided (line_len v.kept) ≡ false) c.self.view_is (open-before c.self.inside.lines lost.got lost.lacks))
    ]
