use Rattle.std.proofs.Common.{◌≡◌, ℕ, List, [], ◌++◌, Some, refl, sym, ap, ◌∙◌, subst}
use Rattle.sa_lemmas.proofs.Results.{err_along}
use Rattle.sa_core.specs.View.{machine}
use Rattle.sa_core_model.specs.End.{end_of}
use Rattle.sa_driven_model.specs.Step.{driven_calls}
use Rattle.sa_lines_in.specs.Reading.{ReadsLine}
use Rattle.sa_asked.specs.Questions.{question}
use Rattle.sa_session.specs.declared.exchange.NoTalk.TheVariants.{OutOfMemory}
use Rattle.sa_session.specs.declared.exchange.Heard.{Heard}
use Rattle.sa_session.specs.declared.exchange.Heard.TheVariants.{Line}
use Rattle.sa_session.specs.Exchange.{ExchangeView, Hears, IsHeard}
use Rattle.sa_session.specs.Text.{ask_text}
use Rattle.sa_session.specs.Answer.{Puts}
use Rattle.sa_session.specs.Events.{IsLost}
use Rattle.sa_session.proofs.Eventing.{lost-before, lost-hearing, lost-turning, answered}
use Rattle.sa_session.proofs.Puts.{put-end}
use Rattle.sa_session.proofs.session.Session.event.Goals as goal

pub returns-in_err-question-clause-err : goal.returns-in_err-question-clause-err
returns-in_err-question-clause-err g c =
    err_along (IsLost (machine c.args.self.now.core) c.args.p c.args.exchange.now (g.S.Source.left c.args.source.now) (g.S.Source.left c.args.source.now)
    (g.K.Sink.taken c.args.sink.now) (g.K.Sink.taken c.args.sink.now)) OutOfMemory c.from_residual.result
    (lost-before (machine c.args.self.now.core) c.args.p c.args.exchange.now (g.S.Source.left c.args.source.now) (g.K.Sink.taken c.args.sink.now))
    c.from_residual.ensures.1

pub returns-in_err-turn-clause-err : goal.returns-in_err-turn-clause-err
returns-in_err-turn-clause-err g c =
    err_along (IsLost (machine c.args.self.now.core) c.args.p c.args.exchange.now (g.S.Source.left c.args.source.now) (g.S.Source.left c.args.source.now)
    (g.K.Sink.taken c.args.sink.now) (g.K.Sink.taken c.args.sink.now)) OutOfMemory c.from_residual-in_err-turn.result
    (lost-before (machine c.args.self.now.core) c.args.p c.args.exchange.now (g.S.Source.left c.args.source.now) (g.K.Sink.taken c.args.sink.now))
    c.from_residual-in_err-turn.ensures.1

pub returns-in_err-line-clause-err : goal.returns-in_err-line-clause-err
returns-in_err-line-clause-err g c =
    err_along (IsLost (machine c.args.self.now.core) c.args.p c.args.exchange.now (g.S.Source.left c.args.source.now) (g.S.Source.left c.hear.new.source)
    (g.K.Sink.taken c.args.sink.now) (g.K.Sink.taken c.hear.new.sink)) c.in_err-line.field-0.0 c.from_residual-in_err-line.result
    (lost-hearing (machine c.args.self.now.core) c.args.p c.args.exchange.now (g.S.Source.left c.args.source.now) (g.K.Sink.taken c.args.sink.now)
    c.ask.new.said.items
    (c.in_ok-question.ensures.text ∙ ap (λ (v : ExchangeView). v.said ++ ask_text (machine c.args.self.now.core) c.args.p) c.exchange.view_is) (g.S.Source.left c.hear.new.source) (g.K.Sink.taken c.hear.new.sink) c.in_err-line.field-0.0 c.hear.new.self.kept
    (subst (λ (v : ExchangeView). Hears v.kept c.hear.new.self.kept (g.S.Source.left c.args.source.now) (g.S.Source.left c.hear.new.source) []) c.exchange.view_is
    c.in_err-line.ensures.lost)
    c.in_err-line.ensures.err)
    c.from_residual-in_err-line.ensures.1

pub turn-requires-2-clause-not_ended : goal.turn-requires-2-clause-not_ended
turn-requires-2-clause-not_ended g c =
    let puts = c.in_default-answer.ensures.ok in
    ap (λ n. end_of driven_calls n (machine c.answer.new.self.core)) c.answer.ensures.budget
    ∙ ap (end_of driven_calls c.args.self.now.core.budget) puts.is
    ∙ put-end c.args.self.now.core.budget (machine c.args.self.now.core) c.in-Some.question.space puts.reply
    ∙ c.requires.not_ended

pub returns-in_err-turn-2-clause-err : goal.returns-in_err-turn-2-clause-err
returns-in_err-turn-2-clause-err g c =
    let reads : ReadsLine c.args.exchange.now.kept c.hear.new.self.kept (g.S.Source.left c.args.source.now) (g.S.Source.left c.hear.new.source) c.in-Line.line.items =
    subst (λ (v : ExchangeView). IsHeard v.kept c.hear.new.self.kept (g.S.Source.left c.args.source.now) (g.S.Source.left c.hear.new.source) (Line c.in-Line.line))
    c.exchange.view_is
    (subst (λ (h : Heard). IsHeard c.exchange.inside.lines c.hear.new.self.kept (g.S.Source.left c.args.source.now) (g.S.Source.left c.hear.new.source) h)
    c.in-Line.is c.in_ok-line.ensures.ok) in
    err_along (IsLost (machine c.args.self.now.core) c.args.p c.args.exchange.now (g.S.Source.left c.args.source.now) (g.S.Source.left c.hear.new.source)
    (g.K.Sink.taken c.args.sink.now) (g.K.Sink.taken c.hear.new.sink)) OutOfMemory c.from_residual-in_err-turn-2.result
    (lost-turning (machine c.args.self.now.core) c.args.p c.args.exchange.now (g.S.Source.left c.args.source.now) (g.K.Sink.taken c.args.sink.now)
    c.ask.new.said.items
    (c.in_ok-question.ensures.text ∙ ap (λ (v : ExchangeView). v.said ++ ask_text (machine c.args.self.now.core) c.args.p) c.exchange.view_is) (g.S.Source.left c.hear.new.source) (g.K.Sink.taken c.hear.new.sink) c.hear.new.self.kept
    c.in-Line.line.items reads c.hear.new.self c.in_ok-line.ensures.out)
    c.from_residual-in_err-turn-2.ensures.1

pub returns-clause-ok : goal.returns-clause-ok
returns-clause-ok g c =
    let m = machine c.args.self.now.core in
    let reads : ReadsLine c.args.exchange.now.kept c.hear.new.self.kept (g.S.Source.left c.args.source.now) (g.S.Source.left c.hear.new.source) c.in-Line.line.items =
    subst (λ (v : ExchangeView). IsHeard v.kept c.hear.new.self.kept (g.S.Source.left c.args.source.now) (g.S.Source.left c.hear.new.source) (Line c.in-Line.line))
    c.exchange.view_is
    (subst (λ (h : Heard). IsHeard c.exchange.inside.lines c.hear.new.self.kept (g.S.Source.left c.args.source.now) (g.S.Source.left c.hear.new.source) h)
    c.in-Line.is c.in_ok-line.ensures.ok) in
    let asked : question driven_calls m c.args.p ≡ Some c.in-Some.question = sym c.in_ok-question.ensures.question ∙ c.in-Some.is in (
      c.in-Line.line.items,
      answered m c.args.p c.args.exchange.now (g.S.Source.left c.args.source.now) (g.K.Sink.taken c.args.sink.now)
          c.ask.new.said.items
          (c.in_ok-question.ensures.text ∙ ap (λ (v : ExchangeView). v.said ++ ask_text (machine c.args.self.now.core) c.args.p) c.exchange.view_is) (g.S.Source.left c.hear.new.source) (g.K.Sink.taken c.hear.new.sink) c.hear.new.self.kept
          c.in-Line.line.items reads c.hear.new.self c.in_ok-line.ensures.out c.in-Some.question (machine c.answer.new.self.core)
          (machine c.turn-2.new.self.core) asked
          (subst (λ (bs : List ℕ). Puts m c.args.p c.in-Some.question.space bs (machine c.answer.new.self.core)) c.as_slice.ensures.value
          c.in_default-answer.ensures.ok)
          c.requires.within c.requires.event c.in_ok-turn-2.ensures.ok
          c.in_ok-turn-2.ensures.event c.turn-2.ensures.workload refl,
    )
