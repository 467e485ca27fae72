use Rattle.std.proofs.Common.{arith, ◌+◌, ◌<◌, Ok, Err, sym, ap, ◌∙◌, subst, refl}
use Rattle.std.specs.Prelude.{All}
use Rattle.sa_base.specs.declared.refusal.Cause.TheVariants.{Missing}
use Rattle.sa_base.specs.Cause.{bad_at}
use Rattle.sa_text.specs.LineText.{line_texts}
use Rattle.sa_text.specs.Line.{text_of_line}
use Rattle.sa_trace.specs.declared.so_far.SoFar.{SoFar}
use Rattle.sa_trace.specs.Line.{MAX64, line_in}
use Rattle.sa_trace.specs.Reader.{LeftToRead}
use Rattle.sa_trace.proofs.ReadOn.{none-left, bad-line, item-line, last-line, line-behind, counted-below, below-more}
use Rattle.sa_trace.proofs.FirstLine.{line_fewer}
use Rattle.sa_trace.proofs.reader.Reader.next_of_any_form.Goals as goal

pub overflow_add-number : goal.overflow_add-number
overflow_add-number c = omega (arith, c.self.invariant.0)

pub same-self : goal.same-self
same-self c = refl

pub returns-in_default-clause-says : goal.returns-in_default-clause-says
returns-in_default-clause-says c =
    none-left c.args.self.now (ap (λ (a : LeftToRead). a.lines) (sym c.self.view_is) ∙ c.in_default.ensures.line)
    ∙ ap (λ (a : LeftToRead). Err (bad_at a.number Missing)) (sym c.self.view_is) ∙ ap (λ bad. Err bad) (sym c.new.ensures)

pub read_line-requires : goal.read_line-requires
read_line-requires c = c.in-Some.ensures.within

pub same-self-in-Err : goal.same-self-in-Err
same-self-in-Err c = refl

pub returns-in-Err-clause-says : goal.returns-in-Err-clause-says
returns-in-Err-clause-says c =
    let line = text_of_line c.self.inside.rest.now c.in-Some.line in
    bad-line c.args.self.now line (line_texts c.in-Some.rest.now) c.in-Err.cause
    (ap (λ (a : LeftToRead). a.lines) (sym c.self.view_is) ∙ c.in-Some.ensures.line)
    (sym c.in-Err.is ∙ c.read_line.ensures ∙ ap (λ (a : LeftToRead). line_in a.so line) c.self.view_is)
    ∙ ap (λ (a : LeftToRead). Err (bad_at a.number c.in-Err.cause)) (sym c.self.view_is) ∙ ap (λ bad. Err bad) (sym c.new-in-Err.ensures)

pub add-requires : goal.add-requires
add-requires c = below-more (c.self.inside.passed + 1) MAX64 c.self.inside.so_far.counts (omega (arith, c.self.invariant.0)) c.self.invariant.1

pub invariant_of-self : goal.invariant_of-self
invariant_of-self c = (
  omega (arith, c.self.invariant.0, c.in-Some.ensures.fewer),
  subst (λ (so : SoFar). All (λ n. n < c.self.inside.passed + 1 + 1) so.counts) (sym c.add.ensures)
      (counted-below _ (c.self.inside.passed + 1) c.self.inside.so_far.counts c.self.invariant.1),
)

pub overflow_add-number-in-Last : goal.overflow_add-number-in-Last
overflow_add-number-in-Last c = omega (arith, c.self.invariant.0)

pub returns-in-Next-clause-says : goal.returns-in-Next-clause-says
returns-in-Next-clause-says c =
    let line = text_of_line c.self.inside.rest.now c.in-Some.line in
    item-line c.args.self.now _ c.self.inside.so_far line c.in-Next.item
    (ap (λ (a : LeftToRead). a.lines) (sym c.self.view_is) ∙ c.in-Some.ensures.line)
    (ap (λ (a : LeftToRead). a.so) c.self.view_is)
    (ap (λ said. Ok said) (sym c.in-Next.is) ∙ sym c.in-Ok.is ∙ c.read_line.ensures)
    (ap (λ (a : LeftToRead). a.number + 1) c.self.view_is) c.add.ensures

pub returns-in-Next-clause-fewer : goal.returns-in-Next-clause-fewer
returns-in-Next-clause-fewer c =
    line_fewer c.args.self.now.lines (line_texts c.in-Some.rest.now) (text_of_line c.self.inside.rest.now c.in-Some.line)
    (ap (λ (a : LeftToRead). a.lines) (sym c.self.view_is) ∙ c.in-Some.ensures.line)

pub invariant_of-self-in-Some-bad_behind : goal.invariant_of-self-in-Some-bad_behind
invariant_of-self-in-Some-bad_behind c = (
  omega (arith, c.self.invariant.0, c.in-Some.ensures.fewer),
  below-more (c.self.inside.passed + 1) (c.self.inside.passed + 1 + 1) c.self.inside.so_far.counts (omega arith) c.self.invariant.1,
)

pub returns-in-Some-bad_behind-clause-says : goal.returns-in-Some-bad_behind-clause-says
returns-in-Some-bad_behind-clause-says c =
    let line = text_of_line c.self.inside.rest.now c.in-Some.line in
    line-behind c.args.self.now line (line_texts c.in-Some.rest.now) c.in-Last.end c.in-Last.events (c.self.inside.passed + 1 + 1)
    c.in-Some-bad_behind.bad
    (ap (λ (a : LeftToRead). a.lines) (sym c.self.view_is) ∙ c.in-Some.ensures.line)
    (ap (λ said. Ok said) (sym c.in-Last.is) ∙ sym c.in-Ok.is ∙ c.read_line.ensures ∙ ap (λ (a : LeftToRead). line_in a.so line) c.self.view_is)
    (ap (λ (a : LeftToRead). a.number + 1) c.self.view_is) (sym c.bad_behind.ensures ∙ c.in-Some-bad_behind.is)

pub invariant_of-self-in-Last : goal.invariant_of-self-in-Last
invariant_of-self-in-Last c = (
  omega (arith, c.self.invariant.0, c.in-Some.ensures.fewer),
  below-more (c.self.inside.passed + 1) (c.self.inside.passed + 1 + 1) c.self.inside.so_far.counts (omega arith) c.self.invariant.1,
)

pub returns-in_default-bad_behind-clause-says : goal.returns-in_default-bad_behind-clause-says
returns-in_default-bad_behind-clause-says c =
    let line = text_of_line c.self.inside.rest.now c.in-Some.line in
    last-line c.args.self.now line (line_texts c.in-Some.rest.now) c.in-Last.end c.in-Last.events (c.self.inside.passed + 1 + 1)
    (ap (λ (a : LeftToRead). a.lines) (sym c.self.view_is) ∙ c.in-Some.ensures.line)
    (ap (λ said. Ok said) (sym c.in-Last.is) ∙ sym c.in-Ok.is ∙ c.read_line.ensures ∙ ap (λ (a : LeftToRead). line_in a.so line) c.self.view_is)
    (ap (λ (a : LeftToRead). a.number + 1) c.self.view_is) (sym c.bad_behind.ensures ∙ c.in_default-bad_behind.is)

pub returns-in_default-bad_behind-clause-fewer : goal.returns-in_default-bad_behind-clause-fewer
returns-in_default-bad_behind-clause-fewer c =
    line_fewer c.args.self.now.lines (line_texts c.in-Some.rest.now) (text_of_line c.self.inside.rest.now c.in-Some.line)
    (ap (λ (a : LeftToRead). a.lines) (sym c.self.view_is) ∙ c.in-Some.ensures.line)
