use Rattle.std.proofs.Common.{arith, ◌+◌, ◌<◌, true, sym, ap, ◌∙◌, subst, refl}
use Rattle.std.specs.Prelude.{All}
use Rattle.sa_text.specs.LineText.{LineText, line_texts}
use Rattle.sa_trace.specs.TraceText.{item_text}
use Rattle.sa_trace.specs.declared.so_far.SoFar.{SoFar}
use Rattle.sa_trace.specs.Line.{MAX64}
use Rattle.sa_trace.specs.Text.{MayFollow}
use Rattle.sa_trace.specs.Reader.{LeftToRead, and_item}
use Rattle.sa_trace.proofs.ReadOn.{counted-below, below-more}
use Rattle.sa_trace.proofs.FirstLine.{item_first, item_longer, item_told, line_fewer}
use Rattle.sa_trace.proofs.reader.Reader.next.Goals as goal

pub same-self : goal.same-self
same-self c = refl

pub overflow_add-self : goal.overflow_add-self
overflow_add-self c = omega (arith, c.self.invariant.0)

pub add-requires : goal.add-requires
add-requires c = below-more (c.self.inside.passed + 1) MAX64 c.self.inside.so_far.counts (omega (arith, c.self.invariant.0)) c.self.invariant.1

pub invariant_of-self : goal.invariant_of-self
invariant_of-self c = (
  omega (arith, c.self.invariant.0, item_longer c.in-Some.found.item c.self.inside.rest.now c.in-Some.found.rest.now c.in-Some.ensures.text),
  subst (λ (so : SoFar). All (λ n. n < c.self.inside.passed + 1 + 1) so.counts) (sym c.add.ensures)
      (counted-below _ (c.self.inside.passed + 1) c.self.inside.so_far.counts c.self.invariant.1),
)

pub returns-clause-says : goal.returns-clause-says
returns-clause-says c =
    item_told c.args.self.now _ c.in-Some.found.item c.self.inside.rest.now c.in-Some.found.rest.now c.in-Some.ensures.text c.in-Some.ensures.fits
    (subst (λ (a : LeftToRead). MayFollow a.so.last c.in-Some.found.item) c.self.view_is c.in-Some.ensures.follows)
    (ap (λ (a : LeftToRead). a.lines) (sym c.self.view_is)) refl (ap (λ (a : LeftToRead). a.number + 1) c.self.view_is)
    (c.add.ensures ∙ ap (λ (a : LeftToRead). and_item c.in-Some.found.item a.so) c.self.view_is)

pub returns-clause-fewer : goal.returns-clause-fewer
returns-clause-fewer c =
    let line : LineText = record { bytes = item_text c.in-Some.found.item; ended = true } in
    line_fewer c.args.self.now.lines (line_texts c.in-Some.found.rest.now) line
    (ap (λ (a : LeftToRead). a.lines) (sym c.self.view_is)
    ∙ item_first c.in-Some.found.item c.self.inside.rest.now c.in-Some.found.rest.now c.in-Some.ensures.text c.in-Some.ensures.fits)

pub returns-in_default-clause-says : goal.returns-in_default-clause-says
returns-in_default-clause-says c = c.next_of_any_form.ensures.says

pub returns-in_default-clause-fewer : goal.returns-in_default-clause-fewer
returns-in_default-clause-fewer c = c.next_of_any_form.ensures.fewer
