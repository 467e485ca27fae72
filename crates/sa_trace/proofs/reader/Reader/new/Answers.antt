use Rattle.std.proofs.Common.{arith, ◌<◌, sym, subst, refl}
use Rattle.std.specs.Prelude.{All}
use Rattle.sa_text.proofs.LineLemmas.{length-line_texts-le}
use Rattle.sa_trace.specs.declared.so_far.SoFar.{SoFar}
use Rattle.sa_trace.proofs.ReadOn.{none-counted, all-left}
use Rattle.sa_trace.proofs.reader.Reader.new.Goals as goal

pub invariant_of-result : goal.invariant_of-result
invariant_of-result c =
    (omega arith, subst (λ (so : SoFar). All (λ n. n < 1) so.counts) (sym c.new.ensures) (none-counted 1 (omega arith)))

pub returns-clause-told : goal.returns-clause-told
returns-clause-told c = all-left c.args.text.now _ refl c.new.ensures refl

pub returns-clause-few : goal.returns-clause-few
returns-clause-few c = length-line_texts-le c.args.text.now
