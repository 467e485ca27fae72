use Rattle.std.proofs.Common.{ap, sym, ◌∙◌}
use Rattle.std.specs.Str.{bytes_eq}
use Rattle.sa_trace.specs.Pieces.{with_rest}
use Rattle.sa_trace.proofs.KindLemmas.{kind-by-word}
use Rattle.sa_trace.proofs.pieces.read_kind.Goals as goal

pub returns : goal.returns
returns c =
    ap (λ found. with_rest found c.next.new.words) c.ok_or.ensures.value
    ∙ kind-by-word c.args.words.now c.next.new.words c.in_ok-word.word.now c.of_word.result c.in_ok-word.ensures
    (ap (bytes_eq c.in_ok-word.word.now) (sym c.as_slice.ensures) ∙ sym c.eq.ensures ∙ c.if-eq.false)
    c.of_word.ensures.found c.of_word.ensures.none
