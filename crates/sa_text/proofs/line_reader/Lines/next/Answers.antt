use Rattle.std.proofs.Common.{arith, ◌+◌, sym, ◌∙◌, ap}
use Rattle.sa_text.specs.Line.{LinesLeft}
use Rattle.sa_text.proofs.LineLemmas.{next_line-ended, next_line-open}
use Rattle.sa_text.proofs.line_reader.Lines.next.Goals as goal
use Rattle.sa_text.proofs.line_reader.Lines.next.Goals.{then-ended, else-ended}

-- the fields that the reader has show its next line, by whether a line feed ends it
pub returns-clause-first : goal.returns-clause-first
returns-clause-first c =
    let left = ap (λ (v : LinesLeft). v.left) (sym c.self.view_is) in
    elim c.if-ended.branch [
      | then-ended w ↦ left ∙ next_line-ended c.self.inside.text.now _ _ _ _
          (omega arith) c.length_before.ensures.before c.length_before.ensures.stopped w.self-is
      | else-ended w ↦ left ∙ next_line-open c.self.inside.text.now _ _ _ _ (omega arith)
          (omega arith) c.length_before.ensures.within c.length_before.ensures.before w.self-is
    ]

pub returns-clause-number : goal.returns-clause-number
returns-clause-number c =
    let number = ap (λ (v : LinesLeft). v.number) c.self.view_is in
    (number, ap (λ n. n + 1) number)
