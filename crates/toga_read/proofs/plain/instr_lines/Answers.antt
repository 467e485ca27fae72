use Rattle.std.proofs.Common.{◌++◌, List, ℕ, ◌∙◌, ap, append_assoc, sym}
use Rattle.std.specs.List.{flat_map}
use Rattle.sa_text.specs.declared.line_reader.Line.{Line}
use Rattle.toga_read.specs.Reading.{instr_line}
use Rattle.toga_read.proofs.plain.instr_lines.Goals as goal

pub loop-line-init : goal.loop-line-init
loop-line-init c = (
  c.new-lines.ensures.text,
  ap (λ (zs : List ℕ). zs ++ flat_map (instr_line c.args.text.now) c.new-lines.result.left) c.new-numbers.ensures.items
      ∙ ap (flat_map (instr_line c.args.text.now)) c.new-lines.ensures.lines,
)

pub loop-line-preserved : goal.loop-line-preserved
loop-line-preserved c =
    let f : Line → List ℕ = instr_line c.args.text.now in (
      c.in-Some.ensures.text ∙ c.loop-line.invariant.0,
      ap (λ (zs : List ℕ). zs ++ flat_map f c.next.new.self.left) c.in_ok-push_instr_line.ensures
          ∙ append_assoc c.loop-line.numbers.items (f c.in-Some.line) (flat_map f c.next.new.self.left)
          ∙ ap (λ (ls : List Line). c.loop-line.numbers.items ++ flat_map f ls) (sym c.in-Some.ensures.first) ∙ c.loop-line.invariant.1,
    )
