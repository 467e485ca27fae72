use Rattle.std.proofs.Common.{Some, ap, ◌∙◌}
use Rattle.sa_fast.specs.Threads.{block_at}
use Rattle.sa_fast.specs.Instruction.{blocks, touched}
use Rattle.sa_fast.proofs.instruction.touch.Goals as goal

pub returns-else-has_page : goal.returns-else-has_page
returns-else-has_page c w =
    let a = c.args in
    c.block_for.ensures w ∙ ap (λ b. blocks a.shared.now w a.t b a.fetch (Some a.page)) c.block-block.ensures
    ∙ ap (touched a.shared.now w a.t (block_at a.shared.now.threads a.t.0) a.fetch a.page) c.if-has_page.ensures
