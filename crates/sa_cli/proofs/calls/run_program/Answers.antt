use Rattle.sa_cli.proofs.TopCalls.{no-search}
use Rattle.sa_cli.proofs.calls.run_program.Goals as goal

pub returns-in-Ok-clause-untold : goal.returns-in-Ok-clause-untold
returns-in-Ok-clause-untold g c = λ none. c.run_words.ensures.untold (no-search c.args.args c.in-Ok.words c.in-Ok.ensures none)
