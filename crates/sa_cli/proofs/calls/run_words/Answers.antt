use Rattle.std.proofs.Common.{Some, sym, ap, ◌∙◌}
use Rattle.sa_command.specs.declared.command.Command.TheVariants.{Threads}
use Rattle.sa_cli.proofs.calls.run_words.Goals as goal

pub run_threads-requires-after_bounds : goal.run_threads-requires-after_bounds
run_threads-requires-after_bounds g c κs within =
    let threads = c.in-Some-Threads in
    c.commands_are_in_range.ensures c.args.words.now (Threads threads.budget threads.burst)
    (sym c.read_words.ensures ∙ threads.is ∙ ap Some threads.field-0-is)
