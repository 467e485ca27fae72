use Rattle.std.specs.Prelude.{codes}
use Rattle.sa_lemmas.proofs.Texts.{appended_twice}
use Rattle.toga_say.specs.Thread.{signal_text}
use Rattle.toga_say.proofs.thread.push_signal.Goals as goal

pub returns : goal.returns
unfolding signal_text
returns c =
    appended_twice c.args.out.now.items (codes "a signal of semaphore ") c.args.name.now c.extend_from_slice.new.self.items
    c.extend_from_slice-2.new.self.items c.in_ok-extend_from_slice.ensures.items c.in_ok-extend_from_slice-2.ensures.items
