use Rattle.std.proofs.Common.{◌≡◌, ◌-◌, ◌≤◌, ◌++◌, length, take, drop}
use Rattle.sa_core.specs.View.{machine}
use Rattle.sa_replies.specs.Telling.{opened, told_through, items_text}
use Rattle.sa_session.specs.Text.{text_from}
use Rattle.sa_session.proofs.session.Session.tell.Given as goal

-- what is known is known of the items that were told, and what was said, with the lines of the others, is all that there is to say
abbrev pub invariant-loop-self : goal.invariant-loop-self
invariant-loop-self l = record {
  core : l.self-inside.core ≡ l.fn.self.core;
  few : l.self-inside.told ≤ length (machine l.fn.self.core).items;
  knows : l.self-inside.teller ≡ told_through (opened (machine l.fn.self.core).workload) (take l.self-inside.told (machine l.fn.self.core).items);
  text : l.said.items ++ items_text l.self-inside.teller (drop l.self-inside.told (machine l.fn.self.core).items)
      ≡ l.initial.said.items ++ text_from l.fn.self.told (machine l.fn.self.core).workload (machine l.fn.self.core).items;
}

abbrev pub decreases-loop-self : goal.decreases-loop-self
decreases-loop-self l = length (machine l.fn.self.core).items - l.self-inside.told
