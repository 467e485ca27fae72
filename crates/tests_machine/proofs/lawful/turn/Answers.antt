use Rattle.tests_machine.proofs.lawful.turn.Goals as goal

pub returns-then-is_some-clause-lawful : goal.returns-then-is_some-clause-lawful
returns-then-is_some-clause-lawful c = λ test w slices past. record {
  events = past.events;
  last_is = past.last_is;
  history = c.next_note.ensures.lawful test w past.events c.args.trace.now.items past.history;
}

pub returns-in-Some-clause-lawful : goal.returns-in-Some-clause-lawful
returns-in-Some-clause-lawful c = λ test w slices past. c.in_ok-enter.ensures.lawful c.args.slice c.args.last test w slices (record {
  events = past.events;
  last_is = past.last_is;
  history = c.next_note.ensures.lawful test w past.events c.args.trace.now.items past.history;
})

pub returns-clause-lawful : goal.returns-clause-lawful
returns-clause-lawful c = λ test w slices past. c.in_ok-tick.ensures.lawful test w slices (record {
  events = past.events;
  last_is = past.last_is;
  history = c.next_note.ensures.lawful test w past.events c.args.trace.now.items past.history;
})
