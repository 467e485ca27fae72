-- What a reader has read. Private functions cite this; no public clause does.
use Rattle.std.specs.Prelude.{◌≤◌, length}
use Rattle.sa_base.specs.declared.limits.TheConstants.{MAX_PROCESSORS}
use Rattle.sa_instr.specs.declared.limits.TheConstants.{MAX_EVICTIONS, MAX_INSTRUCTIONS}
use Rattle.toga_draft.specs.declared.reader.Reader.{Reader}
use Rattle.toga_draft.specs.Draft.{value_or}
use Rattle.toga_draft.specs.State.{State}

abbrev pub state_of : Reader → State
state_of r = record {
  stage = r.stage;
  processors = r.processors;
  fetch = r.fetch;
  slice = r.slice;
  spaces = r.spaces.items;
  space = r.space;
  program = r.program;
  evictions = r.evictions;
  turns = r.turns.items;
  last = r.last;
}

-- the limits that the next line relies on
pub record IsReady (s : State) : Type 0 where
  pub few_instructions : length s.program.instrs ≤ MAX_INSTRUCTIONS
  pub few_processors : value_or s.processors 2 ≤ MAX_PROCESSORS
  pub few_evictions : s.evictions ≤ MAX_EVICTIONS
