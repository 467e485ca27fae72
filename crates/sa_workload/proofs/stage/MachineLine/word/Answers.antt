use Rattle.std.proofs.Common.{sym, ap}
use Rattle.sa_workload.specs.Stage.{machine_word}
use Rattle.sa_workload.proofs.stage.MachineLine.word.Goals as goal

pub returns-in-Version : goal.returns-in-Version
returns-in-Version c = ap machine_word (sym c.in-Version.is)

pub returns-in-Processors : goal.returns-in-Processors
returns-in-Processors c = ap machine_word (sym c.in-Processors.is)

pub returns-in-Fetch : goal.returns-in-Fetch
returns-in-Fetch c = ap machine_word (sym c.in-Fetch.is)

pub returns-in-Slice : goal.returns-in-Slice
returns-in-Slice c = ap machine_word (sym c.in-Slice.is)

pub returns-in-Spaces : goal.returns-in-Spaces
returns-in-Spaces c = ap machine_word (sym c.in-Spaces.is)
