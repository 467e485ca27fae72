use Rattle.std.proofs.Common.{refl}
use Rattle.sa_workload.proofs.stage.Reader.machine_field.Goals as goal

pub returns-in-Version : goal.returns-in-Version
returns-in-Version c = rw (c.in-Version.is, c.from.ensures) refl

pub returns-in-Processors : goal.returns-in-Processors
returns-in-Processors c = rw c.in-Processors.is refl

pub returns-in-Fetch : goal.returns-in-Fetch
returns-in-Fetch c = rw c.in-Fetch.is refl

pub returns-in-Spaces : goal.returns-in-Spaces
returns-in-Spaces c = rw c.in-Spaces.is refl
