use Rattle.sa_kernel_model.proofs.sound.Prompt.{prompt-closed}
use Rattle.sa_kernel_laws.proofs.facts.notices_wait_rightly.Goals as goal

pub returns : goal.returns
returns g c = prompt-closed
