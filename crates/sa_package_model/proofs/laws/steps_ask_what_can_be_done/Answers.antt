use Rattle.sa_package_model.proofs.Asking.{step-asks}
use Rattle.sa_package_model.proofs.laws.steps_ask_what_can_be_done.Goals as goal

pub returns : goal.returns
returns c = λ s u seen ctx made can. step-asks s u seen made ctx can
