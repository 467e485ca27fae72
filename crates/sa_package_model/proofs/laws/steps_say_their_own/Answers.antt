use Rattle.sa_package_model.proofs.Saying.{step-own}
use Rattle.sa_package_model.proofs.laws.steps_say_their_own.Goals as goal

pub returns : goal.returns
returns c = λ s u seen ctx made. step-own s u seen made ctx
