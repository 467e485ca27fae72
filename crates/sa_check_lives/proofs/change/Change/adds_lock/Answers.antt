use Rattle.std.proofs.Common.{◌≡◌, false, refl, sym, ap}
use Rattle.sa_check_lives.specs.declared.change.Change.{Change}
use Rattle.sa_check_lives.specs.declared.change.Change.TheVariants.{Take}
use Rattle.sa_check_lives.specs.declared.lock.ListLock.{ListLock}
use Rattle.sa_check_lives.specs.Change.{adds_lock}
use Rattle.sa_check_lives.proofs.change.Change.adds_lock.Goals as goal

-- a change that takes no lock adds none
no_lock : (change : Change) → ((lock : ListLock) → change ≡ Take lock → ⊥) → false ≡ adds_lock change
no_lock (Take lock) other = absurd (other lock refl)
no_lock _ other = refl

pub returns-in-Take : goal.returns-in-Take
returns-in-Take c = ap adds_lock (sym c.in-Take.is)

pub returns-in_default : goal.returns-in_default
returns-in_default c = no_lock c.args.self.now c.in_default.not-Take
