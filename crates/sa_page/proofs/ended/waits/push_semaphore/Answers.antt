use Rattle.std.proofs.Common.{◌≡◌, ℕ, ◌++◌, OnOk, subst}
use Rattle.std.specs.Prelude.{codes, decimal}
use Rattle.sa_page.specs.Ended.{semaphore_words}
use Rattle.sa_page.proofs.ended.waits.push_semaphore.Goals as goal

pub returns : goal.returns
unfolding semaphore_words
returns c =
    subst (λ (n : ℕ).
    OnOk c.push_number.result (c.push_number.new.out.items
    ≡ c.args.out.now.items ++ (codes ", for semaphore " ++ (decimal n ++ codes ", which nobody is left to signal.\n")))) c.from.ensures c.push_number.ensures
