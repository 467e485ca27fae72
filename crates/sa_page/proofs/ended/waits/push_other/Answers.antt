use Rattle.std.proofs.Common.{◌≡◌, ℕ, List, ◌++◌, OnOk, subst}
use Rattle.std.specs.Prelude.{codes, decimal}
use Rattle.sa_page.specs.Ended.{other_words}
use Rattle.sa_page.proofs.ended.waits.push_other.Goals as goal

pub returns : goal.returns
unfolding other_words
returns c =
    subst (λ (word : List ℕ). OnOk c.push_number.result (c.push_number.new.out.items ≡ c.args.out.now.items ++ (codes ", which thread " ++ (decimal c.args.t ++ word))))
    c.holds_word.ensures
    (subst (λ (n : ℕ).
    OnOk c.push_number.result (c.push_number.new.out.items
    ≡ c.args.out.now.items ++ (codes ", which thread " ++ (decimal n ++ c.holds_word.result.now)))) c.from.ensures c.push_number.ensures)
