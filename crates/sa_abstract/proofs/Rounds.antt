-- One record an event, all of them the same, from what is left of them.
use Rattle.std.proofs.Common.{◌≡◌, ℕ, suc, ◌+◌, ◌-◌, ◌<◌, ◌++◌, List, [], ◌∷◌, replicate, ap, ◌∙◌, arith, append_assoc}
use Rattle.sa_base.specs.declared.number.ProcNo.{ProcNo}
use Rattle.sa_base.specs.declared.record.Item.{Item}
use Rattle.sa_base.specs.declared.record.Record.{Record}
use Rattle.sa_base.specs.Items.{items_from}

pub items-more : (what r : Record) (p : ProcNo) (n done event next : ℕ) (before : List Item) → what ≡ r → done < n → next ≡ event + 1
    → (before ++ record { event = event; proc = p; what = what } ∷ []) ++ items_from next p (replicate (n - (done + 1)) r)
    ≡ before ++ items_from event p (replicate (n - done) r)
items-more what r p n done event next before is more e =
    let left : suc (n - (done + 1)) ≡ n - done = omega arith in
    append_assoc before (record { event = event; proc = p; what = what } ∷ []) (items_from next p (replicate (n - (done + 1)) r))
    ∙ ap (λ k. before ++ record { event = event; proc = p; what = what } ∷ items_from k p (replicate (n - (done + 1)) r)) e
    ∙ ap (λ w. before ++ record { event = event; proc = p; what = w } ∷ items_from (event + 1) p (replicate (n - (done + 1)) r)) is
    ∙ ap (λ k. before ++ items_from event p (replicate k r)) left
