use Rattle.std.proofs.Common.{◌≡◌, ℕ, ◌<◌, false, List, [], length, replicate, ap, ◌∙◌}
use Rattle.std.proofs.lemmas.List.{length-replicate, get_or-replicate}
use Rattle.std.proofs.lemmas.Result.{IfOk-weaker}
use Rattle.sa_lists.specs.declared.rank_set.RankSet.{RankSet}
use Rattle.sa_lists.specs.RankSet.{has}
use Rattle.sa_lists.specs.Chains.{words_of}
use Rattle.sa_lists.proofs.ranked.no_ranks.Goals as goal

-- so many sets without ranks
all_bare : (n count : ℕ) (x : RankSet) (xs : List RankSet) → ((k : ℕ) → has x.words k ≡ false) → n ≡ count → xs ≡ replicate n x
    → (length xs ≡ count) × ((l k : ℕ) → l < count → has (words_of xs l) k ≡ false)
all_bare n count x xs none same is =
    let all : xs ≡ replicate count x = is ∙ ap (λ m. replicate m x) same in (
      ap length all ∙ length-replicate count x,
      λ l k inside. ap (λ ys. has (words_of ys l) k) all
          ∙ ap (λ (s : RankSet). has s.words k) (get_or-replicate count l x (record { words = [] }) inside) ∙ none k,
    )

pub returns : goal.returns
returns c =
    IfOk-weaker c.vec.result _ _
    (λ filled given. all_bare c.from.result c.args.lists c.new.result filled.items c.new.ensures c.from.ensures (given (λ y h. h)))
    c.vec.ensures.items_if_clones_equal
