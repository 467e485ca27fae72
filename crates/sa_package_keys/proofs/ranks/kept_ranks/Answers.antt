use Rattle.std.proofs.Common.{◌≡◌, ◌-◌, inl, inr, sym, ap, ◌∙◌, arith}
use Rattle.std.proofs.lemmas.Bool.{cases_lt, eq-eqb}
use Rattle.sa_lists.specs.ReadyView.{rank_of}
use Rattle.sa_package_keys.proofs.Trimmed.{trimmed-kept, trimmed-none}
use Rattle.sa_package_keys.specs.Packages.{is_zero}
use Rattle.sa_package_keys.proofs.FirstRanks.{first_ranks, length-first_ranks, get_or-first_ranks}
use Rattle.sa_package_keys.proofs.Tests.{nonzero}
use Rattle.sa_package_keys.proofs.ranks.kept_ranks.Goals as goal

pub loop-t-init : goal.loop-t-init
loop-t-init c = λ t from low.
    absurd (let count = length-first_ranks c.args.lists.now.ranks c.args.lists.now.threads in omega arith)

pub returns-then-rank-ne0-clause-kept : goal.returns-then-rank-ne0-clause-kept
returns-then-rank-ne0-clause-kept c =
    let lists = c.args.lists.now in
    let t = c.loop-t.t - 1 in
    let count = length-first_ranks lists.ranks lists.threads in
    let here = get_or-first_ranks lists.ranks lists.threads t (omega arith) in
    trimmed-kept is_zero 0 (first_ranks lists.ranks lists.threads) t (omega arith)
    (nonzero _ (λ none. c.if-rank-ne0.true (c.rank.ensures ∙ sym here ∙ none)))
    (λ t from low. c.loop-t.invariant t (omega arith) low)

pub loop-t-preserved : goal.loop-t-preserved
loop-t-preserved c = λ t from low. elim (cases_lt t c.loop-t.t) [
  | inl less ↦
      let lists = c.args.lists.now in
      let at : t ≡ c.loop-t.t - 1 = omega arith in
      let here = get_or-first_ranks lists.ranks lists.threads t (omega arith) in
      eq-eqb _ 0 (here ∙ ap (rank_of lists.ranks) at ∙ sym c.rank.ensures ∙ c.if-rank-ne0.false)
  | inr more ↦ c.loop-t.invariant t more low
]

pub returns-clause-kept : goal.returns-clause-kept
returns-clause-kept c =
    trimmed-none is_zero 0 (first_ranks c.args.lists.now.ranks c.args.lists.now.threads) (λ t from low. c.loop-t.invariant t (omega arith) low)
