use Rattle.std.proofs.Common.{◌≡◌, ℕ, ◌∙◌, sym, ap, subst}
use Rattle.sa_laws.specs.State.{space_at}
use Rattle.sa_ranks.specs.Pairs.{is_outranked}
use Rattle.sa_check_moment.specs.Ranked.{is_below}
use Rattle.sa_check_moment.specs.declared.moment.Parts.{Parts}
use Rattle.sa_check_moment.specs.Level.{IsKeptFor}
use Rattle.sa_check_moment.specs.Seen.{Kept, seen}
use Rattle.sa_check_moment.specs.KeptFields.{kept_in}
use Rattle.sa_check_moment.proofs.moment.Moment.best_rank.Goals as goal

pub returns : goal.returns
unfolding seen
returns c =
    let parts = c.deref.result.now in
    let same = ap kept_in c.deref.ensures ∙ c.self.view_is in
    let kept : IsKeptFor parts.level (kept_in parts).state (kept_in parts).ready =
    subst (λ (k : Parts). IsKeptFor k.level (kept_in k).state (kept_in k).ready) (sym c.deref.ensures) c.self.invariant.kept in
    let all = c.best.ensures (kept_in parts).state (kept_in parts).ready (ap (λ (k : Kept). k.rules) same ∙ c.requires) kept in
    subst (λ (k : Kept). (rank : ℕ) → is_outranked (space_at k.state c.args.s) rank ≡ is_below rank c.best.result) same all
