use Rattle.std.proofs.Common.{◌∙◌, sym, ap, subst, []}
use Rattle.std.specs.Prelude.{slice_index_or}
use Rattle.sa_laws.specs.State.{space_at}
use Rattle.sa_check_moment.specs.declared.moment.Parts.{Parts}
use Rattle.sa_check_moment.specs.Level.{IsKeptFor, next_of}
use Rattle.sa_check_moment.specs.Seen.{Kept, seen}
use Rattle.sa_check_moment.specs.KeptFields.{kept_in}
use Rattle.sa_check_moment.proofs.moment.Moment.next_by_rank.Goals as goal

pub returns : goal.returns
unfolding seen
returns c =
    let parts = c.deref.result.now in
    let same = ap kept_in c.deref.ensures ∙ c.self.view_is in
    let kept : IsKeptFor parts.level (kept_in parts).state (kept_in parts).ready =
    subst (λ (k : Parts). IsKeptFor k.level (kept_in k).state (kept_in k).ready) (sym c.deref.ensures) c.self.invariant.kept in
    c.next.ensures (kept_in parts).state (kept_in parts).ready (ap (λ (k : Kept). k.rules) same ∙ c.requires) kept
    ∙ ap (λ (k : Kept). next_of (space_at k.state c.args.s) (slice_index_or k.ready c.args.s.0 [])) same
