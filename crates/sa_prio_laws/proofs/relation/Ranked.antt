-- The ready list stays in order where the threads keep their programs, and nothing comes into the list or leaves it.
use Rattle.std.proofs.Common.{◌≡◌, ◌<◌, List, length, map, sym, ap, ◌∙◌, subst}
use Rattle.sa_base.specs.declared.number.SpaceNo.{SpaceNo}
use Rattle.sa_base.specs.declared.number.ThreadNo.{ThreadNo}
use Rattle.sa_lists.specs.ReadyView.{ReadyView, rank_of, list_of}
use Rattle.sa_fast.specs.Threads.{block_at}
use Rattle.sa_abstract.specs.Calls.{Contexts}
use Rattle.sa_package_model.specs.declared.context.Context.{Context}
use Rattle.sa_package_model.specs.declared.package.Package.{Package}
use Rattle.sa_laws.specs.Readings.{Readings, Listed}
use Rattle.sa_laws.specs.State.{space_at, thread_in}
use Rattle.sa_fast_laws.specs.FastFits.{Holds, number_in}
use Rattle.sa_prio_laws.specs.ByRank.{by_rank}
use Rattle.sa_prio_laws.specs.Ready.{FitsRanked}

pub ranked-same : (u v : Package) → v.shared.state.lists ≡ u.shared.state.lists
    → ((t : ThreadNo) → t.0 < u.shared.state.lists.made → (block_at v.shared.threads t.0).program ≡ (block_at u.shared.threads t.0).program)
    → (listed : List Listed) → FitsRanked u listed → FitsRanked v listed
ranked-same u v lists programs listed f = record {
  one = ap (λ (x : ReadyView). length x.lists) lists ∙ f.one;
  many = ap (λ (x : ReadyView). length x.ranks) lists ∙ f.many ∙ sym (ap (λ (x : ReadyView). x.threads) lists);
  there = f.there;
  order = ap (λ (x : ReadyView). list_of x 0) lists ∙ f.order ∙ sym (ap (λ (x : ReadyView). by_rank x.ranks (map number_in listed)) lists);
  ranks = λ t made.
      let was = subst (λ (x : ReadyView). t.0 < x.made) lists made in
      ap (λ (x : ReadyView). rank_of x.ranks t.0) lists ∙ f.ranks t was ∙ sym (programs t was);
}

-- so where both are beside moments at which the space is the same
pub ranked-kept : (s : SpaceNo) (r q : Readings) (u v : Package) (bs ds : Contexts Context) → Holds s r u bs → Holds s q v ds
    → space_at q.state s ≡ space_at r.state s → v.shared.state.lists ≡ u.shared.state.lists → (listed : List Listed) → FitsRanked u listed
    → FitsRanked v listed
ranked-kept s r q u v bs ds before now space lists listed f = ranked-same u v lists (λ t was.
    sym (now.space.threads t (subst (λ (x : ReadyView). t.0 < x.made) (sym lists) was)).program ∙ ap (λ x. (thread_in x t).program) space
    ∙ (before.space.threads t was).program) listed f
