-- The first of the ready list is taken out of it, and is the thread that is next in the history.
use Rattle.std.proofs.Common.{◌≡◌, ℕ, zero, suc, ◌<◌, ◌≤◌, Bool, true, false, if◌then◌else◌, List, [], ◌∷◌, length, map, filter, drop, option_map, Option, Some, None, Contains, slice_get, sym, ap, ◌∙◌, subst, arith}
use Rattle.std.proofs.lemmas.List.{length-set}
use Rattle.std.proofs.lemmas.Option.{same_Some, none-some}
use Rattle.sa_base.specs.declared.number.SpaceNo.{SpaceNo}
use Rattle.sa_base.specs.declared.number.ThreadNo.{ThreadNo}
use Rattle.sa_links.proofs.Counting.{count_same, count-cons-ge}
use Rattle.sa_links.specs.Lists.{count_in}
use Rattle.sa_lists.proofs.Changes.{list_of-with_list_same}
use Rattle.sa_lists.specs.ReadyView.{ReadyView, rank_of, list_of, with_list, newest, thread}
use Rattle.sa_fast.specs.Threads.{block_at}
use Rattle.sa_abstract.specs.Calls.{Contexts}
use Rattle.sa_abstract.specs.Setting.{Setting}
use Rattle.sa_package_model.specs.Stands.{IsStanding}
use Rattle.sa_package_model.specs.declared.context.Context.{Context}
use Rattle.sa_package_model.specs.declared.package.Package.{Package}
use Rattle.sa_laws.specs.Readings.{Readings, Listed, ready_of}
use Rattle.sa_laws.specs.Record.{is_other_thread}
use Rattle.sa_laws.specs.State.{space_at}
use Rattle.sa_fast_laws.specs.FastFits.{Holds, number_in}
use Rattle.sa_ranks.specs.Locks.{greatest_of, next_by_rank}
use Rattle.sa_ranks.specs.Pairs.{rank_in}
use Rattle.sa_prio_laws.proofs.relation.Listed.{order-pop, greatest-alike}
use Rattle.sa_prio_laws.proofs.relation.Orders.{count-by_rank, first-by_rank}
use Rattle.sa_prio_laws.proofs.relation.Ready.{listed-made, rank-is}
use Rattle.sa_prio_laws.specs.ByRank.{by_rank}
use Rattle.sa_prio_laws.specs.Ready.{FitsRanked}

-- what is left was there
filter-had : (p : Listed → Bool) (xs : List Listed) (y : Listed) → Contains (filter p xs) y → Contains xs y
filter-had p [] y has = has
filter-had p (x ∷ xs) y has = by (filter-had p xs y) (p x) has where
  later : Contains xs y → Contains (x ∷ xs) y
  later (n, inside, same) = (suc n, omega arith, same)

  by : (Contains (filter p xs) y → Contains xs y) → (b : Bool) → Contains (if b then x ∷ filter p xs else filter p xs) y → Contains (x ∷ xs) y
  by had true (zero, inside, same) = (zero, omega arith, same)
  by had true (suc n, inside, same) = later (had (n, omega arith, same))
  by had false left = later (had left)

-- a thread of the history's list is one of the numbers
counted : (xs : List Listed) (y : Listed) → Contains xs y → 1 ≤ count_in y.thread.0 (map number_in xs)
counted [] y (n, inside, same) = absurd (omega arith)
counted (x ∷ xs) y (zero, inside, same) =
    let one = count_same y.thread.0 x.thread.0 (map number_in xs) (ap number_in same) in omega arith
counted (x ∷ xs) y (suc n, inside, same) =
    let rest = counted xs y (n, omega arith, same) in let more = count-cons-ge y.thread.0 x.thread.0 (map number_in xs) in omega arith

-- THE PACKAGE with the first taken out of its list
pub ranked-popped : (u v : Package) (t : ThreadNo) (listed : List Listed) → 0 < length u.shared.state.lists.lists
    → v.shared.state.lists ≡ with_list u.shared.state.lists 0 (drop 1 (list_of u.shared.state.lists 0))
    → ((n : ThreadNo) → (block_at v.shared.threads n.0).program ≡ (block_at u.shared.threads n.0).program)
    → count_in t.0 (list_of u.shared.state.lists 0) ≤ 1 → newest u.shared.state.lists 0 ≡ Some t.0 → FitsRanked u listed
    → FitsRanked v (filter (is_other_thread t) listed)
ranked-popped u v t listed room lists programs once first f =
    let old = u.shared.state.lists in
    let left = drop 1 (list_of old 0) in
    record {
      one = ap (λ (z : ReadyView). length z.lists) lists ∙ length-set old.lists 0 left ∙ f.one;
      many = ap (λ (z : ReadyView). length z.ranks) lists ∙ f.many ∙ sym (ap (λ (z : ReadyView). z.threads) lists);
      there = λ y has. f.there y (filter-had (is_other_thread t) listed y has);
      order = ap (λ (z : ReadyView). list_of z 0) lists ∙ list_of-with_list_same old 0 left room ∙ ap (drop 1) f.order
          ∙ order-pop old.ranks listed t (subst (λ xs. count_in t.0 xs ≤ 1) f.order once) (subst (λ xs. slice_get xs 0 ≡ Some t.0) f.order first)
          ∙ sym (ap (λ (z : ReadyView). by_rank z.ranks (map number_in (filter (is_other_thread t) listed))) lists);
      ranks = λ n made. ap (λ (z : ReadyView). rank_of z.ranks n.0) lists
          ∙ f.ranks n (subst (λ (z : ReadyView). n.0 < z.made) lists made) ∙ sym (programs n);
    }

-- THE FIRST IS NEXT in the history
module _ (set : Setting) (e : ℕ) (u : Package) (bs : Contexts Context) (h : IsStanding set e u bs) (s : SpaceNo) (r : Readings) (k : Holds s r u bs)
    (f : FitsRanked u (ready_of r s)) where
  ranks-agree : (y : Listed) → Contains (ready_of r s) y → rank_of u.shared.state.lists.ranks y.thread.0 ≡ rank_in (space_at r.state s) y.thread
  ranks-agree y has =
      let there = counted (ready_of r s) y has in
      let all = count-by_rank u.shared.state.lists.ranks [] (map number_in (ready_of r s)) y.thread.0 in
      let listed : 1 ≤ count_in y.thread.0 (list_of u.shared.state.lists 0) = subst (λ xs. 1 ≤ count_in y.thread.0 xs) (sym f.order) (omega arith) in
      let made = listed-made set e u bs h s r k (ready_of r s) f y.thread.0 listed in
      f.ranks y.thread made ∙ sym (rank-is set e u bs h s r k (ready_of r s) f y.thread made)

  pub first-next : (t : ℕ) → newest u.shared.state.lists 0 ≡ Some t → next_by_rank r s ≡ Some (thread t)
  first-next t first = by (greatest_of (space_at r.state s) (ready_of r s)) (
      sym (greatest-alike u.shared.state.lists.ranks (space_at r.state s) (ready_of r s) ranks-agree)
      ∙ sym (first-by_rank u.shared.state.lists.ranks (map number_in (ready_of r s)))
      ∙ ap (λ xs. slice_get xs 0) (sym f.order) ∙ first) where
        by : (o : Option Listed) → option_map number_in o ≡ Some t → option_map (λ (l : Listed). l.thread) o ≡ Some (thread t)
        by None none = absurd (none-some t none)
        by (Some x) is = ap (λ m. Some (thread m)) (same_Some x.thread.0 t is)
