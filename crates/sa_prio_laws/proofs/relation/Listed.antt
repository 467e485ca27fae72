-- The ready list as a thread comes into it or is taken out of it, and which thread is next.
use Rattle.std.proofs.Common.{◌≡◌, ℕ, zero, suc, length, ◌<◌, ◌≤◌, nat_lt, Bool, true, false, not, List, [], ◌∷◌, ◌++◌, map, filter, drop, option_map, Option, Some, None, slice_get, Contains, if◌then◌else◌, refl, sym, ap, ◌∙◌, subst, inl, inr, arith}
use Rattle.std.proofs.lemmas.List.Elements.{Contains-append_cases}
use Rattle.std.proofs.lemmas.Bool.{cases_eq, eq-eqb, ne_eqb}
use Rattle.std.proofs.lemmas.List.{map-append, length-set}
use Rattle.std.proofs.lemmas.Option.{same_Some}
use Rattle.sa_base.specs.declared.number.ThreadNo.{ThreadNo}
use Rattle.sa_links.specs.Lists.{count_in, without}
use Rattle.sa_lists.proofs.Changes.{list_of-with_list_same}
use Rattle.sa_lists.specs.ReadyView.{ReadyView, rank_of, list_of, inserted, pushed}
use Rattle.sa_fast.specs.Threads.{block_at}
use Rattle.sa_package_model.specs.declared.package.Package.{Package}
use Rattle.sa_laws.specs.Readings.{Listed}
use Rattle.sa_laws.specs.Record.{is_other_thread}
use Rattle.sa_laws.specs.State.{SpaceState}
use Rattle.sa_fast_laws.specs.FastFits.{number_in}
use Rattle.sa_ranks.specs.Locks.{greater_of, greatest_of}
use Rattle.sa_ranks.specs.Pairs.{rank_in}
use Rattle.sa_prio_laws.proofs.relation.Orders.{by_rank-append, by_rank-without, without-first}
use Rattle.sa_prio_laws.specs.Ready.{FitsRanked}
use Rattle.sa_prio_laws.specs.ByRank.{by_rank, greater, greatest}

-- A THREAD COMES after the others
pub order-push : (ranks : List ℕ) (listed : List Listed) (x : Listed)
    → by_rank ranks (map number_in (listed ++ x ∷ [])) ≡ inserted ranks (number_in x) (by_rank ranks (map number_in listed))
order-push ranks listed x =
    ap (by_rank ranks) (map-append number_in listed (x ∷ [])) ∙ by_rank-append ranks [] (map number_in listed) (number_in x)

-- THE FIRST IS TAKEN OUT
numbers-left : (t : ThreadNo) (xs : List Listed) → map number_in (filter (is_other_thread t) xs) ≡ without t.0 (map number_in xs)
numbers-left t [] = refl
numbers-left t (x ∷ xs) = elim (cases_eq x.thread.0 t.0) [
  | inl e ↦
      ap (λ b. map number_in (if not b then x ∷ filter (is_other_thread t) xs else filter (is_other_thread t) xs)) (eq-eqb x.thread.0 t.0 e)
      ∙ numbers-left t xs
      ∙ sym (ap (λ b. if not b then x.thread.0 ∷ without t.0 (map number_in xs) else without t.0 (map number_in xs)) (eq-eqb x.thread.0 t.0 e))
  | inr ne ↦
      ap (λ b. map number_in (if not b then x ∷ filter (is_other_thread t) xs else filter (is_other_thread t) xs)) (ne_eqb x.thread.0 t.0 ne)
      ∙ ap (λ ns. x.thread.0 ∷ ns) (numbers-left t xs)
      ∙ sym (ap (λ b. if not b then x.thread.0 ∷ without t.0 (map number_in xs) else without t.0 (map number_in xs)) (ne_eqb x.thread.0 t.0 ne))
]

pub order-pop : (ranks : List ℕ) (listed : List Listed) (t : ThreadNo) → count_in t.0 (by_rank ranks (map number_in listed)) ≤ 1
    → slice_get (by_rank ranks (map number_in listed)) 0 ≡ Some t.0
    → drop 1 (by_rank ranks (map number_in listed)) ≡ by_rank ranks (map number_in (filter (is_other_thread t) listed))
order-pop ranks listed t once first =
    sym (without-first (by_rank ranks (map number_in listed)) t.0 once first)
    ∙ by_rank-without ranks [] (map number_in listed) t.0 tt
    ∙ ap (by_rank ranks) (sym (numbers-left t listed))

-- WHICH IS NEXT, as the history reads it
greater-alike : (ranks : List ℕ) (x : SpaceState) (older : Listed) (newer : Option Listed) → rank_of ranks older.thread.0 ≡ rank_in x older.thread
    → ((y : Listed) → newer ≡ Some y → rank_of ranks y.thread.0 ≡ rank_in x y.thread)
    → greater ranks (Some (number_in older)) (option_map number_in newer) ≡ option_map number_in (greater_of x older newer)
greater-alike ranks x older None one all = refl
greater-alike ranks x older (Some newer) one all =
    ap (λ n. if nat_lt n (rank_of ranks older.thread.0) then Some older.thread.0 else Some newer.thread.0) (all newer refl)
    ∙ ap (λ n. if nat_lt (rank_in x newer.thread) n then Some older.thread.0 else Some newer.thread.0) one
    ∙ by (nat_lt (rank_in x newer.thread) (rank_in x older.thread)) where
      by : (b : Bool) → (if b then Some older.thread.0 else Some newer.thread.0) ≡ option_map number_in (if b then Some older else Some newer)
      by true = refl
      by false = refl

greatest-in : (x : SpaceState) (xs : List Listed) (y : Listed) → greatest_of x xs ≡ Some y → Contains xs y
greatest-in x [] y is = absurd cc
greatest-in x (z ∷ zs) y is = by (greatest-in x zs) (greatest_of x zs) refl is where
  later : Contains zs y → Contains (z ∷ zs) y
  later has = (suc has.0, (let inside = has.1 in omega arith), has.2)

  here : z ≡ y → Contains (z ∷ zs) y
  here same = (zero, omega arith, same)

  by : ((n : Listed) → greatest_of x zs ≡ Some n → Contains zs n) → (o : Option Listed) → greatest_of x zs ≡ o → greater_of x z o ≡ Some y → Contains (z ∷ zs) y
  by deeper None none is = here (same_Some z y is)
  by deeper (Some n) some is = choose (nat_lt (rank_in x n.thread) (rank_in x z.thread)) is where
    choose : (b : Bool) → (if b then Some z else Some n) ≡ Some y → Contains (z ∷ zs) y
    choose true e = here (same_Some z y e)
    choose false e = later (subst (λ m. Contains zs m) (same_Some n y e) (deeper n some))

pub greatest-alike : (ranks : List ℕ) (x : SpaceState) (xs : List Listed)
    → ((y : Listed) → Contains xs y → rank_of ranks y.thread.0 ≡ rank_in x y.thread)
    → greatest ranks (map number_in xs) ≡ option_map number_in (greatest_of x xs)
greatest-alike ranks x [] all = refl
greatest-alike ranks x (z ∷ zs) all =
    ap (greater ranks (Some (number_in z))) (greatest-alike ranks x zs (λ y has. all y (suc has.0, (let inside = has.1 in omega arith), has.2)))
    ∙ greater-alike ranks x z (greatest_of x zs) (all z (zero, omega arith, refl))
    (λ y is. let has = greatest-in x zs y is in all y (suc has.0, (let inside = has.1 in omega arith), has.2))

Contains-one : (x y : Listed) → Contains (x ∷ []) y → x ≡ y
Contains-one x y (zero, inside, same) = same
Contains-one x y (suc n, inside, same) = absurd (omega arith)

-- THE PACKAGE with one thread more in its list
pub ranked-pushed : (u v : Package) (x : Listed) (listed : List Listed) → x.list.0 ≡ 0 → 0 < length u.shared.state.lists.lists
    → v.shared.state.lists ≡ pushed u.shared.state.lists 0 (number_in x)
    → ((t : ThreadNo) → (block_at v.shared.threads t.0).program ≡ (block_at u.shared.threads t.0).program) → FitsRanked u listed
    → FitsRanked v (listed ++ x ∷ [])
ranked-pushed u v x listed first room lists programs f =
    let old = u.shared.state.lists in
    let xs = inserted old.ranks (number_in x) (list_of old 0) in
    record {
      one = ap (λ (z : ReadyView). length z.lists) lists ∙ length-set old.lists 0 xs ∙ f.one;
      many = ap (λ (z : ReadyView). length z.ranks) lists ∙ f.many ∙ sym (ap (λ (z : ReadyView). z.threads) lists);
      there = λ y has. elim (Contains-append_cases listed (x ∷ []) y has) [
        | inl old_one ↦ f.there y old_one
        | inr new_one ↦ ap (λ (z : Listed). z.list.0) (sym (Contains-one x y new_one)) ∙ first
      ];
      order = ap (λ (z : ReadyView). list_of z 0) lists ∙ list_of-with_list_same old 0 xs room ∙ ap (inserted old.ranks (number_in x)) f.order
          ∙ sym (order-push old.ranks listed x) ∙ sym (ap (λ (z : ReadyView). by_rank z.ranks (map number_in (listed ++ x ∷ []))) lists);
      ranks = λ t made. ap (λ (z : ReadyView). rank_of z.ranks t.0) lists
          ∙ f.ranks t (subst (λ (z : ReadyView). t.0 < z.made) lists made) ∙ sym (programs t);
    }
