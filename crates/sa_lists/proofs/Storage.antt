-- How the ranked lists are stored, and what stays so.
use Rattle.std.proofs.Common.{◌≡◌, ◌≢◌, ◌↔◌, ℕ, ◌+◌, ◌*◌, ◌<◌, ◌≤◌, Bool, true, false, cond, not, eqb, Option, is_some, IfSome, List, [], ◌∷◌, length, replicate, drop, take, ◌-◌, Some, None, slice_get, slice_set, IsTrue, refl, sym, ap, ◌∙◌, subst, inl, inr, arith}
use Rattle.std.proofs.lemmas.Bool.{cases_eq, cases_lt, true≢false}
use Rattle.std.proofs.lemmas.List.{get_or-set_other, get_or-set_same, get_or_past, get_or-replicate, length-replicate, length-set, length-take, set-get_or}
use Rattle.std.proofs.lemmas.List.Sums.{sum_by-take-drop}
use Rattle.std.proofs.Math.Nat.{mul-le-mul_right}
use Rattle.sa_links.specs.Lists.{Lists, list_at, count_in, count_in_all, IsIn, IsApart, with_list}
use Rattle.sa_links.proofs.Counting.{count_other, count_at}
use Rattle.sa_lists.specs.declared.ranks.Ranks.{Ranks}
use Rattle.sa_lists.specs.declared.ranks.Ranks.TheVariants.{One, Many}
use Rattle.sa_lists.specs.declared.rank_set.RankSet.{RankSet}
use Rattle.sa_lists.specs.declared.ranks.TheConstants.{MAX_RANKS}
use Rattle.sa_lists.specs.ReadyView.{rank_of, inserted, opening_ranks}
use Rattle.sa_lists.specs.RankSet.{has, IsGreatest, IsLeast}
use Rattle.sa_lists.specs.Chains.{Ranked, width_of, joined, chains_of, lists_of, words_of, is_filled, IsBare, IsNoted, IsRanked}
use Rattle.sa_lists.proofs.Orders.{joined-pushed, joined-first, joined-last, joined-empty, filled-joined}
use Rattle.sa_lists.proofs.Blocks.{chain_below, list-is, lists-length, lists-set, chains-set_same, chains-set_other, chain-is, chains-length, chains-none, count-lists, lists-none}

-- their value
abbrev pub ranked_of : Ranks → Lists → List RankSet → List ℕ → Ranked
ranked_of kind links filled of = record {
  lists = record { nodes = links.nodes; lists = lists_of links.lists (width_of kind) (length filled) };
  ranks = of;
}

-- a chain is filled or not as the test of its emptiness says
pub filled_is : (xs : List ℕ) (b : Bool) → (IsTrue b ↔ (xs ≡ [])) → not b ≡ is_filled xs
filled_is [] true is = refl
filled_is [] false is = absurd (true≢false (sym (is.1 refl)))
filled_is (x ∷ xs) true is = absurd (let h : (x ∷ xs) ≡ [] = is.0 refl in cc)
filled_is (x ∷ xs) false is = refl

module _ (kind : Ranks) (links : Lists) (filled : List RankSet) (of : List ℕ) (h : IsRanked kind links.lists filled of)
    (now : Ranked) (view : ranked_of kind links filled of ≡ now) where
  abbrev lists : List (List ℕ)
  lists = lists_of links.lists (width_of kind) (length filled)

  lists_are : lists ≡ now.lists.lists
  lists_are = ap (λ (r : Ranked). r.lists.lists) view

  -- there is a set for each list, and a thread is in the lists as often as in the chains
  pub inside : (l : ℕ) → l < length now.lists.lists → l < length filled
  inside l less = subst (λ n. l < n) (ap length (sym lists_are) ∙ lists-length (width_of kind) links.lists (length filled)) less

  pub count-is : (t : ℕ) → count_in_all t now.lists.lists ≡ count_in_all t links.lists
  count-is t = ap (count_in_all t) (sym lists_are) ∙ count-lists (width_of kind) t links.lists (length filled) h.size

  pub nodes-are : now.lists.nodes ≡ links.nodes
  nodes-are = sym (ap (λ (r : Ranked). r.lists.nodes) view)

  pub apart : IsApart links → IsApart now.lists
  apart is = record {
    below = λ x some. subst (λ n. x < n) (sym nodes-are) (is.below x (subst (λ n. 1 ≤ n) (count-is x) some));
    once = λ x. subst (λ n. n ≤ 1) (sym (count-is x)) (is.once x);
  }

  pub chain-inside : (l k : ℕ) → l < length filled → k < width_of kind → l * width_of kind + k < length links.lists
  chain-inside l k less small = subst (λ n. l * width_of kind + k < n) (sym h.size) (chain_below l (length filled) k (width_of kind) less small)

  -- a chain of a list is one of the chains, also after another list came to its place
  pub chain-there : (l k chain : ℕ) → l < length filled → k < width_of kind → chain ≡ l * width_of kind + k → chain < length links.lists
  chain-there l k chain here small at = subst (λ n. n < length links.lists) (sym at) (chain-inside l k here small)

  pub chain-after : (l k chain : ℕ) (xs : List ℕ) (changed : Lists) → l < length filled → k < width_of kind → chain ≡ l * width_of kind + k
      → changed ≡ with_list links chain xs → chain < length changed.lists
  chain-after l k chain xs changed here small at is =
      subst (λ n. chain < n) (sym (ap (λ (c : Lists). length c.lists) is ∙ length-set links.lists chain xs)) (chain-there l k chain here small at)

  -- a number below that of the threads of the chains is one of a thread
  pub thread-below : (o : Option ℕ) (n : ℕ) → n ≡ links.nodes → IfSome o (λ t. t < n) → IfSome o (λ t. t < now.lists.nodes)
  thread-below o n same below = subst (λ m. IfSome o (λ t. t < m)) (same ∙ sym nodes-are) below

  -- the chains of a list are among all chains
  pub blocks_within : (l : ℕ) → l < length filled → (l + 1) * width_of kind ≤ length links.lists
  blocks_within l less = subst (λ n. (l + 1) * width_of kind ≤ n) (sym h.size) (mul-le-mul_right (width_of kind) (let more : l + 1 ≤ length filled = omega arith in more))

  module _ (l : ℕ) (here : l < length filled) where
    pub list-joined : list_at now.lists.lists l ≡ joined (chains_of links.lists (width_of kind) l)
    list-joined = ap (λ ls. list_at ls l) (sym lists_are) ∙ list-is (width_of kind) links.lists (length filled) l here

    -- a rank of the set is one of the list's
    pub has-small : (k : ℕ) → has (words_of filled l) k ≡ true → k < width_of kind
    has-small k some = elim (cases_lt k (width_of kind)) [
      | inl less ↦ less
      | inr more ↦
          let size = chains-length (width_of kind) links.lists (length filled) l h.size here in
          let none = get_or_past (chains_of links.lists (width_of kind) l) k [] (omega arith) in
          absurd (true≢false (sym some ∙ h.sets l k here ∙ ap is_filled none))
    ]

    chain-ranks : (k t : ℕ) → k < width_of kind → IsIn t (list_at links.lists (l * width_of kind + k)) → rank_of of t ≡ k
    chain-ranks k t small is = h.ranked l k t here (subst (IsIn t) (sym (chain-is (width_of kind) links.lists l k small)) is)

    -- a list without ranks is empty, and one that is empty has no ranks
    pub empty : ((k : ℕ) → has (words_of filled l) k ≡ false) → list_at now.lists.lists l ≡ []
    empty none = list-joined ∙ joined-empty (chains_of links.lists (width_of kind) l) (λ k. sym (h.sets l k here) ∙ none k)

    pub not-empty : (k : ℕ) → has (words_of filled l) k ≡ true → list_at now.lists.lists l ≢ []
    not-empty k some none =
        let filled_one = filled-joined (chains_of links.lists (width_of kind) l) k (sym (h.sets l k here) ∙ some) in
        true≢false (sym filled_one ∙ ap is_filled (sym list-joined ∙ none))

    -- the first and the last thread
    pub first-is : (k : ℕ) → IsGreatest (words_of filled l) (Some k)
        → (slice_get (list_at now.lists.lists l) 0 ≡ slice_get (list_at links.lists (l * width_of kind + k)) 0)
        × (drop 1 (list_at now.lists.lists l)
        ≡ joined (slice_set (chains_of links.lists (width_of kind) l) k (drop 1 (list_at links.lists (l * width_of kind + k)))))
    first-is k greatest =
        let chain = chain-is (width_of kind) links.lists l k (has-small k greatest.1) in
        let first = joined-first (chains_of links.lists (width_of kind) l) k (sym (h.sets l k here) ∙ greatest.1)
        (λ j more. sym (h.sets l j here) ∙ greatest.2 j more) in (
          ap (λ xs. slice_get xs 0) list-joined ∙ first.first ∙ ap (λ xs. slice_get xs 0) chain,
          ap (drop 1) list-joined ∙ first.rest ∙ ap (λ xs. joined (slice_set (chains_of links.lists (width_of kind) l) k (drop 1 xs))) chain,
        )

    pub last-is : (k : ℕ) → IsLeast (words_of filled l) (Some k)
        → let xs = list_at now.lists.lists l in let ys = list_at links.lists (l * width_of kind + k) in
        (slice_get xs (length xs - 1) ≡ slice_get ys (length ys - 1))
        × (take (length xs - 1) xs ≡ joined (slice_set (chains_of links.lists (width_of kind) l) k (take (length ys - 1) ys)))
    last-is k least =
        let chain = chain-is (width_of kind) links.lists l k (has-small k least.1) in
        let last = joined-last (chains_of links.lists (width_of kind) l) k (sym (h.sets l k here) ∙ least.1)
        (λ j less. sym (h.sets l j here) ∙ least.2 j less) in (
          ap (λ xs. slice_get xs (length xs - 1)) list-joined ∙ last.last ∙ ap (λ xs. slice_get xs (length xs - 1)) chain,
          ap (λ xs. take (length xs - 1) xs) list-joined ∙ last.rest
              ∙ ap (λ xs. joined (slice_set (chains_of links.lists (width_of kind) l) k (take (length xs - 1) xs))) chain,
        )

    pub pushed-is : (t : ℕ) → rank_of of t < width_of kind
        → inserted of t (list_at now.lists.lists l)
        ≡ joined (slice_set (chains_of links.lists (width_of kind) l) (rank_of of t) (t ∷ list_at links.lists (l * width_of kind + rank_of of t)))
    pushed-is t small =
        ap (inserted of t) list-joined
        ∙ sym (joined-pushed of 0 (chains_of links.lists (width_of kind) l) (rank_of of t) t (λ k x is. let same = h.ranked l k x here is in
        omega arith) (omega arith)
        (subst (λ n. rank_of of t < n) (sym (chains-length (width_of kind) links.lists (length filled) l h.size here)) small))
        ∙ ap (λ xs. joined (slice_set (chains_of links.lists (width_of kind) l) (rank_of of t) (t ∷ xs)))
        (chain-is (width_of kind) links.lists l (rank_of of t) small)

    -- one chain of the list changes, and it is noted whether it has some
    module _ (k : ℕ) (small : k < width_of kind) (xs : List ℕ) (ranks : (t : ℕ) → IsIn t xs → rank_of of t ≡ k)
        (new : List RankSet) (noted : IsNoted filled l k (is_filled xs) new) where
      abbrev after : List (List ℕ)
      after = slice_set links.lists (l * width_of kind + k) xs

      in_list : k < length (chains_of links.lists (width_of kind) l)
      in_list = subst (λ n. k < n) (sym (chains-length (width_of kind) links.lists (length filled) l h.size here)) small

      chain_same : list_at (chains_of after (width_of kind) l) k ≡ xs
      chain_same = ap (λ cs. list_at cs k) (chains-set_same (width_of kind) links.lists l k xs small)
          ∙ get_or-set_same (chains_of links.lists (width_of kind) l) k xs [] in_list

      chain_other : (j : ℕ) → j ≢ k → list_at (chains_of after (width_of kind) l) j ≡ list_at (chains_of links.lists (width_of kind) l) j
      chain_other j ne = ap (λ cs. list_at cs j) (chains-set_same (width_of kind) links.lists l k xs small)
          ∙ get_or-set_other (chains_of links.lists (width_of kind) l) k j xs [] ne

      chain_elsewhere : (m j : ℕ) → m ≢ l → list_at (chains_of after (width_of kind) m) j ≡ list_at (chains_of links.lists (width_of kind) m) j
      chain_elsewhere m j ne = ap (λ cs. list_at cs j) (chains-set_other (width_of kind) links.lists l m k xs small ne)

      sets-after : (m j : ℕ) → m < length filled → has (words_of new m) j ≡ is_filled (list_at (chains_of after (width_of kind) m) j)
      sets-after m j there = elim (cases_eq m l) [
        | inr ne ↦ noted.elsewhere m j ne ∙ h.sets m j there ∙ ap is_filled (sym (chain_elsewhere m j ne))
        | inl same ↦
            ap (λ n. has (words_of new n) j) same
            ∙ elim (cases_eq j k) [
              | inl e ↦ ap (has (words_of new l)) e ∙ noted.here ∙ ap is_filled (sym (ap (list_at (chains_of after (width_of kind) l)) e ∙ chain_same))
              | inr ne ↦ noted.others j ne ∙ h.sets l j here ∙ ap is_filled (sym (chain_other j ne))
            ]
            ∙ ap (λ n. is_filled (list_at (chains_of after (width_of kind) n) j)) (sym same)
      ]

      ranked-after : (m j t : ℕ) → m < length filled → IsIn t (list_at (chains_of after (width_of kind) m) j) → rank_of of t ≡ j
      ranked-after m j t there is = elim (cases_eq m l) [
        | inr ne ↦ h.ranked m j t there (subst (IsIn t) (chain_elsewhere m j ne) is)
        | inl same ↦
            let at : IsIn t (list_at (chains_of after (width_of kind) l) j) = subst (λ n. IsIn t (list_at (chains_of after (width_of kind) n) j)) same is in
            elim (cases_eq j k) [
              | inl e ↦ ranks t (subst (IsIn t) (ap (list_at (chains_of after (width_of kind) l)) e ∙ chain_same) at) ∙ sym e
              | inr ne ↦ h.ranked l j t here (subst (IsIn t) (chain_other j ne) at)
            ]
      ]

      pub stored-after : IsRanked kind (slice_set links.lists (l * width_of kind + k) xs) new of
      stored-after =
          let count = noted.count in
          record {
            size = length-set links.lists (l * width_of kind + k) xs ∙ h.size ∙ ap (λ n. n * width_of kind) (sym count);
            sets = λ m j there. sets-after m j (omega arith);
            ranked = λ m j t there. ranked-after m j t (omega arith);
            below = h.below;
            bare = h.bare;
          }

      pub value-after : ranked_of kind (with_list links (l * width_of kind + k) xs) new of
          ≡ record now { lists = with_list now.lists l (joined (slice_set (chains_of links.lists (width_of kind) l) k xs)) }
      value-after =
          ap (λ n. record {
            lists = record { nodes = links.nodes; lists = lists_of (slice_set links.lists (l * width_of kind + k) xs) (width_of kind) n };
            ranks = of;
          }) noted.count
          ∙ ap (λ ls. record { lists = record { nodes = links.nodes; lists = ls }; ranks = of })
          (lists-set (width_of kind) links.lists (length filled) l k xs here small)
          ∙ ap (λ (r : Ranked). record r { lists = with_list r.lists l (joined (slice_set (chains_of links.lists (width_of kind) l) k xs)) }) view

      -- the same, for lists of chains that are equal to these
      pub stored-as : (changed : Lists) (chain : ℕ) → chain ≡ l * width_of kind + k → changed ≡ with_list links chain xs → IsRanked kind changed.lists new of
      stored-as changed chain at is =
          subst (λ (c : Lists). IsRanked kind c.lists new of) (sym (is ∙ ap (λ n. with_list links n xs) at)) stored-after

      pub value-as : (changed : Lists) (chain : ℕ) → chain ≡ l * width_of kind + k → changed ≡ with_list links chain xs
          → ranked_of kind changed new of ≡ record now { lists = with_list now.lists l (joined (slice_set (chains_of links.lists (width_of kind) l) k xs)) }
      value-as changed chain at is =
          ap (λ (c : Lists). ranked_of kind c new of) (is ∙ ap (λ n. with_list links n xs) at) ∙ value-after

    -- A PUSH
    pushed-ranks : (t : ℕ) → rank_of of t < width_of kind → (u : ℕ) → IsIn u (t ∷ list_at links.lists (l * width_of kind + rank_of of t))
        → rank_of of u ≡ rank_of of t
    pushed-ranks t small u is = elim (cases_eq t u) [
      | inl same ↦ ap (rank_of of) (sym same)
      | inr ne ↦ let rest = count_other u t (list_at links.lists (l * width_of kind + rank_of of t)) ne in chain-ranks (rank_of of t) u small (omega arith)
    ]

    module _ (t : ℕ) (changed : Lists) (chain : ℕ) (at : chain ≡ l * width_of kind + rank_of of t)
        (is : changed ≡ with_list links chain (t ∷ list_at links.lists chain)) (new : List RankSet) (noted : IsNoted filled l (rank_of of t) true new) where
      small_rank : rank_of of t < width_of kind
      small_rank = h.below t

      is_there : changed ≡ with_list links chain (t ∷ list_at links.lists (l * width_of kind + rank_of of t))
      is_there = is ∙ ap (λ n. with_list links chain (t ∷ list_at links.lists n)) at

      pub pushed-stored : IsRanked kind changed.lists new of
      pushed-stored =
          stored-as (rank_of of t) small_rank (t ∷ list_at links.lists (l * width_of kind + rank_of of t))
          (pushed-ranks t small_rank) new noted changed chain at is_there

      pub pushed-value : ranked_of kind changed new of ≡ record now { lists = with_list now.lists l (inserted now.ranks t (list_at now.lists.lists l)) }
      pushed-value =
          value-as (rank_of of t) small_rank (t ∷ list_at links.lists (l * width_of kind + rank_of of t))
          (pushed-ranks t small_rank) new noted changed chain at is_there
          ∙ ap (λ ys. record now { lists = with_list now.lists l ys })
          (sym (pushed-is t small_rank) ∙ ap (λ rs. inserted rs t (list_at now.lists.lists l)) (ap (λ (r : Ranked). r.ranks) view))

    -- A POP: the chain of rank k has less, or nothing any more
    module _ (k : ℕ) (small : k < width_of kind) (xs : List ℕ) (changed : Lists) (chain : ℕ) (at : chain ≡ l * width_of kind + k)
        (fewer : (t : ℕ) → count_in t xs ≤ count_in t (list_at links.lists chain)) (is : changed ≡ with_list links chain xs)
        (b : Bool) (left : IsTrue b ↔ (list_at changed.lists chain ≡ [])) (new : List RankSet) (noted : IsNoted filled l k (not b) new) where
      there : chain < length links.lists
      there = chain-there l k chain here small at

      chain_is : list_at changed.lists chain ≡ xs
      chain_is = ap (λ (c : Lists). list_at c.lists chain) is ∙ get_or-set_same links.lists chain xs [] there

      noted_so : IsNoted filled l k (is_filled xs) new
      noted_so = subst (λ c. IsNoted filled l k c new) (filled_is xs b (subst (λ ys. IsTrue b ↔ (ys ≡ [])) chain_is left)) noted

      fewer_ranks : (t : ℕ) → IsIn t xs → rank_of of t ≡ k
      fewer_ranks t some = chain-ranks k t small (subst (λ n. IsIn t (list_at links.lists n)) at (let f = fewer t in omega arith))

      pub popped-stored : IsRanked kind changed.lists new of
      popped-stored = stored-as k small xs fewer_ranks new noted_so changed chain at is

      pub popped-value : ranked_of kind changed new of
          ≡ record now { lists = with_list now.lists l (joined (slice_set (chains_of links.lists (width_of kind) l) k xs)) }
      popped-value = value-as k small xs fewer_ranks new noted_so changed chain at is

    -- the chain of the greatest rank without its first, and that of the least without its last
    pub empty-is : (o : Option ℕ) (b : Bool) → IsGreatest (words_of filled l) o → is_some o ≡ not b → IsTrue b ↔ (list_at now.lists.lists l ≡ [])
    empty-is None true none e = (λ h. empty none, λ h. refl)
    empty-is None false none e = absurd cc
    empty-is (Some k) true some e = absurd cc
    empty-is (Some k) false some e = (λ h. absurd (true≢false (sym h)), λ h. absurd (not-empty k some.1 h))

-- the parts of a list have no more
pub fewer-drop : (t n : ℕ) (xs : List ℕ) → count_in t (drop n xs) ≤ count_in t xs
fewer-drop t n xs = let both = sum_by-take-drop (λ z. cond (eqb z t) 1 0) xs n in omega arith

pub fewer-take : (t n : ℕ) (xs : List ℕ) → count_in t (take n xs) ≤ count_in t xs
fewer-take t n xs = let both = sum_by-take-drop (λ z. cond (eqb z t) 1 0) xs n in omega arith

-- an empty list stays as it is without its first, or its last
pub same-without : (r : Ranked) (l : ℕ) (xs : List ℕ) → xs ≡ list_at r.lists.lists l → r ≡ record r { lists = with_list r.lists l xs }
same-without r l xs is = ap (λ ls. record r { lists = record r.lists { lists = ls } }) (sym (ap (slice_set r.lists.lists l) is ∙ set-get_or r.lists.lists l []))

-- NEW LISTS
pub opened-ranked : (kind : Ranks) (count threads : ℕ) (chains : List (List ℕ)) (filled : List RankSet) (of : List ℕ)
    → chains ≡ replicate (count * width_of kind) []
    → length filled ≡ count → ((l k : ℕ) → l < count → has (words_of filled l) k ≡ false) → of ≡ opening_ranks kind threads → IsRanked kind chains filled of
opened-ranked kind count threads chains filled of none size sets ranks =
    let empty : (l k : ℕ) → list_at (chains_of chains (width_of kind) l) k ≡ [] = λ l k.
    ap (λ cs. list_at (chains_of cs (width_of kind) l) k) none ∙ chains-none (width_of kind) (count * width_of kind) l k in
    record {
      size = ap length none ∙ length-replicate (count * width_of kind) [] ∙ ap (λ n. n * width_of kind) (sym size);
      sets = λ l k inside. sets l k (omega arith) ∙ ap is_filled (sym (empty l k));
      ranked = λ l k t inside is. let nothing = subst (IsIn t) (empty l k) is in absurd (omega arith);
      below = λ t. subst (λ rs. rank_of rs t < width_of kind) (sym ranks) (opening_below kind threads t);
      bare = subst (IsBare kind) (sym ranks) (opening_bare kind threads);
    }
  where
    opening_below : (kind : Ranks) (threads t : ℕ) → rank_of (opening_ranks kind threads) t < width_of kind
    opening_below One threads t = subst (λ n. n < 1) (sym (get_or_past (let no_ranks : List ℕ = [] in no_ranks) t 0 (omega arith))) (omega arith)
    opening_below Many threads t = elim (cases_lt t threads) [
      | inl inside ↦ subst (λ n. n < MAX_RANKS) (sym (get_or-replicate threads t 0 0 inside)) (omega arith)
      | inr past ↦ let size : length (replicate threads 0) ≡ threads = length-replicate threads 0 in
          subst (λ n. n < MAX_RANKS) (sym (get_or_past (replicate threads 0) t 0 (subst (λ n. n ≤ t) (sym size) past))) (omega arith)
    ]

    opening_bare : (kind : Ranks) (threads : ℕ) → IsBare kind (opening_ranks kind threads)
    opening_bare One threads = refl
    opening_bare Many threads = tt

pub opened-value : (kind : Ranks) (count threads : ℕ) (links : Lists) (filled : List RankSet) (of : List ℕ) (chains : ℕ) → chains ≡ count * width_of kind + 0
    → links ≡ record { nodes = threads; lists = replicate chains [] } → length filled ≡ count
    → ranked_of kind links filled of ≡ record { lists = record { nodes = threads; lists = replicate count [] }; ranks = of }
opened-value kind count threads links filled of chains many is size =
    let all : chains ≡ count * width_of kind = omega arith in
    ap (λ (c : Lists). ranked_of kind c filled of) (is ∙ ap (λ n. record { nodes = threads; lists = replicate n [] }) all)
    ∙ ap (λ n. record { lists = record { nodes = threads; lists = lists_of (replicate (count * width_of kind) []) (width_of kind) n }; ranks = of }) size
    ∙ ap (λ ls. record { lists = record { nodes = threads; lists = ls }; ranks = of }) (lists-none (width_of kind) count)

-- A RANK is given to a thread in no list
pub ranked-given : (kind : Ranks) (chains : List (List ℕ)) (filled : List RankSet) (of : List ℕ) (t rank : ℕ) → IsRanked kind chains filled of
    → ((l k : ℕ) → IsIn t (list_at (chains_of chains (width_of kind) l) k) → ⊥) → rank < MAX_RANKS → IsRanked kind chains filled (slice_set of t rank)
ranked-given kind chains filled of t rank h free small = record {
  size = h.size;
  sets = h.sets;
  ranked = λ l k u inside is. elim (cases_eq u t) [
    | inl same ↦ absurd (free l k (subst (λ n. IsIn n (list_at (chains_of chains (width_of kind) l) k)) same is))
    | inr ne ↦ get_or-set_other of t u rank 0 ne ∙ h.ranked l k u inside is
  ];
  below = λ u. given_below kind of t u rank (h.below u) h.bare small;
  bare = given_bare kind of t rank h.bare;
}
  where
    given_below : (kind : Ranks) (of : List ℕ) (t u rank : ℕ) → rank_of of u < width_of kind → IsBare kind of → rank < MAX_RANKS
        → rank_of (slice_set of t rank) u < width_of kind
    given_below One of t u rank below bare small = subst (λ rs. rank_of (slice_set rs t rank) u < 1) (sym bare)
        (let none = get_or_past (slice_set (let no_ranks : List ℕ = [] in no_ranks) t rank) u 0 (let size =
        length-set (let no_ranks : List ℕ = [] in no_ranks) t rank in omega arith) in omega arith)
    given_below Many of t u rank below bare small = elim (cases_eq u t) [
      | inr ne ↦ let same = get_or-set_other of t u rank 0 ne in omega arith
      | inl same ↦ elim (cases_lt t (length of)) [
        | inl inside ↦ let new = ap (rank_of (slice_set of t rank)) same ∙ get_or-set_same of t rank 0 inside in omega arith
        | inr past ↦ let size = length-set of t rank in let none = get_or_past (slice_set of t rank) u 0 (omega arith) in omega arith
      ]
    ]

    given_bare : (kind : Ranks) (of : List ℕ) (t rank : ℕ) → IsBare kind of → IsBare kind (slice_set of t rank)
    given_bare One of t rank bare = ap (λ rs. slice_set rs t rank) bare
    given_bare Many of t rank bare = tt

-- a thread in no list is in no chain of a list
pub free-chains : (kind : Ranks) (chains : List (List ℕ)) (t : ℕ) → count_in_all t chains ≡ 0 → (l k : ℕ)
    → IsIn t (list_at (chains_of chains (width_of kind) l) k) → ⊥
free-chains kind chains t free l k is = elim (cases_lt k (width_of kind)) [
  | inl small ↦
      let some = subst (IsIn t) (chain-is (width_of kind) chains l k small) is in
      let at = count_at t chains (l * width_of kind + k) in
      omega arith
  | inr past ↦
      let size = length-take (width_of kind) (drop (l * width_of kind) chains) in
      let none = get_or_past (chains_of chains (width_of kind) l) k [] (omega arith) in
      let some = subst (IsIn t) none is in
      omega arith
]
