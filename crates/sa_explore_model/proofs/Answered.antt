-- What a search has done when it stops is what it answers for.
use Rattle.std.proofs.Common.{◌≡◌, ℕ, suc, ◌+◌, ◌-◌, ◌<◌, ◌≤◌, ◌⊎◌, inl, inr, if◌then◌else◌, Option, Some, None, IsSome, List, [], ◌∷◌, ◌++◌, length, slice_get, count_by, refl, sym, ap, subst, ◌∙◌, arith, length-append}
use Rattle.std.proofs.lemmas.Option.{slice_get_within}
use Rattle.std.proofs.lemmas.List.Sums.{sum_by-cons}
use Rattle.sa_lemmas.proofs.ListReads.{read-at}
use Rattle.sa_base.specs.declared.number.ProcNo.{ProcNo}
use Rattle.sa_base.specs.declared.record.End.{End}
use Rattle.sa_base.specs.declared.record.End.TheVariants.{AllDone, Stuck, Budget}
use Rattle.sa_explore_model.specs.declared.answer.State.{State}
use Rattle.sa_explore_model.specs.declared.answer.Extent.{Extent}
use Rattle.sa_explore_model.specs.declared.answer.Extent.TheVariants.{All, Part}
use Rattle.sa_explore_model.specs.declared.answer.Found.{Found}
use Rattle.sa_explore_model.specs.declared.answer.Explored.{Explored}
use Rattle.sa_explore_model.specs.Order.{ComesFirst}
use Rattle.sa_explore_model.specs.Answer.{found_of, IsLookedAt, is_end, LeadsToEnd, IsLeast, IsComplete, IsCounted, IsDepth}
use Rattle.sa_explore_model.specs.Search.{way_to, IsSearch, IsFirst, IsFoundIn, IsStopped}
use Rattle.sa_explore_model.proofs.Orders.{first-trans, first-behind, length-first}
use Rattle.sa_explore_model.proofs.Ways.{ways-first}
use Rattle.sa_explore_model.proofs.Places.{before-more}
use Rattle.sa_explore_model.proofs.Laws.{Laws}
use Rattle.sa_explore_model.proofs.Seen.{proc_of, IsSeen, IsBehind, of-kept, within-kept, target-first, seen-all}

-- as many states have an end as machines
count-ends : {M : Type 0} (end : M → Option End) (e : End) (states : List State) (kept : List M) → length kept ≡ length states
    → ((k : ℕ) (m : M) (s : State) → slice_get kept k ≡ Some m → slice_get states k ≡ Some s → s.end ≡ end m)
    → count_by (λ s. is_end e s.end) states ≡ count_by (λ m. is_end e (end m)) kept
count-ends end e [] [] size same = refl
count-ends end e [] (m ∷ kept) size same = absurd (omega arith)
count-ends end e (s ∷ states) [] size same = absurd (omega arith)
count-ends {M} end e (s ∷ states) (m ∷ kept) size same =
    sum_by-cons (λ (t : State). if is_end e t.end then 1 else 0) s states
    ∙ ap (λ (o : Option End). (if is_end e o then 1 else 0) + count_by (λ (t : State). is_end e t.end) states) (same 0 m s refl refl)
    ∙ ap (λ (n : ℕ). (if is_end e (end m) then 1 else 0) + n) (count-ends end e states kept (omega arith) (λ k n t is at. same (suc k) n t is at))
    ∙ sym (sum_by-cons (λ (n : M). if is_end e (end n) then 1 else 0) m kept)

module _ {M O : Type 0} (look : M → O) (end : M → Option End) (Way : List ProcNo → M → Type 0) (Turn : M → ProcNo → M → Type 0) (processors : ℕ)
    (Of : M → Type 0) (laws : Laws look end Way Turn processors Of) (no_budget : (m : M) → end m ≡ Some Budget → ⊥)
    (states : List State) (kept : List M) (nexts : List ℕ) (at next : ℕ) (search : IsSearch look end Way Turn processors states kept nexts at next)
    (few : next ≤ processors) (begun : List ProcNo) (x : Explored) (stopped : IsStopped x.extent x.depth states at)
    (done : IsFoundIn states begun AllDone x.all_done) (stuck : IsFoundIn states begun Stuck x.stuck) (size : x.states ≡ length states) where
  abbrev Seen : List ProcNo → M → Type 0
  Seen turns m = IsSeen look end Way Turn processors Of laws states kept nexts at next search few turns m

  abbrev Behind : List ProcNo → Type 0
  Behind turns = IsBehind look end Way Turn processors Of laws states kept nexts at next search few turns

  all-seen : (turns : List ProcNo) (m : M) → Way turns m → Seen turns m ⊎ Behind turns
  all-seen turns m way = seen-all look end Way Turn processors Of laws states kept nexts at next search few turns m way

  -- nothing that was looked at is behind
  not-behind : (o : Extent) (depth : ℕ) → IsStopped o depth states at → (turns : List ProcNo) → (o ≡ All) ⊎ (length turns ≤ depth) → Behind turns → ⊥
  not-behind All depth over turns looked behind = (let a = over.0 in let b = behind.0 in omega arith)
  not-behind Part depth over turns looked behind =
      let long = length-first (way_to states at ++ proc_of next ∷ []) turns behind.1 in
      let more = length-append (way_to states at) (proc_of next ∷ []) in
      let is = over.1 in
      elim looked [ inl all ↦ cc | inr short ↦ omega arith ]

  seen-looked : (turns : List ProcNo) (m : M) → Way turns m → IsLookedAt x (length turns) → Seen turns m
  seen-looked turns m way looked =
      elim (all-seen turns m way) [ inl seen ↦ seen | inr behind ↦ absurd (not-behind x.extent x.depth stopped turns looked behind) ]

  found-in : (e : End) → IsFoundIn states begun e (found_of x e)
  found-in AllDone = done
  found-in Stuck = stuck
  found-in Budget = λ k s is over.
      let within = slice_get_within states k s is in
      let same = search.size in
      let m = read-at kept k (omega arith) in
      no_budget m.0 (sym (search.ends k m.0 s m.1 is) ∙ over)

  first-of : (e : End) (found : Found) → found_of x e ≡ Some found → IsFirst states begun e found
  first-of e found is = subst (IsFoundIn states begun e) is (found-in e)

  -- the state and the machine of a place have one end
  end-of : (k : ℕ) (m : M) → slice_get kept k ≡ Some m → (s : State) × (slice_get states k ≡ Some s) × (s.end ≡ end m)
  end-of k m is =
      let within = slice_get_within kept k m is in
      let same = search.size in
      let s = read-at states k (omega arith) in
      (s.0, s.1, search.ends k m s.0 is s.1)

  seen-end : (turns : List ProcNo) (m : M) (e : End) → Way turns m → (seen : Seen turns m) → end m ≡ Some e
      → (s : State) × (slice_get states seen.place ≡ Some s) × (s.end ≡ Some e)
  seen-end turns m e way seen over =
      let s = end-of seen.place seen.machine seen.is in
      let of_k = of-kept look end Way Turn processors Of laws states kept nexts at next search few seen.place seen.machine seen.is in
      (s.0, s.1, s.2 ∙ laws.ends seen.machine m of_k (laws.of-way turns m way) seen.looks ∙ over)

  -- a state comes before all that was not done
  kept-first : (k : ℕ) (m : M) → slice_get kept k ≡ Some m → (turns : List ProcNo) → Behind turns → ComesFirst (way_to states k) turns
  kept-first k m is turns behind =
      first-trans (way_to states k) (way_to states at ++ proc_of next ∷ []) turns
      (target-first look end Way Turn processors Of laws states kept nexts at next search few k at (proc_of next) behind.0
      (within-kept look end Way Turn processors Of laws states kept nexts at next search few k m is)
      (λ s some is_s. before-more s.before s.proc.0 at next (search.made k s some is_s)))
      behind.1

  -- no turns that lead to the outlook of a state are fewer than those of its way
  pub way-least : (k : ℕ) (m : M) → slice_get kept k ≡ Some m → (turns : List ProcNo) (n : M) → Way turns n → look n ≡ look m
      → length (way_to states k) ≤ length turns
  way-least k m is turns n way looks =
      elim (all-seen turns n way) [
        | inl seen ↦ (let place = search.different seen.place k seen.machine m seen.is is (seen.looks ∙ looks) in
            subst (λ (i : ℕ). length (way_to states i) ≤ length turns) place (length-first _ _ seen.first))
        | inr behind ↦ length-first _ _ (kept-first k m is turns behind)
      ]

  -- SOUND
  pub sound-of : (e : End) (found : Found) → found_of x e ≡ Some found → LeadsToEnd look end Way begun e found.schedule.items
  sound-of e found is =
      let first = first-of e found is in
      let within = slice_get_within states first.place first.state first.is in
      let same = search.size in
      let m = read-at kept first.place (omega arith) in
      record {
        turns = way_to states first.place;
        is = first.schedule;
        machine = m.0;
        way = search.reached first.place m.0 m.1;
        ends = sym (search.ends first.place m.0 first.state m.1 first.is) ∙ first.ends;
      }

  -- LEAST
  pub least-of : (e : End) (found : Found) → found_of x e ≡ Some found → IsLeast look end Way begun e found.schedule.items
  least-of e found is turns m way over =
      let first = first-of e found is in
      let within = slice_get_within states first.place first.state first.is in
      subst (λ (ps : List ProcNo). ComesFirst ps (begun ++ turns)) (sym first.schedule)
      (first-behind begun (way_to states first.place) turns
      (elim (all-seen turns m way) [
        | inl seen ↦ (let s = seen-end turns m e way seen over in
            let there = slice_get_within states seen.place s.0 s.1 in
            first-trans (way_to states first.place) (way_to states seen.place) turns
            (ways-first states search.linked search.rise first.place seen.place (first.first seen.place s.0 s.1 s.2) there) seen.first)
        | inr behind ↦ (let same = search.size in
            let n = read-at kept first.place (omega arith) in
            kept-first first.place n.0 n.1 turns behind)
      ]))

  -- COMPLETE
  told : (k : ℕ) (m : M) (e : End) → slice_get kept k ≡ Some m → end m ≡ Some e → IsSome (found_of x e)
  told k m e is over = go (found_of x e) (found-in e)
    where
      go : (o : Option Found) → IsFoundIn states begun e o → IsSome o
      go None none = let s = end-of k m is in absurd (none k s.0 s.1 (s.2 ∙ over))
      go (Some found) some = refl

  pub complete-of : IsComplete look end Way x
  complete-of turns m e way looked over =
      let seen = seen-looked turns m way looked in
      let of_seen = of-kept look end Way Turn processors Of laws states kept nexts at next search few seen.place seen.machine seen.is in
      told seen.place seen.machine e seen.is (laws.ends seen.machine m of_seen (laws.of-way turns m way) seen.looks ∙ over)

  -- COUNTS
  short : (o : Extent) (depth : ℕ) → IsStopped o depth states at → (k : ℕ) → k < length states → length (way_to states k) ≤ depth + 1
  short All depth over k within =
      let long = length-first _ _ (ways-first states search.linked search.rise k (length states - 1) (omega arith) (omega arith)) in
      let is = over.1 in
      omega arith
  short Part depth over k within =
      let long = length-first _ _ (target-first look end Way Turn processors Of laws states kept nexts at next search few k at (proc_of next) over.0 within
      (λ s some is_s. before-more s.before s.proc.0 at next (search.made k s some is_s))) in
      let more = length-append (way_to states at) (proc_of next ∷ []) in
      let is = over.1 in
      omega arith

  pub counted-of : IsCounted look end Way x kept
  counted-of = record {
    near = λ k m is. record {
      turns = way_to states k;
      way = search.reached k m is;
      few = short x.extent x.depth stopped k (within-kept look end Way Turn processors Of laws states kept nexts at next search few k m is);
    };
    first = λ k m is turns n way new. (elim (all-seen turns n way) [
      | inl seen ↦ absurd (new (record { place = seen.place; machine = seen.machine; is = seen.is; looks = seen.looks }))
      | inr behind ↦ record { early = way_to states k; way = search.reached k m is; first = kept-first k m is turns behind }
    ]);
    told = told;
    different = search.different;
    every = λ turns m way looked. (let seen = seen-looked turns m way looked in
        record { place = seen.place; machine = seen.machine; is = seen.is; looks = seen.looks });
    states = size ∙ sym search.size;
    ends = λ e found is. (let first = first-of e found is in first.count ∙ count-ends end e states kept search.size search.ends);
  }

  -- THE DEPTH
  depth-all : (o : Extent) (depth : ℕ) → IsStopped o depth states at → o ≡ All
      → (at ≡ length states) × (depth ≡ length (way_to states (length states - 1)))
  depth-all All depth over is = over
  depth-all Part depth over is = absurd cc

  pub depth-of : x.extent ≡ All → IsDepth look end Way x.depth
  depth-of all =
      let over = depth-all x.extent x.depth stopped all in
      let some = search.some in
      let same = search.size in
      let last : ℕ = length states - 1 in
      let m = read-at kept last (omega arith) in
      record {
        near = λ turns n way.
            (let seen = seen-looked turns n way (inl all) in
            let within = within-kept look end Way Turn processors Of laws states kept nexts at next search few seen.place seen.machine seen.is in
            let lower = length-first _ _ (ways-first states search.linked search.rise seen.place last (omega arith) (omega arith)) in
            let depth = over.1 in
            (way_to states seen.place, seen.machine, search.reached seen.place seen.machine seen.is, seen.looks, omega arith));
        farthest = m.0;
        reached = record { turns = way_to states last; way = search.reached last m.0 m.1 };
        far = λ turns n way looks.
            (let seen = seen-looked turns n way (inl all) in
            let place = search.different seen.place last seen.machine m.0 seen.is m.1 (seen.looks ∙ looks) in
            let short = length-first _ _ seen.first in
            let is : length (way_to states seen.place) ≡ length (way_to states last) = ap (λ (k : ℕ). length (way_to states k)) place in
            let depth = over.1 in
            omega arith);
      }
