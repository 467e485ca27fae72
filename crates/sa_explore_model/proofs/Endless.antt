-- The states from which no turns lead to an end.
use Rattle.std.proofs.Common.{◌≡◌, ℕ, zero, suc, ◌+◌, ◌*◌, ◌<◌, ◌⊎◌, inl, inr, Bool, true, false, Option, Some, None, IsSome, List, ◌++◌, length, slice_get, refl, sym, subst, ◌∙◌, arith}
use Rattle.std.proofs.lemmas.Option.{slice_get_within}
use Rattle.sa_lemmas.proofs.ListReads.{read-at}
use Rattle.sa_base.specs.declared.number.ProcNo.{ProcNo}
use Rattle.sa_base.specs.declared.record.End.{End}
use Rattle.sa_explore_model.specs.declared.answer.State.{State}
use Rattle.sa_explore_model.specs.declared.answer.Found.{Found}
use Rattle.sa_explore_model.specs.Order.{ComesFirst}
use Rattle.sa_explore_model.specs.Answer.{HasEnd, CanEnd, IsEndless, AreEndless}
use Rattle.sa_explore_model.specs.Search.{way_to, IsSearch, IsOver, Ends, AreMarked, IsFirstUnmarked, AreUnmarked}
use Rattle.sa_explore_model.proofs.Orders.{first-trans, first-behind}
use Rattle.sa_explore_model.proofs.Ways.{ways-first}
use Rattle.sa_explore_model.proofs.Places.{place-below}
use Rattle.sa_explore_model.proofs.Laws.{Laws}
use Rattle.sa_explore_model.proofs.Seen.{proc_of, IsSeen, of-kept, within-kept, seen-all}

none-or-some : (o : Option End) → (o ≡ None) ⊎ IsSome o
none-or-some None = inl refl
none-or-some (Some e) = inr refl

module _ {M O : Type 0} (look : M → O) (end : M → Option End) (Way : List ProcNo → M → Type 0) (Turn : M → ProcNo → M → Type 0) (processors : ℕ)
    (Of : M → Type 0) (laws : Laws look end Way Turn processors Of)
    (states : List State) (kept : List M) (nexts : List ℕ) (search : IsSearch look end Way Turn processors states kept nexts (length states) 0) where
  abbrev End_by : ℕ → O → Type 0
  End_by n o = CanEnd look end Way Turn n o

  abbrev Mark : ℕ → ℕ → Type 0
  Mark n k = Ends processors states nexts n k

  of-at : (k : ℕ) (m : M) → slice_get kept k ≡ Some m → Of m
  of-at k m is = of-kept look end Way Turn processors Of laws states kept nexts (length states) 0 search (omega arith) k m is

  -- an end of a state is one of its machine
  over-of : (k : ℕ) (m : M) → slice_get kept k ≡ Some m → IsOver processors states nexts k → HasEnd look end Way Turn (look m)
  over-of k m is over = record {
    machine = m;
    reached = record { turns = way_to states k; way = search.reached k m is };
    looks = refl;
    ends = subst (λ (o : Option End). IsSome o) (search.ends k m over.state is over.is) over.ends;
  }

  over-at : (k : ℕ) (m : M) → slice_get kept k ≡ Some m → IsSome (end m) → IsOver processors states nexts k
  over-at k m is some =
      let within = slice_get_within kept k m is in
      let size = search.size in
      let s = read-at states k (omega arith) in
      record { state = s.0; is = s.1; ends = subst (λ (o : Option End). IsSome o) (sym (search.ends k m s.0 is s.1)) some }

  -- the place of a turn from a state
  next-at : (k : ℕ) (m : M) (p : ProcNo) → slice_get kept k ≡ Some m → p.0 < processors
      → (to : ℕ) × (slice_get nexts (k * processors + p.0) ≡ Some to)
  next-at k m p is few =
      let within = slice_get_within kept k m is in
      let size = search.size in
      let turns = search.turns in
      let below = place-below processors k p.0 (length states) 0 few (omega arith) (inl (omega arith)) in
      read-at nexts (k * processors + p.0) (omega arith)

  -- what is marked can end
  can-end : (n k : ℕ) (m : M) → slice_get kept k ≡ Some m → Mark n k → End_by n (look m)
  can-end zero k m is over = over-of k m is over
  can-end (suc n) k m is (inl over) = inl (over-of k m is over)
  can-end (suc n) k m is (inr next) =
      elim (none-or-some (end m)) [
        | inl goes ↦ (let made = search.turned k m (proc_of next.0.proc) next.0.to is goes next.0.within
            (inl (let within = slice_get_within kept k m is in let size = search.size in omega arith)) next.0.is in
            let rest = can-end n next.0.to made.target made.is next.1 in
            inr (
              record { from = made.from; proc = proc_of next.0.proc; after = made.after; reached = made.reached; looks = made.same; turn = made.turn },
              subst (λ (o : O). End_by n o) made.looks rest,
            ))
        | inr some ↦ inl (record { machine = m; reached = record { turns = way_to states k; way = search.reached k m is }; looks = refl; ends = some })
      ]

  -- what can end is marked
  ends-of : (n k : ℕ) (m : M) (o : O) → slice_get kept k ≡ Some m → look m ≡ o → End_by n o → Mark n k
  ends-of zero k m o is looks has = over-has k m o is looks has
    where
      over-has : (k : ℕ) (m : M) (o : O) → slice_get kept k ≡ Some m → look m ≡ o → HasEnd look end Way Turn o → IsOver processors states nexts k
      over-has k m o is looks has =
          over-at k m is (subst (λ (e : Option End). IsSome e)
          (laws.ends has.machine m (laws.of-way has.reached.turns has.machine has.reached.way) (of-at k m is) (has.looks ∙ sym looks)) has.ends)
  ends-of (suc n) k m o is looks (inl has) =
      inl (over-at k m is (subst (λ (e : Option End). IsSome e)
      (laws.ends has.machine m (laws.of-way has.reached.turns has.machine has.reached.way) (of-at k m is) (has.looks ∙ sym looks)) has.ends))
  ends-of (suc n) k m o is looks (inr on) =
      let turn = on.0.turn in
      let of_from = laws.of-way on.0.reached.turns on.0.from on.0.reached.way in
      let same : look on.0.from ≡ look m = on.0.looks ∙ sym looks in
      let goes : end m ≡ None = laws.ends m on.0.from (of-at k m is) of_from (sym same) ∙ laws.goes on.0.from on.0.after on.0.proc turn in
      let few = laws.within on.0.from on.0.after on.0.proc of_from turn in
      let to = next-at k m on.0.proc is few in
      let made = search.turned k m on.0.proc to.0 is goes few (inl (let within = slice_get_within kept k m is in let size = search.size in omega arith)) to.1 in
      let of_made = laws.of-way made.reached.turns made.from made.reached.way in
      let after : look made.target ≡ look on.0.after =
      made.looks ∙ laws.turns made.from on.0.from made.after on.0.after on.0.proc of_made of_from (made.same ∙ sym same) made.turn turn in
      inr (record { proc = on.0.proc.0; to = to.0; within = few; is = to.1 }, ends-of n to.0 made.target (look on.0.after) made.is after on.1)

  module _ (begun : List ProcNo) (marks : List Bool) (marked : AreMarked processors states nexts marks) (endless : Option Found)
      (found : AreUnmarked states begun marks endless) where
    mark-at : (k : ℕ) (m : M) → slice_get kept k ≡ Some m → (b : Bool) × (slice_get marks k ≡ Some b)
    mark-at k m is =
        let within = slice_get_within kept k m is in
        let size = search.size in
        let same = marked.size in
        read-at marks k (omega arith)

    unmarked-endless : (k : ℕ) (m : M) → slice_get kept k ≡ Some m → slice_get marks k ≡ Some false → IsEndless look end Way Turn (look m)
    unmarked-endless k m is off n can = marked.others k n off (ends-of n k m (look m) is refl can)

    marked-ends : (k : ℕ) (m : M) → slice_get kept k ≡ Some m → slice_get marks k ≡ Some true → (n : ℕ) × End_by n (look m)
    marked-ends k m is on = let ends = marked.marked k on in (ends.0, can-end ends.0 k m is ends.1)

    -- the state of a run
    seen : (turns : List ProcNo) (m : M) → Way turns m
        → IsSeen look end Way Turn processors Of laws states kept nexts (length states) 0 search (omega arith) turns m
    seen turns m way =
        elim (seen-all look end Way Turn processors Of laws states kept nexts (length states) 0 search (omega arith) turns m way) [
          | inl one ↦ one
          | inr behind ↦ absurd (let below = behind.0 in omega arith)
        ]

    none-endless : AreUnmarked states begun marks None → (turns : List ProcNo) (m : M) → Way turns m → (n : ℕ) × End_by n (look m)
    none-endless none turns m way =
        let at = seen turns m way in
        let mark = mark-at at.place at.machine at.is in
        go mark.0 at.place mark.1 at.machine at.is at.looks
      where
        go : (b : Bool) (k : ℕ) → slice_get marks k ≡ Some b → (n : M) → slice_get kept k ≡ Some n → look n ≡ look m → (i : ℕ) × End_by i (look m)
        go true k on n is looks = let ends = marked-ends k n is on in (ends.0, subst (λ (o : O). End_by ends.0 o) looks ends.1)
        go false k off n is looks = absurd (none k off)

    pub endless-of : AreEndless look end Way Turn begun kept marks endless
    endless-of = record {
      size = marked.size ∙ sym search.size;
      marked = marked-ends;
      others = unmarked-endless;
      none = λ is turns m way. none-endless (subst (AreUnmarked states begun marks) is found) turns m way;
      sound = λ one is. sound one (subst (AreUnmarked states begun marks) is found);
      least = λ one is turns m way no_end. least one (subst (AreUnmarked states begun marks) is found) turns m way no_end;
      count = λ one is. (let first : IsFirstUnmarked states begun marks one = subst (AreUnmarked states begun marks) is found in first.count);
    }
      where
        sound : (one : Found) → IsFirstUnmarked states begun marks one
            → (turns : List ProcNo) × (m : M) × (one.schedule.items ≡ begun ++ turns) × Way turns m × IsEndless look end Way Turn (look m)
        sound one first =
            let within = slice_get_within marks first.place false first.is in
            let size = search.size in
            let same = marked.size in
            let m = read-at kept first.place (omega arith) in
            (way_to states first.place, m.0, first.schedule, search.reached first.place m.0 m.1, unmarked-endless first.place m.0 m.1 first.is)

        least : (one : Found) → IsFirstUnmarked states begun marks one → (turns : List ProcNo) (m : M) → Way turns m
            → IsEndless look end Way Turn (look m) → ComesFirst one.schedule.items (begun ++ turns)
        least one first turns m way no_end =
            let at = seen turns m way in
            let mark = mark-at at.place at.machine at.is in
            let within = within-kept look end Way Turn processors Of laws states kept nexts (length states) 0 search (omega arith) at.place at.machine at.is in
            subst (λ (ps : List ProcNo). ComesFirst ps (begun ++ turns)) (sym first.schedule)
            (first-behind begun (way_to states first.place) turns
            (first-trans (way_to states first.place) (way_to states at.place) turns
            (ways-first states search.linked search.rise first.place at.place (first.first at.place (off mark.0 at.place mark.1 at.machine at.is at.looks)) within)
            at.first))
          where
            off : (b : Bool) (k : ℕ) → slice_get marks k ≡ Some b → (n : M) → slice_get kept k ≡ Some n → look n ≡ look m → slice_get marks k ≡ Some false
            off false k is n at looks = is
            off true k is n at looks =
                absurd (let ends = marked-ends k n at is in no_end ends.0 (subst (λ (o : O). End_by ends.0 o) looks ends.1))
