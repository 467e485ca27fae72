-- Each run comes to a state that is kept, by a way that is not behind it, or it comes after all that was done.
use Rattle.std.proofs.Common.{◌≡◌, ℕ, zero, suc, ◌+◌, ◌*◌, ◌<◌, ◌≤◌, ◌⊎◌, inl, inr, Option, Some, None, List, [], ◌∷◌, ◌++◌, length, slice_get, refl, sym, ap, subst, ◌∙◌, arith, append_assoc}
use Rattle.std.proofs.lemmas.Option.{slice_get_within}
use Rattle.sa_lemmas.proofs.ListReads.{read-at}
use Rattle.sa_base.specs.declared.number.ProcNo.{ProcNo}
use Rattle.sa_base.specs.declared.record.End.{End}
use Rattle.sa_explore_model.specs.declared.answer.State.{State}
use Rattle.sa_explore_model.specs.Order.{ComesFirst}
use Rattle.sa_explore_model.specs.Search.{way_to, IsBefore, IsSearch}
use Rattle.sa_explore_model.proofs.Orders.{first-trans, first-append, first-more}
use Rattle.sa_explore_model.proofs.Ways.{way-linked, turns-first}
use Rattle.sa_explore_model.proofs.Places.{place-below, cases_before}
use Rattle.sa_explore_model.proofs.Laws.{Lead, Laws}

abbrev pub proc_of : ℕ → ProcNo
proc_of p = record { 0 = p }

module _ {M O : Type 0} (look : M → O) (end : M → Option End) (Way : List ProcNo → M → Type 0) (Turn : M → ProcNo → M → Type 0) (processors : ℕ)
    (Of : M → Type 0) (laws : Laws look end Way Turn processors Of)
    (states : List State) (kept : List M) (nexts : List ℕ) (at next : ℕ) (search : IsSearch look end Way Turn processors states kept nexts at next)
    (few : next ≤ processors) where
  -- a machine's outlook is kept, by a way that is not behind the turns that lead to it
  pub record IsSeen (turns : List ProcNo) (m : M) : Type 0 where
    pub place : ℕ
    pub machine : M
    pub is : slice_get kept place ≡ Some machine
    pub looks : look machine ≡ look m
    pub first : ComesFirst (way_to states place) turns

  -- the turns are not before the next one of the search
  abbrev pub IsBehind : List ProcNo → Type 0
  IsBehind turns = (at < length states) × ComesFirst (way_to states at ++ proc_of next ∷ []) turns

  pub of-kept : (k : ℕ) (m : M) → slice_get kept k ≡ Some m → Of m
  of-kept k m is = laws.of-way (way_to states k) m (search.reached k m is)

  pub within-kept : (k : ℕ) (m : M) → slice_get kept k ≡ Some m → k < length states
  within-kept k m is = let size = search.size in let within = slice_get_within kept k m is in omega arith

  nil-first : (qs : List ProcNo) → ComesFirst [] qs
  nil-first [] = inr (refl, tt)
  nil-first (q ∷ qs) = inl (omega arith)

  -- the state to which a turn led was come to no later
  pub target-first : (to j : ℕ) (p : ProcNo) → j < length states → to < length states
      → ((s : State) → 0 < to → slice_get states to ≡ Some s → IsBefore s.before s.proc.0 j (p.0 + 1))
      → ComesFirst (way_to states to) (way_to states j ++ p ∷ [])
  target-first zero j p within there early = nil-first (way_to states j ++ p ∷ [])
  target-first (suc to) j p within there early =
      let s = read-at states (suc to) there in
      subst (λ (ps : List ProcNo). ComesFirst ps (way_to states j ++ p ∷ []))
      (sym (way-linked states (suc to) s.0 search.linked (omega arith) s.1))
      (turns-first states search.linked search.rise s.0.before j s.0.proc p within (early s.0 (omega arith) s.1))

  -- a turn that was made, of a machine of the same outlook
  seen-made : (turns : List ProcNo) (m after : M) (p : ProcNo) → Of m → (seen : IsSeen turns m) → Turn m p after
      → IsBefore seen.place p.0 at next → IsSeen (turns ++ p ∷ []) after
  seen-made turns m after p of seen turn before =
      let j = seen.place in
      let of_j = of-kept j seen.machine seen.is in
      let goes : end seen.machine ≡ None = laws.ends seen.machine m of_j of seen.looks ∙ laws.goes m after p turn in
      let below : p.0 < processors = laws.within m after p of turn in
      let size = search.turns in
      let lower = place-below processors j p.0 at next below few before in
      let to = read-at nexts (j * processors + p.0) (omega arith) in
      let made = search.turned j seen.machine p to.0 seen.is goes below before to.1 in
      let of_from = laws.of-way made.reached.turns made.from made.reached.way in
      let same : look made.after ≡ look after =
      laws.turns made.from m made.after after p of_from of (made.same ∙ seen.looks) made.turn turn in
      record {
        place = to.0;
        machine = made.target;
        is = made.is;
        looks = made.looks ∙ same;
        first = first-trans (way_to states to.0) (way_to states j ++ p ∷ []) (turns ++ p ∷ [])
            (target-first to.0 j p (within-kept j seen.machine seen.is) (within-kept to.0 made.target made.is) made.early)
            (first-append (way_to states j) turns (p ∷ []) seen.first);
      }

  -- a turn that was not
  behind-turn : (turns : List ProcNo) (m : M) (p : ProcNo) → (seen : IsSeen turns m) → IsBefore at next seen.place (p.0 + 1)
      → IsBehind (turns ++ p ∷ [])
  behind-turn turns m p seen after =
      let j = seen.place in
      let within = within-kept j seen.machine seen.is in (
        lower within after,
        first-trans (way_to states at ++ proc_of next ∷ []) (way_to states j ++ p ∷ []) (turns ++ p ∷ [])
            (turns-first states search.linked search.rise at j (proc_of next) p within after)
            (first-append (way_to states j) turns (p ∷ []) seen.first),
      )
    where
      lower : seen.place < length states → IsBefore at next seen.place (p.0 + 1) → at < length states
      lower within (inl less) = omega arith
      lower within (inr one) = let same = one.0 in omega arith

  seen-on : (qs done : List ProcNo) (m after : M) → Of m → IsSeen done m → Lead look end Way Turn processors qs m after
      → IsSeen (done ++ qs) after ⊎ IsBehind (done ++ qs)
  seen-on [] done m after of seen lead =
      inl (subst (λ (z : M). IsSeen (done ++ []) z) (sym lead) (subst (λ (ps : List ProcNo). IsSeen ps m) (sym (nil-end done)) seen))
    where
      nil-end : (xs : List ProcNo) → xs ++ [] ≡ xs
      nil-end [] = refl
      nil-end (x ∷ xs) = ap (λ (ps : List ProcNo). x ∷ ps) (nil-end xs)
  seen-on (p ∷ qs) done m after of seen lead =
      subst (λ (ps : List ProcNo). IsSeen ps after ⊎ IsBehind ps) (append_assoc done (p ∷ []) qs)
      (elim (cases_before seen.place p.0 at next) [
        | inl before ↦ seen-on qs (done ++ p ∷ []) lead.0 after (laws.of-turn m lead.0 p of lead.1) (seen-made done m lead.0 p of seen lead.1 before) lead.2
        | inr later ↦ inr (let behind = behind-turn done m p seen later in
            (behind.0, first-more (way_to states at ++ proc_of next ∷ []) (done ++ p ∷ []) qs behind.1))
      ])

  -- EACH RUN
  pub seen-all : (turns : List ProcNo) (m : M) → Way turns m → IsSeen turns m ⊎ IsBehind turns
  seen-all turns m way =
      let begins = laws.begins turns m way in
      let size = search.size in
      let some = search.some in
      let zeroth = read-at kept 0 (omega arith) in
      let seen : IsSeen [] begins.0 = record {
        place = 0;
        machine = zeroth.0;
        is = zeroth.1;
        looks = laws.starts zeroth.0 begins.0 (search.first zeroth.0 zeroth.1) begins.1;
        first = nil-first [];
      } in
      seen-on turns [] begins.0 m (laws.of-way [] begins.0 begins.1) seen begins.2
