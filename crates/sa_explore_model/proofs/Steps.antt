-- What one step of a search adds keeps what a search has done.
use Rattle.std.proofs.Common.{◌≡◌, ℕ, zero, suc, ◌+◌, ◌*◌, ◌<◌, ◌≤◌, ◌⊎◌, inl, inr, Option, Some, None, List, [], ◌∷◌, ◌++◌, length, slice_get, refl, sym, ap, subst, ◌∙◌, arith, length-append}
use Rattle.std.proofs.lemmas.Option.{slice_get_within, same_Some}
use Rattle.sa_lemmas.proofs.ListUpdates.{slice_get-append_left, slice_get-append_seam, slice_get-push_cases}
use Rattle.sa_base.specs.declared.number.ProcNo.{ProcNo}
use Rattle.sa_base.specs.declared.record.End.{End}
use Rattle.sa_explore_model.specs.declared.answer.State.{State}
use Rattle.sa_explore_model.specs.Answer.{AreDifferent}
use Rattle.sa_explore_model.specs.Search.{way_to, AreLinked, IsBefore, IsTurned, IsSearch}
use Rattle.sa_explore_model.proofs.Orders.{same-proc}
use Rattle.sa_explore_model.proofs.Ways.{way-linked, way-push}
use Rattle.sa_explore_model.proofs.Places.{place-below, before-more, before-next, cases_last, cases_below}

module _ {M O : Type 0} (look : M → O) (end : M → Option End) (Way : List ProcNo → M → Type 0) (Turn : M → ProcNo → M → Type 0) (processors : ℕ) where
  abbrev Search : List State → List M → List ℕ → ℕ → ℕ → Type 0
  Search states kept nexts at next = IsSearch look end Way Turn processors states kept nexts at next

  -- THE FIRST STATE
  pub search-first : (s : State) (m : M) → Way [] m → s.end ≡ end m → Search (s ∷ []) (m ∷ []) [] 0 0
  search-first s m way ends = record {
    size = refl;
    first = λ n is. subst (Way []) (same_Some m n is) way;
    some = omega arith;
    reached = reached;
    ends = each;
    different = different;
    linked = λ k t some is. absurd (past k t some is);
    made = λ k t some is. absurd (past k t some is);
    rise = λ j k t u some less is at. absurd (past k u (omega arith) at);
    turns = omega arith;
    inside = λ i to is. absurd (let within = slice_get_within [] i to is in omega arith);
    turned = λ j n p to is goes below before at. absurd (none j p.0 before);
  }
    where
      past : (k : ℕ) (t : State) → 0 < k → slice_get (s ∷ []) k ≡ Some t → ⊥
      past zero t some is = omega arith
      past (suc k) t some is = let within = slice_get_within (s ∷ []) (suc k) t is in omega arith

      reached : (k : ℕ) (n : M) → slice_get (m ∷ []) k ≡ Some n → Way (way_to (s ∷ []) k) n
      reached zero n is = subst (Way []) (same_Some m n is) way
      reached (suc k) n is = absurd (let within = slice_get_within (m ∷ []) (suc k) n is in omega arith)

      each : (k : ℕ) (n : M) (t : State) → slice_get (m ∷ []) k ≡ Some n → slice_get (s ∷ []) k ≡ Some t → t.end ≡ end n
      each zero n t is at = ap (λ (u : State). u.end) (sym (same_Some s t at)) ∙ ends ∙ ap end (same_Some m n is)
      each (suc k) n t is at = absurd (let within = slice_get_within (m ∷ []) (suc k) n is in omega arith)

      different : AreDifferent look (m ∷ [])
      different i j n o is at same =
          let one = slice_get_within (m ∷ []) i n is in
          let two = slice_get_within (m ∷ []) j o at in
          omega arith

      none : (j p : ℕ) → IsBefore j p 0 0 → ⊥
      none j p (inl less) = omega arith
      none j p (inr one) = let less = one.1 in omega arith

  module _ (states : List State) (kept : List M) (nexts : List ℕ) (at next : ℕ) (search : Search states kept nexts at next) where
    same-size : length kept ≡ length states
    same-size = search.size

    -- what was turned before stays so, with more states
    turned-more : (more : List State) (others : List M) (j : ℕ) (m : M) (p : ProcNo) (to : ℕ) → IsTurned look end Way Turn states kept j m p to
        → IsTurned look end Way Turn (states ++ more) (kept ++ others) j m p to
    turned-more more others j m p to was =
        let there = slice_get_within kept to was.target was.is in
        let size = search.size in
        record {
          from = was.from;
          after = was.after;
          reached = was.reached;
          same = was.same;
          turn = was.turn;
          target = was.target;
          is = slice_get-append_left kept others to there ∙ was.is;
          looks = was.looks;
          early = λ s some is. was.early s some (sym (slice_get-append_left states more to (omega arith)) ∙ is);
        }

    -- the place of a turn that was made before
    place-old : (more : List ℕ) (j p to : ℕ) → p < processors → next ≤ processors → IsBefore j p at next
        → slice_get (nexts ++ more) (j * processors + p) ≡ Some to → slice_get nexts (j * processors + p) ≡ Some to
    place-old more j p to few most before is =
        let size = search.turns in
        let below = place-below processors j p at next few most before in
        sym (slice_get-append_left nexts more (j * processors + p) (omega arith)) ∙ is

    -- the place of the turn that is made
    place-new : (to new : ℕ) → slice_get (nexts ++ new ∷ []) (at * processors + next) ≡ Some to → to ≡ new
    place-new to new is =
        same_Some to new (sym is ∙ ap (slice_get (nexts ++ new ∷ [])) (sym search.turns) ∙ slice_get-append_seam nexts [] new)

    turns-more : (new : ℕ) → length (nexts ++ new ∷ []) ≡ at * processors + (next + 1)
    turns-more new = let size = search.turns in let more = length-append nexts (new ∷ []) in omega arith

    inside-more : (new most : ℕ) → length states ≤ most → new < most → (i to : ℕ) → slice_get (nexts ++ new ∷ []) i ≡ Some to → to < most
    inside-more new most all here i to is =
        elim (slice_get-push_cases nexts i new to is) [
          | inl one ↦ (let same = one.1 in omega arith)
          | inr old ↦ (let below = search.inside i to old in omega arith)
        ]

    -- A STATE THAT IS KEPT ALREADY
    pub search-known : (from after target : M) (here : M) (to : ℕ) → next < processors → slice_get kept at ≡ Some here
        → Way (way_to states at) from → look from ≡ look here → Turn from (record { 0 = next }) after
        → slice_get kept to ≡ Some target → look target ≡ look after → Search states kept (nexts ++ to ∷ []) at (next + 1)
    search-known from after target here to few is_here way same turn is looks = record {
      size = search.size;
      first = search.first;
      some = search.some;
      reached = search.reached;
      ends = search.ends;
      different = search.different;
      linked = search.linked;
      made = λ k s some at_k. before-more s.before s.proc.0 at next (search.made k s some at_k);
      rise = search.rise;
      turns = turns-more to;
      inside = inside-more to (length states) (omega arith)
          (let there = slice_get_within kept to target is in let size = search.size in omega arith);
      turned = λ j m p n is_m goes below before at_n. turned j m p n is_m goes below at_n (cases_last j p.0 at next before);
    }
      where
        turned : (j : ℕ) (m : M) (p : ProcNo) (n : ℕ) → slice_get kept j ≡ Some m → end m ≡ None → p.0 < processors
            → slice_get (nexts ++ to ∷ []) (j * processors + p.0) ≡ Some n → IsBefore j p.0 at next ⊎ ((j ≡ at) × (p.0 ≡ next))
            → IsTurned look end Way Turn states kept j m p n
        turned j m p n is_m goes below at_n (inl before) =
            search.turned j m p n is_m goes below before (place-old (to ∷ []) j p.0 n below (omega arith) before at_n)
        turned j m p n is_m goes below at_n (inr one) =
            let same_to : n ≡ to = place-new n to
            (subst (λ (i : ℕ). slice_get (nexts ++ to ∷ []) i ≡ Some n)
            (ap (λ (i : ℕ). i * processors + p.0) one.0 ∙ ap (λ (i : ℕ). at * processors + i) one.1) at_n) in
            let same_m : here ≡ m = same_Some here m (sym is_here ∙ ap (slice_get kept) (sym one.0) ∙ is_m) in
            let proc : record { 0 = next } ≡ p = same-proc (record { 0 = next }) p (sym one.1) in
            record {
              from = from;
              after = after;
              reached = record { turns = way_to states at; way = way };
              same = same ∙ ap look same_m;
              turn = subst (λ (q : ProcNo). Turn from q after) proc turn;
              target = target;
              is = ap (slice_get kept) same_to ∙ is;
              looks = looks;
              early = λ s some at_to. (let made = search.made n s some at_to in
                  subst (λ (i : ℕ). IsBefore s.before s.proc.0 i (p.0 + 1)) (sym one.0)
                  (subst (λ (q : ℕ). IsBefore s.before s.proc.0 at (q + 1)) (sym one.1) (before-more s.before s.proc.0 at next made)));
            }

    -- A NEW STATE
    pub search-new : (from after here : M) (s : State) → next < processors → slice_get kept at ≡ Some here
        → Way (way_to states at) from → look from ≡ look here → Turn from (record { 0 = next }) after
        → Way (way_to states at ++ record { 0 = next } ∷ []) after → s.before ≡ at → s.proc.0 ≡ next → s.end ≡ end after
        → ((k : ℕ) (m : M) → slice_get kept k ≡ Some m → look m ≡ look after → ⊥)
        → Search (states ++ s ∷ []) (kept ++ after ∷ []) (nexts ++ length states ∷ []) at (next + 1)
    search-new from after here s few is_here way same turn leads before proc ends new = record {
      size = length-append kept (after ∷ []) ∙ ap (λ (n : ℕ). n + 1) search.size ∙ sym (length-append states (s ∷ []));
      first = λ m is. search.first m (sym (slice_get-append_left kept (after ∷ []) 0 (let some = search.some in let size = search.size in omega arith)) ∙ is);
      some = (let more = length-append states (s ∷ []) in omega arith);
      reached = λ k m is. reached k m (slice_get-push_cases kept k after m is);
      ends = λ k m t is at_k. each k m t (slice_get-push_cases kept k after m is) (slice_get-push_cases states k s t at_k);
      different = λ i j m n is at_j looks. different i j m n looks (slice_get-push_cases kept i after m is) (slice_get-push_cases kept j after n at_j);
      linked = λ k t some is. linked k t some (slice_get-push_cases states k s t is);
      made = λ k t some is. made k t some (slice_get-push_cases states k s t is);
      rise = λ j k t u some less is at_k. rise j k t u some less (slice_get-push_cases states j s t is) (slice_get-push_cases states k s u at_k);
      turns = turns-more (length states);
      inside = inside-more (length states) (length (states ++ s ∷ [])) (let more = length-append states (s ∷ []) in omega arith)
          (let more = length-append states (s ∷ []) in omega arith);
      turned = λ j m p n is goes below later at_n. turned j m p n (slice_get-push_cases kept j after m is) goes below at_n (cases_last j p.0 at next later);
    }
      where
        within : at < length states
        within = let there = slice_get_within kept at here is_here in let size = search.size in omega arith

        old : (k : ℕ) (m : M) → slice_get kept k ≡ Some m → k < length states
        old k m is = let there = slice_get_within kept k m is in let size = search.size in omega arith

        at-end : (k : ℕ) → k ≡ length kept → k ≡ length states
        at-end k is = is ∙ search.size

        linked : (k : ℕ) (t : State) → 0 < k → ((k ≡ length states) × (t ≡ s)) ⊎ (slice_get states k ≡ Some t) → t.before < k
        linked k t some (inl one) =
            let is : t.before ≡ at = ap (λ (u : State). u.before) one.1 ∙ before in
            let place = one.0 in
            let there : at < length states = within in
            omega arith
        linked k t some (inr is) = search.linked k t some is

        all-linked : AreLinked (states ++ s ∷ [])
        all-linked k t some is = linked k t some (slice_get-push_cases states k s t is)

        reached : (k : ℕ) (m : M) → ((k ≡ length kept) × (m ≡ after)) ⊎ (slice_get kept k ≡ Some m) → Way (way_to (states ++ s ∷ []) k) m
        reached k m (inl one) =
            let some : 0 < length states = search.some in
            let is : way_to (states ++ s ∷ []) (length states) ≡ way_to states at ++ record { 0 = next } ∷ [] =
            way-linked (states ++ s ∷ []) (length states) s all-linked some (slice_get-append_seam states [] s)
            ∙ ap (λ (j : ℕ). way_to (states ++ s ∷ []) j ++ s.proc ∷ []) before
            ∙ ap (λ (ps : List ProcNo). ps ++ s.proc ∷ []) (way-push states (s ∷ []) at search.linked within)
            ∙ ap (λ (p : ProcNo). way_to states at ++ p ∷ []) (same-proc s.proc (record { 0 = next }) proc) in
            subst (λ (j : ℕ). Way (way_to (states ++ s ∷ []) j) m) (sym (at-end k one.0))
            (subst (λ (ps : List ProcNo). Way ps m) (sym is) (subst (λ (n : M). Way (way_to states at ++ record { 0 = next } ∷ []) n) (sym one.1) leads))
        reached k m (inr is) =
            subst (λ (ps : List ProcNo). Way ps m) (sym (way-push states (s ∷ []) k search.linked (old k m is))) (search.reached k m is)

        each : (k : ℕ) (m : M) (t : State) → ((k ≡ length kept) × (m ≡ after)) ⊎ (slice_get kept k ≡ Some m)
            → ((k ≡ length states) × (t ≡ s)) ⊎ (slice_get states k ≡ Some t) → t.end ≡ end m
        each k m t (inl one) (inl two) = ap (λ (u : State). u.end) two.1 ∙ ends ∙ ap end (sym one.1)
        each k m t (inl one) (inr is) = absurd (let there = slice_get_within states k t is in let place = at-end k one.0 in omega arith)
        each k m t (inr is) (inl two) = absurd (let there = old k m is in let place = two.0 in omega arith)
        each k m t (inr is) (inr at_k) = search.ends k m t is at_k

        different : (i j : ℕ) (m n : M) → look m ≡ look n → ((i ≡ length kept) × (m ≡ after)) ⊎ (slice_get kept i ≡ Some m)
            → ((j ≡ length kept) × (n ≡ after)) ⊎ (slice_get kept j ≡ Some n) → i ≡ j
        different i j m n looks (inl one) (inl two) = one.0 ∙ sym two.0
        different i j m n looks (inl one) (inr is) = absurd (new j n is (sym looks ∙ ap look one.1))
        different i j m n looks (inr is) (inl two) = absurd (new i m is (looks ∙ ap look two.1))
        different i j m n looks (inr is) (inr at_j) = search.different i j m n is at_j looks

        made : (k : ℕ) (t : State) → 0 < k → ((k ≡ length states) × (t ≡ s)) ⊎ (slice_get states k ≡ Some t) → IsBefore t.before t.proc.0 at (next + 1)
        made k t some (inl one) =
            subst (λ (u : State). IsBefore u.before u.proc.0 at (next + 1)) (sym one.1) (inr (before, (let is = proc in omega arith)))
        made k t some (inr is) = before-more t.before t.proc.0 at next (search.made k t some is)

        rise : (j k : ℕ) (t u : State) → 0 < j → j < k → ((j ≡ length states) × (t ≡ s)) ⊎ (slice_get states j ≡ Some t)
            → ((k ≡ length states) × (u ≡ s)) ⊎ (slice_get states k ≡ Some u) → IsBefore t.before t.proc.0 u.before u.proc.0
        rise j k t u some less (inl one) (inl two) = absurd (let a = one.0 in let b = two.0 in omega arith)
        rise j k t u some less (inl one) (inr at_k) = absurd (let a = one.0 in let there = slice_get_within states k u at_k in omega arith)
        rise j k t u some less (inr is) (inl two) =
            subst (λ (v : State). IsBefore t.before t.proc.0 v.before v.proc.0) (sym two.1)
            (subst (λ (i : ℕ). IsBefore t.before t.proc.0 i s.proc.0) (sym before)
            (subst (λ (q : ℕ). IsBefore t.before t.proc.0 at q) (sym proc) (search.made j t some is)))
        rise j k t u some less (inr is) (inr at_k) = search.rise j k t u some less is at_k

        turned : (j : ℕ) (m : M) (p : ProcNo) (n : ℕ) → ((j ≡ length kept) × (m ≡ after)) ⊎ (slice_get kept j ≡ Some m) → end m ≡ None → p.0 < processors
            → slice_get (nexts ++ length states ∷ []) (j * processors + p.0) ≡ Some n → IsBefore j p.0 at next ⊎ ((j ≡ at) × (p.0 ≡ next))
            → IsTurned look end Way Turn (states ++ s ∷ []) (kept ++ after ∷ []) j m p n
        turned j m p n (inl one) goes below at_n (inl (inl lower)) = absurd (let place = at-end j one.0 in let there : at < length states = within in omega arith)
        turned j m p n (inl one) goes below at_n (inl (inr same_at)) =
            absurd (let place = at-end j one.0 in let here_at = same_at.0 in let there : at < length states = within in omega arith)
        turned j m p n (inl one) goes below at_n (inr two) =
            absurd (let place = at-end j one.0 in let here_at = two.0 in let there : at < length states = within in omega arith)
        turned j m p n (inr is) goes below at_n (inl earlier) =
            turned-more (s ∷ []) (after ∷ []) j m p n
            (search.turned j m p n is goes below earlier (place-old (length states ∷ []) j p.0 n below (omega arith) earlier at_n))
        turned j m p n (inr is) goes below at_n (inr two) =
            let same_to : n ≡ length states = place-new n (length states)
            (subst (λ (i : ℕ). slice_get (nexts ++ length states ∷ []) i ≡ Some n)
            (ap (λ (i : ℕ). i * processors + p.0) two.0 ∙ ap (λ (i : ℕ). at * processors + i) two.1) at_n) in
            let same_m : here ≡ m = same_Some here m (sym is_here ∙ ap (slice_get kept) (sym two.0) ∙ is) in
            let one_proc : record { 0 = next } ≡ p = same-proc (record { 0 = next }) p (sym two.1) in
            record {
              from = from;
              after = after;
              reached = record { turns = way_to states at; way = way };
              same = same ∙ ap look same_m;
              turn = subst (λ (q : ProcNo). Turn from q after) one_proc turn;
              target = after;
              is = ap (slice_get (kept ++ after ∷ [])) (same_to ∙ sym search.size) ∙ slice_get-append_seam kept [] after;
              looks = refl;
              early = λ t some at_to.
                  subst (λ (i : ℕ). IsBefore t.before t.proc.0 i (p.0 + 1)) (sym two.0)
                  (subst (λ (q : ℕ). IsBefore t.before t.proc.0 at (q + 1)) (sym two.1) (made n t some (slice_get-push_cases states n s t at_to)));
            }

    -- NO TURN OF A STATE THAT HAS AN END
    pub search-over : (here : M) (new : ℕ) → new < length states → next < processors → slice_get kept at ≡ Some here → (end here ≡ None → ⊥)
        → Search states kept (nexts ++ new ∷ []) at (next + 1)
    search-over here new inside few is_here over = record {
      size = search.size;
      first = search.first;
      some = search.some;
      reached = search.reached;
      ends = search.ends;
      different = search.different;
      linked = search.linked;
      made = λ k s some at_k. before-more s.before s.proc.0 at next (search.made k s some at_k);
      rise = search.rise;
      turns = turns-more new;
      inside = inside-more new (length states) (omega arith) inside;
      turned = λ j m p n is_m goes below before at_n. turned j m p n is_m goes below at_n (cases_last j p.0 at next before);
    }
      where
        turned : (j : ℕ) (m : M) (p : ProcNo) (n : ℕ) → slice_get kept j ≡ Some m → end m ≡ None → p.0 < processors
            → slice_get (nexts ++ new ∷ []) (j * processors + p.0) ≡ Some n → IsBefore j p.0 at next ⊎ ((j ≡ at) × (p.0 ≡ next))
            → IsTurned look end Way Turn states kept j m p n
        turned j m p n is_m goes below at_n (inl before) =
            search.turned j m p n is_m goes below before (place-old (new ∷ []) j p.0 n below (omega arith) before at_n)
        turned j m p n is_m goes below at_n (inr one) =
            absurd (over (ap end (same_Some here m (sym is_here ∙ ap (slice_get kept) (sym one.0) ∙ is_m)) ∙ goes))

    -- THE NEXT STATE
    pub search-next : next ≡ processors → Search states kept nexts (at + 1) 0
    search-next all = record {
      size = search.size;
      first = search.first;
      some = search.some;
      reached = search.reached;
      ends = search.ends;
      different = search.different;
      linked = search.linked;
      made = λ k s some at_k. before-next s.before s.proc.0 at next (search.made k s some at_k);
      rise = search.rise;
      turns = (let size = search.turns in omega arith);
      inside = search.inside;
      turned = λ j m p n is goes below before at_n. search.turned j m p n is goes below
          (elim (cases_below j p.0 at before) [ inl lower ↦ inl lower | inr same ↦ inr (same, omega arith) ]) at_n;
    }
