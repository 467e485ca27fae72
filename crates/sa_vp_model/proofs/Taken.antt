-- A thread is taken from the first list, round from its own, that has one.
use Rattle.std.proofs.Common.{◌≡◌, ◌≢◌, ℕ, zero, suc, ◌+◌, ◌-◌, ◌%◌, ◌<◌, ◌≤◌, Bool, true, false, cond, eqb, List, [], ◌∷◌, ◌++◌, append_assoc, length, map, filter, find, get_or, set, slice_get, Option, Some, None, refl, sym, ap, subst, ◌∙◌, arith, mod-lt}
use Rattle.std.specs.Prelude.{count_by, ◌==◌}
use Rattle.std.specs.List.{range_with_len}
use Rattle.std.specs.Option.{option_map}
use Rattle.std.proofs.lemmas.Bool.{eqb-true}
use Rattle.std.proofs.lemmas.Option.{same_Some}
use Rattle.std.proofs.lemmas.List.{get_or-set_same, get_or-set_other}
use Rattle.std.proofs.lemmas.List.Sums.{sum_by-cons}
use Rattle.sa_base.specs.declared.number.ProcNo.{ProcNo}
use Rattle.sa_base.specs.declared.number.SpaceNo.{SpaceNo}
use Rattle.sa_base.specs.declared.number.ThreadNo.{ThreadNo}
use Rattle.sa_base.specs.declared.number.ActNo.{ActNo}
use Rattle.sa_base.specs.declared.limits.TheConstants.{MAX_PROCESSORS}
use Rattle.sa_base.specs.declared.record.Record.TheVariants as rec
use Rattle.sa_spaces.specs.Workload.{WorkloadView}
use Rattle.sa_lemmas.proofs.Searches.{find-passes}
use Rattle.sa_links.specs.Lists.{count_in, without}
use Rattle.sa_links.proofs.Counting.{count-append, get_in}
use Rattle.sa_assign.specs.Reaim.{proc_no}
use Rattle.sa_laws.specs.declared.place.Place.{Place}
use Rattle.sa_laws.specs.Life.{without_lock, with_first, ran}
use Rattle.sa_laws.specs.Readings.{Listed, is_in}
use Rattle.sa_laws.specs.Record.{with_life, locks, is_other_thread}
use Rattle.sa_virtual.specs.Virtual.{Virtuals, space_of, list_of, placed_on, ready_of}
use Rattle.sa_virtual.specs.Turn.{chosen, has_some, popped, round_from, taken_from, threads_in}
use Rattle.sa_virtual.specs.Holding.{threads_of, one_if, one_where, kind, place_no, at_no}
use Rattle.sa_virtual.specs.Turning.{Good}
use Rattle.sa_vp_model.specs.Board.{list_in, with_list_in}
use Rattle.sa_vp_model.specs.Turn.{looks, takes, takes_from, picked, left_of, is_some_list}
use Rattle.sa_vp_model.specs.Mirror.{Own, board_of, Mirrors, AreLists, newest_first, rows}
use Rattle.sa_vp_model.proofs.Fitting.{fit, threads-of, steps-of, ready-of, work-of, blocked-of}
use Rattle.sa_vp_model.proofs.Tables.{lists_with, many_with, picked_one, some_one, left_one, newest_few, newest_less, newest_stays}
use Rattle.sa_vp_model.proofs.Follows.{Follows}
use Rattle.sa_vp_model.proofs.Placed.{item}
use Rattle.sa_vp_model.proofs.Readied as readied

-- FOUND

module _ (k n : ℕ) (some : 0 < n) where
  abbrev at : ℕ → ProcNo
  at m = proc_no ((k + m) % n)

  below : (m : ℕ) → (at m).0 < n
  below m = mod-lt (k + m) some

  find_same : (f g : ProcNo → Bool) → ((l : ProcNo) → l.0 < n → f l ≡ g l) → (b c : ℕ)
      → find f (map at (range_with_len b c)) ≡ find g (map at (range_with_len b c))
  find_same f g same b zero = refl
  find_same f g same b (suc c) =
      ap (λ d. cond d (Some (at b)) (find f (map at (range_with_len (b + 1) c)))) (same (at b) (below b))
      ∙ ap (λ o. cond (g (at b)) (Some (at b)) o) (find_same f g same (b + 1) c)

  find_below : (f : ProcNo → Bool) (b c : ℕ) (l : ProcNo) → find f (map at (range_with_len b c)) ≡ Some l → l.0 < n
  find_below f b zero l is = cc
  find_below f b (suc c) l is = go (f (at b)) (λ later. find_below f (b + 1) c l later) is where
    go : (d : Bool) → (find f (map at (range_with_len (b + 1) c)) ≡ Some l → l.0 < n)
        → cond d (Some (at b)) (find f (map at (range_with_len (b + 1) c))) ≡ Some l → l.0 < n
    go true rest e = subst (λ (q : ProcNo). q.0 < n) (same_Some _ _ e) (below b)
    go false rest e = rest e

-- PICKED: one of them
pub picked_in : (xs : List ℕ) (own : Bool) (t : ℕ) → picked xs own ≡ Some t → 1 ≤ count_in t xs
picked_in xs true t is = get_in xs 0 t is
picked_in xs false t is = get_in xs (length xs - 1) t is

-- a list that is not empty has a last one
last_some : {A : Type 0} (x : A) (xs : List A) → slice_get (x ∷ xs) (length (x ∷ xs) - 1) ≡ None → ⊥
last_some x [] is = cc
last_some x (y ∷ ys) is =
    let place : length (x ∷ y ∷ ys) - 1 ≡ suc (length (y ∷ ys) - 1) = omega arith in
    last_some y ys (sym (ap (slice_get (x ∷ y ∷ ys)) place) ∙ is)

chosen_some : (xs : List Listed) (own : Bool) → has_some xs ≡ true → chosen xs own ≡ None → ⊥
chosen_some (x ∷ xs) true some is = last_some x xs is
chosen_some _ _ some is = cc

-- a thread is in one list at most
newest_two : (t : ℕ) (xs : List Listed) (k l : ℕ) → k ≢ l
    → count_in t (newest_first xs k) + count_in t (newest_first xs l) ≤ count_by (λ (x : Listed). x.thread.0 == t) xs
newest_two t [] k l ne = omega arith
newest_two t (y ∷ ys) k l ne = go (is_in (record { 0 = k }) y) (is_in (record { 0 = l }) y) refl refl (newest_two t ys k l ne) where
  cons : count_by (λ (x : Listed). x.thread.0 == t) (y ∷ ys) ≡ one_where (eqb y.thread.0 t) + count_by (λ (x : Listed). x.thread.0 == t) ys
  cons = sum_by-cons (λ (x : Listed). cond (eqb x.thread.0 t) 1 0) y ys

  more : (m : ℕ) → count_in t (newest_first ys m ++ y.thread.0 ∷ []) ≡ count_in t (newest_first ys m) + one_where (eqb y.thread.0 t)
  more m = count-append t (newest_first ys m) (y.thread.0 ∷ []) ∙ omega (arith, sum_by-cons (λ z. cond (eqb z t) 1 0) y.thread.0 [])

  at : (m : ℕ) (b : Bool) → is_in (record { 0 = m }) y ≡ b → newest_first (y ∷ ys) m ≡ cond b (newest_first ys m ++ y.thread.0 ∷ []) (newest_first ys m)
  at m b is = ap (λ c. cond c (newest_first ys m ++ y.thread.0 ∷ []) (newest_first ys m)) is

  go : (b c : Bool) → is_in (record { 0 = k }) y ≡ b → is_in (record { 0 = l }) y ≡ c
      → count_in t (newest_first ys k) + count_in t (newest_first ys l) ≤ count_by (λ (x : Listed). x.thread.0 == t) ys
      → count_in t (newest_first (y ∷ ys) k) + count_in t (newest_first (y ∷ ys) l) ≤ count_by (λ (x : Listed). x.thread.0 == t) (y ∷ ys)
  go true true first second rest = absurd (ne (sym (eqb-true y.list.0 k first) ∙ eqb-true y.list.0 l second))
  go true false first second rest = let u = ap (count_in t) (at k true first) in let v = ap (count_in t) (at l false second) in
      omega (arith, cons, more k, u, v, rest)
  go false true first second rest = let u = ap (count_in t) (at k false first) in let v = ap (count_in t) (at l true second) in
      omega (arith, cons, more l, u, v, rest)
  go false false first second rest = let u = ap (count_in t) (at k false first) in let v = ap (count_in t) (at l false second) in
      omega (arith, cons, u, v, rest)

at_most_one : (place : Place) → one_if (kind place) 1 ≤ 1
at_most_one place = go (eqb (kind place) 1) where
  go : (b : Bool) → one_where b ≤ 1
  go true = omega arith
  go false = omega arith

module _ (w : WorkloadView) (p : ProcNo) (v : Virtuals) (good : Good w v) (x : Own) (fits : Mirrors w v x) (a : ActNo) (at' : placed_on v p ≡ Some a)
    (few : w.processors ≤ MAX_PROCESSORS) where
  abbrev s : SpaceNo
  s = space_of a

  inside : s.0 < length w.spaces
  inside = readied.inside w p v good x fits a at' few

  some : 0 < w.processors
  some = omega (arith, readied.within w p v good x fits a at' few)

  list_is : (l : ProcNo) → l.0 < w.processors → list_in x.ready s l ≡ newest_first (ready_of v s) l.0
  list_is l below' = (fits.ready s.0 inside).each l.0 below'

  module _ (l : ProcNo) (below' : l.0 < w.processors) (own : Bool) (y : Listed) (is : chosen (threads_in v s l) own ≡ Some y) where
    abbrev t : ThreadNo
    t = y.thread

    abbrev old : List ℕ
    old = list_in x.ready s l

    picks : picked old own ≡ Some t.0
    picks = ap (λ ys. picked ys own) (list_is l below') ∙ picked_one (ready_of v s) l own ∙ ap (option_map (λ (z : Listed). z.thread.0)) is

    once : count_by (λ (z : Listed). z.thread.0 == t.0) (ready_of v s) ≤ 1
    once = omega (arith, (good.stands.holds.agree s.0 t.0).in_lists, at_most_one (place_no (at_no v.base.state.spaces s.0) t.0))

    here : 1 ≤ count_in t.0 (newest_first (ready_of v s) l.0)
    here = let count = ap (count_in t.0) (list_is l below') in omega (arith, count, picked_in old own t.0 picks)

    leaves : left_of old own ≡ without t.0 old
    leaves = left_one old own t.0 picks (let count = ap (count_in t.0) (list_is l below') in omega (arith, count, newest_few t.0 (ready_of v s) l.0, once))

    abbrev ready : List (List Listed)
    ready = set v.ready s.0 (filter (is_other_thread t) (ready_of v s))

    ready_here : get_or ready s.0 [] ≡ filter (is_other_thread t) (ready_of v s)
    ready_here = get_or-set_same v.ready s.0 (filter (is_other_thread t) (ready_of v s)) [] (omega (arith, inside, good.stands.holds.spaces))

    ready_with : (r : ℕ) → r < length w.spaces → AreLists w.processors (newest_first (get_or ready r [])) (rows (with_list_in x.ready s l (left_of old own)) r)
    ready_with = lists_with w.processors (length w.spaces) x.ready s l (left_of old own) fits.many_ready inside below'
        (λ r. newest_first (get_or v.ready r [])) (λ r. newest_first (get_or ready r [])) fits.ready
        (λ k e. leaves ∙ ap (without t.0) (list_is l below') ∙ sym (newest_less (ready_of v s) t l.0)
        ∙ ap (newest_first (filter (is_other_thread t) (ready_of v s))) (sym e) ∙ ap (λ xs. newest_first xs k) (sym ready_here))
        (λ r k small ne. ap (λ xs. newest_first xs k) (sym (get_or-set_other v.ready s.0 r (filter (is_other_thread t) (ready_of v s)) [] ne)))
        (λ k small ne. sym (newest_stays (ready_of v s) t k (omega (arith, newest_two t.0 (ready_of v s) k l.0 ne, once, here)))
        ∙ ap (λ xs. newest_first xs k) (sym ready_here))

    abbrev taken_own : Own
    taken_own = record x {
      ready = with_list_in x.ready s l (left_of old own);
      items = ((x.items ++ item v p (rec.Take s l None) ∷ []) ++ item v p (rec.Run s t) ∷ []) ++ item v p (rec.Free s l (Some t)) ∷ [];
    }

    taken : Follows w p v (taken_from v a l (Some y)) x (takes p s l (picked old own) (left_of old own) (board_of w v x))
    taken = record {
      own = taken_own;
      is = ap (λ o. takes p s l o (left_of old own) (board_of w v x)) picks;
      fits = fit (
        fits.threads
            ∙ sym (ap (λ o. threads_of (with_life without_lock o (with_life (with_first (ran t)) o (with_life (locks v.base p l None) o v.base.lives))))
            (good.quiet p)),
        fits.many_threads,
      )
          (steps-of fits)
          (ready_with, many_with w.processors (length w.spaces) x.ready s l (left_of old own) fits.many_ready inside below')
          (work-of fits) (blocked-of fits) fits.numbered fits.many_lost fits.many_pages;
      lost = refl;
      items = ap (λ is. is ++ item v p (rec.Free s l (Some t)) ∷ []) (append_assoc x.items (item v p (rec.Take s l None) ∷ []) (item v p (rec.Run s t) ∷ []))
          ∙ append_assoc x.items (item v p (rec.Take s l None) ∷ item v p (rec.Run s t) ∷ []) (item v p (rec.Free s l (Some t)) ∷ []);
      io_count = omega arith;
      steps = λ b. omega arith;
      blocked = λ r. omega arith;
      due = omega arith;
    }

  taken_if : (l : ProcNo) → l.0 < w.processors → has_some (threads_in v s l) ≡ true → (own : Bool) (o : Option Listed) → chosen (threads_in v s l) own ≡ o
      → Follows w p v (taken_from v a l o) x (takes p s l (picked (list_in x.ready s l) own) (left_of (list_in x.ready s l) own) (board_of w v x))
  taken_if l below' has own None is = absurd (chosen_some (threads_in v s l) own has is)
  taken_if l below' has own (Some y) is = taken l below' own y is

  abbrev has : ProcNo → Bool
  has l = has_some (threads_in v s l)

  same : find (λ l. is_some_list (list_in x.ready s l)) (round_from w (list_of a)) ≡ find has (round_from w (list_of a))
  same =
      find_same (list_of a).0 w.processors some (λ l. is_some_list (list_in x.ready s l)) has
      (λ l below'. ap is_some_list (list_is l below') ∙ some_one (ready_of v s) l) 0 w.processors

  looked : (o : Option ProcNo) → find has (round_from w (list_of a)) ≡ o → Follows w p v (popped v a o) x (takes_from p a o (board_of w v x))
  looked None is = record {
    own = record x { items = x.items ++ item v p rec.Idle ∷ [] };
    is = refl;
    fits = fit (threads-of fits) (steps-of fits) (ready-of fits) (work-of fits) (blocked-of fits) fits.numbered fits.many_lost
        fits.many_pages;
    lost = refl;
    items = refl;
    io_count = omega arith;
    steps = λ b. omega arith;
    blocked = λ r. omega arith;
    due = omega arith;
  }
  looked (Some l) is =
      taken_if l (find_below (list_of a).0 w.processors some has 0 w.processors l is) (find-passes has (round_from w (list_of a)) l is) (l.0 == (list_of a).0)
      (chosen (threads_in v s l) (l.0 == (list_of a).0)) refl

  pub looks_for : Follows w p v (popped v a (find has (round_from w (list_of a)))) x (looks p a (board_of w v x))
  looks_for =
      subst (Follows w p v (popped v a (find has (round_from w (list_of a)))) x) (sym (ap (λ o. takes_from p a o (board_of w v x)) same))
      (looked (find has (round_from w (list_of a))) refl)
