-- The threads that an instruction rouses stand in no list of their space, and are few.
use Rattle.std.proofs.Common.{◌≡◌, ℕ, zero, suc, ◌+◌, ◌*◌, ◌<◌, ◌≤◌, List, [], ◌++◌, length, take, take_all, add-one, get_or, Some, inl, inr, refl, sym, ap, ◌∙◌, arith}
use Rattle.std.specs.Prelude.{sum_by}
use Rattle.std.proofs.lemmas.Bool.{cases_lt}
use Rattle.std.proofs.lemmas.List.{get_or_past, length-map, map-append}
use Rattle.std.proofs.lemmas.List.Sums.{sum_by_more}
use Rattle.sa_base.specs.declared.number.ProcNo.{ProcNo}
use Rattle.sa_base.specs.declared.number.ThreadNo.{ThreadNo}
use Rattle.sa_base.specs.declared.number.ActNo.{ActNo}
use Rattle.sa_base.specs.declared.limits.TheConstants.{MAX_PROCESSORS, MAX_THREADS}
use Rattle.sa_spaces.specs.Workload.{WorkloadView, IsWorkload}
use Rattle.sa_links.specs.Lists.{Lists, list_at, count_in, count_in_all}
use Rattle.sa_links.proofs.Counting.{count-append, few_below}
use Rattle.sa_lemmas.specs.Function.{put}
use Rattle.sa_laws.specs.declared.place.Place.{Place}
use Rattle.sa_laws.specs.declared.place.Place.TheVariants as places
use Rattle.sa_laws.specs.State.{SpaceState, at_start, is_waiting}
use Rattle.sa_laws.specs.Machine.{next_effect}
use Rattle.sa_replay.specs.Index.{runner_at}
use Rattle.sa_replay.proofs.IndexLemmas.{runner}
use Rattle.sa_sync.specs.Sync.{waits_of}
use Rattle.sa_virtual.specs.Virtual.{Virtuals, space_of, list_of, placed_on}
use Rattle.sa_virtual.specs.Holding.{numbers, worked, parts_of, one_where, at_no, place_no}
use Rattle.sa_virtual.specs.Turning.{Good, HasRoom}
use Rattle.sa_virtual.proofs.Sums.{work_here, one_or_none}
use Rattle.sa_virtual.proofs.Pushed.{known, number_is}
use Rattle.sa_virtual.proofs.RanTurns as turns
use Rattle.sa_vp_model.specs.Mirror.{AreLists}

-- how often one is in all work lists of a space
worked_taken : (work : ℕ → List ThreadNo) (s t : ℕ) (ls : List (List ℕ)) (n : ℕ) → n ≤ length ls
    → ((l : ℕ) → l < length ls → list_at ls l ≡ numbers (work (MAX_PROCESSORS * s + l)))
    → sum_by (count_in t) (take n ls) ≡ worked work n s t
worked_taken work s t ls zero few are = refl
worked_taken work s t ls (suc n) few are =
    let more : sum_by (count_in t) (take (n + 1) ls) ≡ sum_by (count_in t) (take n ls) + count_in t (get_or ls n []) =
    sum_by_more (count_in t) ls n [] (omega (arith, few)) in
    let same : sum_by (count_in t) (take (suc n) ls) ≡ sum_by (count_in t) (take (n + 1) ls) = ap (λ k. sum_by (count_in t) (take k ls)) (sym (add-one n)) in
    let here = ap (count_in t) (are n (omega (arith, few))) in
    omega (arith, more, same, here, worked_taken work s t ls n (omega (arith, few)) are)

pub worked_all : (work : ℕ → List ThreadNo) (s t processors : ℕ) (c : Lists) → AreLists processors (λ l. numbers (work (MAX_PROCESSORS * s + l))) c
    → count_in_all t c.lists ≡ worked work processors s t
worked_all work s t processors c are =
    sym (ap (sum_by (count_in t)) (take_all processors c.lists (omega (arith, are.many))))
    ∙ worked_taken work s t c.lists processors (omega (arith, are.many)) (λ l below. are.each l (omega (arith, below, are.many)))

waiting_there : (place : Place) → 1 ≤ one_where (is_waiting place) → place ≡ places.Waiting
waiting_there places.Waiting some = refl
waiting_there _ some = absurd (omega (arith, some))

pub waiting_made : (x : SpaceState) (u : ℕ) → place_no x u ≡ places.Waiting → u < length x.threads
waiting_made x u is = elim (cases_lt u (length x.threads)) [
  | inl below ↦ below
  | inr past ↦ let both : places.Done ≡ places.Waiting = sym (ap (λ y. y.place) (get_or_past x.threads u (at_start 0 places.Done) past)) ∙ is in cc
]

module _ (w : WorkloadView) (valid : IsWorkload w) (e : ℕ) (p : ProcNo) (v : Virtuals) (good : Good w v) (a : ActNo) (at : placed_on v p ≡ Some a)
    (t : ThreadNo) (runs : runner_at good.stands.runners p ≡ Some (runner (space_of a) t)) (room : HasRoom v.base.state.spaces) where
  abbrev s : ℕ
  s = (space_of a).0

  abbrev roused : List ThreadNo
  roused = (next_effect w v.base.state (space_of a) t).roused

  works : (u : ℕ) → worked (put v.work a.0 (v.work a.0 ++ roused)) w.processors s u ≡ worked v.work w.processors s u + count_in u (numbers roused)
  works u =
      let all : count_in u (numbers (v.work a.0 ++ roused)) ≡ count_in u (numbers (v.work a.0)) + count_in u (numbers roused) =
      ap (count_in u) (map-append (λ (n : ThreadNo). n.0) (v.work a.0) roused) ∙ count-append u (numbers (v.work a.0)) (numbers roused) in
      omega (
        arith,
        all,
        work_here v.work a.0 (v.work a.0 ++ roused) w.processors s u (list_of a).0
            (known w (parts_of v) good.stands.runners good.stands.holds p a at).1 (number_is a),
      )

  abbrev after : SpaceState
  after = at_no (turns.goes w valid e p v good a at t runs room).state.spaces s

  in_work : (u : ℕ) → waits_of after.sync u + worked (put v.work a.0 (v.work a.0 ++ roused)) w.processors s u ≡ one_where (is_waiting (place_no after u))
  in_work u = ((turns.gone w valid e p v good a at t runs room).holds.agree s u).in_work

  pub once : (u : ℕ) → worked v.work w.processors s u + count_in u (numbers roused) ≤ 1
  once u = omega (arith, works u, in_work u, one_or_none (is_waiting (place_no after u)))

  pub below : (u : ℕ) → 1 ≤ count_in u (numbers roused) → u < MAX_THREADS
  below u some =
      let waits = waiting_there (place_no after u) (omega (arith, some, works u, in_work u)) in
      omega (arith, waiting_made after u waits, ((turns.gone w valid e p v good a at t runs room).holds.sized s).few)

  pub few : length roused ≤ MAX_THREADS
  few = omega (arith, few_below MAX_THREADS (numbers roused) (λ u. omega (arith, once u)) below, length-map roused (λ (u : ThreadNo). u.0))
