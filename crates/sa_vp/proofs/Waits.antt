-- Where no I/O is under way, no virtual processor is blocked, and no space loses anything. Where no thread is due, the work lists are
-- empty, and where no thread of a space is ready, its ready lists.
use Rattle.std.proofs.Common.{◌≡◌, ◌≢◌, ℕ, ◌+◌, ◌≤◌, Bool, true, false, cond, List, [], ◌∷◌, length, find, get_or, Some, None, inl, inr, refl, sym, ap, subst, ◌∙◌, arith}
use Rattle.std.specs.Prelude.{count_by}
use Rattle.std.specs.List.{sum_by}
use Rattle.std.proofs.lemmas.Bool.{cases_lt}
use Rattle.std.proofs.lemmas.List.{get_or_past, nil_from_length}
use Rattle.std.proofs.lemmas.List.FromFn.{fill_by_all}
use Rattle.std.proofs.lemmas.List.Sums.{get_or-le-sum_by}
use Rattle.sa_base.specs.declared.number.ProcNo.{ProcNo}
use Rattle.sa_base.specs.declared.number.ActNo.{ActNo}
use Rattle.sa_spaces.specs.Workload.{WorkloadView}
use Rattle.sa_devices.specs.Ios.{Io}
use Rattle.sa_laws.specs.declared.place.Place.TheVariants as places
use Rattle.sa_laws.specs.State.{Thread, space_at, at_start}
use Rattle.sa_replay.specs.Counts.{is_ready, count_in}
use Rattle.sa_links.specs.Lists.{Lists}
use Rattle.sa_virtual.specs.Virtual.{space_of, list_of}
use Rattle.sa_virtual.specs.Turn.{round_from}
use Rattle.sa_virtual.specs.Legal.{is_of}
use Rattle.sa_vp_model.specs.Board.{Board, no_lists, of_space, list_in}
use Rattle.sa_vp_model.specs.Mirror.{total}
use Rattle.sa_vp_model.specs.Needs.{IsTabled, IsVirtual}
use Rattle.sa_vp_model.specs.Turn.{lost_now, loses, is_some_list, picked}
use Rattle.sa_vp_model.specs.Run.{IsRead}
use Rattle.sa_vp.specs.Waits.{BlocksByIos, CountsWork, ListsReady}

-- a board that is read off a history has its virtual processors blocked for I/Os that are under way
pub read_waits : (w : WorkloadView) (b : Board) → IsRead w b → BlocksByIos b
read_waits w b read none s = ap (λ (c : Board). get_or c.blocked s 0) read.is ∙ elim (cases_lt s (length w.spaces)) [
  | inl below ↦ read.fits.blocked s below ∙ ap (λ (ios : List Io). count_by (λ (io : Io). is_of (record { 0 = s }) io.kind) ios) ios
  | inr past ↦ get_or_past read.own.blocked s 0 (omega (arith, past, read.fits.many_blocked))
] where
  ios : read.virtuals.base.under_way ≡ []
  ios = sym (ap (λ (c : Board). c.devices.ios.under_way) read.is) ∙ none

no_ios : (ios : List Io) → (ios ≢ [] → ⊥) → ios ≡ []
no_ios [] some = refl
no_ios (io ∷ ios) some = absurd (some (λ same. cc))

-- nothing is lost then
pub none_lost : (b : Board) → BlocksByIos b → (b.devices.ios.under_way ≢ [] → ⊥) → b.lost ≡ loses b
none_lost b waits some =
    fill_by_all (λ s. get_or b.lost s 0 + lost_now b s) b.lost (length b.lost) 0 refl (λ k below. let zero : get_or b.blocked k 0 ≡ 0 =
    waits (no_ios b.devices.ios.under_way some) k in omega (arith, zero))

-- WORK: none of a sum of 0 is more
none_in : {X : Type 0} (f : X → ℕ) (xs : List X) (i : ℕ) (d : X) → f d ≡ 0 → sum_by f xs ≡ 0 → f (get_or xs i d) ≡ 0
none_in f xs i d zero none = elim (cases_lt i (length xs)) [
  | inl below ↦ omega (arith, none, get_or-le-sum_by f xs i d below)
  | inr past ↦ ap f (get_or_past xs i d past) ∙ zero
]

pub read_work : (w : WorkloadView) (b : Board) → IsRead w b → CountsWork b
read_work w b read none s l = nil_from_length (list_in b.work s l) (none_in length (of_space b.work s).lists l.0 [] refl row) where
  all : total b.work ≡ 0
  all = ap (λ (c : Board). total c.work) read.is ∙ sym read.fits.due ∙ sym (ap (λ (c : Board). c.due) read.is) ∙ none

  row : sum_by length (of_space b.work s).lists ≡ 0
  row = none_in (λ (c : Lists). sum_by length c.lists) b.work s.0 no_lists refl all

-- READY THREADS: one that is ready is counted
one_ready : (threads : List Thread) (t : ℕ) → (get_or threads t (at_start 0 places.Done)).place ≡ places.Ready → 1 ≤ count_in is_ready threads
one_ready threads t ready = elim (cases_lt t (length threads)) [
  | inl below ↦ subst (λ place. cond (is_ready place) 1 0 ≤ count_in is_ready threads) ready
      (get_or-le-sum_by (λ (x : Thread). cond (is_ready x.place) 1 0) threads t (at_start 0 places.Done) below)
  | inr past ↦
      let done : places.Ready ≡ places.Done = sym ready ∙ ap (λ (x : Thread). x.place) (get_or_past threads t (at_start 0 places.Done) past) in
      cc
]

no_head : (xs : List ℕ) → ((t : ℕ) → picked xs true ≡ Some t → ⊥) → is_some_list xs ≡ true → ⊥
no_head [] never some = cc
no_head (x ∷ xs) never some = never x refl

none_found : {A : Type 0} (test : A → Bool) (xs : List A) → ((x : A) → test x ≡ true → ⊥) → None ≡ find test xs
none_found test [] never = refl
none_found {A} test (x ∷ xs) never = go (test x) refl (none_found test xs never) where
  go : (b : Bool) → test x ≡ b → None ≡ find test xs → None ≡ cond b (Some x) (find test xs)
  go true is rest = absurd (never x is)
  go false is rest = rest

-- where none is ready, no ready list has a thread
pub none_sought : (a : ActNo) (b : Board) → IsTabled b → IsVirtual b a → ListsReady b (space_of a)
    → count_in is_ready (space_at b.state (space_of a)).threads ≡ 0
    → None ≡ find (λ l. is_some_list (list_in b.ready (space_of a) l)) (round_from b.workload (list_of a))
none_sought a b tabled virtual ready none = none_found (λ l. is_some_list (list_in b.ready (space_of a) l)) (round_from b.workload (list_of a)) empty where
  empty : (l : ProcNo) → is_some_list (list_in b.ready (space_of a) l) ≡ true → ⊥
  empty l some = elim (cases_lt l.0 b.workload.processors) [
    | inl below ↦ no_head (list_in b.ready (space_of a) l) (λ t is. let one = one_ready (space_at b.state (space_of a)).threads t (ready l t below is) in
        omega (arith, one, none)) some
    | inr past ↦
        let many = (tabled.ready_rows (space_of a).0 virtual.space).many in
        let out : list_in b.ready (space_of a) l ≡ [] = get_or_past (of_space b.ready (space_of a)).lists l.0 [] (omega (arith, past, many)) in
        let bad : true ≡ false = sym some ∙ ap is_some_list out in
        cc
  ]
