-- The ready threads of all spaces by their ranks: before any record, and after one.
use Rattle.std.proofs.Common.{◌≡◌, ◌≢◌, ℕ, zero, suc, ◌<◌, ◌+◌, cond, inl, inr, refl, sym, ◌∙◌, ap, subst, arith, Some, List, [], ◌∷◌, length, true, false, map, replicate}
use Rattle.std.specs.Prelude.{◌==◌, get_or, slice_set}
use Rattle.std.proofs.lemmas.Bool.{cases_eq, cases_lt, and_parts, ne_eqb}
use Rattle.std.proofs.lemmas.List.{get_or-set_same, get_or-set_other, get_or_past, length-set, length-map, length-replicate}
use Rattle.sa_base.specs.declared.number.ProcNo.{ProcNo}
use Rattle.sa_base.specs.declared.number.SpaceNo.{SpaceNo}
use Rattle.sa_base.specs.declared.number.ThreadNo.{ThreadNo}
use Rattle.sa_base.specs.declared.record.Record.{Record}
use Rattle.sa_base.specs.declared.record.Record.TheVariants.{Ins, Run, Stop, Block, Unblock, Cont, Back, Ready, Idle, Tick}
use Rattle.sa_spaces.specs.Space.{SpaceView}
use Rattle.sa_spaces.specs.Workload.{WorkloadView}
use Rattle.sa_laws.specs.declared.place.Place.{Place}
use Rattle.sa_laws.specs.declared.place.Place.TheVariants as place
use Rattle.sa_laws.specs.State.{State, SpaceState, Thread, space_at, thread_at, put_thread, no_threads, opening_space, next_instr, runner_on, is_waiting}
use Rattle.sa_laws.specs.Machine.{next_effect}
use Rattle.sa_laws.specs.Readings.{Readings, Listed, first_listed, opening_readings, ready_of}
use Rattle.sa_laws.specs.Record.{after_record}
use Rattle.sa_laws.specs.Step.{Needs, CanBeReady}
use Rattle.sa_laws.proofs.Searches.{found-from}
use Rattle.sa_ranks.specs.Pairs.{is_ready, rank_in}
use Rattle.sa_check_moment.specs.Ranked.{row_at, row_stack, opening_row, HasPut, HasStack}
use Rattle.sa_check_moment.specs.Ranking.{thread_of, of_rank, IsRanked, AreRanked, ReadsRanked}
use Rattle.sa_check_moment.proofs.Keeping.{nobody, KeepsReady, ins-keeps, put-keeps}
use Rattle.sa_check_moment.proofs.Rows.{ranked-kept, ranked-ready, ranked-run}

abbrev pub Ranked : Readings → List (List (List ThreadNo)) → Type 0
Ranked r v = AreRanked r.state r.ready v

-- before any record
none-ranked : IsRanked no_threads [] []
none-ranked = record { once = λ t. refl; each = λ k. refl }

first-ranked : (def : SpaceView) → IsRanked (opening_space def) (first_listed ∷ []) opening_row
first-ranked def = record { once = λ t. once t.0; each = each } where
  once : (n : ℕ) → cond {A = ℕ} (0 == n) 1 0 + 0 ≡ cond (is_ready (get_or (opening_space def).threads n nobody).place) 1 0
  once zero = refl
  once (suc n) = ap (λ b. cond {A = ℕ} b 1 0 + 0) (ne_eqb 0 (suc n) (λ e. omega arith))

  each : (k : ℕ) → row_stack opening_row k ≡ of_rank (opening_space def) k (first_listed ∷ [])
  each zero = refl
  each (suc k) = sym (ap (λ b. map thread_of (cond b (first_listed ∷ []) [])) (ne_eqb 0 (suc k) (λ e. omega arith)))

opening-each : (defs : List SpaceView) (s : ℕ)
    → IsRanked (get_or (map opening_space defs) s no_threads) (get_or (replicate (length defs) (first_listed ∷ [])) s [])
    (get_or (replicate (length defs) opening_row) s [])
opening-each [] s = none-ranked
opening-each (def ∷ defs) zero = first-ranked def
opening-each (def ∷ defs) (suc s) = opening-each defs s

pub opening-ranked : (w : WorkloadView) → Ranked (opening_readings w) (replicate (length w.spaces) opening_row)
opening-ranked w = record {
  listed = length-replicate (length w.spaces) (first_listed ∷ []) ∙ sym (length-map w.spaces opening_space);
  rows = length-replicate (length w.spaces) opening_row ∙ sym (length-map w.spaces opening_space);
  each = λ s. opening-each w.spaces s.0;
}

-- one space is changed
rows-as : (x : SpaceState) (ls : List Listed) (row new : List (List ThreadNo)) → ((k : ℕ) → row_stack new k ≡ row_stack row k) → IsRanked x ls row → IsRanked x ls new
rows-as x ls row new same is = record { once = is.once; each = λ k. same k ∙ is.each k }

abbrev changed-at : Readings → SpaceNo → SpaceState → List Listed → Readings
changed-at r s x ls = record r {
  state = record r.state { spaces = slice_set r.state.spaces s.0 x };
  ready = slice_set r.ready s.0 ls;
}

set-ranked : (r : Readings) (s : SpaceNo) (x : SpaceState) (ls : List Listed) (rank : ℕ) (xs : List ThreadNo) (old new : List (List (List ThreadNo)))
    → s.0 < length r.state.spaces → HasStack old s rank xs new → Ranked r old
    → (HasPut (row_at old s) rank xs (row_at new s) → IsRanked x ls (row_at new s)) → Ranked (changed-at r s x ls) new
set-ranked r s x ls rank xs old new within put is here = record {
  listed = length-set r.ready s.0 ls ∙ is.listed ∙ sym (length-set r.state.spaces s.0 x);
  rows = put.count ∙ is.rows ∙ sym (length-set r.state.spaces s.0 x);
  each = λ m. elim (cases_eq m.0 s.0) [
    | inl at ↦
        let state : get_or (slice_set r.state.spaces s.0 x) m.0 no_threads ≡ x =
        ap (λ n. get_or (slice_set r.state.spaces s.0 x) n no_threads) at ∙ get_or-set_same r.state.spaces s.0 x no_threads within in
        let ready : get_or (slice_set r.ready s.0 ls) m.0 [] ≡ ls =
        ap (λ n. get_or (slice_set r.ready s.0 ls) n []) at ∙ get_or-set_same r.ready s.0 ls [] (omega (arith, is.listed, within)) in
        let row : get_or new m.0 [] ≡ row_at new s = ap (λ n. get_or new n []) at in
        let there : HasPut (row_at old s) rank xs (row_at new s) =
        record { here = put.here (omega (arith, is.rows, within)); others = λ k apart. put.others s k (inr apart) } in
        subst (λ (y : SpaceState). IsRanked y (get_or (slice_set r.ready s.0 ls) m.0 []) (get_or new m.0 [])) (sym state)
        (subst (λ (l : List Listed). IsRanked x l (get_or new m.0 [])) (sym ready)
        (subst (λ (v : List (List ThreadNo)). IsRanked x ls v) (sym row) (here there)))
    | inr apart ↦
        let state : get_or (slice_set r.state.spaces s.0 x) m.0 no_threads ≡ space_at r.state m =
        get_or-set_other r.state.spaces s.0 m.0 x no_threads apart in
        let ready : get_or (slice_set r.ready s.0 ls) m.0 [] ≡ ready_of r m = get_or-set_other r.ready s.0 m.0 ls [] apart in
        subst (λ (y : SpaceState). IsRanked y (get_or (slice_set r.ready s.0 ls) m.0 []) (row_at new m)) (sym state)
        (subst (λ (l : List Listed). IsRanked (space_at r.state m) l (row_at new m)) (sym ready)
        (rows-as (space_at r.state m) (ready_of r m) (row_at old m) (row_at new m) (λ k. put.others m k (inl apart)) (is.each m)))
  ];
}

-- the threads of one space are changed, and the same are ready
kept-ranked : (r c : Readings) (s : SpaceNo) (x : SpaceState) (v : List (List (List ThreadNo))) → c.ready ≡ r.ready
    → c.state.spaces ≡ slice_set r.state.spaces s.0 x → KeepsReady (space_at r.state s).threads x.threads → Ranked r v → Ranked c v
kept-ranked r c s x v ready spaces keeps is = record {
  listed = ap length ready ∙ is.listed ∙ sym (ap length spaces ∙ length-set r.state.spaces s.0 x);
  rows = is.rows ∙ sym (ap length spaces ∙ length-set r.state.spaces s.0 x);
  each = λ m.
      subst (λ (l : List Listed). IsRanked (get_or c.state.spaces m.0 no_threads) l (row_at v m)) (sym (ap (λ (ls : List (List Listed)). get_or ls m.0 []) ready))
      (subst (λ (y : SpaceState). IsRanked y (ready_of r m) (row_at v m)) (sym (ap (λ (xs : List SpaceState). get_or xs m.0 no_threads) spaces))
      (ranked-kept (space_at r.state m) _ (ready_of r m) (row_at v m) (all r.state.spaces s.0 m.0 keeps) (is.each m)));
}
  where
    all : (xs : List SpaceState) (i j : ℕ) → KeepsReady (get_or xs i no_threads).threads x.threads
        → KeepsReady (get_or xs j no_threads).threads (get_or (slice_set xs i x) j no_threads).threads
    all (y ∷ ys) zero zero keeps n = keeps n
    all (y ∷ ys) (suc i) (suc j) keeps n = all ys i j keeps n
    all _ _ _ keeps n = record { ready = refl; program = λ h. refl }

-- a thread that is somewhere was made, and so was its space
made : (a : State) (s : SpaceNo) (t : ThreadNo) → (thread_at a s t).place ≢ place.Done → t.0 < length (space_at a s).threads
made a s t some = elim (cases_lt t.0 (length (space_at a s).threads)) [
  | inl within ↦ within
  | inr past ↦ absurd (some (ap (λ (v : Thread). v.place) (get_or_past (space_at a s).threads t.0 nobody past)))
]

there : (a : State) (s : SpaceNo) (t : ThreadNo) → t.0 < length (space_at a s).threads → s.0 < length a.spaces
there a s t within = elim (cases_lt s.0 (length a.spaces)) [
  | inl is ↦ is
  | inr past ↦
      let none : length (space_at a s).threads ≡ 0 = ap (λ (x : SpaceState). length x.threads) (get_or_past a.spaces s.0 no_threads past) in
      absurd (omega (arith, none))
]

-- a thread in a place where it is not ready is put in another
module _ (r c : Readings) (s : SpaceNo) (t : ThreadNo) (to : Place) (v : List (List (List ThreadNo))) where
  put-ranked : c.ready ≡ r.ready → c.state.spaces ≡ slice_set r.state.spaces s.0 (put_thread to (space_at r.state s) t)
      → (was : Place) → (thread_at r.state s t).place ≡ was → is_ready was ≡ false → is_ready to ≡ false → Ranked r v → Ranked c v
  put-ranked ready spaces was stands idle now is =
      kept-ranked r c s (put_thread to (space_at r.state s) t) v ready spaces
      (put-keeps (space_at r.state s) t (ap is_ready stands ∙ idle) to now) is

runs-at : (a : State) (p : ProcNo) (s : SpaceNo) (t : ThreadNo) → runner_on a p ≡ Some (record { space = s; thread = t })
    → (thread_at a s t).place ≡ place.Running p
runs-at a p s t is =
    let found = found-from p 0 a.spaces (record { space = s; thread = t }) is in
    let at : s.0 ≡ found.0 = omega (arith, found.1) in
    ap (λ n. (get_or (get_or a.spaces n no_threads).threads t.0 nobody).place) at ∙ found.2

waiting-is : (x : Place) → is_waiting x ≡ true → (is_ready x ≡ false) × (x ≢ place.Done)
waiting-is place.Waiting h = (refl, λ same. cc)
waiting-is _ h = absurd cc

before-ready : (a : State) (s : SpaceNo) (t : ThreadNo) → CanBeReady a s t → (is_ready (thread_at a s t).place ≡ false) × ((thread_at a s t).place ≢ place.Done)
before-ready a s t (inl carried) = (ap is_ready carried, λ gone. let clash : place.Carried ≡ place.Done = sym carried ∙ gone in cc)
before-ready a s t (inr due) = waiting-is (thread_at a s t).place (and_parts (is_waiting (thread_at a s t).place) _ due).0

as-new : {A : Type 0} (P : A → Type 0) (old new : A) → new ≡ old → P old → P new
as-new P old new same is = subst P (sym same) is

pub ranked-behind : (w : WorkloadView) (e : ℕ) (p : ProcNo) (r : Readings) (x : Record) (old new : List (List (List ThreadNo))) → Needs w p r x
    → ReadsRanked r.state x old new → Ranked r old → Ranked (after_record w e p r x) new
ranked-behind w e p r (Ready s t) old new needs read is =
    let a = r.state in
    let waits = before-ready a s t needs.1 in
    let idle : is_ready (thread_at a s t).place ≡ false = waits.0 in
    let within : t.0 < length (space_at a s).threads = made a s t waits.1 in
    let done = set-ranked r s (put_thread place.Ready (space_at a s) t) _ (rank_in (space_at a s) t) _ old new (there a s t within) read is
    (λ put. ranked-ready (space_at a s) (ready_of r s) (row_at old s) (row_at new s) t _ within idle refl (is.each s) put) in
    record { listed = done.listed; rows = done.rows; each = done.each }
ranked-behind w e p r (Run s t) old new needs read is =
    let a = r.state in
    let ready : is_ready (thread_at a s t).place ≡ true = ap is_ready needs.2 in
    let within : t.0 < length (space_at a s).threads = made a s t (λ gone. let clash : place.Ready ≡ place.Done = sym needs.2 ∙ gone in cc) in
    let done = set-ranked r s (put_thread (place.Running p) (space_at a s) t) _ (rank_in (space_at a s) t) _ old new (there a s t within) read is
    (λ put. ranked-run (space_at a s) (ready_of r s) (row_at old s) (row_at new s) t p ready within (is.each s) put) in
    record { listed = done.listed; rows = done.rows; each = done.each }
ranked-behind w e p r (Ins s t i) old new needs read is =
    let x = space_at r.state s in
    as-new (Ranked (after_record w e p r (Ins s t i))) old new read
    (kept-ranked r (after_record w e p r (Ins s t i)) s (next_effect w r.state s t).space old refl refl
    (ins-keeps x t (ap is_ready needs.runs) (next_instr w r.state s t)) is)
ranked-behind w e p r (Stop s (Some t) b) old new needs read is =
    as-new (Ranked (after_record w e p r (Stop s (Some t) b))) old new read
    (put-ranked r (after_record w e p r (Stop s (Some t) b)) s t place.Carried old refl refl (place.Running p) (runs-at r.state p s t needs.1) refl refl is)
ranked-behind w e p r (Block s (Some t) b io) old new needs read is =
    as-new (Ranked (after_record w e p r (Block s (Some t) b io))) old new read
    (put-ranked r (after_record w e p r (Block s (Some t) b io)) s t place.Blocked old refl refl (place.Running p) (runs-at r.state p s t needs.runs) refl refl is)
ranked-behind w e p r (Unblock s (Some t) b) old new needs read is =
    as-new (Ranked (after_record w e p r (Unblock s (Some t) b))) old new read
    (put-ranked r (after_record w e p r (Unblock s (Some t) b)) s t place.Carried old refl refl place.Blocked needs.blocked refl refl is)
ranked-behind w e p r (Cont s (Some t)) old new needs read is =
    as-new (Ranked (after_record w e p r (Cont s (Some t)))) old new read
    (put-ranked r (after_record w e p r (Cont s (Some t))) s t (place.Running p) old refl refl place.Carried needs.2 refl refl is)
ranked-behind w e p r (Back s (Some t)) old new needs read is =
    as-new (Ranked (after_record w e p r (Back s (Some t)))) old new read
    (put-ranked r (after_record w e p r (Back s (Some t))) s t place.Carried old refl refl (place.Running p) (runs-at r.state p s t needs.1) refl refl is)
ranked-behind w e p r Idle old new needs read is = as-new (Ranked (after_record w e p r Idle)) old new read (record { listed = is.listed; rows = is.rows; each = is.each })
ranked-behind w e p r Tick old new needs read is = as-new (Ranked (after_record w e p r Tick)) old new read (record { listed = is.listed; rows = is.rows; each = is.each })
ranked-behind w e p r x old new needs read is = as-new (Ranked (after_record w e p r x)) old new read (record { listed = is.listed; rows = is.rows; each = is.each })
