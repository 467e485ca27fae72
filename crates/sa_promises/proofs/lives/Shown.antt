-- Where a number stands is shown by what is read.
use Rattle.std.proofs.Common.{◌≡◌, ◌≢◌, ℕ, ◌<◌, ◌⊎◌, inl, inr, refl, sym, ◌∙◌, ap, arith, Some, None, List, [], length, true, false}
use Rattle.std.specs.Prelude.{Option, Bool, ◌||◌, get_or, slice_set, Contains}
use Rattle.std.specs.List.{list_any}
use Rattle.std.proofs.lemmas.Bool.{cases_eq, not-false, eqb-true, or_left, eq-eqb, ne_eqb}
use Rattle.std.proofs.lemmas.List.{length-replicate, get_or-set_same, get_or-set_other}
use Rattle.std.proofs.lemmas.List.Folds.{list_any-append}
use Rattle.std.proofs.lemmas.Option.{none-some, same_Some}
use Rattle.sa_lemmas.specs.Function.{put}
use Rattle.sa_lemmas.proofs.FunctionUpdates.{put-at, put-other}
use Rattle.sa_base.specs.declared.number.SpaceNo.{SpaceNo}
use Rattle.sa_base.specs.declared.number.ProcNo.{ProcNo}
use Rattle.sa_base.specs.declared.number.ThreadNo.{ThreadNo}
use Rattle.sa_base.specs.declared.number.ActNo.{ActNo}
use Rattle.sa_base.specs.declared.record.Note.TheVariants as note
use Rattle.sa_base.specs.declared.record.Record.{Record}
use Rattle.sa_base.specs.declared.record.Record.TheVariants.{Stop, Block, Unblock, Up, Told, Fetch, Fetched, GiveBack}
use Rattle.sa_spaces.specs.Workload.{WorkloadView}
use Rattle.sa_devices.specs.declared.kind.IoKind.{IoKind}
use Rattle.sa_devices.specs.declared.kind.IoKind.TheVariants.{Plain, Page, Upcall}
use Rattle.sa_devices.specs.Ios.{is_fetch_of, fetches}
use Rattle.sa_laws.specs.Event.{Event}
use Rattle.sa_laws.specs.Readings.{Readings, opening_readings, running_of, untold_of}
use Rattle.sa_laws.specs.Record.{after_record, running_after, under_way_after, untold_after, is_kind_of, is_io_of, is_io_of_other, fetches_other, blocking_for, length_behind}
use Rattle.sa_laws.specs.History.{Test, event_begun, ended}
use Rattle.sa_laws.proofs.Lengths.{running-length}
use Rattle.sa_laws.proofs.Numbers.{act-by_number}
use Rattle.sa_promises.proofs.words.Reads.{filter-any, untold-stays, untold-comes}
use Rattle.sa_histories.proofs.Sizes.{untold-length}
use Rattle.sa_promises.proofs.lives.Standing.{Standing, Nowhere, Runs, Blocked, Stopped, Returned, space_in, proc_in, took, Stood, standing_after, same-proc}
use Rattle.sa_promises.proofs.lives.Shapes.{AnyMoves, Moves, any-moves}
use Rattle.sa_promises.proofs.lives.Moves.{nowhere_first}

pub record Shows (w : WorkloadView) (st : ℕ → Standing) (r : Readings) : Type 0 where
  pub running_len : length r.running ≡ w.processors
  pub untold_len : length r.untold ≡ length w.spaces
  pub running : (s : SpaceNo) (p : ProcNo) (a : ActNo) → st a.0 ≡ Runs s p → running_of r p ≡ Some a
  pub blocked : (s : SpaceNo) (a : ActNo) → st a.0 ≡ Blocked s → list_any (is_io_of a) r.under_way ≡ true
  pub stopped : (s : SpaceNo) (a : ActNo) → s.0 < length w.spaces → st a.0 ≡ Stopped s → Contains (untold_of r s) (note.Preempted a)
  pub returned : (s : SpaceNo) (a : ActNo) → s.0 < length w.spaces → st a.0 ≡ Returned s → Contains (untold_of r s) (note.Unblocked a)

put-cases : (st : ℕ → Standing) (a b : ℕ) (v y : Standing) → put st a v b ≡ y → ((b ≡ a) × (v ≡ y)) ⊎ ((b ≢ a) × (st b ≡ y))
put-cases st a b v y is = elim (cases_eq b a) [
  | inl same ↦ inl (same, sym (put-at st a b v same) ∙ is)
  | inr apart ↦ inr (apart, sym (put-other st a b v apart) ∙ is)
]

told-act : (a b : ActNo) → Told (note.Preempted a) ≡ Told (note.Preempted b) → a.0 ≡ b.0
told-act a b same = cc

told-back : (a b : ActNo) → Told (note.Unblocked a) ≡ Told (note.Unblocked b) → a.0 ≡ b.0
told-back a b same = cc

-- the running lives
cleared : (running : List (Option ActNo)) (p q : ℕ) (a b : ActNo) → get_or running p None ≡ Some a → get_or running q None ≡ Some b → b.0 ≢ a.0
    → get_or (slice_set running p None) q None ≡ Some b
cleared running p q a b own is apart =
    get_or-set_other running p q None None (λ same. apart (ap (λ (c : ActNo). c.0) (same_Some b a (sym is ∙ ap (λ n. get_or running n None) same ∙ own)))) ∙ is

left : (p q : ProcNo) (st : ℕ → Standing) (running : List (Option ActNo)) (s t : SpaceNo) (a b : ActNo) (v : Standing)
    → ((u : SpaceNo) (o : ProcNo) (c : ActNo) → st c.0 ≡ Runs u o → get_or running o.0 None ≡ Some c) → proc_in v ≡ None
    → st a.0 ≡ Runs s p → put st a.0 v b.0 ≡ Runs t q → get_or (slice_set running p.0 None) q.0 None ≡ Some b
left p q st running s t a b v shows none was is = elim (put-cases st a.0 b.0 v (Runs t q) is) [
  | inl new ↦ absurd (none-some q (sym none ∙ ap proc_in new.1))
  | inr old ↦ cleared running p.0 q.0 a b (shows s p a was) (shows t q b old.1) old.0
]

moved-on : (p q : ProcNo) (st : ℕ → Standing) (s : SpaceNo) (a b : ActNo) (v : Standing) → proc_in v ≡ None → put st a.0 v b.0 ≡ Runs s q → st b.0 ≡ Runs s q
moved-on p q st s a b v none is = elim (put-cases st a.0 b.0 v (Runs s q) is) [
  | inl new ↦ absurd (none-some q (sym none ∙ ap proc_in new.1))
  | inr old ↦ old.1
]

running-shown : (w : WorkloadView) (p : ProcNo) (st : ℕ → Standing) (r : Readings) (x : Record) (rest : List Record) (s : SpaceNo) (q : ProcNo) (b : ActNo)
    → Shows w st r → Stood p st x
    → AnyMoves w p r x rest → p.0 < w.processors → standing_after p st x b.0 ≡ Runs s q → get_or (running_after p r.running x) q.0 None ≡ Some b
running-shown w p st r (Stop of t a) rest s q b shows was law within is = left p q st r.running of s a b (Stopped of) shows.running refl was is
running-shown w p st r (Block of t a io) rest s q b shows was law within is = left p q st r.running of s a b (Blocked of) shows.running refl was is
running-shown w p st r (Unblock of t a) rest s q b shows was law within is = shows.running s q b (moved-on p q st s a b (Returned of) refl is)
running-shown w p st r (Up of a) rest s q b shows was law within is = elim (put-cases st a.0 b.0 (Runs of p) (Runs s q) is) [
  | inl new ↦
      let len = shows.running_len in
      ap (λ n. get_or (slice_set r.running p.0 (Some a)) n None) (sym (same-proc of s p q new.1)) ∙ get_or-set_same r.running p.0 (Some a) None (omega arith)
      ∙ ap Some (act-by_number a b (sym new.0))
  | inr old ↦
      let there = shows.running s q b old.1 in
      get_or-set_other r.running p.0 q.0 (Some a) None (λ same. none-some b (sym law.0 ∙ ap (λ n. get_or r.running n None) (sym same) ∙ there)) ∙ there
]
running-shown w p st r (Told (note.Preempted a)) rest s q b shows was law within is =
    shows.running s q b (moved-on p q st s a b (took (st a.0)) (ap (λ y. proc_in (took y)) was.1) is)
running-shown w p st r (Told (note.Unblocked a)) rest s q b shows was law within is =
    shows.running s q b (moved-on p q st s a b (took (st a.0)) (ap (λ y. proc_in (took y)) was.1) is)
running-shown w p st r (GiveBack a) rest s q b shows was law within is = shows.running s q b (moved-on p q st s a b Nowhere refl is)
running-shown w p st r x rest s q b shows was law within is = shows.running s q b is

-- the blocked lives
abbrev is_blocked : Standing → Bool
is_blocked (Blocked s) = true
is_blocked _ = false

blocked-on : (st : ℕ → Standing) (s : SpaceNo) (a b : ActNo) (v : Standing) → is_blocked v ≡ false → put st a.0 v b.0 ≡ Blocked s
    → (b.0 ≢ a.0) × (st b.0 ≡ Blocked s)
blocked-on st s a b v none is = elim (put-cases st a.0 b.0 v (Blocked s) is) [
  | inl new ↦ absurd (let clash = sym none ∙ ap is_blocked new.1 in cc)
  | inr old ↦ old
]

or-right : (a b : Bool) → b ≡ true → (a || (b || false)) ≡ true
or-right true b is = refl
or-right false true is = refl
or-right false false is = is

own-block : (w : WorkloadView) (r : Readings) (s : SpaceNo) (t : Option ThreadNo) (a b : ActNo) (o : Option ℕ) → b.0 ≡ a.0
    → is_kind_of b (blocking_for w r s t a o).kind ≡ true
own-block w r s t a b (Some n) same = eq-eqb a.0 b.0 (sym same)
own-block w r s t a b None same = eq-eqb a.0 b.0 (sym same)

other-kind : (a b : ActNo) (k : IoKind) → b.0 ≢ a.0 → is_kind_of a k ≡ true → is_kind_of b k ≡ false
other-kind a b (Plain s c) apart is = let same = eqb-true c.0 a.0 is in ne_eqb c.0 b.0 (λ e. apart (sym e ∙ same))
other-kind a b (Page s c k) apart is = let same = eqb-true c.0 a.0 is in ne_eqb c.0 b.0 (λ e. apart (sym e ∙ same))
other-kind a b (Upcall s) apart is = refl

fetch-no-io : (s : ℕ) (b : ActNo) (k : IoKind) → is_fetch_of s k ≡ true → is_kind_of b k ≡ false
fetch-no-io s b (Plain of c) is = absurd (cc)
fetch-no-io s b (Page of c k) is = absurd (cc)
fetch-no-io s b (Upcall of) is = refl

blocked-shown : (w : WorkloadView) (e : ℕ) (p : ProcNo) (st : ℕ → Standing) (r : Readings) (x : Record) (s : SpaceNo) (b : ActNo) → Shows w st r → Stood p st x
    → standing_after p st x b.0 ≡ Blocked s → list_any (is_io_of b) (under_way_after w e r x) ≡ true
blocked-shown w e p st r (Block of t a io) s b shows was is = elim (put-cases st a.0 b.0 (Blocked of) (Blocked s) is) [
  | inl new ↦ list_any-append (is_io_of b) r.under_way _
      ∙ or-right (list_any (is_io_of b) r.under_way) _ (own-block w r of t a b (length_behind w r of t r.last) new.0)
  | inr old ↦ list_any-append (is_io_of b) r.under_way _ ∙ or_left _ _ (shows.blocked s b old.1)
]
blocked-shown w e p st r (Fetch of) s b shows was is = list_any-append (is_io_of b) r.under_way _ ∙ or_left _ _ (shows.blocked s b is)
blocked-shown w e p st r (Fetched of) s b shows was is =
    filter-any (is_io_of b) (fetches_other of) (λ io gone. fetch-no-io of.0 b io.kind (not-false (fetches of.0 io) gone)) r.under_way ∙ shows.blocked s b is
blocked-shown w e p st r (Unblock of t a) s b shows was is =
    let old = blocked-on st s a b (Returned of) refl is in
    filter-any (is_io_of b) (is_io_of_other a) (λ io gone. other-kind a b io.kind old.0 (not-false (is_io_of a io) gone)) r.under_way ∙ shows.blocked s b old.1
blocked-shown w e p st r (Stop of t a) s b shows was is = shows.blocked s b (blocked-on st s a b (Stopped of) refl is).1
blocked-shown w e p st r (Up of a) s b shows was is = shows.blocked s b (blocked-on st s a b (Runs of p) refl is).1
blocked-shown w e p st r (Told (note.Preempted a)) s b shows was is =
    shows.blocked s b (blocked-on st s a b (took (st a.0)) (ap (λ y. is_blocked (took y)) was.1) is).1
blocked-shown w e p st r (Told (note.Unblocked a)) s b shows was is =
    shows.blocked s b (blocked-on st s a b (took (st a.0)) (ap (λ y. is_blocked (took y)) was.1) is).1
blocked-shown w e p st r (GiveBack a) s b shows was is = shows.blocked s b (blocked-on st s a b Nowhere refl is).1
blocked-shown w e p st r x s b shows was is = shows.blocked s b is

-- the lives whose stop or return is untold
abbrev is_stopped : Standing → Bool
is_stopped (Stopped s) = true
is_stopped _ = false

abbrev is_returned : Standing → Bool
is_returned (Returned s) = true
is_returned _ = false

waits-on : (test : Standing → Bool) (st : ℕ → Standing) (a b : ActNo) (v y : Standing) → test y ≡ true → test v ≡ false → put st a.0 v b.0 ≡ y
    → (b.0 ≢ a.0) × (st b.0 ≡ y)
waits-on test st a b v y passes none is = elim (put-cases st a.0 b.0 v y is) [
  | inl new ↦ absurd (let clash = sym none ∙ ap test new.1 ∙ passes in cc)
  | inr old ↦ old
]

same-space-of : (s t : SpaceNo) (x y : Standing) → space_in x ≡ Some s → space_in y ≡ Some t → x ≡ y → s ≡ t
same-space-of s t x y left_in right_in same = same_Some s t (sym left_in ∙ ap space_in same ∙ right_in)

stopped-shown : (w : WorkloadView) (p : ProcNo) (st : ℕ → Standing) (r : Readings) (x : Record) (s : SpaceNo) (b : ActNo) → Shows w st r → Stood p st x
    → s.0 < length w.spaces
    → standing_after p st x b.0 ≡ Stopped s → Contains (get_or (untold_after r x) s.0 []) (note.Preempted b)
stopped-shown w p st r x s b shows was within is = one x was is where
  stays-there : (y : Record) → y ≢ Told (note.Preempted b) → st b.0 ≡ Stopped s → Contains (get_or (untold_after r y) s.0 []) (note.Preempted b)
  stays-there y other old = untold-stays r y s (note.Preempted b) other (shows.stopped s b within old)

  one : (y : Record) → Stood p st y → standing_after p st y b.0 ≡ Stopped s → Contains (get_or (untold_after r y) s.0 []) (note.Preempted b)
  one (Stop of t a) was' is' = elim (put-cases st a.0 b.0 (Stopped of) (Stopped s) is') [
    | inl new ↦
        let len = shows.untold_len in
        untold-comes r (Stop of t a) s (note.Preempted b) (omega arith)
        (same-space-of of s (Stopped of) (Stopped s) refl refl new.1, ap note.Preempted (act-by_number b a new.0))
    | inr old ↦ stays-there (Stop of t a) (λ no_told. cc) old.1
  ]
  one (Block of t a io) was' is' = stays-there (Block of t a io) (λ no_told. cc) (waits-on is_stopped st a b (Blocked of) (Stopped s) refl refl is').1
  one (Unblock of t a) was' is' = stays-there (Unblock of t a) (λ no_told. cc) (waits-on is_stopped st a b (Returned of) (Stopped s) refl refl is').1
  one (Up of a) was' is' = stays-there (Up of a) (λ no_told. cc) (waits-on is_stopped st a b (Runs of p) (Stopped s) refl refl is').1
  one (Told (note.Preempted a)) was' is' =
      let old = waits-on is_stopped st a b (took (st a.0)) (Stopped s) refl (ap (λ y. is_stopped (took y)) was'.1) is' in
      stays-there (Told (note.Preempted a)) (λ same. old.0 (sym (told-act a b same))) old.1
  one (Told (note.Unblocked a)) was' is' =
      stays-there (Told (note.Unblocked a)) (λ no_told. cc)
      (waits-on is_stopped st a b (took (st a.0)) (Stopped s) refl (ap (λ y. is_stopped (took y)) was'.1) is').1
  one (GiveBack a) was' is' = stays-there (GiveBack a) (λ no_told. cc) (waits-on is_stopped st a b Nowhere (Stopped s) refl refl is').1
  one y was' is' = stays-there y (λ no_told. cc) is'

returned-shown : (w : WorkloadView) (p : ProcNo) (st : ℕ → Standing) (r : Readings) (x : Record) (s : SpaceNo) (b : ActNo) → Shows w st r → Stood p st x
    → s.0 < length w.spaces
    → standing_after p st x b.0 ≡ Returned s → Contains (get_or (untold_after r x) s.0 []) (note.Unblocked b)
returned-shown w p st r x s b shows was within is = one x was is where
  stays-there : (y : Record) → y ≢ Told (note.Unblocked b) → st b.0 ≡ Returned s → Contains (get_or (untold_after r y) s.0 []) (note.Unblocked b)
  stays-there y other old = untold-stays r y s (note.Unblocked b) other (shows.returned s b within old)

  one : (y : Record) → Stood p st y → standing_after p st y b.0 ≡ Returned s → Contains (get_or (untold_after r y) s.0 []) (note.Unblocked b)
  one (Unblock of t a) was' is' = elim (put-cases st a.0 b.0 (Returned of) (Returned s) is') [
    | inl new ↦
        let len = shows.untold_len in
        untold-comes r (Unblock of t a) s (note.Unblocked b) (omega arith)
        (same-space-of of s (Returned of) (Returned s) refl refl new.1, ap note.Unblocked (act-by_number b a new.0))
    | inr old ↦ stays-there (Unblock of t a) (λ no_told. cc) old.1
  ]
  one (Block of t a io) was' is' = stays-there (Block of t a io) (λ no_told. cc) (waits-on is_returned st a b (Blocked of) (Returned s) refl refl is').1
  one (Stop of t a) was' is' = stays-there (Stop of t a) (λ no_told. cc) (waits-on is_returned st a b (Stopped of) (Returned s) refl refl is').1
  one (Up of a) was' is' = stays-there (Up of a) (λ no_told. cc) (waits-on is_returned st a b (Runs of p) (Returned s) refl refl is').1
  one (Told (note.Unblocked a)) was' is' =
      let old = waits-on is_returned st a b (took (st a.0)) (Returned s) refl (ap (λ y. is_returned (took y)) was'.1) is' in
      stays-there (Told (note.Unblocked a)) (λ same. old.0 (sym (told-back a b same))) old.1
  one (Told (note.Preempted a)) was' is' =
      stays-there (Told (note.Preempted a)) (λ no_told. cc)
      (waits-on is_returned st a b (took (st a.0)) (Returned s) refl (ap (λ y. is_returned (took y)) was'.1) is').1
  one (GiveBack a) was' is' = stays-there (GiveBack a) (λ no_told. cc) (waits-on is_returned st a b Nowhere (Returned s) refl refl is').1
  one y was' is' = stays-there y (λ no_told. cc) is'

pub shows-any : (w : WorkloadView) (e : ℕ) (p : ProcNo) (st : ℕ → Standing) (r : Readings) (x : Record) (rest : List Record) → Shows w st r → Stood p st x
    → AnyMoves w p r x rest → p.0 < w.processors → Shows w (standing_after p st x) (after_record w e p r x)
shows-any w e p st r x rest shows was law within = record {
  running_len = running-length p r.running x ∙ shows.running_len;
  untold_len = untold-length r x ∙ shows.untold_len;
  running = λ s q a is. running-shown w p st r x rest s q a shows was law within is;
  blocked = λ s a is. blocked-shown w e p st r x s a shows was is;
  stopped = λ s a below is. stopped-shown w p st r x s a shows was below is;
  returned = λ s a below is. returned-shown w p st r x s a shows was below is;
}

pub shows-step : (w : WorkloadView) (e : ℕ) (p : ProcNo) (st : ℕ → Standing) (r : Readings) (x : Record) (rest : List Record) → Shows w st r → Stood p st x
    → Moves w p r x rest → p.0 < w.processors → Shows w (standing_after p st x) (after_record w e p r x)
shows-step w e p st r x rest shows was law within = shows-any w e p st r x rest shows was (any-moves w p r x rest law) within

-- it is so before any record, and stays so as an event begins and ends
pub shows-start : (w : WorkloadView) → Shows w nowhere_first (opening_readings w)
shows-start w = record {
  running_len = length-replicate w.processors None;
  untold_len = length-replicate (length w.spaces) [];
  running = λ s p a is. absurd (cc);
  blocked = λ s a is. absurd (cc);
  stopped = λ s a within is. absurd (cc);
  returned = λ s a within is. absurd (cc);
}

pub shows-begun : (w : WorkloadView) (st : ℕ → Standing) (e : Event) (r : Readings) → Shows w st r → Shows w st (event_begun w e r)
shows-begun w st e r shows = record {
  running_len = shows.running_len;
  untold_len = shows.untold_len;
  running = shows.running;
  blocked = shows.blocked;
  stopped = shows.stopped;
  returned = shows.returned;
}

pub shows-ended : (test : Test) (w : WorkloadView) (st : ℕ → Standing) (before : Readings) (e : Event) (r : Readings) → Shows w st r
    → Shows w st (ended test w before e r)
shows-ended test w st before e r shows = record {
  running_len = shows.running_len;
  untold_len = shows.untold_len;
  running = shows.running;
  blocked = shows.blocked;
  stopped = shows.stopped;
  returned = shows.returned;
}
