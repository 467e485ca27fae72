-- Along a legal run what is read is what the words say, item by item.
use Rattle.std.proofs.Common.{◌≡◌, ℕ, zero, suc, ◌+◌, ◌<◌, ◌⊎◌, inl, inr, refl, sym, ◌∙◌, ap, subst, arith, Some, None, List, [], ◌∷◌, ◌++◌, length, map, true, false}
use Rattle.std.specs.Prelude.{Option, Bool, ◌==◌, if◌then◌else◌, get_or, slice_get, Contains, filter}
use Rattle.std.specs.List.{list_any}
use Rattle.std.specs.Option.{option_map, option_or}
use Rattle.std.proofs.lemmas.Bool.{cases_eq, eq-eqb, ne_eqb}
use Rattle.std.proofs.lemmas.Option.{none-some, same_Some}
use Rattle.sa_lemmas.proofs.FunctionUpdates.{put-at, put-other}
use Rattle.sa_base.specs.declared.number.SpaceNo.{SpaceNo}
use Rattle.sa_base.specs.declared.number.ProcNo.{ProcNo}
use Rattle.sa_base.specs.declared.number.ThreadNo.{ThreadNo}
use Rattle.sa_base.specs.declared.number.ActNo.{ActNo}
use Rattle.sa_base.specs.declared.record.Note.TheVariants as note
use Rattle.sa_base.specs.declared.record.Record.{Record}
use Rattle.sa_base.specs.declared.record.Record.TheVariants.{Stop, Block, Unblock, Up, Told, GiveBack, Take}
use Rattle.sa_base.specs.declared.record.Item.{Item}
use Rattle.sa_base.specs.declared.limits.TheConstants.{PACKAGE_PAGE}
use Rattle.sa_spaces.specs.Workload.{WorkloadView, IsWorkload}
use Rattle.sa_laws.specs.State.{State, space_at}
use Rattle.sa_laws.specs.Life.{Life, some_lock}
use Rattle.sa_laws.specs.Readings.{Readings, running_of, life_of, demand_of, untold_of, taken_of, counts, has_hand, life_if, life_on, ready_of}
use Rattle.sa_laws.specs.Record.{after_record, lives_after, locks_one, marks_after, first_list, list_of}
use Rattle.sa_laws.specs.Upcalls.{RaisesLine}
use Rattle.sa_promises.specs.Words.{last_want, want_said, begins_io, ios_begun}
use Rattle.sa_histories.proofs.Walk.{item}
use Rattle.sa_histories.proofs.Sizes.{IsSized, sized-step}
use Rattle.sa_promises.proofs.words.Reads.{said-more, last-more, demand-more}
use Rattle.sa_promises.proofs.lives.Shapes.{Moves}
use Rattle.sa_promises.proofs.lives.Moves.{stood}
use Rattle.sa_promises.proofs.lives.Standing.{Standing, Runs, Blocked, Stopped, Returned, Taken, Agrees, Stood, space_in, standing_after, agrees-step, kind}
use Rattle.sa_promises.proofs.lives.Holders.{has-life, on-life}
use Rattle.sa_promises.specs.Moments.{machine_of, machine_by, directly_before, record_of_event, is_first, runs_on, run_said, last_up, up_said, home_of}
use Rattle.sa_promises.specs.Marks.{is_marked, mark_said}
use Rattle.sa_promises.specs.Loads.{Untold, untold_in, untold_at, untold_by, is_not_told, with_noted}
use Rattle.sa_promises.specs.Holdings.{locks_of, locks_at, hands_at, conts_at, stopped_of, stopped_at, stopped_by, taken_in, taken_at, has_in_hand, first_list_of, ready_in, ready_at}
use Rattle.sa_promises.specs.Ios.{Resident}
use Rattle.sa_promises.specs.Pages.{Devices, devices_at, devices_of, first_devices, pages_before, ios_of, is_resident_in, evicted_if, comes_at}
use Rattle.sa_promises.specs.Needs.{OwnTakes}
use Rattle.sa_promises.specs.Along.{along, says_on}
use Rattle.sa_promises.proofs.read.Along.{along-more, along-step}
use Rattle.sa_promises.proofs.read.Lives.{Said, said-same}
use Rattle.sa_promises.proofs.read.Records.{WantKnown, NamesHome, AtHome, BlocksWith, note_of, run-more, mark-more, untold-more, taken-more, under-more, ready-more}
use Rattle.sa_promises.proofs.read.Fields.{Agrees as AgreesWith, NamesLife, in_locks, in_hand, open_cont, held_thread, at_home, homes_by, locks-step, hands-step, conts-step, stopped-step, homes-step, TakesLock}
use Rattle.sa_promises.proofs.read.Pages.{has_at, pages-more}
use Rattle.sa_promises.proofs.read.Raised.{Until, until-more, RaisedIn, raised-step, TakenAll, taken-all-step, home-more}
use Rattle.sa_promises.proofs.read.Spaces.{Ranged, IsInRange, range-step}
use Rattle.sa_promises.proofs.words.Ios.{ios-more, begun-more}

-- what is known of each record of a legal run
pub record Known (w : WorkloadView) (p : ProcNo) (r : Readings) (x : Record) (rest : List Record) : Type 0 where
  pub moves : Moves w p r x rest
  pub takes : OwnTakes p r x rest
  pub within : p.0 < w.processors
  pub raises : RaisesLine r x rest
  pub want : WantKnown w r x
  pub ranged : Ranged (length w.spaces) x

-- the threads of untold stops are those of the lives
abbrev pub StopsRead : WorkloadView → List Item → Type 0
StopsRead w past =
    (s : SpaceNo) (u : Untold) (a : ActNo) → s.0 < length w.spaces → Contains (untold_in past s) u → u.note ≡ note.Preempted a → stopped_of past a ≡ u.thread

-- what is read, and what the words say
pub record IsRead (w : WorkloadView) (past : List Item) (r : Readings) : Type 0 where
  pub st : ℕ → Standing
  pub agrees : Agrees st r
  pub sized : IsSized w r
  pub state : r.state ≡ machine_of w past
  pub running : (p : ProcNo) → running_of r p ≡ runs_on past p
  pub upped : r.upped ≡ last_up past
  pub homes : Said at_home r.lives (λ b. home_of past (record { 0 = b }))
  pub demands : (s : SpaceNo) → s.0 < length w.spaces → demand_of r s ≡ last_want past s
  pub marks : (p : ProcNo) → p.0 < w.processors → get_or r.marks p.0 false ≡ is_marked past p
  pub untold : (s : SpaceNo) → s.0 < length w.spaces → untold_of r s ≡ map note_of (untold_in past s)
  pub stops : StopsRead w past
  pub locks : Said in_locks r.lives (along (locks_at w) (λ b. []) past)
  pub hands : Said in_hand r.lives (along (hands_at w) (λ b. []) past)
  pub conts : Said open_cont r.lives (along conts_at (λ b. false) past)
  pub stopped : Said held_thread r.lives (along stopped_at (λ b. None) past)
  pub taken : (s : SpaceNo) → s.0 < length w.spaces → taken_of r s ≡ taken_in past s
  pub ready : (s : SpaceNo) → s.0 < length w.spaces → ready_of r s ≡ ready_in w past s
  pub all_taken : TakenAll past
  pub io_count : r.io_count ≡ ios_begun past
  pub ios : IsWorkload w → r.under_way ≡ ios_of w past

-- what is read within event e of processor p
pub record IsReadIn (w : WorkloadView) (e : ℕ) (p : ProcNo) (past : List Item) (r : Readings) : Type 0 where
  pub read : IsRead w past r
  pub last : r.last ≡ directly_before e past
  pub range : IsInRange w past r
  pub until : Until past (e + 1)
  pub raised : RaisedIn w e p past r.lines
  pub pages : (s : SpaceNo) (k : ℕ) → IsWorkload w → s.0 < length w.spaces → k < 16
      → has_at r.pages s.0 k ≡ evicted_if (is_first e past) w e s k (is_resident_in w past s k)

-- the lives that a record names are in use
home-at : (w : WorkloadView) (past : List Item) (r : Readings) (a : ActNo) (life : Life) → IsRead w past r → life_of r a ≡ Some life → AtHome r past a
home-at w past r a life read is = record {
  home = record { space = life.space; proc = life.proc };
  space = ap (option_map (λ (l : Life). l.space)) is;
  said = sym (read.homes a.0 life is);
}

pub life-at : (w : WorkloadView) (past : List Item) (r : Readings) (a : ActNo) (s : SpaceNo) (x : Standing) → (read : IsRead w past r) → read.st a.0 ≡ x
    → space_in x ≡ Some s
    → (life : Life) × (life_of r a ≡ Some life)
life-at w past r a s x read is space =
    let there = has-life r.lives a.0 s (life_of r a) refl (read.agrees.lives a ∙ ap space_in is ∙ space) in (there.0, there.1)

names-life : (w : WorkloadView) (past : List Item) (p : ProcNo) (r : Readings) (x : Record) → (read : IsRead w past r) → Stood p read.st x → NamesLife r x
names-life w past p r (Stop s t a) read was = life-at w past r a s (Runs s p) read was refl
names-life w past p r (Block s t a io) read was = life-at w past r a s (Runs s p) read was refl
names-life w past p r (Unblock s t a) read was = life-at w past r a s (Blocked s) read was refl
names-life w past p r (Told (note.Preempted a)) read was = life-at w past r a was.0 (Stopped was.0) read was.1 refl
names-life w past p r (Told (note.Unblocked a)) read was = life-at w past r a was.0 (Returned was.0) read was.1 refl
names-life w past p r (GiveBack a) read was = life-at w past r a was.0 (Taken was.0) read was.1 refl
names-life w past p r _ read was = tt

names-home : (w : WorkloadView) (past : List Item) (r : Readings) (x : Record) → IsRead w past r → NamesLife r x → NamesHome r past x
names-home w past r (Told (note.Preempted a)) read names = home-at w past r a names.0 read names.1
names-home w past r (Told (note.Unblocked a)) read names = home-at w past r a names.0 read names.1
names-home w past r (GiveBack a) read names = home-at w past r a names.0 read names.1
names-home w past r _ read names = tt

-- the pages before a record of an event, as the words have them
abbrev pages_in : WorkloadView → List Item → ℕ → Resident
pages_in w past e = pages_before w past e (devices_of w past).resident

-- the life of a block is of a space of the workload
block-space : (w : WorkloadView) (p : ProcNo) (past : List Item) (r : Readings) (s : SpaceNo) (a : ActNo) (life : Life) → (read : IsRead w past r)
    → IsInRange w past r → life_of r a ≡ Some life
    → read.st a.0 ≡ Runs s p → s.0 < length w.spaces
block-space w p past r s a life read range is runs =
    let space : life.space ≡ s =
    same_Some life.space s (sym (ap (option_map (λ (l : Life). l.space)) is) ∙ read.agrees.lives a ∙ ap space_in runs) in
    subst (λ (of : SpaceNo). of.0 < length w.spaces) space
    (range.homes a (record { space = life.space; proc = life.proc }) (sym (read.homes a.0 life is)))

blocks-with : (w : WorkloadView) (e : ℕ) (p : ProcNo) (past : List Item) (r : Readings) (x : Record) → (inv : IsReadIn w e p past r) → NamesLife r x
    → Stood p inv.read.st x
    → IsWorkload w → BlocksWith w r past (pages_in w past e) x
blocks-with w e p past r (Block s t a io) inv names was ok = (
  ap locks_one names.1 ∙ ap some_lock (inv.read.locks a.0 names.0 names.1),
  inv.pages s PACKAGE_PAGE ok (block-space w p past r s a names.0 inv.read inv.range names.1 was) (omega arith),
)
blocks-with w e p past r x inv names was ok = tt

-- a take gives the lock that the words say
hand-same : (w : WorkloadView) (past : List Item) (p : ProcNo) (r : Readings) (s : SpaceNo) (a : ActNo) (life : Life) (n : Option ActNo) → IsRead w past r
    → n ≡ Some a → r.lives a.0 ≡ Some life
    → s ≡ life.space → has_hand r life ≡ has_in_hand w past s n
hand-same w past p r s a life n read runs is space =
    ap (λ (m : State). list_any (counts (space_at m life.space)) life.hand) read.state
    ∙ ap (λ (of : SpaceNo). list_any (counts (space_at (machine_of w past) of)) life.hand) (sym space)
    ∙ ap (list_any (counts (space_at (machine_of w past) s))) (read.hands a.0 life is)
    ∙ ap (has_in_hand w past s) (sym runs)

takes-lock : (w : WorkloadView) (past : List Item) (p : ProcNo) (r : Readings) (x : Record) (rest : List Record) → IsRead w past r → OwnTakes p r x rest
    → TakesLock w past p r x
takes-lock w past p r (Take s l t) rest read law = λ a life runs is.
    let same : life ≡ law.0 = on-life r p a life law.0 runs is law.1 in
    let space : s ≡ life.space = law.2 ∙ ap (λ (k : Life). k.space) (sym same) in
    ap (λ b. record { list = l; thread = t; for_push = b; used = false; own = l.0 == p.0; inherited = false })
    (hand-same w past p r s a life (runs_on past p) read (sym (read.running p) ∙ runs) is space)
takes-lock w past p r x rest read law = tt

-- a thread made ready goes to the list that the words say
first-same : (w : WorkloadView) (past : List Item) (p : ProcNo) (r : Readings) → IsRead w past r
    → first_list (life_on r p) p ≡ first_list_of w past (runs_on past p) p
first-same w past p r read = one (running_of r p) refl ∙ ap (λ o. first_list_of w past o p) (read.running p) where
  at_life : (a : ActNo) (o : Option Life) → life_of r a ≡ o → (life : Life) → life_of r a ≡ Some life
      → first_list o p ≡ list_of (slice_get (locks_of w past a) 0) p
  at_life a None none life is = absurd (none-some life (sym none ∙ is))
  at_life a (Some l) is life same = ap (λ ls. list_of (slice_get ls 0) p) (read.locks a.0 l is)

  one : (o : Option ActNo) → running_of r p ≡ o → first_list (life_if r o) p ≡ first_list_of w past o p
  one None is = refl
  one (Some a) is =
      let there = read.agrees.running p a is in
      let life = life-at w past r a there.0 (Runs there.0 p) read there.1 refl in
      at_life a (life_of r a) refl life.0 life.1

-- the homes after a record
homes-said : (past : List Item) (e : ℕ) (p : ProcNo) (x : Record) (b : ℕ)
    → homes_by (λ c. home_of past (record { 0 = c })) p x b ≡ home_of (past ++ item e p x ∷ []) (record { 0 = b })
homes-said past e p x b = one x ∙ sym (home-more past e p x (record { 0 = b })) where
  up : (s : SpaceNo) (a : ActNo) → homes_by (λ c. home_of past (record { 0 = c })) p (Up s a) b
      ≡ option_or (if a.0 == b then Some (record { space = s; proc = p }) else None) (home_of past (record { 0 = b }))
  up s a = elim (cases_eq a.0 b) [
    | inl same ↦
        put-at (λ c. home_of past (record { 0 = c })) a.0 b _ (sym same)
        ∙ sym (ap (λ c. option_or (if c then Some (record { space = s; proc = p }) else None) (home_of past (record { 0 = b }))) (eq-eqb a.0 b same))
    | inr apart ↦
        put-other (λ c. home_of past (record { 0 = c })) a.0 b _ (λ e'. apart (sym e'))
        ∙ sym
        (ap (λ c. option_or (if c then Some (record { space = s; proc = p }) else None) (home_of past (record { 0 = b })))
        (ne_eqb a.0 b apart))
  ]

  one : (y : Record)
      → homes_by (λ c. home_of past (record { 0 = c })) p y b ≡ option_or (Rattle.sa_promises.specs.Moments.home_in (record { 0 = b }) p y)
      (home_of past (record { 0 = b }))
  one (Up s a) = up s a
  one y = refl

-- the threads of untold stops after a record
stopped-keeps : (p : ProcNo) (st : ℕ → Standing) (x : Record) (a : ℕ) (s : SpaceNo) (has : ℕ → Option ThreadNo) → Stood p st x → st a ≡ Stopped s
    → stopped_by has x a ≡ has a
stopped-keeps p st (Stop of t b) a s has was is = put-other has b.0 a t (λ e. let clash = ap kind (sym is ∙ ap st e ∙ was) in cc)
stopped-keeps p st (Block of t b io) a s has was is = put-other has b.0 a t (λ e. let clash = ap kind (sym is ∙ ap st e ∙ was) in cc)
stopped-keeps p st (Up of b) a s has was is = put-other has b.0 a None (λ e. let clash = ap kind (sym is ∙ ap st e ∙ was) in cc)
stopped-keeps p st x a s has was is = refl

-- an untold note after a record is an old one, or the record's own
noted-cases : (s of : SpaceNo) (u v : Untold) (all : List Untold) → Contains (with_noted s of v all) u → Contains all u ⊎ (v ≡ u)
noted-cases s of u v all has = one (of.0 == s.0) has where
  one : (b : Bool) → Contains (if b then all ++ v ∷ [] else all) u → Contains all u ⊎ (v ≡ u)
  one true there = elim (Rattle.std.proofs.lemmas.List.Elements.Contains-push_cases all v u there) [ inl old ↦ inl old | inr new ↦ inr new ]
  one false there = inl there

filter-has : (test : Untold → Bool) (us : List Untold) (u : Untold) → Contains (filter test us) u → Contains us u
filter-has test us u has =
    Rattle.std.proofs.lemmas.List.Elements.All-contains (Contains us) (filter test us) u
    (Rattle.std.proofs.lemmas.List.Elements.All-filter test (Contains us) us (Rattle.std.proofs.lemmas.List.Elements.All-contains_itself us)) has

stops-one : (past : List Item) (s : SpaceNo) (x : Record) (u : Untold) (a : ActNo) (has : ℕ → Option ThreadNo) → Contains (untold_by s (untold_in past s) x) u
    → u.note ≡ note.Preempted a
    → (Contains (untold_in past s) u → stopped_by has x a.0 ≡ u.thread) → stopped_by has x a.0 ≡ u.thread
stops-one past s (Stop of t b) u a has there is old = elim (noted-cases s of u (Rattle.sa_promises.specs.Loads.untold (note.Preempted b) t)
    (untold_in past s) there) [
      | inl before ↦ old before
      | inr new ↦ (
          let act : a.0 ≡ b.0 = Rattle.sa_promises.proofs.lives.Standing.note-act a b (sym is ∙ ap note_of (sym new)) in
          put-at has b.0 a.0 t act ∙ ap (λ (v : Untold). v.thread) new
          )
    ]
stops-one past s (Block of t b io) u a has there is old = elim (noted-cases s of u (Rattle.sa_promises.specs.Loads.untold (note.Blocked b) t)
    (untold_in past s) there) [
      | inl before ↦ old before
      | inr new ↦ absurd (let clash = sym is ∙ ap note_of (sym new) in cc)
    ]
stops-one past s (Unblock of t b) u a has there is old = elim (noted-cases s of u (Rattle.sa_promises.specs.Loads.untold (note.Unblocked b) t)
    (untold_in past s) there) [
      | inl before ↦ old before
      | inr new ↦ absurd (let clash = sym is ∙ ap note_of (sym new) in cc)
    ]
stops-one past s (Told n) u a has there is old = old (filter-has (is_not_told n) (untold_in past s) u there)
stops-one past s x u a has there is old = old there

pub map-has : (v : Untold) (us : List Untold) → Contains us v → Contains (map note_of us) (note_of v)
map-has v [] has' = let h = has' in absurd (omega (arith, h.1))
map-has v (y ∷ ys) (zero, below, at) = (0, omega arith, ap note_of at)
map-has v (y ∷ ys) (suc k, below, at) = let there = map-has v ys (k, omega arith, at) in (suc there.0, omega (arith, there.1), there.2)

stops-step : (w : WorkloadView) (e : ℕ) (p : ProcNo) (past : List Item) (r : Readings) (x : Record) → (read : IsRead w past r) → Stood p read.st x
    → StopsRead w (past ++ item e p x ∷ [])
stops-step w e p past r x read was s u a within has is =
    ap (λ (f : ℕ → Option ThreadNo). f a.0) (along-more stopped_at (λ b. None) past (item e p x))
    ∙ stops-one past s x u a (along stopped_at (λ b. None) past) (subst (λ us. Contains us u) (along-more (untold_at s) [] past (item e p x)) has) is
    (λ old.
    let noted : Contains (untold_of r s) (note.Preempted a) =
    subst (λ ns. Contains ns (note.Preempted a)) (sym (read.untold s within))
    (subst (λ n. Contains (map note_of (untold_in past s)) n) is (map-has u (untold_in past s) old)) in
    stopped-keeps p read.st x a.0 s (along stopped_at (λ b. None) past) was (read.agrees.stopped s a noted) ∙ read.stops s u a within old is)

-- an item is directly before the next one of its event
pub last-is : (e : ℕ) (p : ProcNo) (past : List Item) (x : Record) → directly_before e (past ++ item e p x ∷ []) ≡ Some x
last-is e p past x = ap (record_of_event e) (last-more Some past (item e p x)) ∙ one (e == e) (eq-eqb e e refl) where
  one : (b : Bool) → b ≡ true → (if b then Some x else None) ≡ Some x
  one true is = refl
  one false is = absurd (cc)

up-after : (up : Option ActNo) (x : Record) → Rattle.sa_laws.specs.Record.upped_after up x ≡ option_or (Rattle.sa_promises.specs.Moments.up_in x) up
up-after up (Up s a) = refl
up-after up x = refl

read-after : (w : WorkloadView) (e : ℕ) (p : ProcNo) (past : List Item) (r : Readings) (x : Record) (rest : List Record) → IsReadIn w e p past r
    → Known w p r x rest
    → IsRead w (past ++ item e p x ∷ []) (after_record w e p r x)
read-after w e p past r x rest inv known =
    let read = inv.read in
    let sized = read.sized in
    let running_len = sized.running in
    let marks_len = sized.marks in
    let demands_len = sized.demands in
    let untold_len = sized.untold in
    let taken_len = sized.taken in
    let ready_len = sized.ready in
    let within = known.within in
    let was = stood w p read.st r x rest read.agrees known.moves in
    let names = names-life w past p r x read was in
    let agrees : AgreesWith past p r x = record { running = read.running p; upped = read.upped; names = names } in
    let y = item e p x in
    record {
      st = standing_after p read.st x;
      agrees = agrees-step w e p read.st r x read.agrees was;
      sized = sized-step w e p r x sized;
      state = along-step (machine_by w) _ past y r.state (after_record w e p r x).state read.state refl;
      running =
          λ q. said-more (run_said q) past y None (running_of r q) (running_of (after_record w e p r x) q) (read.running q)
          (run-more r.running p q x (omega arith));
      upped = up-after r.upped x ∙ ap (option_or (Rattle.sa_promises.specs.Moments.up_in x)) read.upped ∙ sym (last-more up_said past y);
      homes = said-same at_home (lives_after w p r x) _ _ (homes-said past e p x) (homes-step w p r x _ read.homes);
      demands =
          λ s below. said-more (want_said s) past y 0 (demand_of r s) (demand_of (after_record w e p r x) s) (read.demands s below)
          (demand-more r.demands x s (omega arith));
      marks = λ q below. along-step (says_on (mark_said q)) false past y (get_or r.marks q.0 false) (get_or (marks_after p r x) q.0 false) (read.marks q below)
          (mark-more w e p q past r x (omega arith) inv.last read.demands known.want);
      untold =
          λ s below. untold-more r x s (untold_in past s) (omega arith) (read.untold s below) ∙ ap (map note_of) (sym (along-more (untold_at s) [] past y));
      stops = stops-step w e p past r x read was;
      locks =
          said-same in_locks (lives_after w p r x) _ _
          (λ b. ap (λ (f : ℕ → List Rattle.sa_laws.specs.Life.Lock). f b) (sym (along-more (locks_at w) (λ c. []) past y)))
          (locks-step w past p r x (along (locks_at w) (λ c. []) past) agrees (takes-lock w past p r x rest read known.takes) read.locks);
      hands = said-same in_hand (lives_after w p r x) _ _ (λ b. ap (λ (f : ℕ → List ThreadNo). f b) (sym (along-more (hands_at w) (λ c. []) past y)))
          (hands-step w past p r x (along (hands_at w) (λ c. []) past) agrees read.state read.hands);
      conts = said-same open_cont (lives_after w p r x) _ _ (λ b. ap (λ (f : ℕ → Bool). f b) (sym (along-more conts_at (λ c. false) past y)))
          (conts-step w past p r x (along conts_at (λ c. false) past) agrees read.conts);
      stopped = said-same held_thread (lives_after w p r x) _ _ (λ b. ap (λ (f : ℕ → Option ThreadNo). f b) (sym (along-more stopped_at (λ c. None) past y)))
          (stopped-step w p r x (along stopped_at (λ c. None) past) read.stopped);
      taken =
          λ s below. taken-more r past x s (taken_in past s) (names-home w past r x read names) (omega arith) (read.taken s below)
          ∙ sym (along-more (taken_at s) [] past y);
      ready =
          λ s below. ready-more w p past r x s (ready_in w past s) (omega arith) (read.ready s below) (first-same w past p r read)
          ∙ sym (along-more (ready_at w s) _ past y);
      all_taken = taken-all-step past e p x read.all_taken;
      io_count = begun-more r.io_count x ∙ ap (λ n. n + (if begins_io x then 1 else 0)) read.io_count ∙ sym (ios-more past y);
      ios =
          λ ok. under-more w r past (pages_in w past e) e x (ios_of w past) (read.ios ok) read.io_count read.state inv.last
          (blocks-with w e p past r x inv names was ok)
          ∙ sym (ap (λ (d : Devices). d.ios) (along-more (devices_at w) (first_devices w) past y));
    }

pub read-step : (w : WorkloadView) (e : ℕ) (p : ProcNo) (past : List Item) (r : Readings) (x : Record) (rest : List Record) → IsReadIn w e p past r
    → Known w p r x rest
    → IsReadIn w e p (past ++ item e p x ∷ []) (after_record w e p r x)
read-step w e p past r x rest inv known = record {
  read = read-after w e p past r x rest inv known;
  last = sym (last-is e p past x);
  range = range-step w e p past r x inv.range known.ranged;
  until = until-more past e p x inv.until;
  raised = raised-step w e p past r x rest inv.read.sized.lines known.raises inv.raised;
  pages = λ s k ok below few.
      let len = inv.read.sized.pages in
      pages-more r (ios_of w past) x s k (inv.read.ios ok) (omega arith) few
      ∙ ap (λ b. if comes_at (ios_of w past) s k x then true else b) (inv.pages s k ok below few)
      ∙ sym (ap (λ (d : Devices). d.resident s k) (along-more (devices_at w) (first_devices w) past (item e p x)))
      ∙ sym
      (ap (λ (o : Option Record). evicted_if (Rattle.std.specs.Prelude.is_none o) w e s k (is_resident_in w (past ++ item e p x ∷ []) s k))
      (last-is e p past x));
}
