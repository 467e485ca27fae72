-- In a legal run each activation number stands in one place: it is in nobody's use, or its life runs, is blocked, was
-- stopped or has come back untold, or is taken.
use Rattle.std.proofs.Common.{◌≡◌, ◌≢◌, ℕ, zero, suc, ◌⊎◌, inl, inr, refl, sym, ◌∙◌, ap, subst, arith, Some, None, List, [], ◌∷◌, ◌++◌, true, false}
use Rattle.std.specs.Prelude.{Option, Bool, not, ◌||◌, if◌then◌else◌, get_or, slice_set, Contains, All, filter}
use Rattle.std.specs.List.{list_any}
use Rattle.std.specs.Option.{option_map}
use Rattle.std.proofs.lemmas.Bool.{cases_eq, or_cases, eqb-true}
use Rattle.std.proofs.lemmas.Bool.Decides.{nat_tests}
use Rattle.std.proofs.lemmas.List.Folds.{list_any-append}
use Rattle.std.proofs.lemmas.List.Elements.{Contains-push_cases, All-contains, All-filter, All-contains_itself, All-cons, All-nil}
use Rattle.std.proofs.lemmas.Option.{none-some, same_Some}
use Rattle.sa_lemmas.specs.Function.{put}
use Rattle.sa_lemmas.proofs.FunctionUpdates.{put-at, put-other}
use Rattle.sa_base.specs.declared.number.SpaceNo.{SpaceNo}
use Rattle.sa_base.specs.declared.number.ProcNo.{ProcNo}
use Rattle.sa_base.specs.declared.number.ThreadNo.{ThreadNo}
use Rattle.sa_base.specs.declared.number.ActNo.{ActNo}
use Rattle.sa_base.specs.declared.record.Note.{Note}
use Rattle.sa_base.specs.declared.record.Note.TheVariants as note
use Rattle.sa_base.specs.declared.record.Record.{Record}
use Rattle.sa_base.specs.declared.record.Record.TheVariants.{Ins, Run, Stop, Block, Unblock, Cont, Back, Ready, Take, Free, Up, Told, Fetch, Fetched, GiveBack}
use Rattle.sa_spaces.specs.Workload.{WorkloadView}
use Rattle.sa_devices.specs.Ios.{Io}
use Rattle.sa_laws.specs.Machine.{next_effect}
use Rattle.sa_laws.specs.Life.{Life, with_hand, without_lock, with_first, with_cont, ran, held_with, inherits, bereft, new_life}
use Rattle.sa_laws.specs.Readings.{Readings, life_of, running_of, space_of_life, untold_of, taken_of}
use Rattle.sa_laws.specs.Record.{with_life, handed, lives_after, after_record, running_after, under_way_after, untold_after, taken_after, with_act, without_act, is_other_act, is_kind_of, is_io_of, is_io_of_other, fetches_other, blocking_for, length_behind, stopped_with, back_with, made_ready, one_thread, locks}
use Rattle.sa_laws.proofs.Numbers.{act-by_number}
use Rattle.sa_promises.specs.Words.{Notes}
use Rattle.sa_promises.proofs.words.Untold.{untold-cases}

-- where an activation number stands
pub data Standing : Type 0 where
  Nowhere : Standing
  Runs : SpaceNo → ProcNo → Standing
  Blocked : SpaceNo → Standing
  Stopped : SpaceNo → Standing
  Returned : SpaceNo → Standing
  Taken : SpaceNo → Standing

abbrev pub space_in : Standing → Option SpaceNo
space_in Nowhere = None
space_in (Runs s p) = Some s
space_in (Blocked s) = Some s
space_in (Stopped s) = Some s
space_in (Returned s) = Some s
space_in (Taken s) = Some s

abbrev pub took : Standing → Standing
took (Stopped s) = Taken s
took (Returned s) = Taken s
took x = x

-- where an activation number goes at a record
abbrev pub standing_after : ProcNo → (ℕ → Standing) → Record → ℕ → Standing
standing_after p st (Stop s t a) = put st a.0 (Stopped s)
standing_after p st (Block s t a io) = put st a.0 (Blocked s)
standing_after p st (Unblock s t a) = put st a.0 (Returned s)
standing_after p st (Up s a) = put st a.0 (Runs s p)
standing_after p st (Told (note.Preempted a)) = put st a.0 (took (st a.0))
standing_after p st (Told (note.Unblocked a)) = put st a.0 (took (st a.0))
standing_after p st (GiveBack a) = put st a.0 Nowhere
standing_after p st _ = st

-- where the number of a record stood before it
abbrev pub Stood : ProcNo → (ℕ → Standing) → Record → Type 0
Stood p st (Stop s t a) = st a.0 ≡ Runs s p
Stood p st (Block s t a io) = st a.0 ≡ Runs s p
Stood p st (Unblock s t a) = st a.0 ≡ Blocked s
Stood p st (Up s a) = st a.0 ≡ Nowhere
Stood p st (Told (note.Preempted a)) = (s : SpaceNo) × (st a.0 ≡ Stopped s)
Stood p st (Told (note.Unblocked a)) = (s : SpaceNo) × (st a.0 ≡ Returned s)
Stood p st (GiveBack a) = (s : SpaceNo) × (st a.0 ≡ Taken s)
Stood p st _ = Unit {0}

-- what is read agrees with where the numbers stand
pub record Agrees (st : ℕ → Standing) (r : Readings) : Type 0 where
  pub lives : (a : ActNo) → space_of_life r (Some a) ≡ space_in (st a.0)
  pub running : (p : ProcNo) (a : ActNo) → running_of r p ≡ Some a → (s : SpaceNo) × (st a.0 ≡ Runs s p)
  pub blocked : (a : ActNo) → list_any (is_io_of a) r.under_way ≡ true → (s : SpaceNo) × (st a.0 ≡ Blocked s)
  pub stopped : (s : SpaceNo) (a : ActNo) → Contains (untold_of r s) (note.Preempted a) → st a.0 ≡ Stopped s
  pub returned : (s : SpaceNo) (a : ActNo) → Contains (untold_of r s) (note.Unblocked a) → st a.0 ≡ Returned s
  pub taken : (s : SpaceNo) (a : ActNo) → Contains (taken_of r s) a → st a.0 ≡ Taken s

-- the kinds of standings
abbrev pub kind : Standing → ℕ
kind Nowhere = 0
kind (Runs s p) = 1
kind (Blocked s) = 2
kind (Stopped s) = 3
kind (Returned s) = 4
kind (Taken s) = 5

abbrev pub kind_told : Note → ℕ
kind_told (note.Preempted a) = 3
kind_told (note.Unblocked a) = 4
kind_told n = 6

abbrev pub kind_before : Record → ℕ
kind_before (Stop s t a) = 1
kind_before (Block s t a io) = 1
kind_before (Unblock s t a) = 2
kind_before (Up s a) = 0
kind_before (Told n) = kind_told n
kind_before (GiveBack a) = 5
kind_before x = 6

pub told-kind : (n : Note) (k : ℕ) → k ≢ 3 → k ≢ 4 → k ≢ 6 → k ≢ kind_told n
told-kind (note.Preempted a) k three four six = three
told-kind (note.Unblocked a) k three four six = four
told-kind (note.Add p) k three four six = six
told-kind (note.Blocked a) k three four six = six

keeps : (st : ℕ → Standing) (a b : ℕ) (v x y : Standing) → st a ≡ x → st b ≡ y → kind y ≢ kind x → put st a v b ≡ y
keeps st a b v x y was is apart = elim (cases_eq b a) [
  | inl same ↦ absurd (apart (ap kind (sym is ∙ ap st same ∙ was)))
  | inr other ↦ put-other st a b v other ∙ is
]

-- a number of another kind stays where it stands
pub stays : (p : ProcNo) (st : ℕ → Standing) (x : Record) (b : ℕ) (y : Standing) → Stood p st x → st b ≡ y → kind y ≢ kind_before x
    → standing_after p st x b ≡ y
stays p st (Stop s t a) b y was is apart = keeps st a.0 b _ _ y was is apart
stays p st (Block s t a io) b y was is apart = keeps st a.0 b _ _ y was is apart
stays p st (Unblock s t a) b y was is apart = keeps st a.0 b _ _ y was is apart
stays p st (Up s a) b y was is apart = keeps st a.0 b _ _ y was is apart
stays p st (Told (note.Preempted a)) b y was is apart = keeps st a.0 b _ _ y was.1 is apart
stays p st (Told (note.Unblocked a)) b y was is apart = keeps st a.0 b _ _ y was.1 is apart
stays p st (GiveBack a) b y was is apart = keeps st a.0 b _ _ y was.1 is apart
stays p st _ b y was is apart = is

-- the running lives
set-cases : (xs : List (Option ActNo)) (i j : ℕ) (v w : Option ActNo) (a : ActNo) → get_or (slice_set xs i v) j None ≡ Some a
    → ((j ≡ i) × (v ≡ Some a)) ⊎ (get_or xs j None ≡ Some a)
set-cases (x ∷ xs) zero zero v w a is = inl (refl, is)
set-cases (x ∷ xs) (suc i) (suc j) v w a is = elim (set-cases xs i j v w a is) [ inl new ↦ inl (ap suc new.0, new.1) | inr old ↦ inr old ]
set-cases _ _ _ v w a is = inr is

clear-cases : (xs : List (Option ActNo)) (i j : ℕ) (a : ActNo) → get_or (slice_set xs i None) j None ≡ Some a → (j ≢ i) × (get_or xs j None ≡ Some a)
clear-cases [] i j a is = absurd (none-some a is)
clear-cases (x ∷ xs) zero zero a is = absurd (none-some a is)
clear-cases (x ∷ xs) zero (suc j) a is = ((λ e. cc), is)
clear-cases (x ∷ xs) (suc i) zero a is = ((λ e. cc), is)
clear-cases (x ∷ xs) (suc i) (suc j) a is = let h = clear-cases xs i j a is in ((λ e. h.0 (omega arith)), h.1)

abbrev pub proc_in : Standing → Option ProcNo
proc_in (Runs s p) = Some p
proc_in x = None

pub same-proc : (s t : SpaceNo) (p q : ProcNo) → Runs s p ≡ Runs t q → p.0 ≡ q.0
same-proc s t p q e = ap (λ (o : ProcNo). o.0) (same_Some p q (ap proc_in e))

-- its running life leaves a processor
leaves : (p q : ProcNo) (st : ℕ → Standing) (running : List (Option ActNo)) (s : SpaceNo) (a b : ActNo) (v : Standing)
    → ((o : ProcNo) (c : ActNo) → get_or running o.0 None ≡ Some c → (t : SpaceNo) × (st c.0 ≡ Runs t o))
    → st a.0 ≡ Runs s p → get_or (slice_set running p.0 None) q.0 None ≡ Some b → (t : SpaceNo) × (put st a.0 v b.0 ≡ Runs t q)
leaves p q st running s a b v agrees was is =
    let old = clear-cases running p.0 q.0 b is in
    let there = agrees q b old.1 in
    elim (cases_eq b.0 a.0) [
      | inl same ↦ absurd (old.0 (sym (same-proc s there.0 p q (sym was ∙ ap st (sym same) ∙ there.1))))
      | inr other ↦ (there.0, put-other st a.0 b.0 v other ∙ there.1)
    ]

runs-proc : (s : SpaceNo) (p q : ProcNo) → q.0 ≡ p.0 → Runs s p ≡ Runs s q
runs-proc s p q e = ap (λ n. Runs s (record { 0 = n })) (sym e)

pub running-step : (p q : ProcNo) (st : ℕ → Standing) (r : Readings) (x : Record) (b : ActNo) → Agrees st r → Stood p st x
    → get_or (running_after p r.running x) q.0 None ≡ Some b → (s : SpaceNo) × (standing_after p st x b.0 ≡ Runs s q)
running-step p q st r (Stop s t a) b agrees was is = leaves p q st r.running s a b (Stopped s) agrees.running was is
running-step p q st r (Block s t a io) b agrees was is = leaves p q st r.running s a b (Blocked s) agrees.running was is
running-step p q st r (Up s a) b agrees was is = elim (set-cases r.running p.0 q.0 (Some a) None b is) [
  | inl new ↦
      let same : b.0 ≡ a.0 = ap (λ (c : ActNo). c.0) (sym (same_Some a b new.1)) in
      (s, put-at st a.0 b.0 (Runs s p) same ∙ runs-proc s p q new.0)
  | inr old ↦ let there = agrees.running q b old in (there.0, keeps st a.0 b.0 (Runs s p) Nowhere (Runs there.0 q) was there.1 (λ e. cc))
]
running-step p q st r (Told n) b agrees was is =
    let there = agrees.running q b is in (there.0, stays p st (Told n) b.0 (Runs there.0 q) was there.1 (told-kind n 1 (λ e. cc) (λ e. cc) (λ e. cc)))
running-step p q st r x b agrees was is =
    let there = agrees.running q b is in (there.0, stays p st x b.0 (Runs there.0 q) was there.1 (λ e. cc))

-- the blocked lives
or-first : (b : Bool) → (b || false) ≡ true → b ≡ true
or-first true is = refl
or-first false is = is

blocking-number : (w : WorkloadView) (r : Readings) (s : SpaceNo) (t : Option ThreadNo) (a b : ActNo) (o : Option ℕ)
    → is_kind_of b (blocking_for w r s t a o).kind ≡ true → b.0 ≡ a.0
blocking-number w r s t a b (Some n) is = sym (eqb-true a.0 b.0 is)
blocking-number w r s t a b None is = sym (eqb-true a.0 b.0 is)

filter-one : (f : Io → Bool) (io : Io) (ios kept : List Io) (b c : Bool) → f io ≡ c → (list_any f kept ≡ true → list_any f ios ≡ true)
    → list_any f (if b then io ∷ kept else kept) ≡ true → (f io || list_any f ios) ≡ true
filter-one f io ios kept b true first rest any = ap (λ d. d || list_any f ios) first
filter-one f io ios kept true false first rest any =
    ap (λ d. d || list_any f ios) first ∙ rest (sym (ap (λ d. d || list_any f kept) first) ∙ any)
filter-one f io ios kept false false first rest any = ap (λ d. d || list_any f ios) first ∙ rest any

any-filter : (f g : Io → Bool) (ios : List Io) → list_any f (filter g ios) ≡ true → list_any f ios ≡ true
any-filter f g [] is = is
any-filter f g (io ∷ ios) is = filter-one f io ios (filter g ios) (g io) (f io) refl (any-filter f g ios) is

-- none of a life's I/Os is left when they are taken away
gone-one : (a b : ActNo) (io : Io) (kept : List Io) (c d : Bool) → b.0 ≡ a.0 → is_io_of a io ≡ c → is_io_of b io ≡ d → (list_any (is_io_of b) kept ≡ true → ⊥)
    → list_any (is_io_of b) (if not c then io ∷ kept else kept) ≡ true → ⊥
gone-one a b io kept true d same own other rest any = rest any
gone-one a b io kept false true same own other rest any =
    let both : is_io_of a io ≡ true = ap (λ n. is_kind_of (record { 0 = n }) io.kind) (sym same) ∙ other in
    let clash = sym own ∙ both in cc
gone-one a b io kept false false same own other rest any = rest (sym (ap (λ d. d || list_any (is_io_of b) kept) other) ∙ any)

any-gone : (a b : ActNo) (ios : List Io) → list_any (is_io_of b) (filter (is_io_of_other a) ios) ≡ true → b.0 ≢ a.0
any-gone a b [] is same = absurd (cc)
any-gone a b (io ∷ ios) is same =
    gone-one a b io (filter (is_io_of_other a) ios) (is_io_of a io) (is_io_of b io) same refl refl (λ any. any-gone a b ios any same) is

pub blocked-step : (w : WorkloadView) (e : ℕ) (p : ProcNo) (st : ℕ → Standing) (r : Readings) (x : Record) (b : ActNo) → Agrees st r → Stood p st x
    → list_any (is_io_of b) (under_way_after w e r x) ≡ true → (s : SpaceNo) × (standing_after p st x b.0 ≡ Blocked s)
blocked-step w e p st r (Block s t a io) b agrees was is =
    elim (or_cases (list_any (is_io_of b) r.under_way) _ (sym (list_any-append (is_io_of b) r.under_way _) ∙ is)) [
      | inl old ↦ let there = agrees.blocked b old in (there.0, keeps st a.0 b.0 (Blocked s) (Runs s p) (Blocked there.0) was there.1 (λ e'. cc))
      | inr new ↦
          let same = blocking-number w r s t a b (length_behind w r s t r.last) (or-first _ new) in
          (s, put-at st a.0 b.0 (Blocked s) same)
    ]
blocked-step w e p st r (Fetch s) b agrees was is =
    elim (or_cases (list_any (is_io_of b) r.under_way) _ (sym (list_any-append (is_io_of b) r.under_way _) ∙ is)) [
      | inl old ↦ agrees.blocked b old
      | inr new ↦ absurd (cc)
    ]
blocked-step w e p st r (Fetched s) b agrees was is = agrees.blocked b (any-filter (is_io_of b) (fetches_other s) r.under_way is)
blocked-step w e p st r (Unblock s t a) b agrees was is =
    let there = agrees.blocked b (any-filter (is_io_of b) (is_io_of_other a) r.under_way is) in
    (there.0, put-other st a.0 b.0 (Returned s) (any-gone a b r.under_way is) ∙ there.1)
blocked-step w e p st r (Told n) b agrees was is =
    let there = agrees.blocked b is in (there.0, stays p st (Told n) b.0 (Blocked there.0) was there.1 (told-kind n 2 (λ e'. cc) (λ e'. cc) (λ e'. cc)))
blocked-step w e p st r x b agrees was is =
    let there = agrees.blocked b is in (there.0, stays p st x b.0 (Blocked there.0) was there.1 (λ e'. cc))

-- what is untold
pub note-act : (m n : ActNo) → note.Preempted m ≡ note.Preempted n → m.0 ≡ n.0
note-act m n e = cc

pub note-back : (m n : ActNo) → note.Unblocked m ≡ note.Unblocked n → m.0 ≡ n.0
note-back m n e = cc

pub stopped-step : (p : ProcNo) (st : ℕ → Standing) (r : Readings) (x : Record) (s : SpaceNo) (b : ActNo) → Agrees st r → Stood p st x
    → Contains (get_or (untold_after r x) s.0 []) (note.Preempted b) → standing_after p st x b.0 ≡ Stopped s
stopped-step p st r x s b agrees was has = elim (untold-cases r x s (note.Preempted b) has) [
  | inl old ↦ stopped-old x was (agrees.stopped s b old.0) old.1
  | inr new ↦ stopped-new x new
] where
  stopped-old : (y : Record) → Stood p st y → st b.0 ≡ Stopped s → y ≢ Told (note.Preempted b) → standing_after p st y b.0 ≡ Stopped s
  stopped-old (Told (note.Preempted a)) was' is other = elim (cases_eq b.0 a.0) [
    | inl same ↦ absurd (other (ap (λ c. Told (note.Preempted c)) (act-by_number a b (sym same))))
    | inr apart ↦ put-other st a.0 b.0 (took (st a.0)) apart ∙ is
  ]
  stopped-old (Told (note.Add q)) was' is other = is
  stopped-old (Told (note.Blocked a)) was' is other = is
  stopped-old y was' is other = stays p st y b.0 (Stopped s) was' is (λ e. cc)

  stopped-new : (y : Record) → Notes y s (note.Preempted b) → standing_after p st y b.0 ≡ Stopped s
  stopped-new (Stop of t a) notes = put-at st a.0 b.0 (Stopped of) (note-act b a notes.1) ∙ ap Stopped notes.0
  stopped-new (Block of t a io) notes = absurd (let clash = notes.1 in cc)
  stopped-new (Unblock of t a) notes = absurd (let clash = notes.1 in cc)
  stopped-new y notes = absurd notes

pub returned-step : (p : ProcNo) (st : ℕ → Standing) (r : Readings) (x : Record) (s : SpaceNo) (b : ActNo) → Agrees st r → Stood p st x
    → Contains (get_or (untold_after r x) s.0 []) (note.Unblocked b) → standing_after p st x b.0 ≡ Returned s
returned-step p st r x s b agrees was has = elim (untold-cases r x s (note.Unblocked b) has) [
  | inl old ↦ returned-old x was (agrees.returned s b old.0) old.1
  | inr new ↦ returned-new x new
] where
  returned-old : (y : Record) → Stood p st y → st b.0 ≡ Returned s → y ≢ Told (note.Unblocked b) → standing_after p st y b.0 ≡ Returned s
  returned-old (Told (note.Unblocked a)) was' is other = elim (cases_eq b.0 a.0) [
    | inl same ↦ absurd (other (ap (λ c. Told (note.Unblocked c)) (act-by_number a b (sym same))))
    | inr apart ↦ put-other st a.0 b.0 (took (st a.0)) apart ∙ is
  ]
  returned-old (Told (note.Add q)) was' is other = is
  returned-old (Told (note.Blocked a)) was' is other = is
  returned-old y was' is other = stays p st y b.0 (Returned s) was' is (λ e. cc)

  returned-new : (y : Record) → Notes y s (note.Unblocked b) → standing_after p st y b.0 ≡ Returned s
  returned-new (Unblock of t a) notes = put-at st a.0 b.0 (Returned of) (note-back b a notes.1) ∙ ap Returned notes.0
  returned-new (Block of t a io) notes = absurd (let clash = notes.1 in cc)
  returned-new (Stop of t a) notes = absurd (let clash = notes.1 in cc)
  returned-new y notes = absurd notes

-- what is taken
with-act-cases : (xs : List (List ActNo)) (i j : ℕ) (y z : ActNo) → Contains (get_or (slice_set xs i (get_or xs i [] ++ y ∷ [])) j []) z
    → Contains (get_or xs j []) z ⊎ ((j ≡ i) × (y ≡ z))
with-act-cases (x ∷ xs) zero zero y z has = elim (Contains-push_cases x y z has) [ inl old ↦ inl old | inr new ↦ inr (refl, new) ]
with-act-cases (x ∷ xs) (suc i) (suc j) y z has = elim (with-act-cases xs i j y z has) [ inl old ↦ inl old | inr new ↦ inr (ap suc new.0, new.1) ]
with-act-cases _ _ _ y z has = inl has

filter-has : (a b : ActNo) (acts : List ActNo) → Contains (filter (is_other_act a) acts) b → Contains acts b × (is_other_act a b ≡ true)
filter-has a b acts has = (
  All-contains (Contains acts) (filter (is_other_act a) acts) b (All-filter (is_other_act a) (Contains acts) acts (All-contains_itself acts)) has,
  All-contains (λ (c : ActNo). is_other_act a c ≡ true) (filter (is_other_act a) acts) b (passes acts) has,
)
  where
    here : (c : ActNo) (cs : List ActNo) → All (λ (k : ActNo). is_other_act a k ≡ true) (filter (is_other_act a) cs) → (d : Bool) → is_other_act a c ≡ d
        → All (λ (k : ActNo). is_other_act a k ≡ true) (if d then c ∷ filter (is_other_act a) cs else filter (is_other_act a) cs)
    here c cs rest true is = All-cons (λ (k : ActNo). is_other_act a k ≡ true) c (filter (is_other_act a) cs) is rest
    here c cs rest false is = rest

    passes : (cs : List ActNo) → All (λ (k : ActNo). is_other_act a k ≡ true) (filter (is_other_act a) cs)
    passes [] = All-nil (λ (k : ActNo). is_other_act a k ≡ true)
    passes (c ∷ cs) = here c cs (passes cs) (is_other_act a c) refl

other-number : (a b : ActNo) → is_other_act a b ≡ true → b.0 ≢ a.0
other-number a b is same = grind (arith, nat_tests)

without-act-cases : (xs : List (List ActNo)) (i j : ℕ) (a b : ActNo) → Contains (get_or (slice_set xs i (filter (is_other_act a) (get_or xs i []))) j []) b
    → Contains (get_or xs j []) b × ((j ≡ i) → b.0 ≢ a.0)
without-act-cases [] i j a b has = let h = has in absurd (omega (arith, h.1))
without-act-cases (x ∷ xs) zero zero a b has = let h = filter-has a b x has in (h.0, λ e. other-number a b h.1)
without-act-cases (x ∷ xs) zero (suc j) a b has = (has, λ e. cc)
without-act-cases (x ∷ xs) (suc i) zero a b has = (has, λ e. cc)
without-act-cases (x ∷ xs) (suc i) (suc j) a b has = let h = without-act-cases xs i j a b has in (h.0, λ e. h.1 (omega arith))

taken-space : (s t : SpaceNo) → Taken s ≡ Taken t → s.0 ≡ t.0
taken-space s t e = ap (λ (o : SpaceNo). o.0) (same_Some s t (ap space_in e))

-- a number is told, and taken
takes : (st : ℕ → Standing) (r : Readings) (s u : SpaceNo) (a b : ActNo) (v : Standing) → Agrees st r → space_in (st a.0) ≡ Some u → took (st a.0) ≡ Taken u
    → kind (st a.0) ≢ 5
    → Contains (get_or (with_act r.taken (space_of_life r (Some a)) a) s.0 []) b → put st a.0 (took (st a.0)) b.0 ≡ Taken s
takes st r s u a b v agrees space is apart has =
    let owned : space_of_life r (Some a) ≡ Some u = agrees.lives a ∙ space in
    let has' : Contains (get_or (slice_set r.taken u.0 (get_or r.taken u.0 [] ++ a ∷ [])) s.0 []) b =
    subst (λ o. Contains (get_or (with_act r.taken o a) s.0 []) b) owned has in
    elim (with-act-cases r.taken u.0 s.0 a b has') [
      | inl old ↦ keeps st a.0 b.0 (took (st a.0)) (st a.0) (Taken s) refl (agrees.taken s b old) (λ e. apart (sym e))
      | inr new ↦ put-at st a.0 b.0 (took (st a.0)) (ap (λ (c : ActNo). c.0) (sym new.1)) ∙ is ∙ ap (λ n. Taken (record { 0 = n })) (sym new.0)
    ]

pub taken-step : (p : ProcNo) (st : ℕ → Standing) (r : Readings) (x : Record) (s : SpaceNo) (b : ActNo) → Agrees st r → Stood p st x
    → Contains (get_or (taken_after r x) s.0 []) b → standing_after p st x b.0 ≡ Taken s
taken-step p st r (Told (note.Preempted a)) s b agrees was has =
    takes st r s was.0 a b Nowhere agrees (ap space_in was.1) (ap took was.1) (λ e. let k = ap kind was.1 in omega arith) has
taken-step p st r (Told (note.Unblocked a)) s b agrees was has =
    takes st r s was.0 a b Nowhere agrees (ap space_in was.1) (ap took was.1) (λ e. let k = ap kind was.1 in omega arith) has
taken-step p st r (Told (note.Add q)) s b agrees was has = agrees.taken s b has
taken-step p st r (Told (note.Blocked a)) s b agrees was has = agrees.taken s b has
taken-step p st r (GiveBack a) s b agrees was has =
    let owned : space_of_life r (Some a) ≡ Some was.0 = agrees.lives a ∙ ap space_in was.1 in
    let has' : Contains (get_or (slice_set r.taken was.0.0 (filter (is_other_act a) (get_or r.taken was.0.0 []))) s.0 []) b =
    subst (λ o. Contains (get_or (without_act r.taken o a) s.0 []) b) owned has in
    let left = without-act-cases r.taken was.0.0 s.0 a b has' in
    let is = agrees.taken s b left.0 in
    elim (cases_eq b.0 a.0) [
      | inl same ↦ absurd (left.1 (taken-space s was.0 (sym is ∙ ap st same ∙ was.1)) same)
      | inr apart ↦ put-other st a.0 b.0 Nowhere apart ∙ is
    ]
taken-step p st r x s b agrees was has = stays p st x b.0 (Taken s) was (agrees.taken s b has) (λ e. cc)

-- the spaces of lives
abbrev pub space_of : Option Life → Option SpaceNo
space_of life = option_map (λ (l : Life). l.space) life

map-space : (f : Life → Life) (x : Option Life) → ((l : Life) → (f l).space ≡ l.space) → space_of (option_map f x) ≡ space_of x
map-space f None same = refl
map-space f (Some l) same = ap Some (same l)

pub space-with : (f : Life → Life) (b : Option ActNo) (lives : ℕ → Option Life) (a : ℕ) → ((l : Life) → (f l).space ≡ l.space)
    → space_of (with_life f b lives a) ≡ space_of (lives a)
space-with f None lives a same = refl
space-with f (Some b) lives a same = elim (cases_eq a b.0) [
  | inl at ↦ ap space_of (put-at lives b.0 a (option_map f (lives b.0)) at) ∙ map-space f (lives b.0) same ∙ ap (λ n. space_of (lives n)) (sym at)
  | inr apart ↦ ap space_of (put-other lives b.0 a (option_map f (lives b.0)) apart)
]

pub space-handed : (up : Option ActNo) (b : ActNo) (from : Option Life) (lives : ℕ → Option Life) (a : ℕ)
    → space_of (handed up b from lives a) ≡ space_of (lives a)
space-handed up b None lives a = refl
space-handed up b (Some from) lives a =
    space-with (inherits from) up (with_life bereft (Some b) lives) a (λ l. refl) ∙ space-with bereft (Some b) lives a (λ l. refl)

-- a number that goes to a standing in the same space
same-space-put : (st : ℕ → Standing) (a b : ℕ) (v : Standing) → space_in v ≡ space_in (st a) → space_in (st b) ≡ space_in (put st a v b)
same-space-put st a b v same = elim (cases_eq b a) [
  | inl at ↦ ap (λ n. space_in (st n)) at ∙ sym same ∙ ap space_in (sym (put-at st a b v at))
  | inr apart ↦ ap space_in (sym (put-other st a b v apart))
]

pub took-space : (x : Standing) → space_in (took x) ≡ space_in x
took-space Nowhere = refl
took-space _ = refl

put-put : (lives : ℕ → Option Life) (st : ℕ → Standing) (a b : ℕ) (l : Option Life) (v : Standing) → space_of l ≡ space_in v
    → space_of (lives b) ≡ space_in (st b)
    → space_of (put lives a l b) ≡ space_in (put st a v b)
put-put lives st a b l v new old = elim (cases_eq b a) [
  | inl at ↦ ap space_of (put-at lives a b l at) ∙ new ∙ ap space_in (sym (put-at st a b v at))
  | inr apart ↦ ap space_of (put-other lives a b l apart) ∙ old ∙ ap space_in (sym (put-other st a b v apart))
]

pub lives-step : (w : WorkloadView) (p : ProcNo) (st : ℕ → Standing) (r : Readings) (x : Record) (b : ℕ) → ((c : ℕ) → space_of (r.lives c) ≡ space_in (st c))
    → Stood p st x
    → space_of (lives_after w p r x b) ≡ space_in (standing_after p st x b)
lives-step w p st r (Ins s t i) b lives was = space-with (with_hand (next_effect w r.state s t).roused) (running_of r p) r.lives b (λ l. refl) ∙ lives b
lives-step w p st r (Run s t) b lives was = space-with (with_first (ran t)) (running_of r p) r.lives b (λ l. refl) ∙ lives b
lives-step w p st r (Stop s t a) b lives was =
    space-with (stopped_with t) (Some a) r.lives b (λ l. refl) ∙ lives b ∙ same-space-put st a.0 b (Stopped s) (sym (ap space_in was))
lives-step w p st r (Block s t a io) b lives was =
    space-with (held_with t) (Some a) r.lives b (λ l. refl) ∙ lives b ∙ same-space-put st a.0 b (Blocked s) (sym (ap space_in was))
lives-step w p st r (Unblock s t a) b lives was =
    space-with (with_hand (one_thread t)) (Some a) r.lives b (λ l. refl) ∙ lives b ∙ same-space-put st a.0 b (Returned s) (sym (ap space_in was))
lives-step w p st r (Cont s t) b lives was = space-with (with_cont true) (running_of r p) r.lives b (λ l. refl) ∙ lives b
lives-step w p st r (Back s t) b lives was = space-with (back_with t) (running_of r p) r.lives b (λ l. refl) ∙ lives b
lives-step w p st r (Ready s t) b lives was = space-with (made_ready t) (running_of r p) r.lives b (λ l. refl) ∙ lives b
lives-step w p st r (Take s l t) b lives was = space-with (locks r p l t) (running_of r p) r.lives b (λ m. refl) ∙ lives b
lives-step w p st r (Free s l t) b lives was = space-with without_lock (running_of r p) r.lives b (λ m. refl) ∙ lives b
lives-step w p st r (Up s a) b lives was = put-put r.lives st a.0 b (Some (new_life s p)) (Runs s p) refl (lives b)
lives-step w p st r (Told (note.Preempted a)) b lives was =
    space-handed r.upped a (life_of r a) r.lives b ∙ lives b ∙ same-space-put st a.0 b (took (st a.0)) (took-space (st a.0))
lives-step w p st r (Told (note.Unblocked a)) b lives was =
    space-handed r.upped a (life_of r a) r.lives b ∙ lives b ∙ same-space-put st a.0 b (took (st a.0)) (took-space (st a.0))
lives-step w p st r (GiveBack a) b lives was = put-put r.lives st a.0 b None Nowhere refl (lives b)
lives-step w p st r _ b lives was = lives b

-- each record keeps what is read and where the numbers stand in agreement
pub agrees-step : (w : WorkloadView) (e : ℕ) (p : ProcNo) (st : ℕ → Standing) (r : Readings) (x : Record) → Agrees st r → Stood p st x
    → Agrees (standing_after p st x) (after_record w e p r x)
agrees-step w e p st r x agrees was = record {
  lives = λ a. lives-step w p st r x a.0 (λ c. agrees.lives (record { 0 = c })) was;
  running = λ q a is. running-step p q st r x a agrees was is;
  blocked = λ a is. blocked-step w e p st r x a agrees was is;
  stopped = λ s a has. stopped-step p st r x s a agrees was has;
  returned = λ s a has. returned-step p st r x s a agrees was has;
  taken = λ s a has. taken-step p st r x s a agrees was has;
}
