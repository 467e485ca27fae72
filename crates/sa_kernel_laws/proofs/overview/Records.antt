-- What a record changes of what the kernel knows.
use Rattle.std.proofs.Common.{◌≡◌, ℕ, ◌+◌, inl, inr, refl, sym, ◌∙◌, ap, Some, None, List, [], ◌∷◌, ◌++◌, true, false}
use Rattle.std.specs.Prelude.{Option, Bool, ◌==◌, if◌then◌else◌, get_or, slice_set, option_map, filter, find}
use Rattle.std.specs.List.{list_all}
use Rattle.std.proofs.Math.Path.{fun_ext}
use Rattle.std.proofs.lemmas.Bool.{cases_eq, and_parts}
use Rattle.sa_base.specs.declared.number.SpaceNo.{SpaceNo}
use Rattle.sa_base.specs.declared.number.ProcNo.{ProcNo}
use Rattle.sa_base.specs.declared.number.ThreadNo.{ThreadNo}
use Rattle.sa_base.specs.declared.number.ActNo.{ActNo}
use Rattle.sa_base.specs.declared.number.IoNo.{IoNo}
use Rattle.sa_base.specs.declared.record.Note.{Note}
use Rattle.sa_base.specs.declared.record.Note.TheVariants as note
use Rattle.sa_base.specs.declared.record.Record.{Record}
use Rattle.sa_base.specs.declared.record.Record.TheVariants.{Ins, Out, Run, Stop, Block, Unblock, Cont, Back, Ready, Take, Free, Up, Told, GiveBack, Idle, Spin, Tick}
use Rattle.sa_spaces.specs.Workload.{WorkloadView}
use Rattle.sa_lemmas.specs.Function.{put}
use Rattle.sa_lemmas.proofs.FunctionUpdates.{put-at, put-other}
use Rattle.sa_laws.specs.declared.place.Place.TheVariants as place
use Rattle.sa_laws.specs.Event.{Event}
use Rattle.sa_laws.specs.Machine.{next_effect}
use Rattle.sa_laws.specs.Life.{Life, new_life, with_hand, with_first, ran, with_cont, held_with, without_lock, bereft, inherits}
use Rattle.sa_laws.specs.Readings.{Readings, running_of, life_of}
use Rattle.sa_laws.specs.Record.{after_record, with_life, handed, stopped_with, one_thread, back_with, made_ready, locks, blocking, is_io_of, is_io_of_other, with_page}
use Rattle.sa_laws.specs.History.{Test, after_records, with_step, stepped, arisen, is_step, ended}
use Rattle.sa_laws.proofs.Spaces.{placed-owners}
use Rattle.sa_kernel_laws.specs.Overview.{Overview, overview, space_of}
use Rattle.sa_kernel_laws.specs.Turn.{is_users}

-- functions with another value at one place
pub put-through : {A B : Type 0} (f : A → B) (g : ℕ → A) (i : ℕ) (x : A) → (λ j. f (put g i x j)) ≡ put (λ j. f (g j)) i (f x)
put-through f g i x = fun_ext (λ j. through (j == i) j) where
  through : (b : Bool) (j : ℕ) → f (if b then x else g j) ≡ (if b then f x else f (g j))
  through true j = refl
  through false j = refl

-- the spaces of lives
abbrev pub spaces_at : (ℕ → Option Life) → ℕ → Option SpaceNo
spaces_at lives a = space_of (lives a)

-- a life that is changed keeps its space
same-space : (f : Life → Life) → ((l : Life) → (f l).space ≡ l.space) → (o : Option Life) → space_of (option_map f o) ≡ space_of o
same-space f keeps None = refl
same-space f keeps (Some l) = ap Some (keeps l)

pub spaces-with : (f : Life → Life) (b : Option ActNo) (lives : ℕ → Option Life) → ((l : Life) → (f l).space ≡ l.space)
    → spaces_at (with_life f b lives) ≡ spaces_at lives
spaces-with f None lives keeps = refl
spaces-with f (Some a) lives keeps = fun_ext (λ j. elim (cases_eq j a.0) [
  | inl same ↦ ap space_of (put-at lives a.0 j (option_map f (lives a.0)) same) ∙ same-space f keeps (lives a.0) ∙ ap (λ n. space_of (lives n)) (sym same)
  | inr apart ↦ ap space_of (put-other lives a.0 j (option_map f (lives a.0)) apart)
])

spaces-handed : (upped : Option ActNo) (a : ActNo) (o : Option Life) (lives : ℕ → Option Life)
    → spaces_at (handed upped a o lives) ≡ spaces_at lives
spaces-handed upped a None lives = refl
spaces-handed upped a (Some from) lives =
    spaces-with (inherits from) upped (with_life bereft (Some a) lives) (λ l. refl) ∙ spaces-with bereft (Some a) lives (λ l. refl)

-- the overview with other owners and spaces
abbrev pub seen_with : List (Option SpaceNo) → (ℕ → Option SpaceNo) → Overview → Overview
seen_with owners spaces v = record v { assign = record v.assign { owners = owners }; spaces = spaces }

pub seen-same : (o os : List (Option SpaceNo)) (f g : ℕ → Option SpaceNo) (v : Overview) → o ≡ os → f ≡ g → seen_with o f v ≡ seen_with os g v
seen-same o os f g v e h = λ i. seen_with (e i) (h i) v

-- the records of a user level change nothing
pub users-record : (w : WorkloadView) (e : ℕ) (p : ProcNo) (r : Readings) (x : Record) → is_users x ≡ true → overview (after_record w e p r x) ≡ overview r
users-record w e p r (Ins s t i) is =
    seen-same _ r.state.owners _ _ (overview r) refl (spaces-with (with_hand (next_effect w r.state s t).roused) (running_of r p) r.lives (λ l. refl))
users-record w e p r (Out s t v) is = refl
users-record w e p r (Run s t) is = seen-same _ r.state.owners _ _ (overview r) refl (spaces-with (with_first (ran t)) (running_of r p) r.lives (λ l. refl))
users-record w e p r (Cont s t) is =
    seen-same _ r.state.owners _ _ (overview r) (placed-owners r.state s t (place.Running p))
    (spaces-with (with_cont true) (running_of r p) r.lives (λ l. refl))
users-record w e p r (Back s t) is =
    seen-same _ r.state.owners _ _ (overview r) (placed-owners r.state s t place.Carried) (spaces-with (back_with t) (running_of r p) r.lives (λ l. refl))
users-record w e p r (Ready s t) is = seen-same _ r.state.owners _ _ (overview r) refl (spaces-with (made_ready t) (running_of r p) r.lives (λ l. refl))
users-record w e p r (Take s l t) is = seen-same _ r.state.owners _ _ (overview r) refl (spaces-with (locks r p l t) (running_of r p) r.lives (λ l. refl))
users-record w e p r (Free s l t) is = seen-same _ r.state.owners _ _ (overview r) refl (spaces-with without_lock (running_of r p) r.lives (λ l. refl))
users-record w e p r Idle is = refl
users-record w e p r (Spin l) is = refl
users-record w e p r Tick is = refl
users-record w e p r x is = absurd (cc)

pub users-records : (w : WorkloadView) (e : ℕ) (p : ProcNo) (r : Readings) (xs : List Record) → list_all is_users xs ≡ true
    → overview (after_records w e p r xs) ≡ overview r
users-records w e p r [] is = refl
users-records w e p r (x ∷ xs) is =
    users-records w e p (after_record w e p r x) xs (and_parts (is_users x) (list_all is_users xs) is).1
    ∙ users-record w e p r x (and_parts (is_users x) (list_all is_users xs) is).0

-- the end of an event changes nothing either
spaces-stepped : (test : Test) (w : WorkloadView) (before : Readings) (e : Event) (after : Readings) (xs : List Record) (lives : ℕ → Option Life)
    → spaces_at (with_step test w before e after xs lives) ≡ spaces_at lives
spaces-stepped test w before e after [] lives = refl
spaces-stepped test w before e after (x ∷ xs) lives = one (is_step x) where
  one : (b : Bool) → spaces_at (if b then with_life (stepped test w before e after x) (running_of before e.proc) lives else lives) ≡ spaces_at lives
  one true = spaces-with (stepped test w before e after x) (running_of before e.proc) lives (λ l. refl)
  one false = refl

spaces-risen : (test : Test) (w : WorkloadView) (before : Readings) (e : Event) (after : Readings) (b : Bool) (lives : ℕ → Option Life)
    → spaces_at (if b then with_life (arisen test w before e after) (running_of after e.proc) lives else lives) ≡ spaces_at lives
spaces-risen test w before e after true lives = spaces-with (arisen test w before e after) (running_of after e.proc) lives (λ l. refl)
spaces-risen test w before e after false lives = refl

pub overview-ended : (test : Test) (w : WorkloadView) (before : Readings) (e : Event) (after : Readings)
    → overview (ended test w before e after) ≡ overview after
overview-ended test w before e after =
    seen-same after.state.owners after.state.owners _ _ (overview after) refl
    (spaces-risen test w before e after _ (with_step test w before e after e.records after.lives) ∙ spaces-stepped test w before e after e.records after.lives)

-- the kernel's records
pub up-record : (w : WorkloadView) (e : ℕ) (p : ProcNo) (r : Readings) (s : SpaceNo) (a : ActNo)
    → overview (after_record w e p r (Up s a))
    ≡ (record (overview r) {
      assign = record (overview r).assign { marks = slice_set r.marks p.0 false };
      running = slice_set r.running p.0 (Some a);
      spaces = put (overview r).spaces a.0 (Some s);
    })
up-record w e p r s a =
    seen-same r.state.owners r.state.owners _ _ (overview (after_record w e p r (Up s a))) refl (put-through space_of r.lives a.0 (Some (new_life s p)))

pub stop-record : (w : WorkloadView) (e : ℕ) (p : ProcNo) (r : Readings) (s : SpaceNo) (t : Option ThreadNo) (a : ActNo)
    → overview (after_record w e p r (Stop s t a))
    ≡ (record (overview r) { running = slice_set r.running p.0 None; untold = slice_set r.untold s.0 (get_or r.untold s.0 [] ++ note.Preempted a ∷ []) })
stop-record w e p r s t a =
    seen-same _ r.state.owners _ _ (overview (after_record w e p r (Stop s t a))) (placed-owners r.state s t place.Carried)
    (spaces-with (stopped_with t) (Some a) r.lives (λ l. refl))

pub block-record : (w : WorkloadView) (e : ℕ) (p : ProcNo) (r : Readings) (s : SpaceNo) (t : Option ThreadNo) (a : ActNo) (io : IoNo)
    → overview (after_record w e p r (Block s t a io))
    ≡ (record (overview r) {
      running = slice_set r.running p.0 None;
      untold = slice_set r.untold s.0 (get_or r.untold s.0 [] ++ note.Blocked a ∷ []);
      io_count = r.io_count + 1;
      under_way = r.under_way ++ record { number = r.io_count; ends = e + (blocking w r s t a).length; kind = (blocking w r s t a).kind } ∷ [];
    })
block-record w e p r s t a io =
    seen-same _ r.state.owners _ _ (overview (after_record w e p r (Block s t a io))) (placed-owners r.state s t place.Blocked)
    (spaces-with (held_with t) (Some a) r.lives (λ l. refl))

pub back-record : (w : WorkloadView) (e : ℕ) (p : ProcNo) (r : Readings) (s : SpaceNo) (t : Option ThreadNo) (a : ActNo)
    → overview (after_record w e p r (Unblock s t a))
    ≡ (record (overview r) {
      untold = slice_set r.untold s.0 (get_or r.untold s.0 [] ++ note.Unblocked a ∷ []);
      under_way = filter (is_io_of_other a) r.under_way;
      pages = with_page r.pages (find (is_io_of a) r.under_way);
    })
back-record w e p r s t a =
    seen-same _ r.state.owners _ _ (overview (after_record w e p r (Unblock s t a))) (placed-owners r.state s t place.Carried)
    (spaces-with (with_hand (one_thread t)) (Some a) r.lives (λ l. refl))

pub told-spaces : (w : WorkloadView) (e : ℕ) (p : ProcNo) (r : Readings) (n : Note) → (overview (after_record w e p r (Told n))).spaces ≡ (overview r).spaces
told-spaces w e p r (note.Preempted a) = spaces-handed r.upped a (life_of r a) r.lives
told-spaces w e p r (note.Unblocked a) = spaces-handed r.upped a (life_of r a) r.lives
told-spaces w e p r _ = refl

pub give-record : (w : WorkloadView) (e : ℕ) (p : ProcNo) (r : Readings) (a : ActNo)
    → (overview (after_record w e p r (GiveBack a))).spaces ≡ put (overview r).spaces a.0 None
give-record w e p r a = put-through space_of r.lives a.0 None
