-- Which lives were idle when they were stopped, and which notices wait.
use Rattle.std.proofs.Common.{◌≡◌, ◌≢◌, ℕ, zero, suc, ◌≤◌, inl, inr, refl, sym, ◌∙◌, ap, arith, Some, None, List, [], ◌∷◌, ◌++◌, map, true, false}
use Rattle.std.specs.Prelude.{Option, Bool, ◌⊎◌, if◌then◌else◌, get_or, slice_set, Contains, option_map}
use Rattle.std.specs.List.{list_all}
use Rattle.std.proofs.Math.Path.{fun_ext}
use Rattle.std.proofs.lemmas.Bool.{cases_eq, eq-eqb, and_parts}
use Rattle.std.proofs.lemmas.List.Elements.{Contains-push_cases, Contains-append_right}
use Rattle.sa_base.specs.declared.number.ProcNo.{ProcNo}
use Rattle.sa_base.specs.declared.number.ActNo.{ActNo}
use Rattle.sa_base.specs.declared.record.Note.{Note}
use Rattle.sa_base.specs.declared.record.Note.TheVariants as note
use Rattle.sa_base.specs.declared.record.Record.{Record}
use Rattle.sa_base.specs.declared.record.Record.TheVariants.{Ins, Out, Run, Cont, Back, Ready, Take, Free, Idle, Spin, Tick, Told, GiveBack}
use Rattle.sa_lemmas.proofs.Membership.{contains-nil}
use Rattle.sa_spaces.specs.Workload.{WorkloadView}
use Rattle.sa_lemmas.proofs.FunctionUpdates.{put-at, put-other}
use Rattle.sa_laws.specs.Event.{Event}
use Rattle.sa_laws.specs.Machine.{next_effect}
use Rattle.sa_laws.specs.Life.{Life, with_hand, with_first, ran, with_cont, without_lock, bereft, inherits}
use Rattle.sa_laws.specs.Readings.{Readings, running_of, life_of, was_idle}
use Rattle.sa_laws.specs.Record.{after_record, same_note, with_life, handed, back_with, made_ready, locks}
use Rattle.sa_laws.specs.History.{Test, after_records, with_step, stepped, arisen, is_step, ended}
use Rattle.sa_kernel_laws.specs.Turn.{is_users, AreUsers}
use Rattle.sa_kernel_laws.proofs.overview.Untold.{once_if, copies_in, copies}

-- which lives were idle
abbrev pub idles : (ℕ → Option Life) → ℕ → Bool
idles lives a = was_idle (lives a)

same-idle : (f : Life → Life) → ((l : Life) → (f l).idle ≡ l.idle) → (o : Option Life) → was_idle (option_map f o) ≡ was_idle o
same-idle f keeps None = refl
same-idle f keeps (Some l) = keeps l

pub idles-with : (f : Life → Life) (b : Option ActNo) (lives : ℕ → Option Life) → ((l : Life) → (f l).idle ≡ l.idle) → idles (with_life f b lives) ≡ idles lives
idles-with f None lives keeps = refl
idles-with f (Some a) lives keeps = fun_ext (λ j. elim (cases_eq j a.0) [
  | inl same ↦ ap was_idle (put-at lives a.0 j (option_map f (lives a.0)) same) ∙ same-idle f keeps (lives a.0) ∙ ap (λ n. was_idle (lives n)) (sym same)
  | inr apart ↦ ap was_idle (put-other lives a.0 j (option_map f (lives a.0)) apart)
])

idles-handed : (upped : Option ActNo) (a : ActNo) (o : Option Life) (lives : ℕ → Option Life) → idles (handed upped a o lives) ≡ idles lives
idles-handed upped a None lives = refl
idles-handed upped a (Some from) lives =
    idles-with (inherits from) upped (with_life bereft (Some a) lives) (λ l. refl) ∙ idles-with bereft (Some a) lives (λ l. refl)

told-idles : (w : WorkloadView) (e : ℕ) (p : ProcNo) (r : Readings) (n : Note) → idles (after_record w e p r (Told n)).lives ≡ idles r.lives
told-idles w e p r (note.Preempted a) = idles-handed r.upped a (life_of r a) r.lives
told-idles w e p r (note.Unblocked a) = idles-handed r.upped a (life_of r a) r.lives
told-idles w e p r _ = refl

pub told-all_idles : (w : WorkloadView) (e : ℕ) (p : ProcNo) (r : Readings) (ns : List Note) → idles (after_records w e p r (map Told ns)).lives ≡ idles r.lives
told-all_idles w e p r [] = refl
told-all_idles w e p r (n ∷ ns) = told-all_idles w e p (after_record w e p r (Told n)) ns ∙ told-idles w e p r n

user-idles : (w : WorkloadView) (e : ℕ) (p : ProcNo) (r : Readings) (x : Record) → is_users x ≡ true → idles (after_record w e p r x).lives ≡ idles r.lives
user-idles w e p r (Ins s t i) is = idles-with (with_hand (next_effect w r.state s t).roused) (running_of r p) r.lives (λ l. refl)
user-idles w e p r (Out s t v) is = refl
user-idles w e p r (Run s t) is = idles-with (with_first (ran t)) (running_of r p) r.lives (λ l. refl)
user-idles w e p r (Cont s t) is = idles-with (with_cont true) (running_of r p) r.lives (λ l. refl)
user-idles w e p r (Back s t) is = idles-with (back_with t) (running_of r p) r.lives (λ l. refl)
user-idles w e p r (Ready s t) is = idles-with (made_ready t) (running_of r p) r.lives (λ l. refl)
user-idles w e p r (Take s l t) is = idles-with (locks r p l t) (running_of r p) r.lives (λ l. refl)
user-idles w e p r (Free s l t) is = idles-with without_lock (running_of r p) r.lives (λ l. refl)
user-idles w e p r Idle is = refl
user-idles w e p r (Spin l) is = refl
user-idles w e p r Tick is = refl
user-idles w e p r x is = absurd (cc)

pub users-idles : (w : WorkloadView) (e : ℕ) (p : ProcNo) (r : Readings) (xs : List Record) → AreUsers xs
    → idles (after_records w e p r xs).lives ≡ idles r.lives
users-idles w e p r [] is = refl
users-idles w e p r (x ∷ xs) is =
    users-idles w e p (after_record w e p r x) xs (and_parts (is_users x) (list_all is_users xs) is).1
    ∙ user-idles w e p r x (and_parts (is_users x) (list_all is_users xs) is).0

pub given-idles : (w : WorkloadView) (e : ℕ) (p : ProcNo) (r : Readings) (ids : List ActNo) (b : ℕ) → ((a : ActNo) → Contains ids a → b ≢ a.0)
    → idles (after_records w e p r (map GiveBack ids)).lives b ≡ idles r.lives b
given-idles w e p r [] b apart = refl
given-idles w e p r (a ∷ ids) b apart =
    given-idles w e p (after_record w e p r (GiveBack a)) ids b (λ c has. apart c (Contains-append_right (a ∷ []) ids c has))
    ∙ ap was_idle (put-other r.lives a.0 b None (apart a (0, omega arith, refl)))

-- the end of an event changes nothing
idles-stepped : (test : Test) (w : WorkloadView) (before : Readings) (e : Event) (after : Readings) (xs : List Record) (lives : ℕ → Option Life)
    → idles (with_step test w before e after xs lives) ≡ idles lives
idles-stepped test w before e after [] lives = refl
idles-stepped test w before e after (x ∷ xs) lives = one (is_step x) where
  one : (b : Bool) → idles (if b then with_life (stepped test w before e after x) (running_of before e.proc) lives else lives) ≡ idles lives
  one true = idles-with (stepped test w before e after x) (running_of before e.proc) lives (λ l. refl)
  one false = refl

idles-risen : (test : Test) (w : WorkloadView) (before : Readings) (e : Event) (after : Readings) (b : Bool) (lives : ℕ → Option Life)
    → idles (if b then with_life (arisen test w before e after) (running_of after e.proc) lives else lives) ≡ idles lives
idles-risen test w before e after true lives = idles-with (arisen test w before e after) (running_of after e.proc) lives (λ l. refl)
idles-risen test w before e after false lives = refl

pub idles-ended : (test : Test) (w : WorkloadView) (before : Readings) (e : Event) (after : Readings)
    → idles (ended test w before e after).lives ≡ idles after.lives
idles-ended test w before e after =
    idles-risen test w before e after _ (with_step test w before e after e.records after.lives) ∙ idles-stepped test w before e after e.records after.lives

pub contains-emptied : (us : List (List Note)) (s t : ℕ) (n : Note) → Contains (get_or (slice_set us s []) t []) n → Contains (get_or us t []) n
contains-emptied (u ∷ us) zero zero n has = absurd (contains-nil n has)
contains-emptied (u ∷ us) (suc s) (suc t) n has = contains-emptied us s t n has
contains-emptied _ _ _ n has = has

pub contains-noted : (us : List (List Note)) (s t : ℕ) (m n : Note) → Contains (get_or (slice_set us s (get_or us s [] ++ m ∷ [])) t []) n
    → Contains (get_or us t []) n ⊎ (m ≡ n)
contains-noted (u ∷ us) zero zero m n has = Contains-push_cases u m n has
contains-noted (u ∷ us) (suc s) (suc t) m n has = contains-noted us s t m n has
contains-noted _ _ _ m n has = inl has

some-in : (ns : List Note) (m n : Note) → same_note m n ≡ true → Contains ns m → 1 ≤ copies_in n ns
some-in [] m n same has = absurd (contains-nil m has)
some-in (x ∷ ns) m n same (zero, below, is) = let one : once_if (same_note x n) ≡ 1 = ap (λ y. once_if (same_note y n)) is ∙ ap once_if same in omega arith
some-in (x ∷ ns) m n same (suc i, below, is) = let rest = some-in ns m n same (i, omega arith, is) in omega arith

some-copies : (us : List (List Note)) (t : ℕ) (m n : Note) → same_note m n ≡ true → Contains (get_or us t []) m → 1 ≤ copies n us
some-copies [] t m n same has = absurd (contains-nil m has)
some-copies (u ∷ us) zero m n same has = let one = some-in u m n same has in omega arith
some-copies (u ∷ us) (suc t) m n same has = let one = some-copies us t m n same has in omega arith

pub not-there : (us : List (List Note)) (t : ℕ) (a b : ActNo) → copies (note.Preempted a) us ≡ 0 → Contains (get_or us t []) (note.Preempted b) → b.0 ≢ a.0
not-there us t a b none has same = let some = some-copies us t (note.Preempted b) (note.Preempted a) (eq-eqb b.0 a.0 same) has in omega arith
