-- What the records of an event leave of a space that they do not concern.
use Rattle.std.proofs.Common.{◌≡◌, ◌≢◌, ℕ, zero, suc, ◌≤◌, inl, inr, refl, sym, ◌∙◌, ap, subst, arith, Some, None, List, [], ◌∷◌, ◌++◌, length, true, false}
use Rattle.std.specs.Prelude.{Option, Bool, if◌then◌else◌, Contains, get_or, slice_set, count_by, not, nat_lt}
use Rattle.std.specs.Option.{option_map}
use Rattle.std.proofs.lemmas.Bool.{cases_eq, ne_eqb}
use Rattle.std.proofs.lemmas.List.Sums.{sum_by-cons, sum_by-append}
use Rattle.std.proofs.lemmas.Option.{none-some, same_Some}
use Rattle.sa_lemmas.specs.Function.{put}
use Rattle.sa_lemmas.proofs.FunctionUpdates.{put-at, put-other}
use Rattle.sa_base.specs.declared.number.SpaceNo.{SpaceNo}
use Rattle.sa_base.specs.declared.number.ProcNo.{ProcNo}
use Rattle.sa_base.specs.declared.number.ThreadNo.{ThreadNo}
use Rattle.sa_base.specs.declared.number.ActNo.{ActNo}
use Rattle.sa_base.specs.declared.record.Note.{Note}
use Rattle.sa_base.specs.declared.record.Note.TheVariants as note
use Rattle.sa_base.specs.declared.record.Record.{Record}
use Rattle.sa_base.specs.declared.record.Record.TheVariants.{Ins, Run, Stop, Block, Unblock, Cont, Back, Ready, Take, Free, Up, Told, Want, GiveBack}
use Rattle.sa_instr.specs.declared.instr.Reg.{Reg}
use Rattle.sa_instr.specs.declared.instr.Instr.{Instr}
use Rattle.sa_instr.specs.declared.instr.Instr.TheVariants as instr
use Rattle.sa_spaces.specs.Workload.{WorkloadView}
use Rattle.sa_sync.specs.declared.answer.SyncAnswer.{SyncAnswer}
use Rattle.sa_sync.specs.declared.answer.SyncAnswer.TheVariants as answer
use Rattle.sa_sync.specs.Calls.{Change}
use Rattle.sa_laws.specs.declared.place.Place.{Place}
use Rattle.sa_laws.specs.declared.place.Place.TheVariants as place
use Rattle.sa_laws.specs.State.{State, SpaceState, Thread, space_at, with_space, with_thread, thread_in, put_thread, placed_if, is_active, active_threads, next_instr, at_start, no_threads}
use Rattle.sa_laws.specs.Effect.{Effect, effect_of, answered, sync_effect}
use Rattle.sa_laws.specs.Machine.{changed, next_effect}
use Rattle.sa_laws.specs.Life.{Life, with_hand, with_first, with_cont, without_lock, ran, held_with, inherits, bereft, new_life}
use Rattle.sa_laws.specs.Readings.{Readings, running_of, life_of, demand_of, untold_of, space_of_life}
use Rattle.sa_laws.specs.Record.{with_life, handed, lives_after, demands_after, untold_after, after_record, without_note, is_other_note, stopped_with, back_with, made_ready, locks, one_thread}
use Rattle.sa_laws.specs.History.{after_records}
use Rattle.sa_laws.specs.Step.{Needs, AreSteps}
use Rattle.sa_laws.specs.Upcalls.{RecordLaw, EachRecord, TellsAllThen}
use Rattle.sa_laws.proofs.Numbers.{space-by_number}
use Rattle.sa_promises.proofs.lives.Standing.{Standing, space_of}
use Rattle.sa_promises.specs.Needs.{is_telling}
use Rattle.sa_promises.proofs.lives.Shapes.{Moves}
use Rattle.sa_promises.proofs.lives.Moves.{stood}
use Rattle.sa_promises.proofs.covers.Apart.{IsApart, apart-step, one-space, is_real, told-space, upped-space}
use Rattle.sa_promises.proofs.words.Reads.{with-keeps}

-- of a space: no more threads are ready or run, no less is wanted, its lives are as much in, and what is untold stays so
pub record Kept (s : SpaceNo) (r c : Readings) : Type 0 where
  pub active : active_threads (space_at c.state s) ≤ active_threads (space_at r.state s)
  pub demand : demand_of r s ≤ demand_of c s
  pub lives : (a : ℕ) (life : Life) → r.lives a ≡ Some life → life.space ≡ s
      → (new : Life) × (c.lives a ≡ Some new) × (new.space ≡ s) × (new.inside ≡ life.inside)
  pub noted : (n : Note) → is_real n ≡ true → Contains (untold_of r s) n → Contains (untold_of c s) n

pub kept-self : (s : SpaceNo) (r : Readings) → Kept s r r
kept-self s r = record {
  active = omega arith;
  demand = omega arith;
  lives = λ a life is of. (life, is, of, refl);
  noted = λ n real has. has;
}

pub kept-more : (s : SpaceNo) (r m c : Readings) → Kept s r m → Kept s m c → Kept s r c
kept-more s r m c one two = record {
  active = (let x = one.active in let y = two.active in omega arith);
  demand = (let x = one.demand in let y = two.demand in omega arith);
  lives = λ a life is of.
      let l = one.lives a life is of in
      let k = two.lives a l.0 l.1 l.2 in (k.0, k.1, k.2, k.3 ∙ l.3);
  noted = λ n real has. two.noted n real (one.noted n real has);
}

-- a record does not concern a space
abbrev pub Passing : SpaceNo → RecordLaw
Passing s r (Up u a) rest = u ≢ s
Passing s r (Run u t) rest = u ≢ s
Passing s r (Ready u t) rest = u ≢ s
Passing s r (Cont u t) rest = u ≢ s
Passing s r (GiveBack a) rest = space_of_life r (Some a) ≢ Some s
Passing s r _ rest = Unit {0}

-- nor lowers its demand
abbrev pub Passes : SpaceNo → RecordLaw
Passes s r (Want u n) rest = u.0 ≡ s.0 → demand_of r s ≤ n
Passes s r x rest = Passing s r x rest

pub passing : (s : SpaceNo) (r : Readings) (x : Record) (rest : List Record) → Passes s r x rest → Passing s r x rest
passing s r (Want u n) rest passes = tt
passing s r x rest passes = passes

pub passing-each : (w : WorkloadView) (e : ℕ) (p : ProcNo) (s : SpaceNo) (r : Readings) (xs : List Record) → EachRecord (Passes s) w e p r xs
    → EachRecord (Passing s) w e p r xs
passing-each w e p s r [] passes = tt
passing-each w e p s r (x ∷ xs) passes = (passing s r x xs passes.0, passing-each w e p s (after_record w e p r x) xs passes.1)

pub passing-more : (s : SpaceNo) (r : Readings) (x : Record) (rest more : List Record) → Passing s r x rest → Passing s r x (rest ++ more)
passing-more s r (Up u a) rest more is = is
passing-more s r _ rest more is = is

-- a record that does not concern a space passes it, if it lowers no demand of it
pub passes-so : (s : SpaceNo) (r : Readings) (x : Record) (rest : List Record) → Passing s r x rest
    → ((u : SpaceNo) (n : ℕ) → x ≡ Want u n → u.0 ≡ s.0 → demand_of r s ≤ n) → Passes s r x rest
passes-so s r (Want u n) rest passes wants = wants u n refl
passes-so s r x rest passes wants = passes

-- threads that are ready or run
abbrev counted : List Thread → ℕ
counted ts = count_by (λ (thread : Thread). is_active thread.place) ts

abbrev one_if : Thread → ℕ
one_if thread = if is_active thread.place then 1 else 0

one-less : (a b : Bool) → (a ≡ true → b ≡ true) → (if a then 1 else 0) ≤ (if b then 1 else 0)
one-less true true is = omega arith
one-less true false is = absurd (let h = is refl in cc)
one-less false b is = omega arith

count-set : (ts : List Thread) (i : ℕ) (thread : Thread) → (is_active thread.place ≡ true → is_active (get_or ts i (at_start 0 place.Done)).place ≡ true)
    → counted (slice_set ts i thread) ≤ counted ts
count-set [] i thread is = omega arith
count-set (t ∷ ts) zero thread is =
    let new = sum_by-cons one_if thread ts in
    let old = sum_by-cons one_if t ts in
    let less = one-less (is_active thread.place) (is_active t.place) is in
    omega (arith, new, old, less)
count-set (t ∷ ts) (suc i) thread is =
    let new = sum_by-cons one_if t (slice_set ts i thread) in
    let old = sum_by-cons one_if t ts in
    let less = count-set ts i thread is in
    omega (arith, new, old, less)

count-push : (ts : List Thread) (thread : Thread) → is_active thread.place ≡ false → counted (ts ++ thread ∷ []) ≤ counted ts
count-push ts thread is =
    let both = sum_by-append one_if ts (thread ∷ []) in
    let one = sum_by-cons one_if thread [] in
    let none : one_if thread ≡ 0 = ap (λ b. if b then 1 else 0) is in
    omega (arith, both, one, none)

-- of the spaces, one is changed; one that is not there has no threads
pub spaces-set : (Holds : SpaceState → SpaceState → Type 0) → ((x : SpaceState) → Holds x x) → (xs : List SpaceState) (i j : ℕ) (x : SpaceState)
    → (i ≡ j → Holds (get_or xs j no_threads) x) → Holds (get_or xs j no_threads) (get_or (slice_set xs i x) j no_threads)
spaces-set Holds self [] i j x one = self no_threads
spaces-set Holds self (y ∷ xs) zero zero x one = one refl
spaces-set Holds self (y ∷ xs) zero (suc j) x one = self (get_or xs j no_threads)
spaces-set Holds self (y ∷ xs) (suc i) zero x one = self y
spaces-set Holds self (y ∷ xs) (suc i) (suc j) x one = spaces-set Holds self xs i j x (λ e. one (ap suc e))

abbrev HasMore : SpaceState → SpaceState → Type 0
HasMore old new = active_threads new ≤ active_threads old

active-space : (a : State) (s u : SpaceNo) (x : SpaceState) → (u ≡ s → active_threads x ≤ active_threads (space_at a s))
    → active_threads (space_at (with_space a u x) s) ≤ active_threads (space_at a s)
active-space a s u x less = spaces-set HasMore (λ y. omega arith) a.spaces u.0 s.0 x (λ e. less (space-by_number u s e))

active-placed : (a : State) (s u : SpaceNo) (t : Option ThreadNo) (where_ : Place) → is_active where_ ≡ false
    → active_threads (space_at (placed_if a u t where_) s) ≤ active_threads (space_at a s)
active-placed a s u None where_ idle = omega arith
active-placed a s u (Some t) where_ idle = active-space a s u (put_thread where_ (space_at a u) t)
    (λ same. subst (λ (k : SpaceNo). active_threads (put_thread where_ (space_at a u) t) ≤ active_threads (space_at a k)) same
    (count-set (space_at a u).threads t.0 (record (thread_in (space_at a u) t) { place = where_ }) (λ active. absurd (let h = sym idle ∙ active in cc))))

-- an instruction of a running thread
ins-answered : (x : SpaceState) (t : ThreadNo) (thread : Thread) (change : Change) → is_active (thread_in x t).place ≡ true
    → active_threads (sync_effect x t thread change).space ≤ active_threads x
ins-answered x t thread change runs = one change.answer where
  one : (a : SyncAnswer) → active_threads (answered (Rattle.sa_laws.specs.Effect.with_sync x change.state) t thread a).space ≤ active_threads x
  one answer.Goes = count-set x.threads t.0 thread (λ active. runs)
  one answer.Waits = count-set x.threads t.0 (record thread { place = place.Waiting }) (λ active. runs)
  one (answer.Wakes u) = count-set x.threads t.0 thread (λ active. runs)

ins-forked : (x : SpaceState) (t : ThreadNo) (thread : Thread) (reg : Reg) (k : ℕ) → is_active (thread_in x t).place ≡ true
    → active_threads (Rattle.sa_laws.specs.Effect.fork_effect x t thread reg k).space ≤ active_threads x
ins-forked x t thread reg k runs = one (nat_lt (length x.threads) Rattle.sa_base.specs.declared.limits.TheConstants.MAX_THREADS) where
  one : (b : Bool) → active_threads (if b
      then Rattle.sa_laws.specs.Effect.effect (record (with_thread x t (Rattle.sa_laws.specs.Effect.next_with thread reg (length x.threads))) {
        threads = slice_set x.threads t.0 (Rattle.sa_laws.specs.Effect.next_with thread reg (length x.threads)) ++ at_start k place.Waiting ∷ [];
      }) (record { 0 = length x.threads } ∷ [])
      else Rattle.sa_laws.specs.Effect.effect
      (with_thread x t (Rattle.sa_laws.specs.Effect.next_with thread reg
      (Rattle.std.specs.Prelude.◌-◌ (Rattle.std.specs.Prelude.◌^◌ 2 64) 1))) []).space ≤ active_threads x
  one true =
      let push = count-push (slice_set x.threads t.0 (Rattle.sa_laws.specs.Effect.next_with thread reg (length x.threads))) (at_start k place.Waiting) refl in
      let set = count-set x.threads t.0 (Rattle.sa_laws.specs.Effect.next_with thread reg (length x.threads)) (λ active. runs) in
      omega (arith, push, set)
  one false = count-set x.threads t.0 _ (λ active. runs)

active-ins : (x : SpaceState) (t : ThreadNo) (i : Instr) → is_active (thread_in x t).place ≡ true
    → active_threads (effect_of x t (thread_in x t) i).space ≤ active_threads x
active-ins x t (instr.Fork reg k) runs = ins-forked x t (thread_in x t) reg k runs
active-ins x t (instr.Join reg) runs = ins-answered x t _ _ runs
active-ins x t (instr.Lock m) runs = ins-answered x t _ _ runs
active-ins x t (instr.Unlock m) runs = ins-answered x t _ _ runs
active-ins x t (instr.Wait m) runs = ins-answered x t _ _ runs
active-ins x t (instr.Signal m) runs = ins-answered x t _ _ runs
active-ins x t _ runs = count-set x.threads t.0 _ (λ active. runs)

active-step : (w : WorkloadView) (p : ProcNo) (r : Readings) (s : SpaceNo) (x : Record) (xs : List Record) → Needs w p r x → Passes s r x xs
    → active_threads (space_at (changed w p r.state x) s) ≤ active_threads (space_at r.state s)
active-step w p r s (Ins u t i) xs needs passes = active-space r.state s u (next_effect w r.state u t).space
    (λ same. subst (λ (k : SpaceNo). active_threads (next_effect w r.state u t).space ≤ active_threads (space_at r.state k)) same
    (active-ins (space_at r.state u) t (next_instr w r.state u t) (ap is_active needs.runs)))
active-step w p r s (Stop u t a) xs needs passes = active-placed r.state s u t place.Carried refl
active-step w p r s (Block u t a io) xs needs passes = active-placed r.state s u t place.Blocked refl
active-step w p r s (Unblock u t a) xs needs passes = active-placed r.state s u t place.Carried refl
active-step w p r s (Back u t) xs needs passes = active-placed r.state s u t place.Carried refl
active-step w p r s (Cont u t) xs needs passes = one t where
  one : (o : Option ThreadNo) → active_threads (space_at (placed_if r.state u o (place.Running p)) s) ≤ active_threads (space_at r.state s)
  one None = omega arith
  one (Some k) = active-space r.state s u _ (λ same. absurd (passes same))
active-step w p r s (Run u t) xs needs passes = active-space r.state s u _ (λ same. absurd (passes same))
active-step w p r s (Ready u t) xs needs passes = active-space r.state s u _ (λ same. absurd (passes same))
active-step w p r s x xs needs passes = omega arith

-- demands
demand-set : (ds : List ℕ) (i j n : ℕ) → (i ≡ j → get_or ds j 0 ≤ n) → get_or ds j 0 ≤ get_or (slice_set ds i n) j 0
demand-set (d ∷ ds) zero zero n less = less refl
demand-set (d ∷ ds) (suc i) (suc j) n less = demand-set ds i j n (λ e. less (ap suc e))
demand-set _ _ _ n less = omega arith

demand-step : (r : Readings) (s : SpaceNo) (x : Record) (xs : List Record) → Passes s r x xs → get_or r.demands s.0 0 ≤ get_or (demands_after r.demands x) s.0 0
demand-step r s (Want u n) xs passes = demand-set r.demands u.0 s.0 n passes
demand-step r s x xs passes = omega arith

-- lives of a space, as much in
abbrev pub StillIn : SpaceNo → (ℕ → Option Life) → (ℕ → Option Life) → Type 0
StillIn s old new = (a : ℕ) (life : Life) → old a ≡ Some life → life.space ≡ s → (l : Life) × (new a ≡ Some l) × (l.space ≡ s) × (l.inside ≡ life.inside)

pub still-self : (s : SpaceNo) (lives : ℕ → Option Life) → StillIn s lives lives
still-self s lives a life is of = (life, is, of, refl)

-- one is changed, of another space, or not in what counts
pub still-with : (s : SpaceNo) (f : Life → Life) (n : Option ActNo) (lives : ℕ → Option Life)
    → ((b : ActNo) (l : Life) → n ≡ Some b → lives b.0 ≡ Some l → l.space ≡ s → ((f l).space ≡ s) × ((f l).inside ≡ l.inside))
    → StillIn s lives (with_life f n lives)
still-with s f None lives same a life is of = (life, is, of, refl)
still-with s f (Some b) lives same a life is of = elim (cases_eq a b.0) [
  | inl at ↦
      let here : lives b.0 ≡ Some life = ap lives (sym at) ∙ is in
      let h = same b life refl here of in
      (f life, put-at lives b.0 a (option_map f (lives b.0)) at ∙ ap (option_map f) here, h.0, h.1)
  | inr apart ↦ (life, put-other lives b.0 a (option_map f (lives b.0)) apart ∙ is, of, refl)
]

pub still-same : (s : SpaceNo) (f : Life → Life) (n : Option ActNo) (lives : ℕ → Option Life) → ((l : Life) → (f l).space ≡ l.space)
    → ((l : Life) → (f l).inside ≡ l.inside)
    → StillIn s lives (with_life f n lives)
still-same s f n lives space inside = still-with s f n lives (λ b l at is of. (space l ∙ of, inside l))

pub still-more : (s : SpaceNo) (a b c : ℕ → Option Life) → StillIn s a b → StillIn s b c → StillIn s a c
still-more s a b c one two n life is of = let l = one n life is of in let k = two n l.0 l.1 l.2 in (k.0, k.1, k.2, k.3 ∙ l.3)

pub still-handed : (s : SpaceNo) (up : Option ActNo) (b : ActNo) (from : Option Life) (lives : ℕ → Option Life)
    → ((l : Life) → lives b.0 ≡ Some l → l.space ≡ s → ⊥) → StillIn s lives (handed up b from lives)
still-handed s up b None lives other = still-self s lives
still-handed s up b (Some from) lives other =
    still-more s lives (with_life bereft (Some b) lives) (with_life (inherits from) up (with_life bereft (Some b) lives))
    (still-with s bereft (Some b) lives (λ c l at is of. absurd (other l (ap (λ (k : ActNo). lives k.0) (same_Some b c at) ∙ is) of)))
    (still-same s (inherits from) up (with_life bereft (Some b) lives) (λ l. refl) (λ l. refl))

pub still-put : (s : SpaceNo) (a : ℕ) (o : Option Life) (lives : ℕ → Option Life) → ((l : Life) → lives a ≡ Some l → l.space ≡ s → ⊥)
    → StillIn s lives (put lives a o)
still-put s a o lives other b life is of = elim (cases_eq b a) [
  | inl at ↦ absurd (other life (ap lives (sym at) ∙ is) of)
  | inr apart ↦ (life, put-other lives a b o apart ∙ is, of, refl)
]

pub lives-kept : (w : WorkloadView) (p : ProcNo) (st : ℕ → Standing) (r : Readings) (s : SpaceNo) (x : Record) (xs : List Record) → IsApart st r (x ∷ xs)
    → Moves w p r x xs → Passing s r x xs
    → (is_telling r.last ≡ true → space_of_life r r.upped ≢ Some s) → StillIn s r.lives (lives_after w p r x)
lives-kept w p st r s (Ins u t i) xs apart law passes quiet =
    still-same s (with_hand (next_effect w r.state u t).roused) (running_of r p) r.lives (λ l. refl) (λ l. refl)
lives-kept w p st r s (Run u t) xs apart law passes quiet = still-same s (with_first (ran t)) (running_of r p) r.lives (λ l. refl) (λ l. refl)
lives-kept w p st r s (Stop u t a) xs apart law passes quiet = still-same s (stopped_with t) (Some a) r.lives (λ l. refl) (λ l. refl)
lives-kept w p st r s (Block u t a io) xs apart law passes quiet = still-same s (held_with t) (Some a) r.lives (λ l. refl) (λ l. refl)
lives-kept w p st r s (Unblock u t a) xs apart law passes quiet = still-same s (with_hand (one_thread t)) (Some a) r.lives (λ l. refl) (λ l. refl)
lives-kept w p st r s (Cont u t) xs apart law passes quiet = still-same s (with_cont true) (running_of r p) r.lives (λ l. refl) (λ l. refl)
lives-kept w p st r s (Back u t) xs apart law passes quiet = still-same s (back_with t) (running_of r p) r.lives (λ l. refl) (λ l. refl)
lives-kept w p st r s (Ready u t) xs apart law passes quiet = still-same s (made_ready t) (running_of r p) r.lives (λ l. refl) (λ l. refl)
lives-kept w p st r s (Take u l t) xs apart law passes quiet = still-same s (locks r p l t) (running_of r p) r.lives (λ k. refl) (λ k. refl)
lives-kept w p st r s (Free u l t) xs apart law passes quiet = still-same s without_lock (running_of r p) r.lives (λ k. refl) (λ k. refl)
lives-kept w p st r s (Up u a) xs apart law passes quiet = still-put s a.0 (Some (new_life u p)) r.lives (λ l is of. none-some l (sym law.1 ∙ is))
lives-kept w p st r s (Told (note.Preempted a)) xs apart law passes quiet =
    let up = told-space st r (note.Preempted a) a apart.agrees (inl refl) law.0 in
    still-handed s r.upped a (life_of r a) r.lives (λ l is of. quiet law.1 (up.1 ∙ sym up.2 ∙ sym (apart.agrees.lives a) ∙ ap space_of is ∙ ap Some of))
lives-kept w p st r s (Told (note.Unblocked a)) xs apart law passes quiet =
    let up = told-space st r (note.Unblocked a) a apart.agrees (inr refl) law.0 in
    still-handed s r.upped a (life_of r a) r.lives (λ l is of. quiet law.1 (up.1 ∙ sym up.2 ∙ sym (apart.agrees.lives a) ∙ ap space_of is ∙ ap Some of))
lives-kept w p st r s (GiveBack a) xs apart law passes quiet = still-put s a.0 None r.lives (λ l is of. passes (ap space_of is ∙ ap Some of))
lives-kept w p st r s _ xs apart law passes quiet = still-self s r.lives

pub without-has : (n z : Note) (xs : List (List Note)) (j : ℕ) → is_other_note n z ≡ true → Contains (get_or xs j []) z
    → Contains (get_or (without_note xs n) j []) z
without-has n z [] j other has = has
without-has n z (x ∷ xs) zero other has = Rattle.sa_promises.proofs.read.Raised.filter-keeps (is_other_note n) x z other has
without-has n z (x ∷ xs) (suc j) other has = without-has n z xs j other has

pub note-other : (n z : Note) → n ≢ z → is_other_note n z ≡ true
note-other (note.Add p) (note.Add q) apart =
    ap not (ne_eqb q.0 p.0 (λ e. apart (ap (λ k. note.Add (record { 0 = k })) (sym e))))
note-other (note.Preempted a) (note.Preempted b) apart =
    ap not (ne_eqb b.0 a.0 (λ e. apart (ap (λ k. note.Preempted (record { 0 = k })) (sym e))))
note-other (note.Blocked a) (note.Blocked b) apart =
    ap not (ne_eqb b.0 a.0 (λ e. apart (ap (λ k. note.Blocked (record { 0 = k })) (sym e))))
note-other (note.Unblocked a) (note.Unblocked b) apart =
    ap not (ne_eqb b.0 a.0 (λ e. apart (ap (λ k. note.Unblocked (record { 0 = k })) (sym e))))
note-other n z apart = refl

-- what is told to one space is not untold to another
told-other : (w : WorkloadView) (p : ProcNo) (st : ℕ → Standing) (r : Readings) (s : SpaceNo) (n z : Note) (xs : List Record) → IsApart st r (Told n ∷ xs)
    → Moves w p r (Told n) xs
    → space_of_life r r.upped ≢ Some s → is_real z ≡ true → Contains (untold_of r s) z → n ≢ z
told-other w p st r s n z xs apart law quiet real has same =
    one (space_of_life r r.upped) refl (subst (Rattle.sa_laws.specs.Upcalls.IsUntoldTo r (space_of_life r r.upped)) same law.0) where
      up : (u : SpaceNo) → space_of_life r r.upped ≡ Some u → Contains (untold_of r u) z → ⊥
      up u is there = quiet (is ∙ ap Some (one-space st r (Told n ∷ xs) z u s apart real there has))

      one : (o : Option SpaceNo) → space_of_life r r.upped ≡ o → Rattle.sa_laws.specs.Upcalls.IsUntoldTo r (space_of_life r r.upped) z → ⊥
      one o is untold = two z o is real (subst (λ k. Rattle.sa_laws.specs.Upcalls.IsUntoldTo r k z) is untold) (λ u at there. up u at there) where
        two : (m : Note) (k : Option SpaceNo) → space_of_life r r.upped ≡ k → is_real m ≡ true → Rattle.sa_laws.specs.Upcalls.IsUntoldTo r k m
            → ((u : SpaceNo) → space_of_life r r.upped ≡ Some u → Contains (untold_of r u) m → ⊥) → ⊥
        two (note.Add q) k at real' there up' = absurd (cc)
        two (note.Preempted a) (Some u) at real' there up' = up' u at there
        two (note.Blocked a) (Some u) at real' there up' = up' u at there
        two (note.Unblocked a) (Some u) at real' there up' = up' u at there
        two (note.Preempted a) None at real' there up' = there
        two (note.Blocked a) None at real' there up' = there
        two (note.Unblocked a) None at real' there up' = there

pub noted-step : (w : WorkloadView) (p : ProcNo) (st : ℕ → Standing) (r : Readings) (s : SpaceNo) (x : Record) (xs : List Record) (n : Note)
    → IsApart st r (x ∷ xs)
    → Moves w p r x xs
    → (is_telling r.last ≡ true → space_of_life r r.upped ≢ Some s) → is_real n ≡ true → Contains (untold_of r s) n
    → Contains (get_or (untold_after r x) s.0 []) n
noted-step w p st r s (Stop u t a) xs n apart law quiet real has = with-keeps r.untold u.0 s.0 (note.Preempted a) n has
noted-step w p st r s (Block u t a io) xs n apart law quiet real has = with-keeps r.untold u.0 s.0 (note.Blocked a) n has
noted-step w p st r s (Unblock u t a) xs n apart law quiet real has = with-keeps r.untold u.0 s.0 (note.Unblocked a) n has
noted-step w p st r s (Told m) xs n apart law quiet real has =
    without-has m n r.untold s.0 (note-other m n (told-other w p st r s m n xs apart law (quiet law.1) real has)) has
noted-step w p st r s x xs n apart law quiet real has = has

-- Nothing is told to the space by the records that follow.
pub quiet-step : (w : WorkloadView) (e : ℕ) (p : ProcNo) (r : Readings) (s : SpaceNo) (x : Record) (xs : List Record) → Moves w p r x xs → Passing s r x xs
    → (is_telling r.last ≡ true → space_of_life r r.upped ≢ Some s) → is_telling (Some x) ≡ true
    → space_of_life (after_record w e p r x) (after_record w e p r x).upped ≢ Some s
quiet-step w e p r s (Up u a) xs law passes quiet telling is =
    passes (same_Some u s (sym (ap space_of (put-at r.lives a.0 a.0 (Some (new_life u p)) refl)) ∙ is))
quiet-step w e p r s (Told n) xs law passes quiet telling is = quiet law.1 (sym (upped-space w e p r n) ∙ is)
quiet-step w e p r s x xs law passes quiet telling is = absurd (cc)

-- what is known along the records of an event
pub record Goes (w : WorkloadView) (e : ℕ) (p : ProcNo) (r : Readings) (xs : List Record) : Type 0 where
  pub moves : EachRecord (Moves w p) w e p r xs
  pub tells : EachRecord (TellsAllThen p) w e p r xs
  pub steps : AreSteps w e p r xs

-- what is untold to a space stays so, where the records do not concern it
pub noted-all : (w : WorkloadView) (e : ℕ) (p : ProcNo) (st : ℕ → Standing) (r : Readings) (s : SpaceNo) (xs : List Record) (n : Note) → IsApart st r xs
    → Goes w e p r xs → EachRecord (Passing s) w e p r xs
    → (is_telling r.last ≡ true → space_of_life r r.upped ≢ Some s) → is_real n ≡ true → Contains (untold_of r s) n
    → Contains (untold_of (after_records w e p r xs) s) n
noted-all w e p st r s [] n apart goes passes quiet real has = has
noted-all w e p st r s (x ∷ xs) n apart goes passes quiet real has =
    let law = goes.moves.0 in
    let was = stood w p st r x xs apart.agrees law in
    noted-all w e p (Rattle.sa_promises.proofs.lives.Standing.standing_after p st x) (after_record w e p r x) s xs n
    (apart-step w e p st r x xs apart was law goes.tells.0) (record { moves = goes.moves.1; tells = goes.tells.1; steps = goes.steps.1 }) passes.1
    (λ telling. quiet-step w e p r s x xs law passes.0 quiet telling) real (noted-step w p st r s x xs n apart law quiet real has)

pub record Arrives (s : SpaceNo) (r c : Readings) : Type 0 where
  pub st : ℕ → Standing
  pub apart : IsApart st c []
  pub kept : Kept s r c

pub kept-all : (w : WorkloadView) (e : ℕ) (p : ProcNo) (st : ℕ → Standing) (r : Readings) (s : SpaceNo) (xs : List Record) → IsApart st r xs → Goes w e p r xs
    → EachRecord (Passes s) w e p r xs
    → (is_telling r.last ≡ true → space_of_life r r.upped ≢ Some s) → Arrives s r (after_records w e p r xs)
kept-all w e p st r s [] apart goes passes quiet = record { st = st; apart = apart; kept = kept-self s r }
kept-all w e p st r s (x ∷ xs) apart goes passes quiet =
    let law = goes.moves.0 in
    let was = stood w p st r x xs apart.agrees law in
    let after = after_record w e p r x in
    let more = kept-all w e p (Rattle.sa_promises.proofs.lives.Standing.standing_after p st x) after s xs (apart-step w e p st r x xs apart was law goes.tells.0)
    (record { moves = goes.moves.1; tells = goes.tells.1; steps = goes.steps.1 }) passes.1
    (λ telling. quiet-step w e p r s x xs law (passing s r x xs passes.0) quiet telling) in
    record {
      st = more.st;
      apart = more.apart;
      kept = kept-more s r after _ (record {
        active = active-step w p r s x xs goes.steps.0 passes.0;
        demand = demand-step r s x xs passes.0;
        lives = lives-kept w p st r s x xs apart law (passing s r x xs passes.0) quiet;
        noted = λ n real has. noted-step w p st r s x xs n apart law quiet real has;
      }) more.kept;
    }
