-- In a legal run of a user level whose holders are known no record makes a thread ready that holds a list lock.
use Rattle.std.proofs.Common.{◌≡◌, ◌≢◌, ℕ, zero, suc, ◌+◌, ◌≤◌, ◌⊎◌, inl, inr, refl, sym, ◌∙◌, ap, subst, arith, Some, None, List, [], ◌∷◌, ◌++◌, length, map, drop, take, true, false, length-append}
use Rattle.std.specs.Prelude.{Option, Bool, if◌then◌else◌, slice_get, Contains}
use Rattle.std.specs.List.{list_any}
use Rattle.std.specs.Option.{option_map}
use Rattle.std.proofs.lemmas.Bool.{cases_eq}
use Rattle.std.proofs.lemmas.List.Elements.{Contains-push, Contains-push_cases, Contains-append_left, Contains-append_right, Contains-append_cases}
use Rattle.std.proofs.lemmas.Option.{none-some, same_Some, slice_get_within}
use Rattle.sa_lemmas.specs.Function.{put}
use Rattle.sa_lemmas.proofs.FunctionUpdates.{put-at, put-other}
use Rattle.sa_lemmas.proofs.ListUpdates.{slice_get-append_left, slice_get-append_seam, slice_get-push_cases}
use Rattle.sa_base.specs.declared.number.SpaceNo.{SpaceNo}
use Rattle.sa_base.specs.declared.number.ProcNo.{ProcNo}
use Rattle.sa_base.specs.declared.number.ThreadNo.{ThreadNo}
use Rattle.sa_base.specs.declared.number.ActNo.{ActNo}
use Rattle.sa_base.specs.declared.record.Note.{Note}
use Rattle.sa_base.specs.declared.record.Note.TheVariants as note
use Rattle.sa_base.specs.declared.record.Record.{Record}
use Rattle.sa_base.specs.declared.record.Record.TheVariants.{Ins, Run, Stop, Block, Unblock, Cont, Back, Ready, Take, Free, Up, Told, GiveBack}
use Rattle.sa_base.specs.declared.record.Item.{Item}
use Rattle.sa_spaces.specs.Workload.{WorkloadView}
use Rattle.sa_lemmas.proofs.Membership.{contains-single, contains-nil}
use Rattle.sa_laws.specs.Event.{Event}
use Rattle.sa_laws.specs.Machine.{next_effect}
use Rattle.sa_laws.specs.Life.{Life, Lock, with_hand, without_lock, with_first, with_cont, change_first, first_lock, ran, readied, held_with, inherits, inherited, bereft, new_life}
use Rattle.sa_laws.specs.Readings.{Readings, opening_readings, life_of, life_if, life_on, running_of, space_of_life, untold_of}
use Rattle.sa_laws.specs.Record.{with_life, handed, lives_after, after_record, stopped_with, back_with, made_ready, one_thread, locks, lock_for}
use Rattle.sa_laws.specs.History.{Test, event_begun, is_step, is_up, with_step, ended, stepped, arisen}
use Rattle.sa_laws.specs.Locks.{HoldsLock, WithFirst}
use Rattle.sa_laws.specs.Upcalls.{RecordLaw, EachRecord, IsUntoldTo}
use Rattle.sa_laws.specs.Rules.{UserRules, IsLawful}
use Rattle.sa_laws.specs.Legal.{IsLegal}
use Rattle.sa_promises.specs.Headline.{Begins, Frees, HoldsListLock, NoHolderIsReady}
use Rattle.sa_promises.specs.Needs.{is_telling, TakesFor, RunsFirst, FreesFirst, HoldersKnown, KnowsHolders}
use Rattle.sa_histories.proofs.Walk.{IsKept, item, each-both}
use Rattle.sa_histories.proofs.Traces.{good-at}
use Rattle.sa_promises.proofs.words.Once.{get-take, length-take_within}
use Rattle.sa_promises.proofs.lives.Standing.{Standing, Nowhere, Runs, Blocked, Stopped, Returned, Taken, space_in, took, Stood, Agrees, space_of, standing_after, agrees-step, stays, told-kind, kind}
use Rattle.sa_promises.proofs.lives.Shapes.{Moves}
use Rattle.sa_promises.proofs.lives.Moves.{lawful-moves, stood, agrees-start, agrees-begun, agrees-ended, nowhere_first}

-- the life of the last up runs while told records follow it
abbrev pub UppedRuns : (ℕ → Standing) → ProcNo → Readings → Type 0
UppedRuns st p r = is_telling r.last ≡ true → (u : ActNo) × (r.upped ≡ Some u) × (s : SpaceNo) × (st u.0 ≡ Runs s p)

pub upped-step : (w : WorkloadView) (e : ℕ) (p : ProcNo) (st : ℕ → Standing) (r : Readings) (x : Record) (rest : List Record) → Stood p st x
    → Moves w p r x rest
    → UppedRuns st p r → UppedRuns (standing_after p st x) p (after_record w e p r x)
upped-step w e p st r (Up s a) rest was law runs is = (a, refl, s, put-at st a.0 a.0 (Runs s p) refl)
upped-step w e p st r (Told n) rest was law runs is =
    let there = runs law.1 in
    (there.0, there.1, there.2, stays p st (Told n) there.0.0 (Runs there.2 p) was there.3 (told-kind n 1 (λ e'. cc) (λ e'. cc) (λ e'. cc)))
upped-step w e p st r x rest was law runs is = absurd (cc)

-- something is so of the locks of each life
abbrev pub AreSo : (ℕ → List Lock → Type 0) → (ℕ → Option Life) → Type 0
AreSo P lives = (n : ℕ) (life : Life) → lives n ≡ Some life → P n life.locks

so-with : (f : Life → Life) (b : Option ActNo) (P Q : ℕ → List Lock → Type 0) (lives : ℕ → Option Life)
    → ((n : ℕ) (life : Life) → ((a : ActNo) → b ≡ Some a → n ≢ a.0) → P n life.locks → Q n life.locks)
    → ((a : ActNo) (life : Life) → b ≡ Some a → lives a.0 ≡ Some life → P a.0 life.locks → Q a.0 (f life).locks)
    → AreSo P lives → AreSo Q (with_life f b lives)
so-with f None P Q lives others own so n life is = others n life (λ a no. absurd (none-some a no)) (so n life is)
so-with f (Some b) P Q lives others own so n life is = elim (cases_eq n b.0) [
  | inr apart ↦
      others n life (λ a same at. apart (at ∙ ap (λ (c : ActNo). c.0) (sym (same_Some b a same))))
      (so n life (sym (put-other lives b.0 n (option_map f (lives b.0)) apart) ∙ is))
  | inl at ↦ subst (λ m. Q m life.locks) (sym at) (there (lives b.0) refl (sym (put-at lives b.0 n (option_map f (lives b.0)) at) ∙ is))
] where
  there : (o : Option Life) → lives b.0 ≡ o → option_map f o ≡ Some life → Q b.0 life.locks
  there None was some = absurd (none-some life some)
  there (Some l) was some = subst (λ (k : Life). Q b.0 k.locks) (same_Some (f l) life some) (own b l refl was (so b.0 l was))

-- a taken life has no locks
abbrev pub is_taken : Standing → Bool
is_taken (Taken s) = true
is_taken _ = false

abbrev Bare : (ℕ → Standing) → ℕ → List Lock → Type 0
Bare st n locks = is_taken (st n) ≡ true → locks ≡ []

abbrev pub AreBare : (ℕ → Standing) → (ℕ → Option Life) → Type 0
AreBare st lives = (n : ℕ) (life : Life) → lives n ≡ Some life → is_taken (st n) ≡ true → life.locks ≡ []

-- a number that is not put among the taken ones
put-less : (st : ℕ → Standing) (a n : ℕ) (v : Standing) → is_taken v ≡ false → is_taken (put st a v n) ≡ true → is_taken (st n) ≡ true
put-less st a n v free is = elim (cases_eq n a) [
  | inl at ↦ absurd (let clash = sym free ∙ ap is_taken (sym (put-at st a n v at)) ∙ is in cc)
  | inr apart ↦ ap is_taken (sym (put-other st a n v apart)) ∙ is
]

-- a life that gets no locks where it has none, while no number is put among the taken ones
bare-same : (f : Life → Life) (b : Option ActNo) (st new : ℕ → Standing) (lives : ℕ → Option Life) → ((l : Life) → l.locks ≡ [] → (f l).locks ≡ [])
    → ((n : ℕ) → is_taken (new n) ≡ true → is_taken (st n) ≡ true) → AreBare st lives → AreBare new (with_life f b lives)
bare-same f b st new lives same less bare = so-with f b (Bare st) (Bare new) lives
    (λ n life apart k is. k (less n is)) (λ a life at there k is. same life (k (less a.0 is))) bare

-- a life that runs is not taken
runs-free : (st : ℕ → Standing) (r : Readings) (p : ProcNo) (a : ActNo) → Agrees st r → running_of r p ≡ Some a → is_taken (st a.0) ≡ false
runs-free st r p a agrees runs = ap is_taken (agrees.running p a runs).1

bare-running : (f : Life → Life) (st : ℕ → Standing) (p : ProcNo) (r : Readings) → Agrees st r → AreBare st r.lives
    → AreBare st (with_life f (running_of r p) r.lives)
bare-running f st p r agrees bare = so-with f (running_of r p) (Bare st) (Bare st) r.lives (λ n life apart k. k)
    (λ a life at there k is. absurd (let clash = sym (runs-free st r p a agrees at) ∙ is in cc)) bare

-- a stop or an unblock is told, and its life's locks and hand go to the life of the up
bare-handed : (st : ℕ → Standing) (r : Readings) (p : ProcNo) (a u : ActNo) (s : SpaceNo) (v : Standing) (from : Option Life) → r.upped ≡ Some u
    → st u.0 ≡ Runs s p → u.0 ≢ a.0
    → life_of r a ≡ from → AreBare st r.lives → AreBare (put st a.0 v) (handed r.upped a from r.lives)
bare-handed st r p a u s v None upped runs apart is bare = λ n life at.
    let other : n ≢ a.0 = λ same. none-some life (sym is ∙ ap r.lives (sym same) ∙ at) in
    subst (λ x. is_taken x ≡ true → life.locks ≡ []) (sym (put-other st a.0 n v other)) (bare n life at)
bare-handed st r p a u s v (Some from) upped runs apart is bare =
    let new = put st a.0 v in
    let bereaved : AreBare new (with_life bereft (Some a) r.lives) = so-with bereft (Some a) (Bare st) (Bare new) r.lives
    (λ n life other k. subst (λ x. is_taken x ≡ true → life.locks ≡ []) (sym (put-other st a.0 n v (other a refl))) k)
    (λ b life same at k taken. refl) bare in
    let free : (b : ActNo) → r.upped ≡ Some b → is_taken (new b.0) ≡ false =
    λ b same. ap (λ (c : ActNo). is_taken (new c.0)) (same_Some b u (sym same ∙ upped)) ∙ ap is_taken (put-other st a.0 u.0 v apart ∙ runs) in
    so-with (inherits from) r.upped (Bare new) (Bare new) (with_life bereft (Some a) r.lives) (λ n life other k. k)
    (λ b life same at k taken. absurd (let clash = sym (free b same) ∙ taken in cc)) bereaved

pub apart-told : (st : ℕ → Standing) (a u : ℕ) (s t : SpaceNo) (p : ProcNo) (y : Standing) → st u ≡ Runs s p → st a ≡ y → kind y ≢ 1 → u ≢ a
apart-told st a u s t p y runs is other same = other (ap kind (sym is ∙ ap st (sym same) ∙ runs))

pub bare-step : (w : WorkloadView) (p : ProcNo) (st : ℕ → Standing) (r : Readings) (x : Record) (rest : List Record) → Agrees st r → Stood p st x
    → Moves w p r x rest
    → UppedRuns st p r → AreBare st r.lives → AreBare (standing_after p st x) (lives_after w p r x)
bare-step w p st r (Ins s t i) rest agrees was law runs bare = bare-running (with_hand (next_effect w r.state s t).roused) st p r agrees bare
bare-step w p st r (Run s t) rest agrees was law runs bare = bare-running (with_first (ran t)) st p r agrees bare
bare-step w p st r (Stop s t a) rest agrees was law runs bare =
    bare-same (stopped_with t) (Some a) st _ r.lives (λ l none. none) (λ n is. put-less st a.0 n (Stopped s) refl is) bare
bare-step w p st r (Block s t a io) rest agrees was law runs bare =
    bare-same (held_with t) (Some a) st _ r.lives (λ l none. none) (λ n is. put-less st a.0 n (Blocked s) refl is) bare
bare-step w p st r (Unblock s t a) rest agrees was law runs bare =
    bare-same (with_hand (one_thread t)) (Some a) st _ r.lives (λ l none. none) (λ n is. put-less st a.0 n (Returned s) refl is) bare
bare-step w p st r (Cont s t) rest agrees was law runs bare = bare-running (with_cont true) st p r agrees bare
bare-step w p st r (Back s t) rest agrees was law runs bare = bare-running (back_with t) st p r agrees bare
bare-step w p st r (Ready s t) rest agrees was law runs bare = bare-running (made_ready t) st p r agrees bare
bare-step w p st r (Take s l t) rest agrees was law runs bare = bare-running (locks r p l t) st p r agrees bare
bare-step w p st r (Free s l t) rest agrees was law runs bare = bare-running without_lock st p r agrees bare
bare-step w p st r (Up s a) rest agrees was law runs bare = λ n life at. elim (cases_eq n a.0) [
  | inl same ↦ λ taken. absurd (let clash = sym (ap is_taken (put-at st a.0 n (Runs s p) same)) ∙ taken in cc)
  | inr apart ↦
      subst (λ y. is_taken y ≡ true → life.locks ≡ []) (sym (put-other st a.0 n (Runs s p) apart))
      (bare n life (sym (put-other r.lives a.0 n (Some (new_life s p)) apart) ∙ at))
]
bare-step w p st r (Told (note.Preempted a)) rest agrees was law runs bare =
    let up = runs law.1 in
    bare-handed st r p a up.0 up.2 (took (st a.0)) (life_of r a) up.1 up.3
    (apart-told st a.0 up.0.0 up.2 was.0 p (Stopped was.0) up.3 was.1 (λ e. cc)) refl bare
bare-step w p st r (Told (note.Unblocked a)) rest agrees was law runs bare =
    let up = runs law.1 in
    bare-handed st r p a up.0 up.2 (took (st a.0)) (life_of r a) up.1 up.3
    (apart-told st a.0 up.0.0 up.2 was.0 p (Returned was.0) up.3 was.1 (λ e. cc)) refl bare
bare-step w p st r (GiveBack a) rest agrees was law runs bare = λ n life at. elim (cases_eq n a.0) [
  | inl same ↦ absurd (none-some life (sym (put-at r.lives a.0 n None same) ∙ at))
  | inr apart ↦
      subst (λ y. is_taken y ≡ true → life.locks ≡ []) (sym (put-other st a.0 n Nowhere apart))
      (bare n life (sym (put-other r.lives a.0 n None apart) ∙ at))
]
bare-step w p st r x rest agrees was law runs bare = bare

-- one for a pop that was not used has no thread
abbrev pub IsPopped : List Lock → Type 0
IsPopped locks = (lock : Lock) → Contains locks lock → lock.for_push ≡ false → lock.used ≡ false → lock.thread ≡ None

abbrev Popped : ℕ → List Lock → Type 0
Popped n locks = IsPopped locks

abbrev pub ArePopped : (ℕ → Option Life) → Type 0
ArePopped lives = (n : ℕ) (life : Life) → lives n ≡ Some life → IsPopped life.locks

popped-with : (f : Life → Life) (b : Option ActNo) (lives : ℕ → Option Life)
    → ((a : ActNo) (life : Life) → b ≡ Some a → lives a.0 ≡ Some life → IsPopped life.locks → IsPopped (f life).locks) → ArePopped lives
    → ArePopped (with_life f b lives)
popped-with f b lives own popped = so-with f b Popped Popped lives (λ n life apart k. k) own popped

popped-same : (f : Life → Life) (b : Option ActNo) (lives : ℕ → Option Life) → ((l : Life) → (f l).locks ≡ l.locks) → ArePopped lives
    → ArePopped (with_life f b lives)
popped-same f b lives same popped = popped-with f b lives (λ a life at is k. subst IsPopped (sym (same life)) k) popped

-- the first lock is used
first-cases : (f : Lock → Lock) (ls : List Lock) (lock : Lock) → Contains (change_first f ls) lock → ((l : Lock) × (f l ≡ lock)) ⊎ Contains ls lock
first-cases f [] lock has = inr has
first-cases f (l ∷ ls) lock has = elim (Contains-append_cases (f l ∷ []) ls lock has) [
  | inl first ↦ inl (l, only (f l) lock first)
  | inr later ↦ inr (Contains-append_right (l ∷ []) ls lock later)
] where
  only : (m k : Lock) → Contains (m ∷ []) k → m ≡ k
  only m k (zero, below, is) = is
  only m k (suc i, below, is) = absurd (omega arith)

popped-first : (f : Lock → Lock) (ls : List Lock) → ((l : Lock) → (f l).used ≡ true) → IsPopped ls → IsPopped (change_first f ls)
popped-first f ls used popped lock has push unused = elim (first-cases f ls lock has) [
  | inl new ↦ absurd (let clash = sym (used new.0) ∙ ap (λ (l : Lock). l.used) new.1 ∙ unused in cc)
  | inr old ↦ popped lock old push unused
]

pub drop-has : (ls : List Lock) (lock : Lock) → Contains (drop 1 ls) lock → Contains ls lock
drop-has [] lock has = has
drop-has (l ∷ ls) lock has = Contains-append_right (l ∷ []) ls lock has

pub map-cases : (ls : List Lock) (lock : Lock) → Contains (map inherited ls) lock → (l : Lock) × Contains ls l × (inherited l ≡ lock)
map-cases [] lock has = absurd (contains-nil lock has)
map-cases (l ∷ ls) lock has = elim (Contains-append_cases (inherited l ∷ []) (map inherited ls) lock has) [
  | inl first ↦ (l, (0, omega arith, refl), only (inherited l) lock first)
  | inr later ↦ let old = map-cases ls lock later in (old.0, Contains-append_right (l ∷ []) ls old.0 old.1, old.2)
] where
  only : (m k : Lock) → Contains (m ∷ []) k → m ≡ k
  only m k (zero, below, is) = is
  only m k (suc i, below, is) = absurd (omega arith)

pub map-has : (ls : List Lock) (lock : Lock) → Contains ls lock → Contains (map inherited ls) (inherited lock)
map-has [] lock has = absurd (contains-nil lock has)
map-has (l ∷ ls) lock has = elim (Contains-append_cases (l ∷ []) ls lock has) [
  | inl first ↦ subst (λ k. Contains (map inherited (l ∷ ls)) (inherited k)) (only l lock first) (0, omega arith, refl)
  | inr later ↦ Contains-append_right (inherited l ∷ []) (map inherited ls) (inherited lock) (map-has ls lock later)
] where
  only : (m k : Lock) → Contains (m ∷ []) k → m ≡ k
  only m k (zero, below, is) = is
  only m k (suc i, below, is) = absurd (omega arith)

popped-both : (ls ms : List Lock) → IsPopped ls → IsPopped ms → IsPopped (ls ++ map inherited ms)
popped-both ls ms popped from lock has push unused = elim (Contains-append_cases ls (map inherited ms) lock has) [
  | inl own ↦ popped lock own push unused
  | inr got ↦
      let old = map-cases ms lock got in
      ap (λ (l : Lock). l.thread) (sym old.2)
      ∙ from old.0 old.1 (ap (λ (l : Lock). l.for_push) old.2 ∙ push) (ap (λ (l : Lock). l.used) old.2 ∙ unused)
]

-- the life on which a step is made
pub on-life : (r : Readings) (p : ProcNo) (a : ActNo) (life other : Life) → running_of r p ≡ Some a → r.lives a.0 ≡ Some life → life_on r p ≡ Some other
    → life ≡ other
on-life r p a life other runs is on = same_Some life other (sym is ∙ sym (ap (life_if r) runs) ∙ on)

popped-take : (r : Readings) (p : ProcNo) (s : SpaceNo) (l : ProcNo) (t : Option ThreadNo) (life : Life) → TakesFor r s t life
    → IsPopped life.locks → IsPopped (locks r p l t life).locks
popped-take r p s l t life law popped lock has push unused = elim (Contains-push_cases life.locks (lock_for r p l t life) lock has) [
  | inl old ↦ popped lock old push unused
  | inr new ↦ ap (λ (k : Lock). k.thread) (sym new) ∙ law.pop (ap (λ (k : Lock). k.for_push) new ∙ push)
]

popped-handed : (r : Readings) (a : ActNo) (from : Option Life) → life_of r a ≡ from → ArePopped r.lives
    → ArePopped (handed r.upped a from r.lives)
popped-handed r a None is popped = popped
popped-handed r a (Some from) is popped =
    popped-with (inherits from) r.upped (with_life bereft (Some a) r.lives)
    (λ b life same at k. popped-both life.locks from.locks k (popped a.0 from is))
    (popped-with bereft (Some a) r.lives (λ b life same at k lock has. absurd (contains-nil lock has)) popped)

pub popped-step : (w : WorkloadView) (p : ProcNo) (r : Readings) (x : Record) (rest : List Record) → HoldersKnown p r x rest → ArePopped r.lives
    → ArePopped (lives_after w p r x)
popped-step w p r (Ins s t i) rest law popped = popped-same (with_hand (next_effect w r.state s t).roused) (running_of r p) r.lives (λ l. refl) popped
popped-step w p r (Run s t) rest law popped = popped-with (with_first (ran t)) (running_of r p) r.lives
    (λ a life same at k. popped-first (ran t) life.locks (λ l. refl) k) popped
popped-step w p r (Stop s t a) rest law popped = popped-same (stopped_with t) (Some a) r.lives (λ l. refl) popped
popped-step w p r (Block s t a io) rest law popped = popped-same (held_with t) (Some a) r.lives (λ l. refl) popped
popped-step w p r (Unblock s t a) rest law popped = popped-same (with_hand (one_thread t)) (Some a) r.lives (λ l. refl) popped
popped-step w p r (Cont s t) rest law popped = popped-same (with_cont true) (running_of r p) r.lives (λ l. refl) popped
popped-step w p r (Back s t) rest law popped = popped-same (back_with t) (running_of r p) r.lives (λ l. refl) popped
popped-step w p r (Ready s t) rest law popped = popped-with (made_ready t) (running_of r p) r.lives
    (λ a life same at k. popped-first readied life.locks (λ l. refl) k) popped
popped-step w p r (Take s l t) rest law popped = popped-with (locks r p l t) (running_of r p) r.lives
    (λ a life same at k. popped-take r p s l t life
    (subst (λ (m : Life). TakesFor r s t m) (sym (on-life r p a life law.0 same at law.1)) law.2) k) popped
popped-step w p r (Free s l t) rest law popped = popped-with without_lock (running_of r p) r.lives
    (λ a life same at k lock has. k lock (drop-has life.locks lock has)) popped
popped-step w p r (Up s a) rest law popped = λ n life at. elim (cases_eq n a.0) [
  | inl same ↦
      let new : new_life s p ≡ life = same_Some (new_life s p) life (sym (put-at r.lives a.0 n (Some (new_life s p)) same) ∙ at) in
      subst (λ (l : Life). IsPopped l.locks) new (λ lock has. absurd (contains-nil lock has))
  | inr apart ↦ popped n life (sym (put-other r.lives a.0 n (Some (new_life s p)) apart) ∙ at)
]
popped-step w p r (Told (note.Preempted a)) rest law popped = popped-handed r a (life_of r a) refl popped
popped-step w p r (Told (note.Unblocked a)) rest law popped = popped-handed r a (life_of r a) refl popped
popped-step w p r (GiveBack a) rest law popped = λ n life at. elim (cases_eq n a.0) [
  | inl same ↦ absurd (none-some life (sym (put-at r.lives a.0 n None same) ∙ at))
  | inr apart ↦ popped n life (sym (put-other r.lives a.0 n None apart) ∙ at)
]
popped-step w p r x rest law popped = popped

-- a thread holds a lock among these
abbrev pub HasThread : List Lock → ThreadNo → Type 0
HasThread ls t = (lock : Lock) × Contains ls lock × (lock.thread ≡ Some t)

-- a thread holds a lock of a life of this space
pub record Holds (lives : ℕ → Option Life) (s : SpaceNo) (t : ThreadNo) : Type 0 where
  pub act : ℕ
  pub life : Life
  pub is : lives act ≡ Some life
  pub space : life.space ≡ s
  pub has : HasThread life.locks t

with-at : (f : Life → Life) (b : Option ActNo) (a : ActNo) (lives : ℕ → Option Life) (life : Life) → b ≡ Some a → lives a.0 ≡ Some life
    → with_life f b lives a.0 ≡ Some (f life)
with-at f b a lives life at is =
    ap (λ o. with_life f o lives a.0) at ∙ put-at lives a.0 a.0 (option_map f (lives a.0)) refl ∙ ap (option_map f) is

holds-with : (f : Life → Life) (b : Option ActNo) (lives : ℕ → Option Life) (s : SpaceNo) (t : ThreadNo) (X : Type 0) → ((l : Life) → (f l).space ≡ l.space)
    → ((a : ActNo) (life : Life) → b ≡ Some a → lives a.0 ≡ Some life → life.space ≡ s → HasThread life.locks t → HasThread (f life).locks t ⊎ X)
    → Holds lives s t → Holds (with_life f b lives) s t ⊎ X
holds-with f None lives s t X same own holds = inl holds
holds-with f (Some b) lives s t X same own holds = elim (cases_eq holds.act b.0) [
  | inr apart ↦
      inl (record {
        act = holds.act;
        life = holds.life;
        is = put-other lives b.0 holds.act (option_map f (lives b.0)) apart ∙ holds.is;
        space = holds.space;
        has = holds.has;
      })
  | inl at ↦
      let is : lives b.0 ≡ Some holds.life = ap lives (sym at) ∙ holds.is in
      elim (own b holds.life refl is holds.space holds.has) [
        | inl has ↦ inl (record {
          act = b.0;
          life = f holds.life;
          is = with-at f (Some b) b lives holds.life refl is;
          space = same holds.life ∙ holds.space;
          has = has;
        })
        | inr x ↦ inr x
      ]
]

-- where the locks stay
holds-same : (f : Life → Life) (b : Option ActNo) (lives : ℕ → Option Life) (s : SpaceNo) (t : ThreadNo) (X : Type 0) → ((l : Life) → (f l).space ≡ l.space)
    → ((l : Life) → (f l).locks ≡ l.locks) → Holds lives s t → Holds (with_life f b lives) s t ⊎ X
holds-same f b lives s t X space same holds =
    holds-with f b lives s t X space (λ a life at is of has. inl (subst (λ ls. HasThread ls t) (sym (same life)) has)) holds

thread-first : (f : Lock → Lock) (ls : List Lock) (t : ThreadNo) → ((l : Lock) → slice_get ls 0 ≡ Some l → l.thread ≡ Some t → (f l).thread ≡ Some t)
    → HasThread ls t
    → HasThread (change_first f ls) t
thread-first f [] t keeps has = absurd (contains-nil has.0 has.1)
thread-first f (l ∷ ls) t keeps has = elim (Contains-append_cases (l ∷ []) ls has.0 has.1) [
  | inl first ↦ (f l, (0, omega arith, refl), keeps l refl (ap (λ (k : Lock). k.thread) (contains-single l has.0 first) ∙ has.2))
  | inr later ↦ (has.0, Contains-append_right (f l ∷ []) ls has.0 later, has.2)
]

thread-drop : (ls : List Lock) (t : ThreadNo) → HasThread ls t → HasThread (drop 1 ls) t ⊎ ((l : Lock) × (slice_get ls 0 ≡ Some l) × (l.thread ≡ Some t))
thread-drop [] t has = absurd (contains-nil has.0 has.1)
thread-drop (l ∷ ls) t has = elim (Contains-append_cases (l ∷ []) ls has.0 has.1) [
  | inl first ↦ inr (l, refl, ap (λ (k : Lock). k.thread) (contains-single l has.0 first) ∙ has.2)
  | inr later ↦ inl (has.0, later, has.2)
]

the-first : (o : Option Lock) (P : Lock → Type 0) → WithFirst o P → (l : Lock) × (o ≡ Some l) × P l
the-first None P is = absurd is
the-first (Some l) P is = (l, refl, is)

first-among : (ls : List Lock) (l : Lock) → slice_get ls 0 ≡ Some l → Contains ls l
first-among [] l is = absurd (none-some l is)
first-among (m ∷ ls) l is = subst (λ k. Contains (m ∷ ls) k) (same_Some m l is) (0, omega arith, refl)

-- a run gives the first lock its thread, which had none
run-keeps : (s : SpaceNo) (t u : ThreadNo) (life : Life) → IsPopped life.locks
    → WithFirst (first_lock life) (RunsFirst s life) → HasThread life.locks u → HasThread (change_first (ran t) life.locks) u
run-keeps s t u life popped law has =
    let first = the-first (first_lock life) (RunsFirst s life) law in
    thread-first (ran t) life.locks u (λ l at is.
    let same : first.0 ≡ l = same_Some first.0 l (sym first.1 ∙ at) in
    let none = popped first.0 (first-among life.locks first.0 first.1) first.2.pop first.2.unused in
    absurd (none-some u (sym none ∙ ap (λ (k : Lock). k.thread) same ∙ is))) has

-- a free takes the first lock away, and names its thread
free-keeps : (s of : SpaceNo) (t : Option ThreadNo) (u : ThreadNo) (life : Life) → life.space ≡ s
    → WithFirst (first_lock life) (FreesFirst of t life) → HasThread life.locks u → HasThread (drop 1 life.locks) u ⊎ ((of ≡ s) × (t ≡ Some u))
free-keeps s of t u life space law has =
    let first = the-first (first_lock life) (FreesFirst of t life) law in
    elim (thread-drop life.locks u has) [
      | inl still ↦ inl still
      | inr gone ↦
          let same : first.0 ≡ gone.0 = same_Some first.0 gone.0 (sym first.1 ∙ gone.1) in
          inr (first.2.space ∙ space, first.2.thread ∙ ap (λ (k : Lock). k.thread) same ∙ gone.2)
    ]

pub has-life : (lives : ℕ → Option Life) (a : ℕ) (s : SpaceNo) (o : Option Life) → lives a ≡ o → space_of o ≡ Some s
    → (life : Life) × (lives a ≡ Some life) × (life.space ≡ s)
has-life lives a s None is space = absurd (none-some s space)
has-life lives a s (Some life) is space = (life, is, same_Some life.space s space)

-- what a told life holds is held by the life of the up
holds-handed : (st : ℕ → Standing) (r : Readings) (a u : ActNo) (s of : SpaceNo) (t : ThreadNo) (from : Option Life) (X : Type 0) → r.upped ≡ Some u
    → u.0 ≢ a.0 → life_of r a ≡ from
    → space_of (r.lives a.0) ≡ Some of → space_of (r.lives u.0) ≡ Some of → Holds r.lives s t → Holds (handed r.upped a from r.lives) s t ⊎ X
holds-handed st r a u s of t None X upped apart is space other holds = inl holds
holds-handed st r a u s of t (Some from) X upped apart is space other holds = elim (cases_eq holds.act a.0) [
  | inr away ↦
      holds-with (inherits from) r.upped (with_life bereft (Some a) r.lives) s t X (λ l. refl)
      (λ b life at there in_it has. inl (has.0, Contains-append_left life.locks (map inherited from.locks) has.0 has.1, has.2))
      (record {
        act = holds.act;
        life = holds.life;
        is = put-other r.lives a.0 holds.act (option_map bereft (r.lives a.0)) away ∙ holds.is;
        space = holds.space;
        has = holds.has;
      })
  | inl at ↦
      let same : holds.life ≡ from = same_Some holds.life from (sym holds.is ∙ ap r.lives at ∙ is) in
      let has : HasThread from.locks t = subst (λ (l : Life). HasThread l.locks t) same holds.has in
      let heir = has-life r.lives u.0 of (r.lives u.0) refl other in
      let owner : from.space ≡ of = same_Some from.space of (sym (ap space_of is) ∙ space) in
      inl (record {
        act = u.0;
        life = inherits from heir.0;
        is =
            with-at (inherits from) r.upped u (with_life bereft (Some a) r.lives) heir.0 upped
            (put-other r.lives a.0 u.0 (option_map bereft (r.lives a.0)) apart ∙ heir.1);
        space = heir.2 ∙ sym owner ∙ ap (λ (l : Life). l.space) (sym same) ∙ holds.space;
        has = (inherited has.0, Contains-append_right heir.0.locks (map inherited from.locks) (inherited has.0) (map-has from.locks has.0 has.1), has.2);
      })
]

-- the life of the up has the space of what is told to it
pub told-space : (r : Readings) (u : ActNo) (n : Note) (o : Option SpaceNo) → r.upped ≡ Some u → space_of_life r r.upped ≡ o → IsUntoldTo r o n
    → ((q : ProcNo) → n ≢ note.Add q)
    → (s : SpaceNo) × (space_of (r.lives u.0) ≡ Some s) × Contains (untold_of r s) n
told-space r u (note.Add q) o upped is told other = absurd (other q refl)
told-space r u n None upped is told other = absurd (told)
told-space r u (note.Preempted a) (Some s) upped is told other = (s, sym (ap (space_of_life r) upped) ∙ is, told)
told-space r u (note.Blocked a) (Some s) upped is told other = (s, sym (ap (space_of_life r) upped) ∙ is, told)
told-space r u (note.Unblocked a) (Some s) upped is told other = (s, sym (ap (space_of_life r) upped) ∙ is, told)

pub holds-step : (w : WorkloadView) (p : ProcNo) (st : ℕ → Standing) (r : Readings) (x : Record) (rest : List Record) (s : SpaceNo) (t : ThreadNo)
    → Agrees st r → Stood p st x
    → Moves w p r x rest → HoldersKnown p r x rest → UppedRuns st p r → AreBare st r.lives → ArePopped r.lives → Holds r.lives s t
    → Holds (lives_after w p r x) s t ⊎ Frees s t x
holds-step w p st r (Ins of u i) rest s t agrees was law known runs bare popped holds =
    holds-same (with_hand (next_effect w r.state of u).roused) (running_of r p) r.lives s t ⊥ (λ l. refl) (λ l. refl) holds
holds-step w p st r (Run of u) rest s t agrees was law known runs bare popped holds = holds-with (with_first (ran u)) (running_of r p) r.lives s t ⊥ (λ l. refl)
    (λ a life at is space has. inl (run-keeps of u t life (popped a.0 life is)
    (subst (λ (m : Life). WithFirst (first_lock m) (RunsFirst of m)) (sym (on-life r p a life known.0 at is known.1)) known.2) has)) holds
holds-step w p st r (Stop of u a) rest s t agrees was law known runs bare popped holds = holds-same (stopped_with u) (Some a) r.lives s t ⊥ (λ l. refl) (λ l. refl) holds
holds-step w p st r (Block of u a io) rest s t agrees was law known runs bare popped holds = holds-same (held_with u) (Some a) r.lives s t ⊥ (λ l. refl) (λ l. refl) holds
holds-step w p st r (Unblock of u a) rest s t agrees was law known runs bare popped holds =
    holds-same (with_hand (one_thread u)) (Some a) r.lives s t ⊥ (λ l. refl) (λ l. refl) holds
holds-step w p st r (Cont of u) rest s t agrees was law known runs bare popped holds =
    holds-same (with_cont true) (running_of r p) r.lives s t ⊥ (λ l. refl) (λ l. refl) holds
holds-step w p st r (Back of u) rest s t agrees was law known runs bare popped holds = holds-same (back_with u) (running_of r p) r.lives s t ⊥ (λ l. refl) (λ l. refl) holds
holds-step w p st r (Ready of u) rest s t agrees was law known runs bare popped holds = holds-with (made_ready u) (running_of r p) r.lives s t ⊥ (λ l. refl)
    (λ a life at is space has. inl (thread-first readied life.locks t (λ l first same. same) has)) holds
holds-step w p st r (Take of l u) rest s t agrees was law known runs bare popped holds = holds-with (locks r p l u) (running_of r p) r.lives s t ⊥ (λ m. refl)
    (λ a life at is space has. inl (has.0, Contains-append_left life.locks (lock_for r p l u life ∷ []) has.0 has.1, has.2)) holds
holds-step w p st r (Free of l u) rest s t agrees was law known runs bare popped holds =
    holds-with without_lock (running_of r p) r.lives s t ((of ≡ s) × (u ≡ Some t)) (λ m. refl)
    (λ a life at is space has. free-keeps s of u t life space
    (subst (λ (m : Life). WithFirst (first_lock m) (FreesFirst of u m)) (sym (on-life r p a life known.0 at is known.1)) known.2) has) holds
holds-step w p st r (Up of a) rest s t agrees was law known runs bare popped holds = elim (cases_eq holds.act a.0) [
  | inl same ↦ absurd (none-some holds.life (sym law.1 ∙ ap r.lives (sym same) ∙ holds.is))
  | inr apart ↦
      inl (record {
        act = holds.act;
        life = holds.life;
        is = put-other r.lives a.0 holds.act (Some (new_life of p)) apart ∙ holds.is;
        space = holds.space;
        has = holds.has;
      })
]
holds-step w p st r (Told (note.Preempted a)) rest s t agrees was law known runs bare popped holds =
    let up = runs law.1 in
    let told = told-space r up.0 (note.Preempted a) (space_of_life r r.upped) up.1 refl law.0 (λ q e. cc) in
    let space : space_of (r.lives a.0) ≡ Some told.0 = agrees.lives a ∙ ap space_in (agrees.stopped told.0 a told.2) in
    holds-handed st r a up.0 s told.0 t (life_of r a) ⊥ up.1
    (apart-told st a.0 up.0.0 up.2 was.0 p (Stopped was.0) up.3 was.1 (λ e. cc)) refl space told.1 holds
holds-step w p st r (Told (note.Unblocked a)) rest s t agrees was law known runs bare popped holds =
    let up = runs law.1 in
    let told = told-space r up.0 (note.Unblocked a) (space_of_life r r.upped) up.1 refl law.0 (λ q e. cc) in
    let space : space_of (r.lives a.0) ≡ Some told.0 = agrees.lives a ∙ ap space_in (agrees.returned told.0 a told.2) in
    holds-handed st r a up.0 s told.0 t (life_of r a) ⊥ up.1
    (apart-told st a.0 up.0.0 up.2 was.0 p (Returned was.0) up.3 was.1 (λ e. cc)) refl space told.1 holds
holds-step w p st r (GiveBack a) rest s t agrees was law known runs bare popped holds = elim (cases_eq holds.act a.0) [
  | inl same ↦
      let none = bare holds.act holds.life holds.is (ap (λ n. is_taken (st n)) same ∙ ap is_taken was.1) in
      absurd (contains-nil holds.has.0 (subst (λ ls. Contains ls holds.has.0) none holds.has.1))
  | inr apart ↦ inl (record {
    act = holds.act;
    life = holds.life;
    is = put-other r.lives a.0 holds.act None apart ∙ holds.is;
    space = holds.space;
    has = holds.has;
  })
]
holds-step w p st r x rest s t agrees was law known runs bare popped holds = inl holds

-- a take that names a thread, and a run, give it a lock
pub some-life : (r : Readings) (p : ProcNo) (a : Option ActNo) (life : Life) → running_of r p ≡ a → life_if r a ≡ Some life
    → (b : ActNo) × (running_of r p ≡ Some b) × (r.lives b.0 ≡ Some life)
some-life r p None life runs is = absurd (none-some life is)
some-life r p (Some b) life runs is = (b, runs, is)

run-has : (t : ThreadNo) (ls : List Lock) (l : Lock) → slice_get ls 0 ≡ Some l → HasThread (change_first (ran t) ls) t
run-has t [] l is = absurd (none-some l is)
run-has t (m ∷ ls) l is = (ran t m, (0, omega arith, refl), refl)

begins-holds : (w : WorkloadView) (p : ProcNo) (r : Readings) (x : Record) (rest : List Record) (s : SpaceNo) (t : ThreadNo) → HoldersKnown p r x rest
    → Begins s t x
    → Holds (lives_after w p r x) s t
begins-holds w p r (Take of l u) rest s t law begins =
    let on = some-life r p (running_of r p) law.0 refl law.1 in
    record {
      act = on.0.0;
      life = locks r p l u law.0;
      is = with-at (locks r p l u) (running_of r p) on.0 r.lives law.0 on.1 on.2;
      space = sym law.2.space ∙ begins.0;
      has = (lock_for r p l u law.0, Contains-push law.0.locks (lock_for r p l u law.0), begins.1);
    }
begins-holds w p r (Run of u) rest s t law begins =
    let on = some-life r p (running_of r p) law.0 refl law.1 in
    let first = the-first (first_lock law.0) (RunsFirst of law.0) law.2 in
    record {
      act = on.0.0;
      life = with_first (ran u) law.0;
      is = with-at (with_first (ran u)) (running_of r p) on.0 r.lives law.0 on.1 on.2;
      space = sym first.2.space ∙ begins.0;
      has = subst (λ v. HasThread (change_first (ran u) law.0.locks) v) begins.1 (run-has u law.0.locks first.0 first.1);
    }
begins-holds w p r x rest s t law begins = absurd (begins)

-- at the end of an event lives keep their locks
abbrev pub LocksOnly : (Life → Life) → Type 0
LocksOnly f = (l : Life) → ((f l).locks ≡ l.locks) × ((f l).space ≡ l.space)

so-if : (b : Bool) (f : Life → Life) (n : Option ActNo) (P : ℕ → List Lock → Type 0) (lives : ℕ → Option Life) → LocksOnly f → AreSo P lives
    → AreSo P (if b then with_life f n lives else lives)
so-if true f n P lives same so = so-with f n P P lives (λ m life apart k. k) (λ a life at is k. subst (P a.0) (sym (same life).0) k) so
so-if false f n P lives same so = so

holds-if : (b : Bool) (f : Life → Life) (n : Option ActNo) (lives : ℕ → Option Life) (s : SpaceNo) (t : ThreadNo) → LocksOnly f → Holds lives s t
    → Holds (if b then with_life f n lives else lives) s t
holds-if true f n lives s t same holds =
    elim (holds-same f n lives s t ⊥ (λ l. (same l).1) (λ l. (same l).0) holds) [ inl still ↦ still | inr never ↦ absurd never ]
holds-if false f n lives s t same holds = holds

so-stepped : (test : Test) (w : WorkloadView) (P : ℕ → List Lock → Type 0) (before : Readings) (e : Event) (after : Readings) (xs : List Record) (lives : ℕ
    → Option Life)
    → AreSo P lives → AreSo P (with_step test w before e after xs lives)
so-stepped test w P before e after [] lives so = so
so-stepped test w P before e after (x ∷ xs) lives so =
    so-if (is_step x) (stepped test w before e after x) (running_of before e.proc) P lives (λ l. (refl, refl)) so

holds-stepped : (test : Test) (w : WorkloadView) (before : Readings) (e : Event) (after : Readings) (xs : List Record) (lives : ℕ
    → Option Life) (s : SpaceNo) (t : ThreadNo)
    → Holds lives s t → Holds (with_step test w before e after xs lives) s t
holds-stepped test w before e after [] lives s t holds = holds
holds-stepped test w before e after (x ∷ xs) lives s t holds =
    holds-if (is_step x) (stepped test w before e after x) (running_of before e.proc) lives s t (λ l. (refl, refl)) holds

so-ended : (test : Test) (w : WorkloadView) (P : ℕ → List Lock → Type 0) (before : Readings) (e : Event) (r : Readings) → AreSo P r.lives
    → AreSo P (ended test w before e r).lives
so-ended test w P before e r so =
    so-if (list_any is_up e.records) (arisen test w before e r) (running_of r e.proc) P (with_step test w before e r e.records r.lives) (λ l. (refl, refl))
    (so-stepped test w P before e r e.records r.lives so)

pub bare-ended : (test : Test) (w : WorkloadView) (st : ℕ → Standing) (before : Readings) (e : Event) (r : Readings) → AreBare st r.lives
    → AreBare st (ended test w before e r).lives
bare-ended test w st before e r bare = so-ended test w (Bare st) before e r bare

popped-ended : (test : Test) (w : WorkloadView) (before : Readings) (e : Event) (r : Readings) → ArePopped r.lives
    → ArePopped (ended test w before e r).lives
popped-ended test w before e r popped = so-ended test w Popped before e r popped

holds-ended : (test : Test) (w : WorkloadView) (before : Readings) (e : Event) (r : Readings) (s : SpaceNo) (t : ThreadNo) → Holds r.lives s t
    → Holds (ended test w before e r).lives s t
holds-ended test w before e r s t holds =
    holds-if (list_any is_up e.records) (arisen test w before e r) (running_of r e.proc) (with_step test w before e r e.records r.lives) s t (λ l. (refl, refl))
    (holds-stepped test w before e r e.records r.lives s t holds)

-- what is kept: numbers stand in one place each, taken lives have no locks, and who holds a lock in the trace holds it
-- in what is read
pub record AreHeld (past : List Item) (r : Readings) : Type 0 where
  pub st : ℕ → Standing
  pub agrees : Agrees st r
  pub bare : AreBare st r.lives
  pub popped : ArePopped r.lives
  pub holds : (s : SpaceNo) (t : ThreadNo) → HoldsListLock past (length past) s t → Holds r.lives s t

pub record AreHeldIn (p : ProcNo) (past : List Item) (r : Readings) : Type 0 where
  pub held : AreHeld past r
  pub runs : UppedRuns held.st p r

abbrev pub ReadiesNoHolder : List Item → Item → Type 0
ReadiesNoHolder past x = (s : SpaceNo) (t : ThreadNo) → x.what ≡ Ready s t → HoldsListLock past (length past) s t → ⊥

-- a thread that holds a lock after one item more held one before it, or got it there
held-cases : (past : List Item) (x : Item) (s : SpaceNo) (t : ThreadNo) → HoldsListLock (past ++ x ∷ []) (length (past ++ x ∷ [])) s t
    → Begins s t x.what ⊎ (HoldsListLock past (length past) s t × (Frees s t x.what → ⊥))
held-cases past x s t o =
    let len : length (past ++ x ∷ []) ≡ length past + 1 = length-append past (x ∷ []) in
    elim (slice_get-push_cases past o.place x o.item o.at) [
      | inl new ↦ inl (subst (λ (y : Item). Begins s t y.what) new.1 o.begins)
      | inr old ↦
          let within = slice_get_within past o.place o.item old in
          inr (
            record {
              place = o.place;
              before = within;
              item = o.item;
              at = old;
              begins = o.begins;
              kept = λ k y above below at. o.kept k y above (omega arith) (slice_get-append_left past (x ∷ []) k below ∙ at);
            },
            λ frees. o.kept (length past) x within (omega arith) (slice_get-append_seam past [] x) frees,
          )
    ]

abbrev HeldLaw : WorkloadView → ProcNo → RecordLaw
HeldLaw w p r x rest = Moves w p r x rest × HoldersKnown p r x rest

held-step : (w : WorkloadView) (e : ℕ) (p : ProcNo) (past : List Item) (r : Readings) (x : Record) (rest : List Record) → AreHeldIn p past r
    → HeldLaw w p r x rest
    → AreHeldIn p (past ++ item e p x ∷ []) (after_record w e p r x)
held-step w e p past r x rest inv law =
    let h = inv.held in
    let st = h.st in
    let was = stood w p st r x rest h.agrees law.0 in
    record {
      held = record {
        st = standing_after p st x;
        agrees = agrees-step w e p st r x h.agrees was;
        bare = bare-step w p st r x rest h.agrees was law.0 inv.runs h.bare;
        popped = popped-step w p r x rest law.1 h.popped;
        holds = λ s t o. elim (held-cases past (item e p x) s t o) [
          | inl begins ↦ begins-holds w p r x rest s t law.1 begins
          | inr old ↦ elim (holds-step w p st r x rest s t h.agrees was law.0 law.1 inv.runs h.bare h.popped (h.holds s t old.0)) [
            | inl still ↦ still
            | inr frees ↦ absurd (old.1 frees)
          ]
        ];
      };
      runs = upped-step w e p st r x rest was law.0 inv.runs;
    }

holds-lock : (r : Readings) (s : SpaceNo) (t : ThreadNo) → Holds r.lives s t → HoldsLock r s t
holds-lock r s t holds = record {
  act = record { 0 = holds.act };
  life = holds.life;
  is = holds.is;
  space = holds.space;
  lock = holds.has.0;
  among = holds.has.1;
  thread = holds.has.2;
}

held-good : (w : WorkloadView) (e : ℕ) (p : ProcNo) (past : List Item) (r : Readings) (x : Record) (rest : List Record) → AreHeldIn p past r
    → HeldLaw w p r x rest
    → ReadiesNoHolder past (item e p x)
held-good w e p past r (Ready of u) rest inv law s t is o =
    let space : of ≡ s = cc in
    let thread : u ≡ t = cc in
    law.1 (subst (λ v. HoldsLock r of v) (sym thread) (subst (λ v. HoldsLock r v t) (sym space) (holds-lock r s t (inv.held.holds s t o))))
held-good w e p past r x rest inv law s t is o = absurd (cc)

held-kept : (test : Test) (w : WorkloadView) → IsKept test w (HeldLaw w) AreHeld (λ e p. AreHeldIn p) ReadiesNoHolder
held-kept test w = record {
  step = λ e p past r x rest inv law. (held-step w e p past r x rest inv law, held-good w e p past r x rest inv law);
  begins = λ past r e inv. record {
    held = record { st = inv.st; agrees = agrees-begun w inv.st e r inv.agrees; bare = inv.bare; popped = inv.popped; holds = inv.holds };
    runs = λ no_record. absurd (cc);
  };
  ends = λ past before e r inv. record {
    st = inv.held.st;
    agrees = agrees-ended test w inv.held.st before e r inv.held.agrees;
    bare = bare-ended test w inv.held.st before e r inv.held.bare;
    popped = popped-ended test w before e r inv.held.popped;
    holds = λ s t o. holds-ended test w before e r s t (inv.held.holds s t o);
  };
}

held-start : (w : WorkloadView) → AreHeld [] (opening_readings w)
held-start w = record {
  st = nowhere_first;
  agrees = agrees-start w;
  bare = λ n life is. absurd (none-some life is);
  popped = λ n life is. absurd (none-some life is);
  holds = λ s t o. absurd (none-some o.item o.at);
}

held-within : (items : List Item) (j : ℕ) (s : SpaceNo) (t : ThreadNo) → j ≤ length items → HoldsListLock items j s t
    → HoldsListLock (take j items) (length (take j items)) s t
held-within items j s t within o =
    let len = length-take_within items j within in
    let before = o.before in
    record {
      place = o.place;
      before = omega arith;
      item = o.item;
      at = get-take items j o.place before ∙ o.at;
      begins = o.begins;
      kept = λ k x above below at. o.kept k x above (omega arith) (sym (get-take items j k (omega arith)) ∙ at);
    }

pub no-holder-is-ready : (u : UserRules) → KnowsHolders u → (w : WorkloadView) (items : List Item) → IsLegal u w items → NoHolderIsReady items
no-holder-is-ready u needs w items legal j s t stands o =
    let gives : (r : Readings) (e : Event) → IsLawful u w r e → EachRecord (HeldLaw w e.proc) w e.number e.proc (event_begun w e r) e.records =
    λ r e law. each-both (Moves w e.proc) (HoldersKnown e.proc) w e.number e.proc (event_begun w e r) e.records (lawful-moves u needs.tells w r e law)
    (needs.known w r e law) in
    let good = good-at u w items (HeldLaw w) AreHeld (λ e p. AreHeldIn p) ReadiesNoHolder legal (held-kept u.inside w)
    gives (held-start w) j stands.item stands.at in
    let within = slice_get_within items j stands.item stands.at in
    good s t stands.what (held-within items j s t (omega arith) o)
