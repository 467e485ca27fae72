-- In a legal run of a user level that keeps lists apart each locked list is among the locks of one life.
use Rattle.std.proofs.Common.{◌≡◌, ◌≢◌, ℕ, ◌⊎◌, inl, inr, refl, sym, ◌∙◌, ap, subst, arith, Some, None, List, [], ◌∷◌, map, true, false}
use Rattle.std.specs.Prelude.{Option, Bool, ◌==◌, ◌&&◌, if◌then◌else◌, Contains}
use Rattle.std.specs.List.{list_any}
use Rattle.std.specs.Option.{option_map}
use Rattle.std.proofs.lemmas.Bool.{cases_eq}
use Rattle.std.proofs.lemmas.Bool.Decides.{nat_tests}
use Rattle.std.proofs.lemmas.List.Elements.{Contains-push_cases, Contains-append_right, Contains-append_cases}
use Rattle.std.proofs.lemmas.Option.{none-some, same_Some}
use Rattle.sa_lemmas.proofs.FunctionUpdates.{put-at, put-other}
use Rattle.sa_base.specs.declared.number.SpaceNo.{SpaceNo}
use Rattle.sa_base.specs.declared.number.ProcNo.{ProcNo}
use Rattle.sa_base.specs.declared.number.ThreadNo.{ThreadNo}
use Rattle.sa_base.specs.declared.number.ActNo.{ActNo}
use Rattle.sa_base.specs.declared.record.Note.TheVariants as note
use Rattle.sa_base.specs.declared.record.Record.{Record}
use Rattle.sa_base.specs.declared.record.Record.TheVariants.{Ins, Run, Stop, Block, Unblock, Cont, Back, Ready, Take, Free, Up, Told, GiveBack}
use Rattle.sa_spaces.specs.Workload.{WorkloadView}
use Rattle.sa_lemmas.proofs.Membership.{contains-single, contains-nil}
use Rattle.sa_laws.specs.Event.{Event}
use Rattle.sa_laws.specs.Machine.{next_effect}
use Rattle.sa_laws.specs.Life.{Life, Lock, with_hand, without_lock, with_first, with_cont, change_first, ran, readied, held_with, inherits, inherited, bereft, new_life}
use Rattle.sa_laws.specs.Readings.{Readings, IsLocked, life_of, running_of, space_of_life}
use Rattle.sa_laws.specs.Record.{with_life, handed, lives_after, stopped_with, back_with, made_ready, one_thread, locks, lock_for}
use Rattle.sa_laws.specs.History.{Test, is_step, is_up, with_step, ended, stepped, arisen}
use Rattle.sa_promises.specs.Needs.{TakesFree, ListsApart}
use Rattle.sa_promises.proofs.lives.Standing.{Standing, Stopped, Returned, space_in, Stood, Agrees, space_of}
use Rattle.sa_promises.proofs.lives.Shapes.{Moves}
use Rattle.sa_promises.proofs.lives.Holders.{UppedRuns, LocksOnly, on-life, drop-has, map-cases, apart-told, told-space, has-life, some-life}

-- the life that has a list of a space among its locks is the one that is named for it
abbrev pub IsNamed : (ℕ → ℕ → ℕ) → ℕ → Life → Type 0
IsNamed who n life = (lock : Lock) → Contains life.locks lock → who life.space.0 lock.list.0 ≡ n

abbrev pub AreNamed : (ℕ → ℕ → ℕ) → (ℕ → Option Life) → Type 0
AreNamed who lives = (n : ℕ) (life : Life) → lives n ≡ Some life → IsNamed who n life

named-with : (f : Life → Life) (b : Option ActNo) (who new : ℕ → ℕ → ℕ) (lives : ℕ → Option Life)
    → ((n : ℕ) (life : Life) → lives n ≡ Some life → ((a : ActNo) → b ≡ Some a → n ≢ a.0) → IsNamed who n life → IsNamed new n life)
    → ((a : ActNo) (life : Life) → b ≡ Some a → lives a.0 ≡ Some life → IsNamed who a.0 life → IsNamed new a.0 (f life))
    → AreNamed who lives → AreNamed new (with_life f b lives)
named-with f None who new lives others own named n life is = others n life is (λ a never. absurd (none-some a never)) (named n life is)
named-with f (Some b) who new lives others own named n life is = elim (cases_eq n b.0) [
  | inr apart ↦
      let old : lives n ≡ Some life = sym (put-other lives b.0 n (option_map f (lives b.0)) apart) ∙ is in
      others n life old (λ a same at. apart (at ∙ ap (λ (c : ActNo). c.0) (sym (same_Some b a same)))) (named n life old)
  | inl at ↦ subst (λ m. IsNamed new m life) (sym at) (there (lives b.0) refl (sym (put-at lives b.0 n (option_map f (lives b.0)) at) ∙ is))
] where
  there : (o : Option Life) → lives b.0 ≡ o → option_map f o ≡ Some life → IsNamed new b.0 life
  there None was some = absurd (none-some life some)
  there (Some l) was some = subst (λ (k : Life). IsNamed new b.0 k) (same_Some (f l) life some) (own b l refl was (named b.0 l was))

-- a life gets no lock of another list
abbrev AddsNone : (Life → Life) → Type 0
AddsNone f = (l : Life) (lock : Lock) → Contains (f l).locks lock → (k : Lock) × Contains l.locks k × (k.list ≡ lock.list)

named-fewer : (f : Life → Life) (b : Option ActNo) (who : ℕ → ℕ → ℕ) (lives : ℕ → Option Life) → ((l : Life) → (f l).space ≡ l.space) → AddsNone f
    → AreNamed who lives
    → AreNamed who (with_life f b lives)
named-fewer f b who lives same fewer = named-with f b who who lives (λ n life is other k. k)
    (λ a life at is k lock has.
    let old = fewer life lock has in
    ap (λ (x : ProcNo). who (f life).space.0 x.0) (sym old.2) ∙ ap (λ (x : SpaceNo). who x.0 old.0.list.0) (same life) ∙ k old.0 old.1)

same-locks : (ls : List Lock) (lock : Lock) → Contains ls lock → (k : Lock) × Contains ls k × (k.list ≡ lock.list)
same-locks ls lock has = (lock, has, refl)

first-fewer : (f : Lock → Lock) (ls : List Lock) (lock : Lock) → ((l : Lock) → (f l).list ≡ l.list) → Contains (change_first f ls) lock
    → (k : Lock) × Contains ls k × (k.list ≡ lock.list)
first-fewer f [] lock same has = absurd (contains-nil lock has)
first-fewer f (l ∷ ls) lock same has = elim (Contains-append_cases (f l ∷ []) ls lock has) [
  | inl first ↦ (l, (0, omega arith, refl), sym (same l) ∙ ap (λ (k : Lock). k.list) (contains-single (f l) lock first))
  | inr later ↦ (lock, Contains-append_right (l ∷ []) ls lock later, refl)
]

-- a take names its life for its list
take_who : ℕ → ℕ → ℕ → (ℕ → ℕ → ℕ) → ℕ → ℕ → ℕ
take_who s l a who t m = if t == s && m == l then a else who t m

take-here : (s l a : ℕ) (who : ℕ → ℕ → ℕ) → take_who s l a who s l ≡ a
unfolding take_who
take-here s l a who = grind (arith, nat_tests)

take-cases : (s l a : ℕ) (who : ℕ → ℕ → ℕ) (t m : ℕ) → (take_who s l a who t m ≡ who t m) ⊎ ((t ≡ s) × (m ≡ l) × (take_who s l a who t m ≡ a))
unfolding take_who
take-cases s l a who t m = one (t == s) (m == l) refl refl where
  same : (x y : ℕ) → (x == y) ≡ true → x ≡ y
  same x y is = grind (arith, nat_tests)

  one : (b c : Bool) → (t == s) ≡ b → (m == l) ≡ c → ((if b && c then a else who t m) ≡ who t m) ⊎ ((t ≡ s) × (m ≡ l) × ((if b && c then a else who t m) ≡ a))
  one true true left right = inr (same t s left, same m l right, refl)
  one true false left right = inl refl
  one false c left right = inl refl

named-take : (w : WorkloadView) (p : ProcNo) (r : Readings) (s : SpaceNo) (l : ProcNo) (t : Option ThreadNo) (a : ActNo) (who : ℕ → ℕ → ℕ)
    → running_of r p ≡ Some a
    → ((life : Life) → r.lives a.0 ≡ Some life → TakesFree r s l life) → (IsLocked r s l → ⊥) → AreNamed who r.lives
    → AreNamed (take_who s.0 l.0 a.0 who) (with_life (locks r p l t) (running_of r p) r.lives)
named-take w p r s l t a who runs can unlocked named = named-with (locks r p l t) (running_of r p) who (take_who s.0 l.0 a.0 who) r.lives
    (λ n life is other k lock has. elim (take-cases s.0 l.0 a.0 who life.space.0 lock.list.0) [
      | inl kept ↦ kept ∙ k lock has
      | inr clash ↦ absurd (unlocked (record {
        act = record { 0 = n };
        life = life;
        is = is;
        has = record { space = ap (λ m. record { 0 = m }) clash.0; lock = lock; among = has; list = ap (λ m. record { 0 = m }) clash.1 };
      }))
    ])
    (λ b life at is k lock has.
    let same : b ≡ a = same_Some b a (sym at ∙ runs) in
    let number : b.0 ≡ a.0 = ap (λ (c : ActNo). c.0) same in
    elim (Contains-push_cases life.locks (lock_for r p l t life) lock has) [
      | inl old ↦ elim (take-cases s.0 l.0 a.0 who life.space.0 lock.list.0) [
        | inl kept ↦ kept ∙ k lock old
        | inr here ↦ here.2 ∙ sym number
      ]
      | inr new ↦
          let law = can life (ap r.lives (sym number) ∙ is) in
          let space : life.space.0 ≡ s.0 = ap (λ (c : SpaceNo). c.0) (sym law.space) in
          let list : lock.list.0 ≡ l.0 = ap (λ (c : Lock). c.list.0) (sym new) in
          ap (λ m. take_who s.0 l.0 a.0 who m lock.list.0) space ∙ ap (λ m. take_who s.0 l.0 a.0 who s.0 m) list ∙ take-here s.0 l.0 a.0 who ∙ sym number
    ]) named

-- the lists of a told life go to the life of the up
hand_who : ℕ → ℕ → (ℕ → ℕ → ℕ) → ℕ → ℕ → ℕ
hand_who a u who t m = if who t m == a then u else who t m

hand-from : (a u : ℕ) (who : ℕ → ℕ → ℕ) (t m : ℕ) → who t m ≡ a → hand_who a u who t m ≡ u
unfolding hand_who
hand-from a u who t m is = grind (arith, nat_tests)

hand-other : (a u n : ℕ) (who : ℕ → ℕ → ℕ) (t m : ℕ) → who t m ≡ n → n ≢ a → hand_who a u who t m ≡ n
unfolding hand_who
hand-other a u n who t m is apart = grind (arith, nat_tests)

named-handed : (r : Readings) (a u : ActNo) (of : SpaceNo) (who : ℕ → ℕ → ℕ) (from : Option Life) → r.upped ≡ Some u → u.0 ≢ a.0 → life_of r a ≡ from
    → space_of (r.lives a.0) ≡ Some of → space_of (r.lives u.0) ≡ Some of → AreNamed who r.lives
    → AreNamed (hand_who a.0 u.0 who) (handed r.upped a from r.lives)
named-handed r a u of who None upped apart is space other named = absurd (none-some of (ap space_of (sym is) ∙ space))
named-handed r a u of who (Some from) upped apart is space other named =
    let new = hand_who a.0 u.0 who in
    let bereaved : AreNamed new (with_life bereft (Some a) r.lives) = named-with bereft (Some a) who new r.lives
    (λ n life old away k lock has. hand-other a.0 u.0 n who life.space.0 lock.list.0 (k lock has) (away a refl))
    (λ b life at old k lock has. absurd (contains-nil lock has)) named in
    let owner : from.space ≡ of = same_Some from.space of (ap space_of (sym is) ∙ space) in
    named-with (inherits from) r.upped new new (with_life bereft (Some a) r.lives) (λ n life old away k. k)
    (λ b life at old k lock has.
    let same : b.0 ≡ u.0 = ap (λ (c : ActNo). c.0) (same_Some b u (sym at ∙ upped)) in
    elim (Contains-append_cases life.locks (map inherited from.locks) lock has) [
      | inl own ↦ k lock own
      | inr got ↦
          let old_lock = map-cases from.locks lock got in
          let heir = has-life r.lives u.0 of (r.lives u.0) refl other in
          let there : r.lives u.0 ≡ Some life =
          sym (put-other r.lives a.0 u.0 (option_map bereft (r.lives a.0)) apart) ∙ ap (λ m. with_life bereft (Some a) r.lives m) (sym same) ∙ old in
          let one : heir.0 ≡ life = same_Some heir.0 life (sym heir.1 ∙ there) in
          let spaces : life.space.0 ≡ from.space.0 = ap (λ (c : Life). c.space.0) (sym one) ∙ ap (λ (c : SpaceNo). c.0) (heir.2 ∙ sym owner) in
          let lists : lock.list.0 ≡ old_lock.0.list.0 = ap (λ (c : Lock). c.list.0) (sym old_lock.2) in
          let mine : who from.space.0 old_lock.0.list.0 ≡ a.0 = named a.0 from is old_lock.0 old_lock.1 in
          hand-from a.0 u.0 who life.space.0 lock.list.0 (ap (λ m. who m lock.list.0) spaces ∙ ap (λ m. who from.space.0 m) lists ∙ mine) ∙ sym same
    ]) bereaved

abbrev pub SomeNamed : (ℕ → Option Life) → Type 0
SomeNamed lives = (who : ℕ → ℕ → ℕ) × AreNamed who lives

pub named-step : (w : WorkloadView) (p : ProcNo) (st : ℕ → Standing) (r : Readings) (x : Record) (rest : List Record) → Agrees st r → Stood p st x
    → Moves w p r x rest → ListsApart p r x rest → UppedRuns st p r
    → SomeNamed r.lives → SomeNamed (lives_after w p r x)
named-step w p st r (Ins s t i) rest agrees was law apart runs named =
    (named.0, named-fewer (with_hand (next_effect w r.state s t).roused) (running_of r p) named.0 r.lives (λ l. refl) (λ l. same-locks l.locks) named.1)
named-step w p st r (Run s t) rest agrees was law apart runs named =
    (named.0, named-fewer (with_first (ran t)) (running_of r p) named.0 r.lives (λ l. refl) (λ l lock. first-fewer (ran t) l.locks lock (λ k. refl)) named.1)
named-step w p st r (Stop s t a) rest agrees was law apart runs named =
    (named.0, named-fewer (stopped_with t) (Some a) named.0 r.lives (λ l. refl) (λ l. same-locks l.locks) named.1)
named-step w p st r (Block s t a io) rest agrees was law apart runs named =
    (named.0, named-fewer (held_with t) (Some a) named.0 r.lives (λ l. refl) (λ l. same-locks l.locks) named.1)
named-step w p st r (Unblock s t a) rest agrees was law apart runs named =
    (named.0, named-fewer (with_hand (one_thread t)) (Some a) named.0 r.lives (λ l. refl) (λ l. same-locks l.locks) named.1)
named-step w p st r (Cont s t) rest agrees was law apart runs named =
    (named.0, named-fewer (with_cont true) (running_of r p) named.0 r.lives (λ l. refl) (λ l. same-locks l.locks) named.1)
named-step w p st r (Back s t) rest agrees was law apart runs named =
    (named.0, named-fewer (back_with t) (running_of r p) named.0 r.lives (λ l. refl) (λ l. same-locks l.locks) named.1)
named-step w p st r (Ready s t) rest agrees was law apart runs named =
    (named.0, named-fewer (made_ready t) (running_of r p) named.0 r.lives (λ l. refl) (λ l lock. first-fewer readied l.locks lock (λ k. refl)) named.1)
named-step w p st r (Take s l t) rest agrees was law apart runs named =
    let on = some-life r p (running_of r p) apart.0 refl apart.1 in (
      take_who s.0 l.0 on.0.0 named.0,
      named-take w p r s l t on.0 named.0 on.1
          (λ life is. subst (λ (m : Life). TakesFree r s l m) (sym (on-life r p on.0 life apart.0 on.1 is apart.1)) apart.2) apart.2.unlocked named.1,
    )
named-step w p st r (Free s l t) rest agrees was law apart runs named =
    (named.0, named-fewer without_lock (running_of r p) named.0 r.lives (λ m. refl) (λ m lock has. (lock, drop-has m.locks lock has, refl)) named.1)
named-step w p st r (Up s a) rest agrees was law apart runs named = (
  named.0,
  λ n life at. elim (cases_eq n a.0) [
    | inl same ↦
        let new : new_life s p ≡ life = same_Some (new_life s p) life (sym (put-at r.lives a.0 n (Some (new_life s p)) same) ∙ at) in
        λ lock has. absurd (contains-nil lock (subst (λ (m : Life). Contains m.locks lock) (sym new) has))
    | inr other ↦ named.1 n life (sym (put-other r.lives a.0 n (Some (new_life s p)) other) ∙ at)
  ],
)
named-step w p st r (Told (note.Preempted a)) rest agrees was law apart runs named =
    let up = runs law.1 in
    let told = told-space r up.0 (note.Preempted a) (space_of_life r r.upped) up.1 refl law.0 (λ q e. cc) in
    let space : space_of (r.lives a.0) ≡ Some told.0 = agrees.lives a ∙ ap space_in (agrees.stopped told.0 a told.2) in (
      hand_who a.0 up.0.0 named.0,
      named-handed r a up.0 told.0 named.0 (life_of r a) up.1
          (apart-told st a.0 up.0.0 up.2 was.0 p (Stopped was.0) up.3 was.1 (λ e. cc)) refl space told.1 named.1,
    )
named-step w p st r (Told (note.Unblocked a)) rest agrees was law apart runs named =
    let up = runs law.1 in
    let told = told-space r up.0 (note.Unblocked a) (space_of_life r r.upped) up.1 refl law.0 (λ q e. cc) in
    let space : space_of (r.lives a.0) ≡ Some told.0 = agrees.lives a ∙ ap space_in (agrees.returned told.0 a told.2) in (
      hand_who a.0 up.0.0 named.0,
      named-handed r a up.0 told.0 named.0 (life_of r a) up.1
          (apart-told st a.0 up.0.0 up.2 was.0 p (Returned was.0) up.3 was.1 (λ e. cc)) refl space told.1 named.1,
    )
named-step w p st r (Told (note.Add q)) rest agrees was law apart runs named = named
named-step w p st r (Told (note.Blocked a)) rest agrees was law apart runs named = named
named-step w p st r (GiveBack a) rest agrees was law apart runs named = (
  named.0,
  λ n life at. elim (cases_eq n a.0) [
    | inl same ↦ absurd (none-some life (sym (put-at r.lives a.0 n None same) ∙ at))
    | inr other ↦ named.1 n life (sym (put-other r.lives a.0 n None other) ∙ at)
  ],
)
named-step w p st r x rest agrees was law apart runs named = named

-- at the end of an event
named-if : (b : Bool) (f : Life → Life) (n : Option ActNo) (who : ℕ → ℕ → ℕ) (lives : ℕ → Option Life) → LocksOnly f → AreNamed who lives
    → AreNamed who (if b then with_life f n lives else lives)
named-if true f n who lives same named =
    named-fewer f n who lives (λ l. (same l).1) (λ l lock has. (lock, subst (λ (ls : List Lock). Contains ls lock) (same l).0 has, refl)) named
named-if false f n who lives same named = named

named-stepped : (test : Test) (w : WorkloadView) (who : ℕ → ℕ → ℕ) (before : Readings) (e : Event) (after : Readings) (xs : List Record) (lives : ℕ
    → Option Life)
    → AreNamed who lives → AreNamed who (with_step test w before e after xs lives)
named-stepped test w who before e after [] lives named = named
named-stepped test w who before e after (x ∷ xs) lives named =
    named-if (is_step x) (stepped test w before e after x) (running_of before e.proc) who lives (λ l. (refl, refl)) named

pub named-ended : (test : Test) (w : WorkloadView) (before : Readings) (e : Event) (r : Readings) → SomeNamed r.lives
    → SomeNamed (ended test w before e r).lives
named-ended test w before e r named = (
  named.0,
  named-if (list_any is_up e.records) (arisen test w before e r) (running_of r e.proc) named.0 (with_step test w before e r e.records r.lives)
      (λ l. (refl, refl))
      (named-stepped test w named.0 before e r e.records r.lives named.1),
)
