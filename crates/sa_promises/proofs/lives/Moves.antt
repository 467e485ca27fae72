-- The law of records that change lives holds along each legal run, and with it what is read agrees with where the numbers
-- stand.
use Rattle.std.proofs.Common.{◌≡◌, ℕ, zero, suc, ◌≤◌, refl, sym, ◌∙◌, ap, subst, arith, Some, None, List, [], ◌∷◌, ◌++◌, length, map, true, false}
use Rattle.std.specs.Prelude.{Option, Bool, if◌then◌else◌, replicate, get_or, Contains}
use Rattle.std.specs.List.{list_any}
use Rattle.std.proofs.lemmas.Option.{none-some, same_Some}
use Rattle.sa_base.specs.declared.number.SpaceNo.{SpaceNo}
use Rattle.sa_base.specs.declared.number.ProcNo.{ProcNo}
use Rattle.sa_base.specs.declared.number.ActNo.{ActNo}
use Rattle.sa_base.specs.declared.record.Note.{Note}
use Rattle.sa_base.specs.declared.record.Note.TheVariants as note
use Rattle.sa_base.specs.declared.record.Record.{Record}
use Rattle.sa_base.specs.declared.record.Record.TheVariants.{Run, Stop, Block, Unblock, Ready, Take, Free, Up, Told, Want, Aim, Line, GiveBack}
use Rattle.sa_spaces.specs.Workload.{WorkloadView}
use Rattle.sa_assign.specs.Aims.{Change}
use Rattle.sa_assign.specs.Reaim.{records_of, line_at, lines_with, line_records, proc_no}
use Rattle.sa_laws.specs.Event.{Event}
use Rattle.sa_laws.specs.Life.{Life}
use Rattle.sa_laws.specs.Readings.{Readings, opening_readings, running_of, space_of_life}
use Rattle.sa_laws.specs.Record.{after_record, with_life}
use Rattle.sa_laws.specs.History.{Test, event_begun, after_records, is_step, is_up, with_step, ended, stepped, arisen}
use Rattle.sa_laws.specs.Step.{Needs, AreSteps}
use Rattle.sa_laws.specs.Upcalls.{EachRecord, IsUntoldTo, TellsOnce, NamesTheLife, TellsAllThen}
use Rattle.sa_laws.specs.Closing.{spaces_of, want_one, aims_due}
use Rattle.sa_laws.specs.Opening.{first_wants, opening_records}
use Rattle.sa_laws.specs.Shape.{own_part}
use Rattle.sa_laws.specs.Rules.{UserRules, IsLawful}
use Rattle.sa_promises.specs.Needs.{is_telling, ToldBehindUps, TellsBehindUps, ListsApart, HoldersKnown}
use Rattle.sa_promises.proofs.lives.Standing.{Standing, Nowhere, Runs, Blocked, space_in, Stood, Agrees, space_of, space-with}
use Rattle.sa_promises.proofs.lives.Shapes.{AnyMoves, Moves, any-moves, told-moves, Guards, fits, AllFit, FirstOf, IsShaped, fits-want, fits-aim, fits-line, whole-shaped, turn-shaped}

-- the opening has wants, aims and lines alone
abbrev pub is_calm : Record → Bool
is_calm (Want s n) = true
is_calm (Aim p s) = true
is_calm (Line p) = true
is_calm _ = false

abbrev pub AreCalm : List Record → Type 0
AreCalm [] = Unit {0}
AreCalm (x ∷ xs) = (is_calm x ≡ true) × AreCalm xs

calm-fit : (last : Option Record) (xs : List Record) → AreCalm xs → AllFit last xs
calm-fit last [] calm = tt
calm-fit last (Want s n ∷ xs) calm = (fits-want last s n, calm-fit (Some (Want s n)) xs calm.1)
calm-fit last (Aim p s ∷ xs) calm = (fits-aim last p s, calm-fit (Some (Aim p s)) xs calm.1)
calm-fit last (Line p ∷ xs) calm = (fits-line last p, calm-fit (Some (Line p)) xs calm.1)
calm-fit last (x ∷ xs) calm = absurd (let clash = calm.0 in cc)

calm-first : (p : ProcNo) (r : Readings) (xs : List Record) → AreCalm xs → FirstOf p r xs
calm-first p r [] calm = tt
calm-first p r (Want s n ∷ xs) calm = (tt, tt)
calm-first p r (Aim q s ∷ xs) calm = (tt, tt)
calm-first p r (Line q ∷ xs) calm = (tt, tt)
calm-first p r (x ∷ xs) calm = absurd (let clash = calm.0 in cc)

pub calm-append : (xs ys : List Record) → AreCalm xs → AreCalm ys → AreCalm (xs ++ ys)
calm-append [] ys left right = right
calm-append (x ∷ xs) ys left right = (left.0, calm-append xs ys left.1 right)

pub calm-wants : (spaces : List SpaceNo) → AreCalm (map want_one spaces)
calm-wants [] = tt
calm-wants (s ∷ ss) = (refl, calm-wants ss)

pub calm-line : (p : ℕ) (line : Option ℕ) → AreCalm (line_records p line)
calm-line p None = (refl, tt)
calm-line p (Some e) = tt

pub calm-aims : (e : ℕ) (lines : List (Option ℕ)) (cs : List Change) → AreCalm (records_of e lines cs)
calm-aims e lines [] = tt
calm-aims e lines (c ∷ cs) = (
  refl,
  calm-append (line_records c.proc (line_at lines c.proc)) (records_of e (lines_with e lines c) cs) (calm-line c.proc (line_at lines c.proc))
      (calm-aims e (lines_with e lines c) cs),
)

pub calm-opening : (w : WorkloadView) → AreCalm (opening_records w)
calm-opening w =
    let wanting = after_records w 0 (proc_no 0) (opening_readings w) (first_wants w) in
    calm-append (first_wants w) (records_of 0 wanting.lines (aims_due w 0 wanting)) (calm-wants (spaces_of w))
    (calm-aims 0 wanting.lines (aims_due w 0 wanting))

-- the records of a lawful event are in their places, where those of a user level's turns are
pub event-shaped : (u : UserRules) (w : WorkloadView) (r : Readings) (e : Event)
    → (1 ≤ e.number → u.Steps w (event_begun w e r) e.proc (own_part e.records) → IsShaped e.proc (event_begun w e r) (own_part e.records))
    → IsLawful u w r e → IsShaped e.proc (event_begun w e r) e.records
event-shaped u w r e shapes law = one e.number refl where
  one : (n : ℕ) → e.number ≡ n → IsShaped e.proc (event_begun w e r) e.records
  one zero is =
      let same = ap (λ (f : Event). f.records) (law.numbered.opening is) in
      let calm : AreCalm e.records = subst AreCalm (sym same) (calm-opening w) in
      (calm-fit None e.records calm, calm-first e.proc (event_begun w e r) e.records calm)
  one (suc n) is =
      let later : 1 ≤ e.number = omega arith in
      let turns = law.turns_taken in
      whole-shaped e.proc (event_begun w e r) e.records
      (turn-shaped u.Steps w (event_begun w e r) e.proc e.number _ (own_part e.records) (shapes later) (turns.turn later)) (turns.closing later)

-- so told records come behind ups, and each record is guarded
pub told-each : (w : WorkloadView) (e : ℕ) (p : ProcNo) (r : Readings) (xs : List Record) (last : Option Record) → r.last ≡ last → AllFit last xs
    → EachRecord ToldBehindUps w e p r xs
told-each w e p r [] last is fit = tt
told-each w e p r (x ∷ xs) last is fit = (one x last is fit.0, told-each w e p (after_record w e p r x) xs (Some x) refl fit.1) where
  one : (y : Record) (before : Option Record) → r.last ≡ before → fits before y ≡ true → ToldBehindUps r y xs
  one (Told n) None at fits = absurd (cc)
  one (Told n) (Some z) at fits = ap is_telling at ∙ fits
  one y before at fits = tt

later-guards : (p : ProcNo) (r : Readings) (y x : Record) (xs : List Record) → fits (Some y) x ≡ true → Guards p r x xs
later-guards p r y (Run s t) xs fit = absurd (cc)
later-guards p r y (Ready s t) xs fit = absurd (cc)
later-guards p r y (Take s l t) xs fit = absurd (cc)
later-guards p r y (Free s l t) xs fit = absurd (cc)
later-guards p r y x xs fit = (tt, tt)

later-first : (p : ProcNo) (r : Readings) (y : Record) (xs : List Record) → AllFit (Some y) xs → FirstOf p r xs
later-first p r y [] fit = tt
later-first p r y (x ∷ xs) fit = later-guards p r y x xs fit.0

pub guards-each : (w : WorkloadView) (e : ℕ) (p : ProcNo) (r : Readings) (xs : List Record) (last : Option Record) → AllFit last xs → FirstOf p r xs
    → EachRecord (ListsApart p) w e p r xs × EachRecord (HoldersKnown p) w e p r xs
guards-each w e p r [] last fit first = (tt, tt)
guards-each w e p r (x ∷ xs) last fit first =
    let after = after_record w e p r x in
    let more = guards-each w e p after xs (Some x) fit.1 (later-first p after x xs fit.1) in
    ((first.0, more.0), (first.1, more.1))

-- each record of a lawful event may change what it changes
moves-one : (w : WorkloadView) (p : ProcNo) (r : Readings) (x : Record) (rest : List Record) → NamesTheLife p r x rest → TellsAllThen p r x rest
    → TellsOnce r x rest → Needs w p r x → AnyMoves w p r x rest
moves-one w p r (Stop s t a) rest named tells once needs = named
moves-one w p r (Block s t a io) rest named tells once needs = named
moves-one w p r (Unblock s t a) rest named tells once needs = (needs.io, ap space_of needs.is ∙ ap Some needs.space)
moves-one w p r (Up s a) rest named tells once needs = (named, tells.fresh)
moves-one w p r (Told n) rest named tells once needs = once
moves-one w p r (GiveBack a) rest named tells once needs = tells
moves-one w p r x rest named tells once needs = tt

moves-each : (w : WorkloadView) (e : ℕ) (p : ProcNo) (r : Readings) (xs : List Record)
    → EachRecord (NamesTheLife p) w e p r xs → EachRecord (TellsAllThen p) w e p r xs → EachRecord TellsOnce w e p r xs → AreSteps w e p r xs
    → EachRecord (AnyMoves w p) w e p r xs
moves-each w e p r [] named tells once steps = tt
moves-each w e p r (x ∷ xs) named tells once steps = (
  moves-one w p r x xs named.0 tells.0 once.0 steps.0,
  moves-each w e p (after_record w e p r x) xs named.1 tells.1 once.1 steps.1,
)

pub lawful-any : (u : UserRules) (w : WorkloadView) (r : Readings) (e : Event) → IsLawful u w r e
    → EachRecord (AnyMoves w e.proc) w e.number e.proc (event_begun w e r) e.records
lawful-any u w r e law =
    moves-each w e.number e.proc (event_begun w e r) e.records law.where_owned.named law.all_told.told law.told_once.told law.stepwise.steps

-- and where told records come behind ups
told-each-moves : (w : WorkloadView) (e : ℕ) (p : ProcNo) (r : Readings) (xs : List Record) → EachRecord (AnyMoves w p) w e p r xs
    → EachRecord ToldBehindUps w e p r xs → EachRecord (Moves w p) w e p r xs
told-each-moves w e p r [] moves told = tt
told-each-moves w e p r (x ∷ xs) moves told =
    (told-moves w p r x xs moves.0 told.0, told-each-moves w e p (after_record w e p r x) xs moves.1 told.1)

pub lawful-moves : (u : UserRules) → TellsBehindUps u → (w : WorkloadView) (r : Readings) (e : Event) → IsLawful u w r e
    → EachRecord (Moves w e.proc) w e.number e.proc (event_begun w e r) e.records
lawful-moves u needs w r e law =
    told-each-moves w e.number e.proc (event_begun w e r) e.records (lawful-any u w r e law) (needs.told w r e law)

-- where the number of such a record stood
nowhere : (x : Standing) → space_in x ≡ None → x ≡ Nowhere
nowhere Nowhere is = refl
nowhere _ is = absurd (cc)

its-space : (st : ℕ → Standing) (r : Readings) (a : ActNo) (s t : SpaceNo) (x : Standing) → Agrees st r → space_of_life r (Some a) ≡ Some s → st a.0 ≡ x
    → space_in x ≡ Some t → t ≡ s
its-space st r a s t x agrees space is in_it = same_Some t s (sym in_it ∙ ap space_in (sym is) ∙ sym (agrees.lives a) ∙ space)

pub stood-any : (w : WorkloadView) (p : ProcNo) (st : ℕ → Standing) (r : Readings) (x : Record) (rest : List Record) → Agrees st r
    → AnyMoves w p r x rest → Stood p st x
stood-any w p st r (Stop s t a) rest agrees law =
    let there = agrees.running p a law.act in there.1 ∙ ap (λ u. Runs u p) (its-space st r a s there.0 (Runs there.0 p) agrees law.space there.1 refl)
stood-any w p st r (Block s t a io) rest agrees law =
    let there = agrees.running p a law.act in there.1 ∙ ap (λ u. Runs u p) (its-space st r a s there.0 (Runs there.0 p) agrees law.space there.1 refl)
stood-any w p st r (Unblock s t a) rest agrees law =
    let there = agrees.blocked a law.0 in there.1 ∙ ap Blocked (its-space st r a s there.0 (Blocked there.0) agrees law.1 there.1 refl)
stood-any w p st r (Up s a) rest agrees law = nowhere (st a.0) (sym (agrees.lives a) ∙ ap space_of law.1)
stood-any w p st r (Told n) rest agrees law = told n (space_of_life r r.upped) law where
  told : (m : Note) (u : Option SpaceNo) → IsUntoldTo r u m → Stood p st (Told m)
  told (note.Add q) u is = tt
  told (note.Blocked a) u is = tt
  told (note.Preempted a) None is = absurd is
  told (note.Preempted a) (Some s) is = (s, agrees.stopped s a is)
  told (note.Unblocked a) None is = absurd is
  told (note.Unblocked a) (Some s) is = (s, agrees.returned s a is)
stood-any w p st r (GiveBack a) rest agrees law = (law.life.space, agrees.taken law.life.space a law.taken)
stood-any w p st r x rest agrees law = tt

pub stood : (w : WorkloadView) (p : ProcNo) (st : ℕ → Standing) (r : Readings) (x : Record) (rest : List Record) → Agrees st r
    → Moves w p r x rest → Stood p st x
stood w p st r x rest agrees law = stood-any w p st r x rest agrees (any-moves w p r x rest law)

-- at the end of an event nothing of it changes
pub space-ended : (test : Test) (w : WorkloadView) (before : Readings) (e : Event) (r : Readings) (a : ℕ)
    → space_of ((ended test w before e r).lives a) ≡ space_of (r.lives a)
space-ended test w before e r a = up (list_any is_up e.records) ∙ step e.records where
  if-same : (b : Bool) (f : Life → Life) (n : Option ActNo) (lives : ℕ → Option Life) → ((l : Life) → (f l).space ≡ l.space)
      → space_of ((if b then with_life f n lives else lives) a) ≡ space_of (lives a)
  if-same true f n lives same = space-with f n lives a same
  if-same false f n lives same = refl

  step : (xs : List Record) → space_of (with_step test w before e r xs r.lives a) ≡ space_of (r.lives a)
  step [] = refl
  step (x ∷ xs) = if-same (is_step x) (stepped test w before e r x) (running_of before e.proc) r.lives (λ l. refl)

  up : (b : Bool) → space_of ((if b then with_life (arisen test w before e r) (running_of r e.proc) (with_step test w before e r e.records r.lives)
      else with_step test w before e r e.records r.lives) a)
      ≡ space_of (with_step test w before e r e.records r.lives a)
  up b = if-same b (arisen test w before e r) (running_of r e.proc) (with_step test w before e r e.records r.lives) (λ l. refl)

pub agrees-ended : (test : Test) (w : WorkloadView) (st : ℕ → Standing) (before : Readings) (e : Event) (r : Readings) → Agrees st r
    → Agrees st (ended test w before e r)
agrees-ended test w st before e r agrees = record {
  lives = λ a. space-ended test w before e r a.0 ∙ agrees.lives a;
  running = agrees.running;
  blocked = agrees.blocked;
  stopped = agrees.stopped;
  returned = agrees.returned;
  taken = agrees.taken;
}

pub agrees-begun : (w : WorkloadView) (st : ℕ → Standing) (e : Event) (r : Readings) → Agrees st r → Agrees st (event_begun w e r)
agrees-begun w st e r agrees = record {
  lives = agrees.lives;
  running = agrees.running;
  blocked = agrees.blocked;
  stopped = agrees.stopped;
  returned = agrees.returned;
  taken = agrees.taken;
}

-- before any record each number is in nobody's use
nobody-runs : (n k : ℕ) (a : ActNo) → get_or (replicate n None) k None ≡ Some a → ⊥
nobody-runs zero k a is = none-some a is
nobody-runs (suc n) zero a is = none-some a is
nobody-runs (suc n) (suc k) a is = nobody-runs n k a is

pub nothing-in : {A : Type 0} (n k : ℕ) (z : A) → Contains (get_or (replicate n []) k []) z → ⊥
nothing-in zero k z has = let h = has in omega (arith, h.1)
nothing-in (suc n) zero z has = let h = has in omega (arith, h.1)
nothing-in (suc n) (suc k) z has = nothing-in n k z has

abbrev pub nowhere_first : ℕ → Standing
nowhere_first n = Nowhere

pub agrees-start : (w : WorkloadView) → Agrees nowhere_first (opening_readings w)
agrees-start w = record {
  lives = λ a. refl;
  running = λ p a is. absurd (nobody-runs w.processors p.0 a is);
  blocked = λ a is. absurd (cc);
  stopped = λ s a has. absurd (nothing-in (length w.spaces) s.0 (note.Preempted a) has);
  returned = λ s a has. absurd (nothing-in (length w.spaces) s.0 (note.Unblocked a) has);
  taken = λ s a has. absurd (nothing-in (length w.spaces) s.0 a has);
}
