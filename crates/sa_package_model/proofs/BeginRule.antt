-- All stands at the opening, stays so at later events, with a fresh context, and where a context settles.
use Rattle.std.proofs.Common.{◌≡◌, ◌≢◌, ℕ, suc, ◌+◌, ◌≤◌, Bool, true, false, cond, List, [], length, map, set, replicate, get_or, Some, None, refl, sym, ap, ◌∙◌, subst, inl, inr, arith}
use Rattle.std.specs.Prelude.{All}
use Rattle.std.proofs.lemmas.Bool.{cases_eq, cases_lt}
use Rattle.std.proofs.lemmas.Bool.Decides.{nat_tests}
use Rattle.std.proofs.lemmas.List.{length-set, length-map, length-replicate, get_or-map, get_or_past, get_or-set_same, get_or-set_other}
use Rattle.std.proofs.lemmas.List.Elements.{All-get_or}
use Rattle.sa_base.specs.declared.limits.TheConstants.{MAX_PROCESSORS, MAX_THREADS}
use Rattle.sa_base.specs.declared.context.Seen.{Seen}
use Rattle.sa_instr.specs.declared.limits.TheConstants.{MAX_START}
use Rattle.sa_instr.specs.Program.{IsProgram}
use Rattle.sa_spaces.specs.Space.{SpaceView}
use Rattle.sa_abstract.specs.Setting.{Setting, IsSetting}
use Rattle.sa_abstract.specs.Calls.{Contexts}
use Rattle.sa_abstract.specs.Walk.{program_at}
use Rattle.sa_lemmas.specs.Function.{put}
use Rattle.sa_links.specs.Lists.{list_at, count_in_all}
use Rattle.sa_links.proofs.Counting.{count_set, count-replicate, empty_lists}
use Rattle.sa_lists.specs.declared.ranks.Ranks.{Ranks}
use Rattle.sa_lists.specs.declared.ranks.Ranks.TheVariants.{One, Many}
use Rattle.sa_lists.specs.ReadyView.{AreListsFor, ReadyView, no_threads, with_made, with_lock, pushed, is_locked, IsReady, inserted}
use Rattle.sa_lists.proofs.Changes.{ready-with_made, ready-with_lock, ready-pushed, count-inserted}
use Rattle.sa_sync.specs.Sync.{Semaphore, free_mutex, semaphore_of, semaphore_at, opening, waits_of}
use Rattle.sa_sync.proofs.LawLemmas.{opening-waits}
use Rattle.sa_code.proofs.Kept.{begun-package}
use Rattle.sa_copies.specs.Copies.{package_ops}
use Rattle.sa_fast.specs.declared.threads.KeptPlace.{KeptPlace}
use Rattle.sa_fast.specs.declared.threads.KeptPlace.TheVariants.{Ready, Unmade}
use Rattle.sa_fast.specs.declared.threads.Block.{Block}
use Rattle.sa_fast.specs.Threads.{unmade, at_start, block_at}
use Rattle.sa_fast.specs.Instruction.{IsAt}
use Rattle.sa_fast.specs.Rest.{one_if, done_at, unmade_at, one_if_empty, threads_at_rest, empty_at, FitsSpace, AreWorks, AgreesBy, AgreesAt, place_at, is_carried, not_carried}
use Rattle.sa_fast.proofs.WorkLemmas.{named-new}
use Rattle.sa_fast.proofs.WorkSteps.{count_one}
use Rattle.sa_fast.proofs.SyncSteps.{holds-set}
use Rattle.sa_fast.proofs.RunSteps.{unmade_above}
use Rattle.sa_package_model.specs.declared.context.Context.{Context}
use Rattle.sa_package_model.specs.declared.context.ContextState.{ContextState}
use Rattle.sa_package_model.specs.declared.context.ContextState.TheVariants.{Code, Look}
use Rattle.sa_package_model.specs.declared.package.Package.{Package}
use Rattle.sa_package_model.specs.Context.{fresh, carried_by, section_in, stands_between}
use Rattle.sa_package_model.specs.Rules.{settled}
use Rattle.sa_package_model.specs.Step.{lists_for, started_with, opened, started, answered}
use Rattle.sa_package_model.specs.Hands.{AreInOnePlace, free_locks}
use Rattle.sa_package_model.specs.Stands.{IsStanding}
use Rattle.sa_package_model.proofs.Changing.{IsChange, still-change, change-stands, later-stands}
use Rattle.sa_package_model.proofs.Parts.{parts_later}
use Rattle.sa_package_model.proofs.WorkRule.{settled-change}

-- THE OPENING
all_false : (n i : ℕ) → get_or (replicate n false) i false ≡ false
all_false (suc n) (suc i) = all_false n i
all_false _ _ = refl

all_unmade : (n t : ℕ) → block_at (replicate n unmade) t ≡ unmade
all_unmade (suc n) (suc t) = all_unmade n t
all_unmade _ _ = refl

-- there are some lists, and as many as there may be
some_lists : (ranks : Ranks) (processors : ℕ) → 1 ≤ processors → 1 ≤ lists_for ranks processors
some_lists One processors some = some
some_lists Many processors some = omega arith

few_lists : (ranks : Ranks) (processors : ℕ) → processors ≤ MAX_PROCESSORS → lists_for ranks processors ≤ MAX_PROCESSORS
few_lists One processors few = few
few_lists Many processors few = omega arith

lists_are_for : (ranks : Ranks) (processors count : ℕ) → count ≡ lists_for ranks processors → AreListsFor processors count
lists_are_for One processors count e = inl e
lists_are_for Many processors count e = inr e

-- all locks are free
opened_free : (ranks : Ranks) (processors l : ℕ) → 1 ≤ processors → is_locked (opened ranks processors) l ≡ false
opened_free ranks processors l one =
    let count = lists_for ranks processors in
    let some = some_lists ranks processors one in
    let locks : List Bool = replicate count false in
    holds-set (λ b. b ≡ false) (set locks 0 true) 0 l false false (omega (arith, some, length-set locks 0 true, length-replicate count false)) (λ same. refl)
    (λ other. get_or-set_other locks 0 l true false other ∙ all_false count l)

-- thread 0 is ready, and no other one is made
opened_count : (ranks : Ranks) (processors t : ℕ) → 1 ≤ processors → count_in_all t (opened ranks processors).lists + unmade_at (opened ranks processors) t ≡ 1
opened_count ranks processors t some =
    let none : List ℕ = [] in
    let count = lists_for ranks processors in
    let lists : List (List ℕ) = replicate count none in
    let rs = (opened ranks processors).ranks in
    let first : one_if 0 t + unmade_at (opened ranks processors) t ≡ 1 = grind (arith, nat_tests) in
    omega (
      arith,
      first,
      count-replicate t count,
      count_one t 0 (list_at lists 0),
      count-inserted rs 0 t (list_at lists 0),
      count_set t lists 0 (inserted rs 0 (list_at lists 0)) (omega (arith, some_lists ranks processors some, length-replicate count none)),
    )

opened_ready : (ranks : Ranks) (s : Setting) → IsSetting s → IsReady (opened ranks s.processors)
opened_ready ranks s h =
    let none : List ℕ = [] in
    let count = lists_for ranks s.processors in
    let unopened : ReadyView = no_threads count ranks MAX_THREADS in
    let ready : IsReady unopened =
    (begun-package s.space package_ops count ranks MAX_THREADS (few_lists ranks s.processors h.few_processors) (omega arith)).ready in
    let one : ReadyView = with_made unopened 0 (Some 0) in
    let one_ready : IsReady one = ready-with_made unopened 0 ready in
    let taken : ReadyView = with_lock one 0 true in
    let taken_ready : IsReady taken = ready-with_lock one 0 true one_ready in
    ready-with_lock (pushed taken 0 0) 0 false
    (ready-pushed taken 0 0 taken_ready (omega (arith, some_lists ranks s.processors h.some_processor, length-replicate count none)) (omega arith)
    (count-replicate 0 count))

opened_works : (n : ℕ) → n ≡ MAX_THREADS → AreWorks (replicate n [])
opened_works n all = record {
  named = named-new (record { nodes = MAX_THREADS; lists = replicate n [] }) MAX_THREADS n refl all refl;
  below = λ t some. absurd (omega (arith, some, count-replicate t n));
  once = λ t. omega (arith, count-replicate t n);
}

opening_fits : (def : SpaceView) → FitsSpace def (opening def)
opening_fits def = record {
  mutexes = length-replicate def.mutexes free_mutex;
  semaphores = length-map def.sems semaphore_of;
  cells = length-replicate def.cells 0;
  joiners = length-replicate MAX_THREADS (let none : List ℕ = [] in none);
  done = length-replicate MAX_THREADS false;
}

opening_counts : (def : SpaceView) (k : ℕ) → All (λ start. start ≤ MAX_START) def.sems → (semaphore_at (opening def) k).count ≤ MAX_START
opening_counts def k few = elim (cases_lt k (length def.sems)) [
  | inl inside ↦ subst (λ (x : Semaphore). x.count ≤ MAX_START) (sym (get_or-map semaphore_of def.sems k 0 (semaphore_of 0) inside))
      (All-get_or (λ start. start ≤ MAX_START) def.sems k 0 inside few)
  | inr past ↦ subst (λ (x : Semaphore). x.count ≤ MAX_START)
      (sym (get_or_past (map semaphore_of def.sems) k (semaphore_of 0) (omega (arith, past, length-map def.sems semaphore_of)))) (omega arith)
]

-- nothing is in a hand
all_at_rest : (rest : ℕ → ℕ) → ((t : ℕ) → rest t ≡ 1) → AreInOnePlace rest (λ a t. 0)
all_at_rest rest all = record {
  once = λ a t. omega (arith, all t);
  apart = λ a b t here there. absurd (omega arith);
  somewhere = λ t none. absurd (omega (arith, all t));
}

-- thread 0 is Ready, all others are Unmade
module _ (ranks : Ranks) (s : Setting) (h : IsSetting s) where
  place_first : place_at (started_with ranks s).shared 0 ≡ Ready
  place_first =
      ap (λ (b : Block). b.place) (get_or-set_same (replicate MAX_THREADS unmade) 0 (at_start 0 Ready) unmade
      (omega (arith, length-replicate MAX_THREADS unmade)))

  place_rest : (t : ℕ) → t ≢ 0 → place_at (started_with ranks s).shared t ≡ Unmade
  place_rest t ne = ap (λ (b : Block). b.place) (get_or-set_other (replicate MAX_THREADS unmade) 0 t (at_start 0 Ready) unmade ne ∙ all_unmade MAX_THREADS t)

  ends : (t : ℕ) → done_at (opening s.def) t ≡ 0
  ends t = ap (λ b. cond b 1 0) (all_false MAX_THREADS t)

  abbrev Agrees : ℕ → KeptPlace → Type 0
  Agrees t p =
      AgreesBy (count_in_all t (opened ranks s.processors).lists) (waits_of (opening s.def) t) (done_at (opening s.def) t)
      (unmade_at (opened ranks s.processors) t) p

  agrees_first : Agrees 0 Ready
  agrees_first =
      let made : unmade_at (opened ranks s.processors) 0 ≡ 0 = refl in
      record {
        ready = omega (arith, opened_count ranks s.processors 0 h.some_processor, made);
        waiting = omega (arith, opening-waits s.def 0);
        ends = ends 0;
        new = made;
      }

  agrees_rest : (t : ℕ) → t ≢ 0 → Agrees t Unmade
  agrees_rest t ne =
      let made : unmade_at (opened ranks s.processors) t ≡ 1 = unmade_above (opened ranks s.processors) t (omega arith) in
      record {
        ready = omega (arith, opened_count ranks s.processors t h.some_processor, made);
        waiting = omega (arith, opening-waits s.def t);
        ends = ends t;
        new = made;
      }

  started_places : (t : ℕ) → AgreesAt (started_with ranks s).shared t
  started_places t = elim (cases_eq t 0) [
    | inl e ↦ subst (AgreesAt (started_with ranks s).shared) (sym e) (subst (Agrees 0) (sym place_first) agrees_first)
    | inr ne ↦ subst (Agrees t) (sym (place_rest t ne)) (agrees_rest t ne)
  ]

  started_carries : (t : ℕ) → not_carried (started_with ranks s).shared t ≡ 1
  started_carries t = elim (cases_eq t 0) [
    | inl e ↦ ap (not_carried (started_with ranks s).shared) e ∙ ap (λ p. cond (is_carried p) 0 1) place_first
    | inr ne ↦ ap (λ p. cond (is_carried p) 0 1) (place_rest t ne)
  ]

pub starts-with : (ranks : Ranks) (s : Setting) → IsSetting s → IsStanding s 0 (started_with ranks s) (λ a. None)
starts-with ranks s h =
    let none : List ℕ = [] in
    let count = lists_for ranks s.processors in
    let lists : List (List ℕ) = replicate count none in
    let rs = (opened ranks s.processors).ranks in
    let base = begun-package s.space package_ops count ranks MAX_THREADS (few_lists ranks s.processors h.few_processors) (omega arith) in
    let main : IsProgram (program_at s.def.programs 0) = All-get_or IsProgram s.def.programs 0 [] h.def.some_program h.def.programs in
    record {
      made = record { setting = h; space = refl; def = refl; processors = refl; fetch = refl };
      code = refl;
      parts = record {
        state = record { ready = opened_ready ranks s h; holders = base.holders; free = λ l e. base.free l (all_false count l) };
        lists = lists_are_for ranks s.processors (length (set lists 0 (inserted rs 0 (list_at lists 0))))
            (length-set lists 0 (inserted rs 0 (list_at lists 0)) ∙ length-replicate count none);
        threads = refl;
        blocks = length-set (replicate MAX_THREADS unmade) 0 (at_start 0 Ready) ∙ length-replicate MAX_THREADS unmade;
        sync = opening_fits s.def;
        works = opened_works MAX_THREADS refl;
        counts = λ k. omega (arith, opening_counts s.def k h.def.starts);
        at = λ t made. holds-set (IsAt s.def) (replicate MAX_THREADS unmade) 0 t (at_start 0 Ready) unmade (omega (arith, length-replicate MAX_THREADS unmade))
            (λ same. record { program = h.def.some_program; pc = main.not_empty }) (λ other. absurd (omega (arith, made, other)));
      };
      locks = all_at_rest (free_locks (opened ranks s.processors)) (λ l. ap (λ b. cond b 0 1) (opened_free ranks s.processors l h.some_processor));
      threads = all_at_rest (threads_at_rest (started_with ranks s).shared)
          (λ t. let ends : done_at (opening s.def) t ≡ 0 = ap (λ b. cond b 1 0) (all_false MAX_THREADS t) in
          omega (arith, opened_count ranks s.processors t h.some_processor, opening-waits s.def t, ends));
      works = all_at_rest (empty_at (replicate MAX_THREADS [])) (λ l. ap one_if_empty (empty_lists MAX_THREADS l));
      places = started_places ranks s h;
      carries = all_at_rest (not_carried (started_with ranks s).shared) (started_carries ranks s h);
      contexts = λ a c nothing. absurd cc;
    }

pub starts : (s : Setting) → IsSetting s → IsStanding s 0 (started s) (λ a. None)
starts s h = starts-with One s h

-- LATER
pub later : (s : Setting) (e f : ℕ) (u : Package) (cs : Contexts Context) → IsStanding s e u cs → e ≤ f → IsStanding s f u cs
later s e f u cs h after = later-stands s e u cs h f (parts_later u.def u.processors e f u.shared h.parts after)

-- A FRESH CONTEXT
pub begins : (s : Setting) (e : ℕ) (u : Package) (cs : Contexts Context) (a : ℕ) → IsStanding s e u cs → cs a ≡ None → IsStanding s e u (put cs a (Some fresh))
begins s e u cs a h none = change-stands s e u cs h e a u None fresh none (record {
  made = h.made;
  code = h.code;
  parts = h.parts;
  locks = λ l. refl;
  threads = λ t. refl;
  names = λ l. refl;
  works = λ l nothing some. refl;
  lists = λ l nothing held. refl;
  places = h.places;
  carries = λ t. refl;
  context = record { state = tt; sections = tt };
})

-- BEHIND NOTICES AND ANSWERS
module _ (s : Setting) (e : ℕ) (u : Package) (cs : Contexts Context) (h : IsStanding s e u cs) (a : ℕ) (c : Context) (is : cs a ≡ Some c) (seen : Seen) where
  settles : section_in c.state ≡ None → IsChange s e u u (Some c) (settled u seen c (carried_by c.state))
  settles outside = settled-change s e u cs h a c is (carried_by c.state) outside refl seen

  answered-by : (state : ContextState) → c.state ≡ state → IsChange s e u u (Some c) (cond (stands_between state) (settled u seen c (carried_by c.state)) c)
  answered-by (Code f) at = still-change s e u cs h a c is
  answered-by (Look looks) at = still-change s e u cs h a c is
  answered-by _ at = settles (ap section_in at)

  pub answers : IsStanding s e (answered u seen c).0 (put cs a (Some (answered u seen c).1))
  answers = change-stands s e u cs h e a u (Some c) (answered u seen c).1 is (answered-by c.state refl)
