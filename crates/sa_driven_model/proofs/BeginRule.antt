-- All stands at the opening, stays so at later events, with a fresh context, and where a context goes on.
use Rattle.std.proofs.Common.{◌≡◌, ◌≢◌, ℕ, suc, ◌+◌, ◌≤◌, Bool, true, false, cond, List, [], ◌∷◌, length, map, replicate, get_or, Some, None, refl, sym, ap, ◌∙◌, subst, inl, inr, arith}
use Rattle.std.specs.Prelude.{All, sum_by}
use Rattle.std.proofs.lemmas.Bool.{cases_eq, cases_lt}
use Rattle.std.proofs.lemmas.Bool.Decides.{nat_tests}
use Rattle.std.proofs.lemmas.List.{length-set, length-map, length-replicate, get_or-map, get_or_past, get_or-set_same, get_or-set_other}
use Rattle.std.proofs.lemmas.List.Elements.{All-get_or}
use Rattle.std.proofs.lemmas.List.Sums.{sum_by-cons}
use Rattle.sa_base.specs.declared.limits.TheConstants.{MAX_THREADS}
use Rattle.sa_base.specs.declared.context.Seen.{Seen}
use Rattle.sa_instr.specs.declared.limits.TheConstants.{MAX_START}
use Rattle.sa_instr.specs.Program.{IsProgram}
use Rattle.sa_spaces.specs.Space.{SpaceView}
use Rattle.sa_abstract.specs.Setting.{Setting, IsSetting}
use Rattle.sa_abstract.specs.Calls.{Contexts}
use Rattle.sa_abstract.specs.Walk.{program_at}
use Rattle.sa_lemmas.specs.Function.{put}
use Rattle.sa_links.proofs.Counting.{count-replicate}
use Rattle.sa_lists.specs.declared.ranks.Ranks.TheVariants.{One}
use Rattle.sa_lists.specs.ReadyView.{no_threads as no_ready}
use Rattle.sa_lists.proofs.Changes.{ready-with_made}
use Rattle.sa_sync.specs.Sync.{Semaphore, free_mutex, semaphore_of, semaphore_at, opening, waits_of}
use Rattle.sa_sync.proofs.LawLemmas.{opening-waits}
use Rattle.sa_code.proofs.Kept.{begun-package}
use Rattle.sa_fast.specs.declared.threads.Block.{Block}
use Rattle.sa_fast.specs.declared.threads.KeptPlace.{KeptPlace}
use Rattle.sa_fast.specs.declared.threads.KeptPlace.TheVariants.{Ready, Unmade}
use Rattle.sa_fast.specs.Threads.{unmade, at_start, block_at}
use Rattle.sa_fast.specs.Instruction.{IsAt}
use Rattle.sa_fast.specs.Rest.{one_where, done_at, unmade_at, FitsSpace, AreWorks, AgreesBy, place_at, is_ready, is_carried, not_carried}
use Rattle.sa_fast.proofs.WorkLemmas.{named-new}
use Rattle.sa_fast.proofs.SyncSteps.{holds-set}
use Rattle.sa_package_model.proofs.Parts.{parts_later}
use Rattle.sa_driven_model.specs.declared.context.DrivenContext.{DrivenContext}
use Rattle.sa_driven_model.specs.declared.space.DrivenSpace.{DrivenSpace}
use Rattle.sa_driven_model.specs.Threads.{no_threads}
use Rattle.sa_driven_model.specs.Context.{fresh, says_idle, settled}
use Rattle.sa_driven_model.specs.Step.{opened_lists, started, answered_by, answered}
use Rattle.sa_driven_model.specs.Stands.{AgreesAt, handed_at, IsSomewhere, locks_of, IsStanding}
use Rattle.sa_driven_model.proofs.Locks.{few_more}
use Rattle.sa_driven_model.proofs.Changing.{IsChange, same_value, change-stands}
use Rattle.sa_driven_model.proofs.Rules.{still_change}

-- THE OPENING
all_false : (n i : ℕ) → get_or (replicate n false) i false ≡ false
all_false (suc n) (suc i) = all_false n i
all_false _ _ = refl

all_unmade : (n t : ℕ) → block_at (replicate n unmade) t ≡ unmade
all_unmade (suc n) (suc t) = all_unmade n t
all_unmade _ _ = refl

-- no context is there
no_locks : (acts : List ℕ) → sum_by (λ (a : ℕ). locks_of None) acts ≡ 0
no_locks [] = refl
no_locks (a ∷ acts) = let rest = no_locks acts in let sum = sum_by-cons (λ (a : ℕ). locks_of None) a acts in omega (arith, rest, sum)

opened_works : (n : ℕ) → n ≡ MAX_THREADS → AreWorks (replicate n [])
opened_works n all = record {
  named = named-new (record { nodes = MAX_THREADS; lists = replicate n [] }) MAX_THREADS n refl all refl;
  below = λ t some. absurd (omega (arith, some, count-replicate t n));
  once = λ t. omega (arith, count-replicate t n);
}

opening_fits : (def : SpaceView) → FitsSpace def (opening def)
opening_fits def = record {
  mutexes = length-replicate def.mutexes free_mutex;
  semaphores = length-map def.sems semaphore_of;
  cells = length-replicate def.cells 0;
  joiners = length-replicate MAX_THREADS (let none : List ℕ = [] in none);
  done = length-replicate MAX_THREADS false;
}

opening_counts : (def : SpaceView) (k : ℕ) → All (λ start. start ≤ MAX_START) def.sems → (semaphore_at (opening def) k).count ≤ MAX_START
opening_counts def k few = elim (cases_lt k (length def.sems)) [
  | inl inside ↦ subst (λ (x : Semaphore). x.count ≤ MAX_START) (sym (get_or-map semaphore_of def.sems k 0 (semaphore_of 0) inside))
      (All-get_or (λ start. start ≤ MAX_START) def.sems k 0 inside few)
  | inr past ↦ subst (λ (x : Semaphore). x.count ≤ MAX_START)
      (sym (get_or_past (map semaphore_of def.sems) k (semaphore_of 0) (omega (arith, past, length-map def.sems semaphore_of)))) (omega arith)
]

-- thread 0 was made, and no other
first_made : (t : ℕ) → t ≡ 0 → unmade_at opened_lists t ≡ 0
first_made t is = grind (arith, nat_tests)

others_unmade : (t : ℕ) → t ≢ 0 → unmade_at opened_lists t ≡ 1
others_unmade t ne = grind (arith, nat_tests)

-- thread 0 is Ready, all others are Unmade
module _ (s : Setting) (h : IsSetting s) where
  place_first : place_at (started s).base.shared 0 ≡ Ready
  place_first =
      ap (λ (b : Block). b.place) (get_or-set_same (replicate MAX_THREADS unmade) 0 (at_start 0 Ready) unmade
      (omega (arith, length-replicate MAX_THREADS unmade)))

  place_rest : (t : ℕ) → t ≢ 0 → place_at (started s).base.shared t ≡ Unmade
  place_rest t ne = ap (λ (b : Block). b.place) (get_or-set_other (replicate MAX_THREADS unmade) 0 t (at_start 0 Ready) unmade ne ∙ all_unmade MAX_THREADS t)

  ends : (t : ℕ) → done_at (opening s.def) t ≡ 0
  ends t = ap (λ b. cond b 1 0) (all_false MAX_THREADS t)

  none_handed : (t : ℕ) → handed_at no_threads t ≡ 0
  none_handed t = ap one_where (all_false MAX_THREADS t)

  abbrev Agrees : ℕ → KeptPlace → Type 0
  Agrees t p = AgreesBy (one_where (is_ready p)) (waits_of (opening s.def) t) (done_at (opening s.def) t) (unmade_at opened_lists t) p

  abbrev Sums : ℕ → KeptPlace → Type 0
  Sums t p =
      one_where (is_ready p) + handed_at no_threads t + waits_of (opening s.def) t + done_at (opening s.def) t + unmade_at opened_lists t
      ≡ cond (is_carried p) 0 1

  started_places : (t : ℕ) → AgreesAt (started s).base.shared t
  started_places t = elim (cases_eq t 0) [
    | inl e ↦ subst (Agrees t) (sym (ap (place_at (started s).base.shared) e ∙ place_first))
        (record { ready = refl; waiting = omega (arith, opening-waits s.def t); ends = ends t; new = first_made t e })
    | inr ne ↦ subst (Agrees t) (sym (place_rest t ne))
        (record { ready = refl; waiting = omega (arith, opening-waits s.def t); ends = ends t; new = others_unmade t ne })
  ]

  started_somewhere : (t : ℕ) → IsSomewhere (started s).base.shared no_threads t
  started_somewhere t = elim (cases_eq t 0) [
    | inl e ↦ subst (Sums t) (sym (ap (place_at (started s).base.shared) e ∙ place_first))
        (omega (arith, none_handed t, opening-waits s.def t, ends t, first_made t e))
    | inr ne ↦ subst (Sums t) (sym (place_rest t ne)) (omega (arith, none_handed t, opening-waits s.def t, ends t, others_unmade t ne))
  ]

  started_carries : (t : ℕ) → not_carried (started s).base.shared t ≡ 1
  started_carries t = elim (cases_eq t 0) [
    | inl e ↦ ap (not_carried (started s).base.shared) e ∙ ap (λ p. cond (is_carried p) 0 1) place_first
    | inr ne ↦ ap (λ p. cond (is_carried p) 0 1) (place_rest t ne)
  ]

pub starts : (s : Setting) → IsSetting s → IsStanding s 0 (started s) (λ a. None)
starts s h =
    let base = begun-package s.space [] 1 One MAX_THREADS (omega arith) (omega arith) in
    let main : IsProgram (program_at s.def.programs 0) = All-get_or IsProgram s.def.programs 0 [] h.def.some_program h.def.programs in
    record {
      made = record { setting = h; space = refl; def = refl; processors = refl; fetch = refl };
      parts = record {
        state = record { ready = ready-with_made (no_ready 1 One MAX_THREADS) 0 base.ready; holders = base.holders; free = base.free };
        lists = inr refl;
        threads = refl;
        blocks = length-set (replicate MAX_THREADS unmade) 0 (at_start 0 Ready) ∙ length-replicate MAX_THREADS unmade;
        sync = opening_fits s.def;
        works = opened_works MAX_THREADS refl;
        counts = λ k. omega (arith, opening_counts s.def k h.def.starts);
        at = λ t made. holds-set (IsAt s.def) (replicate MAX_THREADS unmade) 0 t (at_start 0 Ready) unmade (omega (arith, length-replicate MAX_THREADS unmade))
            (λ same. record { program = h.def.some_program; pc = main.not_empty }) (λ other. absurd (omega (arith, made, other)));
      };
      unused = record { lists = refl; works = refl };
      places = started_places s h;
      somewhere = started_somewhere s h;
      carries = record {
        once = λ a t. omega (arith, started_carries s h t);
        apart = λ a b t here there. absurd (omega (arith, here));
        somewhere = λ t none. absurd (omega (arith, started_carries s h t, none));
      };
      locks = λ acts apart. omega (arith, no_locks acts);
      within = λ acts apart. omega (arith, no_locks acts);
      handed = length-replicate MAX_THREADS false;
      hands = λ a c nothing. absurd cc;
    }

-- LATER
pub later : (s : Setting) (e f : ℕ) (u : DrivenSpace) (cs : Contexts DrivenContext) → IsStanding s e u cs → e ≤ f → IsStanding s f u cs
later s e f u cs h after = record {
  made = h.made;
  parts = parts_later u.base.def u.base.processors e f u.base.shared h.parts after;
  unused = h.unused;
  places = h.places;
  somewhere = h.somewhere;
  carries = h.carries;
  locks = few_more e f cs h.locks after;
  within = h.within;
  handed = h.handed;
  hands = h.hands;
}

-- A FRESH CONTEXT
pub begins : (s : Setting) (e : ℕ) (u : DrivenSpace) (cs : Contexts DrivenContext) (a : ℕ) → IsStanding s e u cs → cs a ≡ None
    → IsStanding s e u (put cs a (Some fresh))
begins s e u cs a h none = change-stands s e u cs h e a 0 u None fresh none (record {
  value = same_value s e u cs h;
  carries = λ t. refl;
  locks = omega arith;
  hand = length-replicate MAX_THREADS false;
}) (omega arith) (inl refl)

-- BEHIND NOTICES AND ANSWERS
module _ (s : Setting) (e : ℕ) (u : DrivenSpace) (cs : Contexts DrivenContext) (h : IsStanding s e u cs) (a : ℕ) (c : DrivenContext) (is : cs a ≡ Some c)
    (seen : Seen) where
  answers_by : (lowers : Bool) → IsChange s e u u (Some c) (answered_by u seen c lowers) 0
  answers_by true = still_change s e u cs h a c is (says_idle u (record c { lowers = false })) 0 refl refl (omega arith)
  answers_by false = still_change s e u cs h a c is (settled u seen c) 0 refl refl (omega arith)

  pub answers : IsStanding s e (answered u seen c).0 (put cs a (Some (answered u seen c).1))
  answers = change-stands s e u cs h e a 0 u (Some c) (answered_by u seen c c.lowers) is (answers_by c.lowers) (omega arith) (inl refl)
