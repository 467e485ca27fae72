-- Where a context is; and a run of local instructions of its thread, which leaves all standing.
use Rattle.std.proofs.Common.{◌≡◌, ℕ, zero, suc, ◌+◌, ◌-◌, ◌≤◌, ◌<◌, Bool, true, false, List, [], length, Option, Some, None, refl, sym, ap, ◌∙◌, subst, inl, inr, arith}
use Rattle.std.specs.Prelude.{◌||◌, is_none, if◌then◌else◌}
use Rattle.std.proofs.lemmas.Bool.{cases_eq}
use Rattle.std.proofs.lemmas.List.{length-set, get_or-set_same, get_or-set_other}
use Rattle.std.proofs.lemmas.List.Elements.{All-get_or}
use Rattle.sa_base.specs.declared.number.ThreadNo.{ThreadNo}
use Rattle.sa_base.specs.declared.context.Seen.{Seen}
use Rattle.sa_instr.specs.declared.instr.Instr.{Instr}
use Rattle.sa_instr.specs.Local.{instr_at}
use Rattle.sa_instr.specs.Program.{IsProgram}
use Rattle.sa_instr.proofs.PlaceLemmas.{place_inside}
use Rattle.sa_spaces.specs.Space.{IsSpace}
use Rattle.sa_sync.specs.Sync.{waits_of}
use Rattle.sa_abstract.specs.Setting.{Setting}
use Rattle.sa_abstract.specs.Calls.{Contexts}
use Rattle.sa_abstract.specs.Walk.{Spot, program_at, after_one, after_many, ins_records}
use Rattle.sa_abstract.specs.Keeps.{IsSeat, StaysLocal, is_away, moved_to, IsGone}
use Rattle.sa_fast.specs.declared.threads.Block.{Block}
use Rattle.sa_fast.specs.declared.threads.KeptPlace.{KeptPlace}
use Rattle.sa_fast.specs.declared.shared.Shared.{Shared}
use Rattle.sa_fast.specs.Threads.{unmade, block_at}
use Rattle.sa_fast.specs.Instruction.{with_thread, IsAt}
use Rattle.sa_fast.specs.Rest.{one_where, is_ready, AgreesBy, place_at, done_at, unmade_at, is_carried}
use Rattle.sa_fast.proofs.SyncSteps.{holds-set}
use Rattle.sa_fast.proofs.RunSteps.{made_below}
use Rattle.sa_package_model.specs.Rules.{with_shared}
use Rattle.sa_package_model.specs.Step.{spot_of, block_after, stands_at}
use Rattle.sa_package_model.proofs.Parts.{parts_later}
use Rattle.sa_driven_model.specs.declared.context.DrivenContext.{DrivenContext}
use Rattle.sa_driven_model.specs.declared.space.DrivenSpace.{DrivenSpace}
use Rattle.sa_driven_model.specs.Step.{with_package, local_at, went_at, driven_calls}
use Rattle.sa_driven_model.specs.Stands.{handed_at, carried_of, IsStanding, driven_stands}
use Rattle.sa_driven_model.proofs.Places.{carried_free}
use Rattle.sa_driven_model.proofs.InsRule.{runs}
use Rattle.sa_driven_model.proofs.Rules.{own_inside}
use Rattle.sa_driven_model.proofs.Changing.{IsChange, change-stands}

-- a run stays within its program
after_inside : (p : List Instr) (n : ℕ) (spot : Spot) → IsProgram p → spot.pc < length p → (after_many p n spot).pc < length p
after_inside p zero spot is inside = inside
after_inside p (suc n) spot is inside = after_inside p n (after_one p spot) is (place_inside p spot.pc spot.regs (instr_at p spot.pc) is inside refl)

module _ (s : Setting) (e : ℕ) (u : DrivenSpace) (cs : Contexts DrivenContext) (h : IsStanding s e u cs) (a : ℕ) (c : DrivenContext) (is : cs a ≡ Some c) where
  abbrev x : Shared
  x = u.base.shared

  -- a context that carries a thread
  pub thread_at : (t : ThreadNo) → c.thread ≡ Some t → IsAt u.base.def (block_at x.threads t.0)
  thread_at t at =
      let free = carried_free x u.handed t.0 (h.somewhere t.0) (runs s e u cs h a c is t at) in
      h.parts.at t.0 (made_below x.state.lists t.0 (omega (arith, free.0)))

  -- WHERE IT STANDS
  seat_by : (inside : Bool) (t : Option ThreadNo) → c.thread ≡ t
      → IsSeat s (local_at u inside t) × (is_away (local_at u inside t) ≡ (inside || is_none t))
  seat_by false (Some t) at =
      let there : IsAt s.def (block_at x.threads t.0) = subst (λ d. IsAt d (block_at x.threads t.0)) h.made.def (thread_at t at) in
      ((h.made.space, there.program, there.pc), refl)
  seat_by false None at = (tt, refl)
  seat_by true t at = (tt, refl)

  pub seats : IsSeat s (local_at u c.inside c.thread) × (is_away (local_at u c.inside c.thread) ≡ (c.inside || is_none c.thread))
  seats = seat_by c.inside c.thread refl

  -- A RUN
  place_kept : (t : ThreadNo) (b : Block) → t.0 < length x.threads → b.place ≡ place_at x t.0 → (n : ℕ)
      → place_at (with_thread x t b) n ≡ place_at x n
  place_kept t b inside same n = elim (cases_eq n t.0) [
    | inl here ↦ ap (place_at (with_thread x t b)) here ∙ ap (λ (y : Block). y.place) (get_or-set_same x.threads t.0 b unmade inside) ∙ same
        ∙ ap (place_at x) (sym here)
    | inr there ↦ ap (λ (y : Block). y.place) (get_or-set_other x.threads t.0 n b unmade there)
  ]

  gone-change : (f : ℕ) (t : ThreadNo) (b : Block) → e ≤ f → c.thread ≡ Some t → IsAt u.base.def b → b.place ≡ place_at x t.0
      → IsChange s f u (with_package u (with_shared u.base (with_thread x t b))) (Some c) c 0
  gone-change f t b later at there same =
      let parts = parts_later u.base.def u.base.processors e f x h.parts later in
      let inside = own_inside s e u cs h a c is t at in
      let kept = place_kept t b inside same in
      record {
        value = record {
          made = record { setting = h.made.setting; space = h.made.space; def = h.made.def; processors = h.made.processors; fetch = h.made.fetch };
          parts = record {
            state = parts.state;
            lists = parts.lists;
            threads = parts.threads;
            sync = parts.sync;
            works = parts.works;
            counts = parts.counts;
            blocks = length-set x.threads t.0 b ∙ parts.blocks;
            at = λ n made. holds-set (IsAt u.base.def) x.threads t.0 n b unmade inside (λ same. there) (λ other. parts.at n made);
          };
          unused = record { lists = h.unused.lists; works = h.unused.works };
          places = λ n.
              subst (λ p. AgreesBy (one_where (is_ready p)) (waits_of x.sync n) (done_at x.sync n) (unmade_at x.state.lists n) p) (sym (kept n)) (h.places n);
          somewhere = λ n.
              subst (λ (p : KeptPlace). one_where (is_ready p) + handed_at u.handed n + waits_of x.sync n + done_at x.sync n + unmade_at x.state.lists n
              ≡ (if is_carried p then 0 else 1)) (sym (kept n)) (h.somewhere n);
          handed = h.handed;
        };
        carries = λ n. ap (λ p. (if is_carried p then 0 else 1) + carried_of (Some c) n) (kept n);
        locks = omega arith;
        hand = h.hands a c is;
      }

  gone_by : (seen : Seen) (n : ℕ) (inside : Bool) (t : Option ThreadNo) → e < seen.event → c.inside ≡ inside → c.thread ≡ t
      → StaysLocal s n (local_at u inside t)
      → IsGone driven_calls driven_stands s seen cs a n (local_at u inside t) (went_at u c n inside t)
  gone_by seen n false (Some t) later out at local =
      let b : Block = block_at x.threads t.0 in
      let there : IsAt u.base.def b = thread_at t at in
      let program : List Instr = program_at u.base.def.programs b.program in
      let after : Block = block_after program n b in
      let v : DrivenSpace = with_package u (with_shared u.base (with_thread x t after)) in
      let is_program : IsProgram program =
      All-get_or IsProgram u.base.def.programs b.program [] there.program (subst IsSpace (sym h.made.def) h.made.setting.def).programs in
      let inside = own_inside s e u cs h a c is t at in
      record {
        value = change-stands s e u cs h (seen.event + n - 1) a 0 v (Some c) c is
            (gone-change (seen.event + n - 1) t after (omega (arith, later)) at
            (record { program = there.program; pc = after_inside program n (spot_of b) is_program there.pc }) refl) (omega (arith, later)) (inl refl);
        says = ap (λ d. ins_records x.state.space t (program_at d.programs b.program) n (spot_of b)) h.made.def;
        state =
            ap (λ i. local_at v i c.thread) out ∙ ap (local_at v false) at
            ∙ ap (stands_at v.base t) (get_or-set_same x.threads t.0 after unmade inside)
            ∙ ap (λ d. moved_to x.state.space t b.program (after_many (program_at d.programs b.program) n (spot_of b))) h.made.def;
      }
  gone_by seen n false None later out at local = absurd local
  gone_by seen n true t later out at local = absurd local

  pub goes : (seen : Seen) (n : ℕ) → e < seen.event → StaysLocal s n (local_at u c.inside c.thread)
      → IsGone driven_calls driven_stands s seen cs a n (local_at u c.inside c.thread) (went_at u c n c.inside c.thread)
  goes seen n later local = gone_by seen n c.inside c.thread later refl refl local
