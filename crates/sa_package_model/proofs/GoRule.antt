-- Where a context is; and a run of local instructions of its thread, which leaves all standing.
use Rattle.std.proofs.Common.{◌≡◌, ℕ, zero, suc, ◌+◌, ◌-◌, ◌≤◌, ◌<◌, List, [], length, Some, refl, sym, ap, ◌∙◌, subst, inl, inr, arith}
use Rattle.std.specs.Prelude.{◌||◌, is_none, if◌then◌else◌}
use Rattle.std.proofs.lemmas.Bool.{cases_eq}
use Rattle.std.proofs.lemmas.List.{length-set, get_or-set_same, get_or-set_other}
use Rattle.std.proofs.lemmas.List.Elements.{All-get_or}
use Rattle.sa_base.specs.declared.number.ThreadNo.{ThreadNo}
use Rattle.sa_base.specs.declared.context.Seen.{Seen}
use Rattle.sa_instr.specs.declared.instr.Instr.{Instr}
use Rattle.sa_instr.specs.Local.{instr_at}
use Rattle.sa_instr.specs.Program.{IsProgram}
use Rattle.sa_instr.proofs.PlaceLemmas.{place_inside}
use Rattle.sa_spaces.specs.Space.{IsSpace}
use Rattle.sa_links.specs.Lists.{count_in_all}
use Rattle.sa_sync.specs.Sync.{waits_of}
use Rattle.sa_abstract.specs.Setting.{Setting}
use Rattle.sa_abstract.specs.Calls.{Contexts}
use Rattle.sa_abstract.specs.Walk.{Spot, program_at, after_one, after_many, ins_records}
use Rattle.sa_abstract.specs.Keeps.{IsSeat, StaysLocal, is_away, moved_to, IsGone}
use Rattle.sa_fast.specs.declared.threads.Block.{Block}
use Rattle.sa_fast.specs.Threads.{unmade, block_at}
use Rattle.sa_fast.specs.Instruction.{with_thread, IsAt}
use Rattle.sa_fast.specs.Rest.{AgreesBy, place_at, done_at, unmade_at, is_carried}
use Rattle.sa_fast.proofs.SyncSteps.{holds-set}
use Rattle.sa_package_model.specs.declared.context.Context.{Context}
use Rattle.sa_package_model.specs.declared.context.ContextState.{ContextState}
use Rattle.sa_package_model.specs.declared.context.ContextState.TheVariants.{User}
use Rattle.sa_package_model.specs.declared.package.Package.{Package}
use Rattle.sa_package_model.specs.Context.{carried_by, stands_inside}
use Rattle.sa_package_model.specs.Rules.{with_shared}
use Rattle.sa_package_model.specs.Step.{spot_of, block_after, stands_at, local_at, gone_at, went, fast_calls}
use Rattle.sa_package_model.specs.Hands.{carried_of}
use Rattle.sa_package_model.specs.Stands.{IsStanding, fast_stands}
use Rattle.sa_package_model.proofs.Changing.{IsChange, change-stands}
use Rattle.sa_package_model.proofs.Holding.{own_made, own_below}
use Rattle.sa_package_model.proofs.Parts.{parts_later}
use Rattle.sa_package_model.proofs.UseRule.{user_has}

-- a run stays within its program
after_inside : (p : List Instr) (n : ℕ) (spot : Spot) → IsProgram p → spot.pc < length p → (after_many p n spot).pc < length p
after_inside p zero spot is inside = inside
after_inside p (suc n) spot is inside = after_inside p n (after_one p spot) is (place_inside p spot.pc spot.regs (instr_at p spot.pc) is inside refl)

module _ (s : Setting) (e : ℕ) (u : Package) (cs : Contexts Context) (h : IsStanding s e u cs) (a : ℕ) (c : Context) (is : cs a ≡ Some c) where
  -- a context at an instruction of a thread
  user_at : (t : ThreadNo) → c.state ≡ User t → IsAt u.def (block_at u.shared.threads t.0)
  user_at t at = h.parts.at t.0 (own_made s e u cs h a c is t.0 (user_has u.shared.works c t at))

  -- WHERE IT STANDS
  seat_by : (state : ContextState) → c.state ≡ state
      → IsSeat s (local_at u state) × (is_away (local_at u state) ≡ (stands_inside state || is_none (carried_by state)))
  seat_by (User t) at =
      let there : IsAt s.def (block_at u.shared.threads t.0) = subst (λ d. IsAt d (block_at u.shared.threads t.0)) h.made.def (user_at t at) in
      ((h.made.space, there.program, there.pc), refl)
  seat_by _ at = (tt, refl)

  pub seats : IsSeat s (local_at u c.state) × (is_away (local_at u c.state) ≡ (stands_inside c.state || is_none (carried_by c.state)))
  seats = seat_by c.state refl

  -- A RUN
  place_kept : (t : ThreadNo) (b : Block) → t.0 < length u.shared.threads → b.place ≡ place_at u.shared t.0 → (n : ℕ)
      → place_at (with_thread u.shared t b) n ≡ place_at u.shared n
  place_kept t b inside same n = elim (cases_eq n t.0) [
    | inl here ↦ ap (place_at (with_thread u.shared t b)) here ∙ ap (λ (x : Block). x.place) (get_or-set_same u.shared.threads t.0 b unmade inside) ∙ same
        ∙ ap (place_at u.shared) (sym here)
    | inr there ↦ ap (λ (x : Block). x.place) (get_or-set_other u.shared.threads t.0 n b unmade there)
  ]

  gone-change : (f : ℕ) (t : ThreadNo) (b : Block) → e ≤ f → c.state ≡ User t → IsAt u.def b → b.place ≡ place_at u.shared t.0
      → IsChange s f u (with_shared u (with_thread u.shared t b)) (Some c) c
  gone-change f t b later at there same =
      let parts = parts_later u.def u.processors e f u.shared h.parts later in
      let below = own_below s e u cs h a c is t.0 (user_has u.shared.works c t at) in
      record {
        made = record { setting = h.made.setting; space = h.made.space; def = h.made.def; processors = h.made.processors; fetch = h.made.fetch };
        code = h.code;
        parts = record {
          state = parts.state;
          lists = parts.lists;
          threads = parts.threads;
          sync = parts.sync;
          works = parts.works;
          counts = parts.counts;
          blocks = length-set u.shared.threads t.0 b ∙ parts.blocks;
          at = λ n made. holds-set (IsAt u.def) u.shared.threads t.0 n b unmade (omega (arith, below, parts.blocks)) (λ same. there) (λ other. parts.at n made);
        };
        locks = λ l. refl;
        threads = λ n. refl;
        names = λ l. refl;
        works = λ l none some. refl;
        lists = λ l none held. refl;
        places = λ n.
            subst (λ p. AgreesBy (count_in_all n u.shared.state.lists.lists) (waits_of u.shared.sync n) (done_at u.shared.sync n)
            (unmade_at u.shared.state.lists n) p)
            (sym (place_kept t b (omega (arith, below, parts.blocks)) same n)) (h.places n);
        carries = λ n. ap (λ p. (if is_carried p then 0 else 1) + carried_of (Some c) n) (place_kept t b (omega (arith, below, parts.blocks)) same n);
        context = h.contexts a c is;
      }

  gone_by : (seen : Seen) (n : ℕ) (state : ContextState) → e < seen.event → c.state ≡ state → StaysLocal s n (local_at u state)
      → IsGone fast_calls fast_stands s seen cs a n (local_at u state) (gone_at u c n state)
  gone_by seen n (User t) later at local =
      let b : Block = block_at u.shared.threads t.0 in
      let there : IsAt u.def b = user_at t at in
      let program : List Instr = program_at u.def.programs b.program in
      let after : Block = block_after program n b in
      let v : Package = with_shared u (with_thread u.shared t after) in
      let is_program : IsProgram program =
      All-get_or IsProgram u.def.programs b.program [] there.program (subst IsSpace (sym h.made.def) h.made.setting.def).programs in
      let below = own_below s e u cs h a c is t.0 (user_has u.shared.works c t at) in
      record {
        value = change-stands s e u cs h (seen.event + n - 1) a v (Some c) c is
            (gone-change (seen.event + n - 1) t after (omega arith) at
            (record { program = there.program; pc = after_inside program n (spot_of b) is_program there.pc }) refl);
        says = ap (λ d. ins_records u.shared.state.space t (program_at d.programs b.program) n (spot_of b)) h.made.def;
        state =
            ap (local_at v) at ∙ ap (stands_at v t) (get_or-set_same u.shared.threads t.0 after unmade (omega (arith, below, h.parts.blocks)))
            ∙ ap (λ d. moved_to u.shared.state.space t b.program (after_many (program_at d.programs b.program) n (spot_of b))) h.made.def;
      }
  gone_by seen n _ later at local = absurd local

  pub goes : (seen : Seen) (n : ℕ) → e < seen.event → StaysLocal s n (local_at u c.state)
      → IsGone fast_calls fast_stands s seen cs a n (local_at u c.state) (went u seen c n)
  goes seen n later local = gone_by seen n c.state later refl local
