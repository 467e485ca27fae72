-- One instruction: the package's table and the abstract machine's do the same.
use Rattle.std.proofs.Common.{◌≡◌, ℕ, slice_set, ◌+◌, ◌-◌, ◌^◌, ◌<◌, true, false, cond, nat_lt, List, [], ◌∷◌, ◌++◌, map, length, get_or, Option, Some, None, refl, sym, ap, ◌∙◌, subst, inl, inr, arith, length-append}
use Rattle.std.proofs.Math.Seq.{get_or-append_seam}
use Rattle.std.proofs.lemmas.Bool.{cases_eq, ltb-true}
use Rattle.std.proofs.lemmas.List.{length-set, get_or-set_same, get_or-set_other, get_or_append_left}
use Rattle.std.proofs.lemmas.List.Sums.{sum_by-append}
use Rattle.sa_base.specs.declared.limits.TheConstants.{MAX_THREADS}
use Rattle.sa_base.specs.declared.number.ThreadNo.{ThreadNo}
use Rattle.sa_instr.specs.Regs.{reg_value}
use Rattle.sa_instr.specs.declared.instr.Instr.{Instr}
use Rattle.sa_instr.specs.declared.instr.Instr.TheVariants.{Load, Store, Out, Fork, Join, Lock, Unlock, Wait, Signal, Io, Touch, End}
use Rattle.sa_instr.specs.declared.instr.Reg.{Reg}
use Rattle.sa_lists.specs.ReadyView.{next_made}
use Rattle.sa_sync.specs.Calls.{Change, locked, unlocked, waited, signalled, joined as joined_by, finished, stored}
use Rattle.sa_sync.specs.Sync.{Sync, cell_at, joiners_at, with_joiners}
use Rattle.sa_sync.specs.declared.answer.SyncAnswer.{SyncAnswer}
use Rattle.sa_sync.specs.declared.answer.SyncAnswer.TheVariants as answer
use Rattle.sa_code.specs.Micro.{is_resident}
use Rattle.sa_fast.specs.Instruction.{Outcome, touched, outcome_of, told_by, synced, forked, joins, next_of, value_in}
use Rattle.sa_fast.specs.Rest.{one_where}
use Rattle.sa_fast.specs.Threads.{unmade, block_at, with_block, moved_to, is_loaded, load_of as loaded, at_start as block_at_start}
use Rattle.sa_fast.specs.Work.{with_name, added_all}
use Rattle.sa_fast.specs.declared.instruction.Ran.{Ran}
use Rattle.sa_fast.specs.declared.instruction.Ran.TheVariants.{Goes, Leaves, Blocks}
use Rattle.sa_fast.specs.declared.shared.Shared.{Shared}
use Rattle.sa_fast.specs.declared.threads.Block.{Block}
use Rattle.sa_fast.specs.declared.threads.KeptPlace.{KeptPlace}
use Rattle.sa_fast.specs.declared.threads.KeptPlace.TheVariants as fast
use Rattle.sa_laws.specs.Effect.{Effect, effect, next, next_with, answered, sync_effect, fork_effect, join_effect, effect_of}
use Rattle.sa_laws.specs.History.{is_running_or_blocked}
use Rattle.sa_laws.specs.State.{Thread, SpaceState, at_start, thread_in, with_thread as with_laws, is_active, active_threads}
use Rattle.sa_laws.specs.declared.place.Place.{Place}
use Rattle.sa_laws.specs.declared.place.Place.TheVariants as place
use Rattle.sa_fast_laws.proofs.relation.Places.{loaded-with}
use Rattle.sa_fast_laws.specs.FastFits.{FitsThread, FitsShared, SitsIn}
use Rattle.sa_fast_laws.specs.Life.{number_of}

-- what is shown of an instruction: the space fits again, and the threads that it rouses are those of the work list
pub record FitsEffect (x : Shared) (w : Option ThreadNo) (o : Outcome) (f : Effect) : Type 0 where
  pub space : FitsShared o.shared f.space
  pub works : added_all (with_name x.works w) (map number_of f.roused) ≡ with_name o.shared.works o.work

numbers_back : (xs : List ℕ) → map number_of (map (λ n. record { 0 = n }) xs) ≡ xs
numbers_back [] = refl
numbers_back (x ∷ xs) = ap (λ ys. x ∷ ys) (numbers_back xs)

-- the space with the package's sync, and the thread as its block has it
module _ (x : Shared) (ys : List Thread) (w : Option ThreadNo) (t : ThreadNo) (b : Block) (zp : Place)
    (h : FitsShared x (record { threads = ys; sync = x.sync })) (sits : SitsIn b.place zp)
    (made : t.0 < x.state.lists.made) (inside : t.0 < length x.threads) where
  abbrev y : SpaceState
  y = record { threads = ys; sync = x.sync }

  abbrev z : Thread
  z = record { program = b.program; pc = b.pc; regs = b.regs; place = zp }

  below : t.0 < length ys
  below = let all = h.made in omega arith

  -- the thread goes on, with other ways of waiting
  set-threads : (c : Block) (a : Thread) → FitsThread c a → (n : ThreadNo) → n.0 < x.state.lists.made
      → FitsThread (block_at (with_block x.threads t.0 c) n.0) (thread_in (record { threads = slice_set ys t.0 a; sync = x.sync }) n)
  set-threads c a fits n less = elim (cases_eq n.0 t.0) [
    | inl e ↦
        subst
        (λ k. FitsThread (block_at (with_block x.threads t.0 c) k) (thread_in (record { threads = slice_set ys t.0 a; sync = x.sync }) (record { 0 = k })))
        (sym e)
        (subst (λ d. FitsThread d (thread_in (record { threads = slice_set ys t.0 a; sync = x.sync }) t)) (sym (get_or-set_same x.threads t.0 c unmade inside))
        (subst (FitsThread c) (sym (get_or-set_same ys t.0 a (at_start 0 place.Done) below)) fits))
    | inr ne ↦
        subst (λ d. FitsThread d (thread_in (record { threads = slice_set ys t.0 a; sync = x.sync }) n)) (sym (get_or-set_other x.threads t.0 n.0 c unmade ne))
        (subst (FitsThread (block_at x.threads n.0)) (sym (get_or-set_other ys t.0 n.0 a (at_start 0 place.Done) ne)) (h.threads n less))
  ]

  set-fits : (sync : Sync) (c : Block) (a : Thread) → FitsThread c a
      → FitsShared (record x { threads = with_block x.threads t.0 c; sync = sync }) (record { threads = slice_set ys t.0 a; sync = sync })
  set-fits sync c a fits = record { made = length-set ys t.0 a ∙ h.made; threads = set-threads c a fits; sync = refl }

  same : FitsThread b z
  same = record { program = refl; pc = refl; regs = refl; place = sits }

  next-fits : FitsThread (next_of b) (next z)
  next-fits = record { program = refl; pc = refl; regs = refl; place = sits }

  value-fits : (reg : Reg) (v : ℕ) → FitsThread (value_in b reg v) (next_with z reg v)
  value-fits reg v = record { program = refl; pc = refl; regs = refl; place = sits }

  goes : (c : Block) (a : Thread) → FitsThread c a
      → FitsShared (record x { threads = with_block x.threads t.0 c }) (record { threads = slice_set ys t.0 a; sync = x.sync })
  goes c a fits = set-fits x.sync c a fits

  -- a call on which the thread goes on, waits, or wakes another
  told : (sync : Sync) (c : Block) (a : Thread) (r : SyncAnswer) → FitsThread c a
      → FitsEffect x w (told_by (record x { sync = sync }) w t c r) (answered (record { threads = ys; sync = sync }) t a r)
  told sync c a answer.Goes fits = record { space = set-fits sync c a fits; works = refl }
  told sync c a answer.Waits fits = record {
    space =
        set-fits sync (moved_to c fast.Waiting) (record a { place = place.Waiting })
        (record { program = fits.program; pc = fits.pc; regs = fits.regs; place = refl });
    works = refl;
  }
  told sync c a (answer.Wakes u) fits = record {
    space = let all = set-fits sync c a fits in record { made = all.made; threads = all.threads; sync = all.sync };
    works = refl;
  }

  calls : (c : Block) (a : Thread) (change : Change) → FitsThread c a → FitsEffect x w (synced x w t c change) (sync_effect y t a change)
  calls c a change fits = told change.state c a change.answer fits

  -- a fork
  more : (program : ℕ) (c : Block) (a : Thread) → FitsThread c a → length ys < MAX_THREADS → length x.threads ≡ MAX_THREADS
      → FitsShared (record x {
        threads = with_block (with_block x.threads t.0 c) (length ys) (block_at_start program fast.Waiting);
        state = record x.state { lists = record x.state.lists { made = length ys + 1 } };
      })
      (record { threads = slice_set ys t.0 a ++ at_start program place.Waiting ∷ []; sync = x.sync })
  more program c a fits room all =
      let zs = slice_set ys t.0 a in
      let size : length zs ≡ length ys = length-set ys t.0 a in
      let bs = with_block x.threads t.0 c in
      let many : length bs ≡ length x.threads = length-set x.threads t.0 c in
      let last = at_start program place.Waiting in
      let block = block_at_start program fast.Waiting in
      record {
        made = length-append zs (last ∷ []) ∙ (let one : length (last ∷ []) ≡ 1 = refl in omega arith);
        threads = λ n less. elim (cases_eq n.0 (length ys)) [
          | inl e ↦
              subst (λ d. FitsThread d (thread_in (record { threads = zs ++ last ∷ []; sync = x.sync }) n))
              (sym (ap (λ k. block_at (with_block bs (length ys) block) k) e ∙ get_or-set_same bs (length ys) block unmade (omega arith)))
              (subst (FitsThread block)
              (sym (ap (λ k. get_or (zs ++ last ∷ []) k (at_start 0 place.Done)) (e ∙ sym size) ∙ get_or-append_seam zs last [] (at_start 0 place.Done)))
              (record { program = refl; pc = refl; regs = refl; place = refl }))
          | inr ne ↦
              let old : n.0 < length ys = omega arith in
              subst (λ d. FitsThread d (thread_in (record { threads = zs ++ last ∷ []; sync = x.sync }) n))
              (sym (get_or-set_other bs (length ys) n.0 block unmade ne))
              (subst (FitsThread (block_at bs n.0)) (sym (get_or_append_left zs (last ∷ []) (at_start 0 place.Done) n.0 (omega arith)))
              (set-threads c a fits n (let made_is = h.made in omega arith)))
        ];
        sync = refl;
      }

  forks : x.state.lists.threads ≡ MAX_THREADS → length x.threads ≡ MAX_THREADS → (reg : Reg) (program : ℕ)
      → FitsEffect x w (forked x w t b reg program (next_made x.state.lists)) (fork_effect y t z reg program)
  forks most all reg program =
      let n = length ys in
      let next_is : next_made x.state.lists ≡ cond (nat_lt n MAX_THREADS) (Some n) None =
      ap (λ m. cond (nat_lt m x.state.lists.threads) (Some m) None) (sym h.made) ∙ ap (λ m. cond (nat_lt n m) (Some n) None) most in
      subst (λ o. FitsEffect x w (forked x w t b reg program o) (fork_effect y t z reg program)) (sym next_is)
      (elim (nat_lt n MAX_THREADS) as (λ q. q ≡ nat_lt n MAX_THREADS
      → FitsEffect x w (forked x w t b reg program (cond q (Some n) None))
      (cond q (effect (record (with_laws y t (next_with z reg n)) { threads = slice_set ys t.0 (next_with z reg n) ++ at_start program place.Waiting ∷ [] })
      (record { 0 = n } ∷ [])) (effect (with_laws y t (next_with z reg (2 ^ 64 - 1))) []))) [
        | true ↦ λ test. record {
          space =
              let now = more program (value_in b reg n) (next_with z reg n) (value-fits reg n) (ltb-true n MAX_THREADS (sym test)) all in
              record { made = now.made; threads = now.threads; sync = now.sync };
          works = refl;
        }
        | false ↦ λ test. record { space = goes _ _ (value-fits reg (2 ^ 64 - 1)); works = refl }
      ] refl)

  -- all of them, but a touch of an absent page
  abbrev pub IsThere : ℕ → Instr → Type 0
  IsThere pages (Touch page) = is_resident pages page ≡ true
  IsThere pages _ = Unit {0}

  pub effect-fits : (fetch pages : ℕ) (i : Instr) → x.state.lists.threads ≡ MAX_THREADS → length x.threads ≡ MAX_THREADS → IsThere pages i
      → FitsEffect x w (outcome_of fetch pages x w t b i) (effect_of y t z i)
  effect-fits fetch pages (Load reg cell) most all can = record { space = goes _ _ (value-fits reg (cell_at x.sync cell)); works = refl }
  effect-fits fetch pages (Store reg cell) most all can =
      record { space = set-fits (stored x.sync cell (reg_value b.regs reg)) _ _ next-fits; works = refl }
  effect-fits fetch pages (Out reg) most all can = record { space = goes _ _ next-fits; works = refl }
  effect-fits fetch pages (Fork reg program) most all can = forks most all reg program
  effect-fits fetch pages (Join reg) most all can =
      let other = reg_value b.regs reg in
      subst (λ n. FitsEffect x w (joins x w t b reg n) (join_effect y t z reg)) h.made
      (calls _ _ (joined_by x.sync t.0 other (length ys)) (value-fits reg (cond (nat_lt other (length ys)) 1 0)))
  effect-fits fetch pages (Lock m) most all can = calls _ _ (locked x.sync t.0 m) next-fits
  effect-fits fetch pages (Unlock m) most all can = calls _ _ (unlocked x.sync t.0 m) next-fits
  effect-fits fetch pages (Wait n) most all can = calls _ _ (waited x.sync t.0 n) next-fits
  effect-fits fetch pages (Signal n) most all can = calls _ _ (signalled x.sync n) next-fits
  effect-fits fetch pages (Io length) most all can =
      record { space = goes (moved_to (next_of b) fast.Blocked) (next z) (record { program = refl; pc = refl; regs = refl; place = tt }); works = refl }
  effect-fits fetch pages (Touch page) most all can =
      subst (λ there. FitsEffect x w (touched x w t b fetch page there) (effect_of y t z (Touch page))) (sym can)
      (record { space = goes _ _ next-fits; works = refl })
  effect-fits fetch pages End most all can = record {
    space =
        let all_now =
        set-fits (with_joiners (finished x.sync t.0) t.0 []) (moved_to b fast.Done) (record z { place = place.Done })
        (record { program = refl; pc = refl; regs = refl; place = refl }) in
        record { made = all_now.made; threads = all_now.threads; sync = all_now.sync };
    works = ap (added_all (with_name x.works w)) (numbers_back (joiners_at x.sync t.0));
  }
  effect-fits fetch pages _ most all can =
      record { space = goes _ _ (record { program = refl; pc = refl; regs = refl; place = sits }); works = refl }

  -- WHAT CHANGES is the thread alone, but for a new one after all that were made
  abbrev pub AnswerIs : Ran → KeptPlace → Place → Type 0
  AnswerIs Goes bp ap = (bp ≡ b.place) × (ap ≡ zp)
  AnswerIs Leaves bp ap = (is_loaded bp ≡ false) × (is_active ap ≡ false) × (is_running_or_blocked ap ≡ false)
  AnswerIs (Blocks n page) bp ap = (bp ≡ fast.Blocked) × (ap ≡ zp)

  pub record Changes (o : Outcome) (f : Effect) : Type 0 where
    pub block : Block
    pub changed : Thread
    pub blocks : (n : ℕ) → n < x.state.lists.made → block_at o.shared.threads n ≡ block_at (with_block x.threads t.0 block) n
    pub threads : (n : ThreadNo) → n.0 < x.state.lists.made → thread_in f.space n ≡ get_or (slice_set ys t.0 changed) n.0 (at_start 0 place.Done)
    pub loads : loaded o.shared.threads ≡ loaded (with_block x.threads t.0 block)
    pub actives : active_threads f.space ≡ active_threads (record { threads = slice_set ys t.0 changed; sync = x.sync })
    pub answers : AnswerIs o.answer block.place changed.place

  one-changes : (sync : Sync) (works : List (List ℕ)) (wk : Option ThreadNo) (r : Ran) (roused : List ThreadNo) (c : Block) (a : Thread)
      → AnswerIs r c.place a.place
      → Changes (record { shared = record x { threads = with_block x.threads t.0 c; sync = sync; works = works }; work = wk; answer = r })
      (effect (record { threads = slice_set ys t.0 a; sync = sync }) roused)
  one-changes sync works wk r roused c a is = record {
    block = c;
    changed = a;
    blocks = λ n less. refl;
    threads = λ n less. refl;
    loads = refl;
    actives = refl;
    answers = is;
  }

  told-changes : (sync : Sync) (c : Block) (a : Thread) (r : SyncAnswer) → c.place ≡ b.place → a.place ≡ zp
      → Changes (told_by (record x { sync = sync }) w t c r) (answered (record { threads = ys; sync = sync }) t a r)
  told-changes sync c a answer.Goes cb az = one-changes sync x.works w Goes [] c a (cb, az)
  told-changes sync c a answer.Waits cb az =
      one-changes sync x.works w Leaves [] (moved_to c fast.Waiting) (record a { place = place.Waiting }) (refl, refl, refl)
  told-changes sync c a (answer.Wakes u) cb az = one-changes sync _ _ Goes (u ∷ []) c a (cb, az)

  calls-changes : (c : Block) (a : Thread) (change : Change) → c.place ≡ b.place → a.place ≡ zp
      → Changes (synced x w t c change) (sync_effect y t a change)
  calls-changes c a change cb az = told-changes change.state c a change.answer cb az

  forks-changes : x.state.lists.threads ≡ MAX_THREADS → length x.threads ≡ MAX_THREADS → is_loaded (block_at x.threads (length ys)).place ≡ false
      → (reg : Reg) (program : ℕ)
      → Changes (forked x w t b reg program (next_made x.state.lists)) (fork_effect y t z reg program)
  forks-changes most all unloaded reg program =
      let n = length ys in
      let next_is : next_made x.state.lists ≡ cond (nat_lt n MAX_THREADS) (Some n) None =
      ap (λ m. cond (nat_lt m x.state.lists.threads) (Some m) None) (sym h.made) ∙ ap (λ m. cond (nat_lt n m) (Some n) None) most in
      subst (λ o. Changes (forked x w t b reg program o) (fork_effect y t z reg program)) (sym next_is)
      (elim (nat_lt n MAX_THREADS) as (λ q. q ≡ nat_lt n MAX_THREADS
      → Changes (forked x w t b reg program (cond q (Some n) None))
      (cond q (effect (record (with_laws y t (next_with z reg n)) { threads = slice_set ys t.0 (next_with z reg n) ++ at_start program place.Waiting ∷ [] })
      (record { 0 = n } ∷ [])) (effect (with_laws y t (next_with z reg (2 ^ 64 - 1))) []))) [
        | true ↦ λ test.
            let bs = with_block x.threads t.0 (value_in b reg n) in
            let zs = slice_set ys t.0 (next_with z reg n) in
            let last = at_start program place.Waiting in
            let room = ltb-true n MAX_THREADS (sym test) in
            let made_is = h.made in
            record {
              block = value_in b reg n;
              changed = next_with z reg n;
              blocks = λ m less. get_or-set_other bs n m (block_at_start program fast.Waiting) unmade (λ same. absurd (omega arith));
              threads =
                  λ m less. get_or_append_left zs (last ∷ []) (at_start 0 place.Done) m.0 (let size = length-set ys t.0 (next_with z reg n) in omega arith);
              loads =
                  let set_one =
                  loaded-with bs n (block_at_start program fast.Waiting) (let size = length-set x.threads t.0 (value_in b reg n) in omega arith) in
                  let other : block_at bs n ≡ block_at x.threads n =
                  get_or-set_other x.threads t.0 n (value_in b reg n) unmade (λ same. absurd (omega arith)) in
                  let none : one_where (is_loaded (block_at bs n).place) ≡ 0 = ap (λ (d : Block). one_where (is_loaded d.place)) other
                  ∙ ap one_where unloaded in omega arith;
              actives = sum_by-append (λ (thread : Thread). cond (is_active thread.place) 1 0) zs (last ∷ [])
                  ∙ (let zero_more : active_threads (record { threads = last ∷ []; sync = x.sync }) ≡ 0 = refl in omega arith);
              answers = (refl, refl);
            }
        | false ↦ λ test. one-changes x.sync x.works w Goes [] (value_in b reg (2 ^ 64 - 1)) (next_with z reg (2 ^ 64 - 1)) (refl, refl)
      ] refl)

  pub effect-changes : (fetch pages : ℕ) (i : Instr) → x.state.lists.threads ≡ MAX_THREADS → length x.threads ≡ MAX_THREADS
      → is_loaded (block_at x.threads (length ys)).place ≡ false → IsThere pages i
      → Changes (outcome_of fetch pages x w t b i) (effect_of y t z i)
  effect-changes fetch pages (Store reg cell) most all un can = one-changes _ x.works w Goes [] _ _ (refl, refl)
  effect-changes fetch pages (Fork reg program) most all un can = forks-changes most all un reg program
  effect-changes fetch pages (Join reg) most all un can =
      let other = reg_value b.regs reg in
      subst (λ n. Changes (joins x w t b reg n) (join_effect y t z reg)) h.made
      (calls-changes _ _ (joined_by x.sync t.0 other (length ys)) refl refl)
  effect-changes fetch pages (Lock m) most all un can = calls-changes _ _ (locked x.sync t.0 m) refl refl
  effect-changes fetch pages (Unlock m) most all un can = calls-changes _ _ (unlocked x.sync t.0 m) refl refl
  effect-changes fetch pages (Wait n) most all un can = calls-changes _ _ (waited x.sync t.0 n) refl refl
  effect-changes fetch pages (Signal n) most all un can = calls-changes _ _ (signalled x.sync n) refl refl
  effect-changes fetch pages (Io length) most all un can =
      one-changes x.sync x.works w (Blocks length None) [] (moved_to (next_of b) fast.Blocked) (next z) (refl, refl)
  effect-changes fetch pages (Touch page) most all un can =
      subst (λ there. Changes (touched x w t b fetch page there) (effect_of y t z (Touch page))) (sym can)
      (one-changes x.sync x.works w Goes [] _ _ (refl, refl))
  effect-changes fetch pages End most all un can =
      one-changes _ _ _ Leaves _ (moved_to b fast.Done) (record z { place = place.Done }) (refl, refl, refl)
  effect-changes fetch pages _ most all un can = one-changes x.sync x.works w Goes [] _ _ (refl, refl)
