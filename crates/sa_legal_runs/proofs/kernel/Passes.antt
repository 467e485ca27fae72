-- From a halted processor to the end of the event: by an upcall of a space, or by the leave.
use Rattle.std.proofs.lemmas.Option.{slice_get_within, same_Some}
use Rattle.std.proofs.Common.{Contains, get_or, ◌≡◌, ℕ, ◌<◌, arith, sym, ◌∙◌, ap, subst, refl, Bool, true, false, not, Option, Some, None, List, [], ◌∷◌, ◌++◌, map, length, slice_get, slice_set, append_assoc}
use Rattle.std.proofs.lemmas.List.{get_or-set_same}
use Rattle.sa_base.specs.declared.number.ProcNo.{ProcNo}
use Rattle.sa_base.specs.declared.number.SpaceNo.{SpaceNo}
use Rattle.sa_base.specs.declared.number.ActNo.{ActNo}
use Rattle.sa_base.specs.declared.record.Note.{Note}
use Rattle.sa_base.specs.declared.record.Note.TheVariants.{Add}
use Rattle.sa_base.specs.declared.record.Record.{Record}
use Rattle.sa_base.specs.declared.record.Record.TheVariants.{Up, Told, Move}
use Rattle.sa_base.specs.Items.{items_at}
use Rattle.sa_lemmas.specs.Function.{put}
use Rattle.sa_spaces.specs.Workload.{WorkloadView}
use Rattle.sa_lemmas.proofs.ListReads.{read-at}
use Rattle.sa_acts.specs.Table.{runs_in}
use Rattle.sa_batch.specs.Notices.{notes_told}
use Rattle.sa_assign.specs.Aims.{space_no}
use Rattle.sa_laws.specs.Event.{Event}
use Rattle.sa_laws.specs.Life.{Life}
use Rattle.sa_laws.specs.Readings.{Readings, owner_of as owner_in}
use Rattle.sa_laws.specs.History.{after_records, behind_all, with_step}
use Rattle.sa_laws.proofs.Records.{records-append}
use Rattle.sa_laws.proofs.Closings.{AreClosing}
use Rattle.sa_kernel_model.specs.State.{Scene, owner_of, untold_of}
use Rattle.sa_kernel_model.specs.Parts.{moved, upcall}
use Rattle.sa_kernel_model.specs.Closing.{closed}
use Rattle.sa_kernel_laws.specs.Histories.{IsHistory, read_from}
use Rattle.sa_kernel_model.proofs.sound.Held.{stays-closed}
use Rattle.sa_core_model.specs.Machine.{Machine, without_context, context_begun, answered}
use Rattle.sa_core_model.specs.Turn.{told_all, welcomed_in}
use Rattle.sa_core_model.specs.Standing.{contexts_in}
use Rattle.sa_core_model.proofs.Calls.{Tells}
use Rattle.sa_core_model.proofs.Turns.{Welcomed}
use Rattle.sa_user_laws.specs.Moments.{AlikeButEnds}
use Rattle.sa_user_laws.specs.Level.{UserLevel}
use Rattle.sa_legal_runs.proofs.frames.Moments.{StaysPut, plain-stays, same-for}
use Rattle.sa_legal_runs.proofs.frames.Lives.{AreMatched}
use Rattle.sa_legal_runs.proofs.frames.Sizes.{sized-records}
use Rattle.sa_legal_runs.proofs.matching.Spaces.{fit-same}
use Rattle.sa_legal_runs.proofs.kernel.Calling.{CanBegin}
use Rattle.sa_legal_runs.proofs.kernel.Upcalled.{Upcalled, up-ends}
use Rattle.sa_legal_runs.proofs.kernel.Halted.{IsHalted, free-halted, nowhere-halted}

-- the records of an upcall, and those of a move before it
abbrev pub up_records : SpaceNo → ActNo → List Note → List Record
up_records s n notes = Up s n ∷ map Told notes

abbrev pub move_records : Bool → Option SpaceNo → SpaceNo → List Record
move_records true owner s = []
move_records false owner s = Move owner (Some s) ∷ []

module _ {C : Type 0} where
  -- What an upcall leaves, after a move or without one.
  pub record IsUpped (p : ProcNo) (s : SpaceNo) (n : ActNo) (owned : Bool) (y z : Scene C) : Type 0 where
    pub lives : z.state.lives ≡ slice_set y.state.lives p.0 (Some n)
    pub acts : z.state.acts ≡ put y.state.acts n.0 (Some (runs_in s))
    pub telling : z.state.telling ≡ notes_told (not owned) p (untold_of y.state s.0)
    pub owner : owner_of z.state p ≡ Some s
    pub demands : length z.state.demands ≡ length y.state.demands

  upped-is : (g : ℕ) (p : ProcNo) (s : SpaceNo) (n : ActNo) (owned : Bool) (y : Scene C)
      → (owned ≡ true → owner_of y.state p ≡ Some s) → p.0 < length y.state.assign.owners
      → IsUpped p s n owned y (upcall g p s n (not owned) (moved g p s owned y))
  upped-is g p s n true y own within = record { lives = refl; acts = refl; telling = refl; owner = own refl; demands = refl }
  upped-is g p s n false y own within =
      record { lives = refl; acts = refl; telling = refl; owner = get_or-set_same y.state.assign.owners p.0 (Some s) None within; demands = refl }

  pub upped-items : (g : ℕ) (p : ProcNo) (s : SpaceNo) (n : ActNo) (owned : Bool) (y : Scene C)
      → (upcall g p s n (not owned) (moved g p s owned y)).items
      ≡ y.items ++ items_at g p
      (move_records owned (owner_of y.state p) s ++ up_records s n (notes_told (not owned) p (untold_of y.state s.0)))
  upped-items g p s n true y = append_assoc y.items (items_at g p (Up s n ∷ [])) (items_at g p (map Told (untold_of y.state s.0)))
  upped-items g p s n false y =
      let a = items_at g p (Move (owner_of y.state p) (Some s) ∷ []) in
      let b = items_at g p (Up s n ∷ []) in
      let c = items_at g p (map Told (Add p ∷ untold_of y.state s.0)) in
      append_assoc (y.items ++ a) b c ∙ append_assoc y.items a (b ++ c)

-- A move changes no more than the owner.
record IsMid (p : ProcNo) (s : SpaceNo) (front mid : Readings) : Type 0 where
  put : StaysPut front mid
  owner : owner_in mid p ≡ Some s

mid-is : (w : WorkloadView) (g : ℕ) (p : ProcNo) (s : SpaceNo) (owned : Bool) (old : Option SpaceNo) (front : Readings)
    → owner_in front p ≡ old → (owned ≡ true → old ≡ Some s) → p.0 < length front.state.owners
    → IsMid p s front (after_records w g p front (move_records owned old s))
mid-is w g p s true old front is own within = record {
  put = record { spaces = refl; lives = refl; running = refl; taken = refl; untold = refl; ready = refl; lines = λ q raised. raised };
  owner = is ∙ own refl;
}
mid-is w g p s false old front is own within =
    record { put = plain-stays w g p front (Move old (Some s)) refl; owner = get_or-set_same front.state.owners p.0 (Some s) None within }

module _ {U C : Type 0} (level : UserLevel U C) where
  -- AN UPCALL ends the event.
  pub passes-up : (w : WorkloadView) (events : List Event) (e g : ℕ) (p : ProcNo) (s : SpaceNo) (n : ActNo) (owned : Bool)
      (x : Machine U C) (y : Scene C) (front : Readings) (cl : List Record) (ev : Event)
      → (h : IsHalted level w e p n x y.state front) → (owned ≡ true → owner_of y.state p ≡ Some s) → s.0 < length y.state.untold
      → p.0 < length y.state.assign.owners → length front.state.owners ≡ length y.state.assign.owners
      → let z = upcall g p s n (not owned) (moved g p s owned y) in
      let k = closed g p z in
      let m : Machine U C = record (without_context p x) { kernel = k.state; items = k.items } in
      let mv = move_records owned (owner_of y.state p) s in
      let ups = up_records s n (notes_told (not owned) p (untold_of y.state s.0)) in
      Welcomed level.calls level.stands level.keep w e g p m → IsHistory level.rules.inside w (events ++ ev ∷ []) k
      → ev.number ≡ g → ev.proc ≡ p → Contains ev.records (Up s n) → AreClosing cl
      → let r = read_from level.rules.inside w events in
      let last = behind_all w ev r in
      let close = after_records w g p front (mv ++ (ups ++ cl)) in
      AlikeButEnds last close → close.lives ≡ with_step level.rules.inside w r ev last ev.records last.lives
      → Upcalled level w events (welcomed_in level.calls p (owner_of m.kernel p) m) ev
  passes-up w events e g p s n owned x y front cl ev h own within place owners new history number proc up closes ends stepped =
      let r = read_from level.rules.inside w events in
      let last = behind_all w ev r in
      let close_at = after_records w g p front
      (move_records owned (owner_of y.state p) s ++ (up_records s n (notes_told (not owned) p (untold_of y.state s.0)) ++ cl)) in
      let z = upcall g p s n (not owned) (moved g p s owned y) in
      let k = closed g p z in
      let m : Machine U C = record (without_context p x) { kernel = k.state; items = k.items } in
      let mv = move_records owned (owner_of y.state p) s in
      let notes = notes_told (not owned) p (untold_of y.state s.0) in
      let upped = upped-is g p s n owned y own place in
      let stays = stays-closed g p z in
      let owner : owner_of k.state p ≡ Some s = ap (λ (os : List (Option SpaceNo)). get_or os p.0 None) stays.owners ∙ upped.owner in
      let same : new.space ≡ s = same_Some new.space s (sym new.owner ∙ owner) in
      let telling : k.state.telling ≡ notes = stays.telling ∙ upped.telling in
      let tells : Tells level.calls level.stands level.keep w e g p s notes (context_begun level.calls p s m) =
      subst (λ (ns : List Note). Tells level.calls level.stands level.keep w e g p s ns (context_begun level.calls p s m)) telling
      (subst (λ (t : SpaceNo). Tells level.calls level.stands level.keep w e g p t m.kernel.telling
      (context_begun level.calls p t m)) same new.begins) in
      let at : slice_get m.users s.0 ≡ Some new.user = subst (λ (t : SpaceNo). slice_get m.users t.0 ≡ Some new.user) same new.is_user in
      let mid = after_records w g p front mv in
      let mids = mid-is w g p s owned (owner_of y.state p) front h.owner own (omega (arith, place, owners)) in
      let inside : s.0 < length m.users = slice_get_within m.users s.0 new.user at in
      let d = read-at w.spaces s.0 (omega (arith, inside, h.paused.users, ap (λ (v : WorkloadView). length v.spaces) h.workload)) in
      let both : close_at ≡ after_records w g p mid (up_records s n notes ++ cl) =
      records-append w g p front mv (up_records s n notes ++ cl) in
      let can : CanBegin level w e g p s n y.state.lives y.state.acts y.state.untold (without_context p x) k.state mid = record {
        ok = h.ok;
        paused = h.paused;
        workload = h.workload;
        fit = fit-same level w front mid x.users (contexts_in y.state.lives y.state.acts (slice_set x.contexts p.0 None)) h.ok
            (λ t. same-for front mid mids.put (space_no t)) h.fit;
        matched = subst (λ (ls : ℕ → Option Life). AreMatched y.state.acts ls) (sym mids.put.lives) h.matched;
        unused = h.unused;
        new_lives = stays.lives ∙ upped.lives;
        new_acts = stays.acts ∙ upped.acts;
        life = ap (λ (ls : List (Option ActNo)). get_or ls p.0 None) (stays.lives ∙ upped.lives)
            ∙ get_or-set_same y.state.lives p.0 (Some n) None h.paused.within;
        owner = mids.owner;
        free = ap (λ (ls : List (Option ActNo)). get_or ls p.0 None) mids.put.running ∙ free-halted level w e p n x y.state front h;
        within = within;
        untold = mids.put.untold ∙ h.untold;
        once = h.apart.once;
        sized = sized-records w g p front mv h.sized;
        proc = (let inside = h.paused.within in omega (arith, inside, h.paused.lives, ap (λ (v : WorkloadView). v.processors) h.workload));
        nowhere = λ q runs. nowhere-halted level w e p n x y.state front h q
            (sym (ap (λ (ls : List (Option ActNo)). get_or ls q.0 None) mids.put.running) ∙ runs);
      } in
      let done = up-ends level w events e g p s n y.state.lives y.state.acts y.state.untold
      (without_context p x) k.state k.items mid new.user d.0 (not owned) notes cl ev can at d.1 refl
      (h.apart.added p) tells history number proc up closes
      (subst (λ (c : Readings). AlikeButEnds last c) both ends)
      (subst (λ (c : Readings). c.lives ≡ with_step level.rules.inside w r ev last ev.records last.lives) both stepped) in
      subst (λ (t : Option SpaceNo). Upcalled level w events (welcomed_in level.calls p t m) ev) (sym owner)
      (subst (λ (ns : List Note). Upcalled level w events
      (answered level.calls p s (told_all level.calls p s ns (context_begun level.calls p s m))) ev) (sym telling) done)
