-- A turn keeps what is kept, and the laws of its end hold.
use Rattle.std.proofs.Common.{◌≡◌, ◌≢◌, ℕ, inl, inr, refl, sym, ◌∙◌, ap, subst, arith, Some, None, List, [], ◌∷◌, length, true, false}
use Rattle.std.specs.Prelude.{Option, Bool, ◌⊎◌, is_some, get_or, Contains}
use Rattle.std.specs.List.{list_any}
use Rattle.std.proofs.lemmas.Bool.{cases_lt, eq-eqb}
use Rattle.std.proofs.lemmas.List.{get_or_past}
use Rattle.std.proofs.lemmas.Option.{none-some}
use Rattle.sa_base.specs.declared.number.SpaceNo.{SpaceNo}
use Rattle.sa_base.specs.declared.number.ProcNo.{ProcNo}
use Rattle.sa_base.specs.declared.number.ActNo.{ActNo}
use Rattle.sa_base.specs.declared.record.Note.{Note}
use Rattle.sa_base.specs.declared.record.Note.TheVariants.{Preempted}
use Rattle.sa_spaces.specs.Workload.{WorkloadView}
use Rattle.sa_acts.specs.declared.acts.Act.{Act}
use Rattle.sa_acts.specs.Table.{held_of}
use Rattle.sa_assign.specs.Aims.{is_aim, least_below}
use Rattle.sa_assign.specs.Reaim.{proc_no}
use Rattle.sa_assign.proofs.AimLemmas.{is_aim-true}
use Rattle.sa_assign.proofs.ChoiceLemmas.{least_below-passes, least_below-none}
use Rattle.sa_batch.specs.Notices.{has_untold}
use Rattle.sa_devices.specs.Ios.{Io, fetches}
use Rattle.sa_kernel_model.specs.State.{KernelState, Scene, untold_of, is_fetching}
use Rattle.sa_kernel_model.specs.Closing.{closed, was_idle as idle_in}
use Rattle.sa_kernel_model.specs.Sound.{IsSound, IsPrompt}
use Rattle.sa_kernel_model.proofs.sound.Sound.{sound-closed}
use Rattle.sa_kernel_model.proofs.sound.Held.{stays-closed}
use Rattle.sa_laws.specs.Readings.{Readings, untold_of as untold_at, is_fetching as fetching_at}
use Rattle.sa_laws.specs.History.{Test, after_records, after_event, behind_all}
use Rattle.sa_laws.specs.Upcalls.{IsPrompt as IsPromptIn, OwnsNone, OwnsRaised}
use Rattle.sa_kernel_laws.specs.Overview.{Overview, overview, read_off}
use Rattle.sa_kernel_laws.specs.Turn.{Turn, CanTurn, turned, event_of}
use Rattle.sa_kernel_laws.specs.Kept.{IsTidy, IdleAlike, IsKept}
use Rattle.sa_kernel_laws.proofs.overview.Records.{overview-ended}
use Rattle.sa_kernel_laws.proofs.overview.Idle.{idles, idles-ended}
use Rattle.sa_kernel_laws.proofs.turns.WholeTurn.{Whole, reading_at, whole-turn}

-- which processors a space owns, and whether something waits
owns-none : (n : ℕ) (owners : List (Option SpaceNo)) (s : SpaceNo) → length owners ≡ n → least_below n (λ q. is_aim s.0 (get_or owners q None)) ≡ None
    → (p : ProcNo) → get_or owners p.0 None ≢ Some s
owns-none n owners s len none p owner = elim (cases_lt p.0 n) [
  | inl below ↦
      let no = least_below-none n (λ q. is_aim s.0 (get_or owners q None)) none p.0 below in
      absurd (let yes : true ≡ false = sym (eq-eqb s.0 s.0 refl) ∙ ap (is_aim s.0) (sym owner) ∙ no in cc)
  | inr past ↦ none-some s (sym (get_or_past owners p.0 None (omega arith)) ∙ owner)
]

some-waits : (ns : List Note) → ns ≢ [] → has_untold ns ≡ true
some-waits [] some = absurd (some refl)
some-waits (n ∷ ns) some = refl

module _ {C : Type 0} where
  -- what is read after the event is the state after the closing
  pub reads-after : (test : Test) (w : WorkloadView) (k : KernelState C) (r : Readings) (t : Turn C) (whole : Whole w k r t)
      → overview (after_event test w r (event_of t k)) ≡ read_off (closed t.number t.proc whole.before).state
  reads-after test w k r t whole =
      overview-ended test w r (event_of t k) (behind_all w (event_of t k) r) ∙ ap overview whole.behind ∙ whole.closing.reads

  -- a state that differs in aims, lines and demands alone
  pub tidy-closed : (e : ℕ) (p : ProcNo) (y : Scene C) → IsTidy y.state → IsTidy (closed e p y).state
  tidy-closed e p y tidy =
      let stays = stays-closed e p y in
      let new = (closed e p y).state in
      let P : List (List Note) → List Io → List (List ActNo) → Type 0 = λ us ios ts. IsTidy (record new { untold = us; under_way = ios; taken = ts }) in
      let here : P y.state.untold y.state.under_way y.state.taken = record {
        added = tidy.added;
        blocked = tidy.blocked;
        fetched = tidy.fetched;
        taken = tidy.taken;
      } in
      subst (λ us. P us new.under_way new.taken) (sym stays.untold)
      (subst (λ ios. P y.state.untold ios new.taken) (sym stays.under_way) (subst (λ ts. P y.state.untold y.state.under_way ts) (sym stays.taken) here))

  pub idle-closed : (e : ℕ) (p : ProcNo) (y : Scene C) (m c : Readings) → idles c.lives ≡ idles m.lives → IdleAlike y.state m → IdleAlike (closed e p y).state c
  idle-closed e p y m c same idle s a has =
      let stays = stays-closed e p y in
      ap (λ f. f a.0) same ∙ idle s a (subst (λ (us : List (List Note)). Contains (get_or us s []) (Preempted a)) stays.untold has)
      ∙ ap (λ (acts : ℕ → Option (Act C)). idle_in (held_of (acts a.0))) (sym stays.acts)

  pub turn-keeps : (test : Test) (w : WorkloadView) (k : KernelState C) (r : Readings) (t : Turn C) → IsKept w k r → CanTurn w k r t
      → IsKept w (turned t k).state (after_event test w r (event_of t k))
  turn-keeps test w k r t kept can =
      let whole = whole-turn w k r t kept can in
      let y = whole.before in
      let e = t.number in
      let p = t.proc in
      let new = closed e p y in
      let after = after_event test w r (event_of t k) in
      let reads = reads-after test w k r t whole in
      let closes = whole.closing.closes in
      let m = after_records w e p (reading_at w r t k) whole.own.records in
      let lives : idles after.lives ≡ idles m.lives =
      idles-ended test w r (event_of t k) (behind_all w (event_of t k) r) ∙ ap (λ (c : Readings). idles c.lives) whole.behind ∙ ap idles whole.closing.lives in
      let lives_len : length new.state.lives ≡ w.processors = ap (λ (ls : List (Option ActNo)). length ls) (stays-closed e p y).lives ∙ whole.of.processors in
      let result : IsKept w new.state after = record {
        sound = sound-closed e p y whole.sound;
        of = record { fixed = whole.closing.fixed ∙ whole.of.fixed; processors = lives_len; spaces = whole.closing.spaces };
        tidy = tidy-closed e p y whole.own.tidy;
        reads = reads;
        idle = idle-closed e p y m after lives whole.own.idle;
      } in
      subst (λ (x : Scene C). IsKept w x.state after) (sym whole.is) result

  -- after the event notices wait rightly
  pub prompt-in : (k : KernelState C) (r : Readings) → IsSound k → overview r ≡ read_off k → IsPrompt k → IsPromptIn r
  prompt-in k r sound reads prompt = record {
    each = λ s waits. go s waits (is_fetching k s.0) refl (least_below (length k.assign.owners) (λ q. is_aim s.0 (get_or k.assign.owners q None))) refl;
  }
    where
      go : (s : SpaceNo) → untold_at r s ≢ [] → (b : Bool) → is_fetching k s.0 ≡ b → (o : Option ℕ)
          → least_below (length k.assign.owners) (λ q. is_aim s.0 (get_or k.assign.owners q None)) ≡ o
          → OwnsNone r s ⊎ ((fetching_at r s ≡ true) ⊎ OwnsRaised r s)
      go s waits true fetching o is = inr (inl (ap (λ (v : Overview). list_any (fetches s.0) v.under_way) reads ∙ fetching))
      go s waits false idle None is =
          inl (λ p owner. owns-none (length k.assign.owners) k.assign.owners s refl is p
          (ap (λ (v : Overview). get_or v.assign.owners p.0 None) (sym reads) ∙ owner))
      go s waits false idle (Some q) is =
          let found = (least_below-passes (length k.assign.owners) (λ i. is_aim s.0 (get_or k.assign.owners i None)) q is).passes in
          let some : has_untold (untold_of k s.0) ≡ true =
          ap (λ (v : Overview). has_untold (get_or v.untold s.0 [])) (sym reads) ∙ some-waits (untold_at r s) waits in
          let has = prompt s some idle (proc_no q) (is_aim-true s.0 (get_or k.assign.owners q None) found) in
          inr (inr (
            has.proc,
            ap (λ (v : Overview). get_or v.assign.owners has.proc.0 None) reads ∙ has.owner,
            ap (λ (v : Overview). is_some (get_or v.assign.lines has.proc.0 None)) reads ∙ has.raised,
          ))
