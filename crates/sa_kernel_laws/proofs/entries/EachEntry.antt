-- Each entry has an own part.
use Rattle.std.proofs.Common.{map, ◌≡◌, ◌≢◌, ℕ, ◌<◌, ◌≤◌, ◌+◌, ◌-◌, refl, sym, ◌∙◌, ap, subst, arith, Some, None, List, [], ◌∷◌, ◌++◌, length, true, false}
use Rattle.std.specs.Prelude.{Option, Bool, is_some, IsSome, get_or, slice_set, slice_index}
use Rattle.std.specs.Option.{option_map}
use Rattle.std.proofs.lemmas.Bool.{lt-ltb, le-ltb, ne_eqb}
use Rattle.std.proofs.lemmas.List.{set-get_or, append-nil}
use Rattle.std.proofs.lemmas.Option.{none-some, same_Some}
use Rattle.sa_base.specs.declared.number.SpaceNo.{SpaceNo}
use Rattle.sa_base.specs.declared.number.ProcNo.{ProcNo}
use Rattle.sa_base.specs.declared.number.ActNo.{ActNo}
use Rattle.sa_base.specs.declared.number.IoNo.{IoNo}
use Rattle.sa_base.specs.declared.context.Stopped.{Stopped}
use Rattle.sa_base.specs.declared.record.Note.TheVariants.{Preempted, Blocked}
use Rattle.sa_base.specs.declared.record.Record.{Record}
use Rattle.sa_base.specs.declared.record.Record.TheVariants.{Want, Line, GiveBack}
use Rattle.sa_base.specs.Items.{items_at}
use Rattle.sa_spaces.specs.Workload.{WorkloadView}
use Rattle.sa_acts.specs.Table.{runs_in, held_of}
use Rattle.sa_devices.specs.Ios.{Io, without}
use Rattle.sa_devices.specs.Pages.{completed, IsKind}
use Rattle.sa_devices.specs.declared.kind.IoKind.{IoKind}
use Rattle.sa_kernel_model.specs.declared.entry.Entry.{Entry}
use Rattle.sa_kernel_model.specs.declared.entry.Entry.TheVariants as entry
use Rattle.sa_kernel_model.specs.State.{KernelState, Scene, Fixed, owner_of, life_of, aim_of, line_of, demand_of, taken_of}
use Rattle.sa_kernel_model.specs.Parts.{with_line, raised}
use Rattle.sa_kernel_model.specs.Entries.{stopped, go_to_aim, interrupted, blocked_by, kind_at, over, over_for, announced, more, idled, gave_back, entered_as}
use Rattle.sa_kernel_model.specs.Sound.{IsSound}
use Rattle.sa_kernel_model.specs.Entering.{MayInterrupt, MayBlock, MayComplete, MayAskForMore, MayHintIdle, MayGiveBack, MayInterruptOwn}
use Rattle.sa_kernel_model.proofs.sound.Held.{runs-here}
use Rattle.sa_devices.proofs.SoundLemmas.{All-io_at}
use Rattle.sa_laws.specs.Life.{Life}
use Rattle.sa_laws.specs.Readings.{Readings, owner_of as owner_in, aim_of as aim_in, demand_of as demand_in}
use Rattle.sa_laws.specs.Record.{mark_after}
use Rattle.sa_laws.specs.History.{after_records}
use Rattle.sa_laws.specs.Turns.{IsInterrupt, IsBlock, IsOver}
use Rattle.sa_laws.specs.Upcalls.{BeginsAsInterrupt, StopsAndGoes}
use Rattle.sa_kernel_laws.specs.Overview.{Overview, overview, read_off}
use Rattle.sa_kernel_laws.specs.Turn.{ShapeOf, AreUsers, IsFor, WereIdle, IsUnused, MayTurn, SaysRightly}
use Rattle.sa_kernel_laws.specs.Kept.{IsOf, IsTidy, IdleAlike}
use Rattle.sa_kernel_laws.proofs.overview.Records.{users-records}
use Rattle.sa_kernel_laws.proofs.overview.Untold.{copies}
use Rattle.sa_kernel_laws.proofs.overview.Idle.{users-idles}
use Rattle.sa_kernel_laws.proofs.overview.Once.{apart-claimed, none-of}
use Rattle.sa_kernel_laws.proofs.entries.Walks.{Walk, Running, not-empty}
use Rattle.sa_kernel_laws.proofs.entries.Stops.{CanStop, IsAside, WasStopped, free-walk, stop-walk, block-walk}
use Rattle.sa_kernel_laws.proofs.entries.Completions.{over-walk, give-walk}
use Rattle.sa_kernel_laws.proofs.entries.OwnPart.{Turned, low-turned, users-are_own, users-are_moved, users-lawful, users-calm, own-asked, own-others, own-no_aim}
use Rattle.sa_kernel_laws.proofs.turns.Shapes.{own-lines}

some-raised : (l : Option ℕ) → IsSome l → is_some l ≡ true
some-raised None is = is
some-raised (Some e) is = refl

-- the same lives run
pub record IsSameRun (r before : Readings) : Type 0 where
  pub lives : r.lives ≡ before.lives
  pub running : r.running ≡ before.running

same_kind : (a b : Io) (kind : IoKind) → a.kind ≡ kind → a ≡ b → b.kind ≡ kind
same_kind a b kind is same = ap (λ (i : Io). i.kind) (sym same) ∙ is

module _ {C : Type 0} where
  -- what is so before an entry; the event's processor has a low line then
  pub record Stands (w : WorkloadView) (k : KernelState C) (r : Readings) (p : ProcNo) : Type 0 where
    pub sound : IsSound k
    pub tidy : IsTidy k
    pub of : IsOf w k
    pub empty : k.telling ≡ []
    pub reads : overview r ≡ read_off (with_line p None k)
    pub moved : r.moved ≡ None
    pub last : r.last ≡ None
    pub within : p.0 < length k.lives
    pub idle : IdleAlike k r

  fetch-is : (w : WorkloadView) (k : KernelState C) → IsOf w k → k.fixed.fetch ≡ w.fetch
  fetch-is w k of = ap (λ (f : Fixed). f.fetch) of.fixed

  -- where the line is low already
  low-reads : (w : WorkloadView) (k : KernelState C) (r : Readings) (p : ProcNo) → Stands w k r p → line_of k p ≡ None → overview r ≡ read_off k
  low-reads w k r p stands low =
      let F : List (Option ℕ) → Overview = λ lines. read_off (record k { assign = record k.assign { lines = lines } }) in
      stands.reads ∙ ap F (ap (λ l. slice_set k.assign.lines p.0 l) (sym low) ∙ set-get_or k.assign.lines p.0 None)

  -- the owner of a processor, its aim, and what runs there
  inside-untold : (k : KernelState C) (s : SpaceNo) → IsSound k → s.0 < length k.demands → s.0 < length k.untold
  inside-untold k s sound below = let len = sound.formed.sizes.untold in omega arith

  owner-life : (k : KernelState C) (p : ProcNo) (s : SpaceNo) → IsSound k → owner_of k p ≡ Some s → IsSome (life_of k p)
  owner-life k p s sound owner = (sound.placed p.0).runs (subst (λ (o : Option SpaceNo). IsSome o) (sym owner) refl)

  life-owner : (k : KernelState C) (p : ProcNo) (a : ActNo) → IsSound k → owner_of k p ≡ None → life_of k p ≡ Some a → ⊥
  life-owner k p a sound none life = let runs = sound.formed.lives.run p.0 a life in none-some runs.space (sym none ∙ runs.owner)

  aside : (k : KernelState C) (p : ProcNo) (s : SpaceNo) (a fresh : ActNo) → IsSound k → IsTidy k → owner_of k p ≡ Some s → life_of k p ≡ Some a
      → k.acts fresh.0 ≡ None → IsAside k p s a fresh (Preempted a) × IsAside k p s a fresh (Blocked a)
  aside k p s a fresh sound tidy owner life unused =
      let act = runs-here k p s a owner life sound.formed in
      let runs : Running k p s a = record { life = life; act = act } in
      let inside = inside-untold k s sound (sound.formed.owners p.0 s owner) in
      let none = ap held_of act in
      let stopped = none-of k sound.claimed.told_to (Preempted a) a.0 refl sound.claimed.once tidy none in
      let apart : a.0 ≢ fresh.0 = λ same. none-some (runs_in s) (sym unused ∙ ap k.acts (sym same) ∙ act) in (
        record { runs = runs; inside = inside; real = λ q. refl; new = stopped; stopped = stopped; other = ne_eqb a.0 fresh.0 apart },
        record {
          runs = runs;
          inside = inside;
          real = λ q. refl;
          new = none-of k sound.claimed.told_to (Blocked a) a.0 refl sound.claimed.once tidy none;
          stopped = stopped;
          other = refl;
        },
      )

  new-fresh : (k : KernelState C) (fresh : ActNo) → IsSound k → IsTidy k → k.acts fresh.0 ≡ None → copies (Preempted fresh) k.untold ≡ 0
  new-fresh k fresh sound tidy unused = none-of k sound.claimed.told_to (Preempted fresh) fresh.0 refl sound.claimed.once tidy (ap held_of unused)

  same-tidy : (k : KernelState C) (p : ProcNo) → IsTidy k → IsTidy (with_line p None k)
  same-tidy k p tidy = record { added = tidy.added; blocked = tidy.blocked; fetched = tidy.fetched; taken = tidy.taken }

  -- an interrupt
  turned-raised : (w : WorkloadView) (e : ℕ) (p : ProcNo) (r : Readings) (k : KernelState C) (held : Option (Stopped C)) (x y : Scene C) (o : Option SpaceNo)
      (s : SpaceNo) → is_some (line_of k p) ≡ true → x.items ≡ [] → x.state.fixed ≡ k.fixed → IdleAlike x.state r → IsTidy x.state → owner_in r p ≡ o
      → aim_in r p ≡ Some s → Walk w e p r x y (StopsAndGoes p r o (Some s)) IsInterrupt → Turned w e p r k [] (Some (entry.Interrupt held)) y
  turned-raised w e p r k held x y o s up empty fixed idle tidy owner aim walk = record {
    records = walk.records;
    adds = walk.adds ∙ ap (λ v. v ++ items_at e p walk.records) empty;
    reads = walk.reads;
    lawful = walk.lawful;
    fixed = walk.fixed ∙ fixed;
    idle = walk.idle idle;
    tidy = walk.tidy tidy;
    some = walk.some;
    own = own-others walk.records walk.own;
    shape = walk.shape;
    no_aim = own-no_aim walk.records walk.own;
    no_line = λ none. own-lines walk.records walk.own;
    calm = λ begins. up;
    turns = λ is rest closes.
        subst (λ own. StopsAndGoes p r own (aim_in r p) (walk.records ++ rest)) (sym owner)
        (subst (λ a. StopsAndGoes p r o a (walk.records ++ rest)) (sym aim) (walk.is rest closes));
    asked = λ c rest same. own-asked w c p walk.records rest walk.some walk.own;
  }

  users-idle : (w : WorkloadView) (e : ℕ) (p : ProcNo) (r : Readings) (k : KernelState C) (says : List Record) → AreUsers says → IdleAlike k r
      → IdleAlike k (after_records w e p r says)
  users-idle w e p r k says users idle s a has = ap (λ f. f a.0) (users-idles w e p r says users) ∙ idle s a has

  stands-stop : (w : WorkloadView) (k : KernelState C) (r : Readings) (p : ProcNo) (fresh : ActNo) → Stands w k r p → k.acts fresh.0 ≡ None
      → CanStop w (with_line p None k) r p fresh
  stands-stop w k r p fresh stands unused = record {
    reads = stands.reads;
    fetch = fetch-is w k stands.of;
    empty = stands.empty;
    unused = unused;
    apart = apart-claimed k stands.sound.claimed.told_to stands.sound.claimed.once stands.tidy;
    fresh_new = new-fresh k fresh stands.sound stands.tidy unused;
    moved = stands.moved;
  }

  abbrev WereStopped : Readings → ActNo → Option (Stopped C) → Type 0
  WereStopped r a None = Unit {0}
  WereStopped r a (Some held) = WasStopped r a held

  turned-interrupt : (w : WorkloadView) (e : ℕ) (p : ProcNo) (r : Readings) (k : KernelState C) (fresh : ActNo) (aim o : Option SpaceNo) (l : Option ActNo)
      (held : Option (Stopped C)) → Stands w k r p → k.acts fresh.0 ≡ None → MayInterrupt k p held
      → ((a : ActNo) → life_of k p ≡ Some a → WereStopped r a held) → aim_of k p ≡ aim → owner_of k p ≡ o → life_of k p ≡ l
      → Turned w e p r k [] (Some (entry.Interrupt held)) (go_to_aim e p fresh aim (stopped e p o l held (record { state = with_line p None k; items = [] })))
  turned-interrupt w e p r k fresh None o l held stands unused fits right aim owner life =
      absurd (let some = (stands.sound.placed p.0).aimed fits.raised in let none = subst (λ (a : Option SpaceNo). IsSome a) aim some in cc)
  turned-interrupt w e p r k fresh (Some s) None (Some a) held stands unused fits right aim owner life = absurd (life-owner k p a stands.sound owner life)
  turned-interrupt w e p r k fresh (Some s) None None held stands unused fits right aim owner life =
      let x : Scene C = record { state = with_line p None k; items = [] } in
      let inside = inside-untold k s stands.sound (stands.sound.formed.aims p.0 s aim) in
      let walk = free-walk w e p r x s fresh (stands-stop w k r p fresh stands unused) inside owner life in
      turned-raised w e p r k held x _ None s (some-raised (line_of k p) fits.raised) refl refl stands.idle (same-tidy k p stands.tidy)
      (ap (λ (v : Overview). get_or v.assign.owners p.0 None) stands.reads ∙ owner)
      (ap (λ (v : Overview). get_or v.assign.aims p.0 None) stands.reads ∙ aim) walk
  turned-interrupt w e p r k fresh (Some s) (Some t) None held stands unused fits right aim owner life =
      absurd (let some = owner-life k p t stands.sound owner in let none = subst (λ (a : Option ActNo). IsSome a) life some in cc)
  turned-interrupt w e p r k fresh (Some s) (Some t) (Some a) None stands unused fits right aim owner life =
      absurd (let some = fits.owned (subst (λ (b : Option SpaceNo). IsSome b) (sym owner) refl) in cc)
  turned-interrupt w e p r k fresh (Some s) (Some t) (Some a) (Some held) stands unused fits right aim owner life =
      let x : Scene C = record { state = with_line p None k; items = [] } in
      let inside = inside-untold k s stands.sound (stands.sound.formed.aims p.0 s aim) in
      let put = (aside k p t a fresh stands.sound stands.tidy owner life unused).0 in
      let here : IsAside x.state p t a fresh (Preempted a) =
      record {
        runs = record { life = life; act = put.runs.act };
        inside = put.inside;
        real = put.real;
        new = put.new;
        stopped = put.stopped;
        other = put.other;
      } in
      let walk = stop-walk w e p r x t s a fresh held (stands-stop w k r p fresh stands unused) here inside owner (right a life) in
      turned-raised w e p r k (Some held) x _ (Some t) s (some-raised (line_of k p) fits.raised) refl refl stands.idle (same-tidy k p stands.tidy)
      (ap (λ (v : Overview). get_or v.assign.owners p.0 None) stands.reads ∙ owner)
      (ap (λ (v : Overview). get_or v.assign.aims p.0 None) stands.reads ∙ aim) walk

  -- a block
  turned-block : (w : WorkloadView) (e : ℕ) (p : ProcNo) (r : Readings) (k : KernelState C) (says : List Record) (fresh : ActNo) (held : Stopped C) (len : ℕ)
      (page : Option ℕ) (o : Option SpaceNo) (l : Option ActNo) → Stands w k r p → k.acts fresh.0 ≡ None → MayBlock k p page → AreUsers says
      → IsFor w k p (after_records w e p r says) held len page → owner_of k p ≡ o → life_of k p ≡ l
      → Turned w e p r k says (Some (entry.Block held len page)) (blocked_by e p fresh o l held len page (record { state = k; items = items_at e p says }))
  turned-block w e p r k says fresh held len page None l stands unused fits users for owner life = absurd (none-some fits.space (sym owner ∙ fits.asks.owner))
  turned-block w e p r k says fresh held len page (Some s) None stands unused fits users for owner life =
      absurd (let some = owner-life k p s stands.sound owner in let none = subst (λ (a : Option ActNo). IsSome a) life some in cc)
  turned-block w e p r k says fresh held len page (Some s) (Some a) stands unused fits users for owner life =
      let x : Scene C = record { state = k; items = items_at e p says } in
      let c = after_records w e p r says in
      let can : CanStop w k c p fresh = record {
        reads = users-records w e p r says users ∙ low-reads w k r p stands fits.asks.low;
        fetch = fetch-is w k stands.of;
        empty = stands.empty;
        unused = unused;
        apart = apart-claimed k stands.sound.claimed.told_to stands.sound.claimed.once stands.tidy;
        fresh_new = new-fresh k fresh stands.sound stands.tidy unused;
        moved = users-are_moved w e p r says users ∙ stands.moved;
      } in
      let walk =
      block-walk w e p c x s a fresh held len page can (aside k p s a fresh stands.sound stands.tidy owner life unused).1 owner (for s a owner life) in
      low-turned w e p r k says (Some (entry.Block held len page)) x _ IsBlock fits.asks.low users refl refl
      (users-idle w e p r k says users stands.idle) stands.tidy walk (λ own is. record { own = own; is = refl; shape = is })

  -- a completion
  turned-over : (w : WorkloadView) (e : ℕ) (p : ProcNo) (r : Readings) (k : KernelState C) (says : List Record) (io : IoNo) (kind : Option IoKind)
      → Stands w k r p → MayComplete k p e io → AreUsers says → kind_at io.0 k.under_way ≡ kind
      → Turned w e p r k says (Some (entry.Complete io)) (over e p io kind (record { state = k; items = items_at e p says }))
  turned-over w e p r k says io None stands fits users is =
      absurd (none-some fits.here.kind (sym is ∙ ap (λ o. option_map (λ (i : Io). i.kind) o) fits.under_way))
  turned-over w e p r k says io (Some kind) stands fits users is =
      let x : Scene C = record { state = k; items = items_at e p says } in
      let c = after_records w e p r says in
      let same : fits.here.kind ≡ kind = same_Some fits.here.kind kind (sym (ap (λ o. option_map (λ (i : Io). i.kind) o) fits.under_way) ∙ is) in
      let within : IsKind (length k.untold) fits.here.kind =
      subst (λ n. IsKind n fits.here.kind) (sym stands.sound.formed.sizes.untold)
      (All-io_at (λ (i : Io). IsKind (length k.demands) i.kind) io.0 k.under_way fits.here stands.sound.formed.ios fits.under_way) in
      let walk =
      over-walk w e p c x stands.sound.claimed.told_to io.0 fits.here kind
      (users-records w e p r says users ∙ low-reads w k r p stands fits.low) stands.sound.claimed.once stands.tidy within fits.under_way same in
      low-turned w e p r k says (Some (entry.Complete io)) x _ (IsOver kind) fits.low users refl refl (users-idle w e p r k says users stands.idle) stands.tidy
      (subst (λ (was : IoKind). Walk w e p c x (over_for e p kind (record x {
        state = record k { under_way = without io.0 k.under_way; pages = completed was k.pages };
      })) (λ all. BeginsAsInterrupt all → ⊥)
      (IsOver kind)) same walk)
      (λ own over. record {
        own = own;
        is = refl;
        shape =
            λ io_here at. subst (λ was. IsOver was own)
            (sym (same_kind fits.here io_here kind same (same_Some fits.here io_here (sym fits.under_way ∙ at)))) over;
      })

  -- a hint is its event's first record
  turned-want : (w : WorkloadView) (e : ℕ) (p : ProcNo) (r : Readings) (k : KernelState C) (s : SpaceNo) (n : ℕ) (idle : Bool) (en : Option (Entry C))
      → Stands w k r p → line_of k p ≡ None → ShapeOf k p [] en (Want s n ∷ []) → ((mark : Bool) → mark_after None (demand_of k s.0) n mark ≡ idle)
      → Turned w e p r k [] en (announced e p s n idle (record { state = k; items = [] }))
  turned-want w e p r k s n idle en stands low shape marks =
      let reads = low-reads w k r p stands low in
      let F : Bool → Overview → Overview =
      λ b (v : Overview). record v { assign = record v.assign { marks = slice_set v.assign.marks p.0 b }; demands = slice_set v.demands s.0 n } in
      let was = get_or r.marks p.0 false in
      let mark : mark_after r.last (demand_in r s) n was ≡ idle =
      ap (λ last. mark_after last (demand_in r s) n was) stands.last ∙ ap (λ (v : Overview). mark_after None (slice_index v.demands s.0) n was) reads
      ∙ marks was in
      record {
        records = Want s n ∷ [];
        adds = refl;
        reads = ap (λ b. F b (overview r)) mark ∙ ap (F idle) reads;
        lawful = λ rest closes law. (record { once = tt; named = tt; all = tt; gives = tt; raises = tt }, law);
        fixed = refl;
        idle = stands.idle;
        tidy = record { added = stands.tidy.added; blocked = stands.tidy.blocked; fetched = stands.tidy.fetched; taken = stands.tidy.taken };
        some = not-empty (Want s n) [];
        own = refl;
        no_aim = refl;
        shape = shape;
        no_line = λ none. refl;
        calm = λ begins. absurd begins;
        turns = λ up. absurd (let no = sym up ∙ ap is_some low in cc);
        asked = λ c rest same. tt;
      }

  hint-of : (k : KernelState C) (s t : SpaceNo) (n : SpaceNo → ℕ) → s ≡ t → Want s (n s) ∷ [] ≡ Want t (n t) ∷ []
  hint-of k s t n same = ap (λ (u : SpaceNo). Want u (n u) ∷ []) same

  turned-more : (w : WorkloadView) (e : ℕ) (p : ProcNo) (r : Readings) (k : KernelState C) (n : ℕ) (o : Option SpaceNo) → Stands w k r p → MayAskForMore k p n
      → owner_of k p ≡ o → Turned w e p r k [] (Some (entry.More n)) (more e p n o (record { state = k; items = [] }))
  turned-more w e p r k n None stands fits owner = absurd (none-some fits.space (sym owner ∙ fits.asks.owner))
  turned-more w e p r k n (Some s) stands fits owner =
      turned-want w e p r k s (demand_of k s.0 + n) false (Some (entry.More n)) stands fits.asks.low
      (λ t is. hint-of k s t (λ u. demand_of k u.0 + n) (same_Some s t (sym owner ∙ is))) (λ mark. le-ltb (demand_of k s.0 + n) (demand_of k s.0) (omega arith))

  turned-idle : (w : WorkloadView) (e : ℕ) (p : ProcNo) (r : Readings) (k : KernelState C) (o : Option SpaceNo) → Stands w k r p → MayHintIdle k p
      → owner_of k p ≡ o → Turned w e p r k [] (Some entry.Idle) (idled e p o (record { state = k; items = [] }))
  turned-idle w e p r k None stands fits owner = absurd (none-some fits.space (sym owner ∙ fits.asks.owner))
  turned-idle w e p r k (Some s) stands fits owner =
      let same : fits.space ≡ s = same_Some fits.space s (sym fits.asks.owner ∙ owner) in
      let some : 1 ≤ demand_of k s.0 = subst (λ (t : SpaceNo). 1 ≤ demand_of k t.0) same fits.some in
      turned-want w e p r k s (demand_of k s.0 - 1) true (Some entry.Idle) stands fits.asks.low
      (λ t is. hint-of k s t (λ u. demand_of k u.0 - 1) (same_Some s t (sym owner ∙ is))) (λ mark. lt-ltb (demand_of k s.0 - 1) (demand_of k s.0) (omega arith))

  turned-given : (w : WorkloadView) (e : ℕ) (p : ProcNo) (r : Readings) (k : KernelState C) (says : List Record) (o : Option SpaceNo) → Stands w k r p
      → MayGiveBack k p → AreUsers says → owner_of k p ≡ o
      → Turned w e p r k says (Some entry.GiveBack) (gave_back e p o (record { state = k; items = items_at e p says }))
  turned-given w e p r k says None stands fits users owner = absurd (none-some fits.space (sym owner ∙ fits.asks.owner))
  turned-given w e p r k says (Some s) stands fits users owner =
      let x : Scene C = record { state = k; items = items_at e p says } in
      let formed = stands.sound.formed in
      let same : fits.space ≡ s = same_Some fits.space s (sym fits.asks.owner ∙ owner) in
      let some : 1 ≤ length (taken_of k s.0) = subst (λ (t : SpaceNo). 1 ≤ length (taken_of k t.0)) same fits.some in
      let enough : length k.fixed.priorities ≤ length k.taken =
      (let few = formed.sizes.few_spaces in let all = formed.sizes.taken in let same = formed.sizes.priorities in omega arith) in
      let below : s.0 < length k.fixed.priorities = (let in_range = formed.owners p.0 s owner in let same = formed.sizes.priorities in omega arith) in
      let walk =
      give-walk w e p (after_records w e p r says) x stands.sound.claimed.told_to s
      (users-records w e p r says users
      ∙ low-reads w k r p stands fits.asks.low) stands.sound.claimed.once stands.tidy stands.empty formed.taken below enough some in
      low-turned w e p r k says (Some entry.GiveBack) x _ (λ own. own ≡ map GiveBack (taken_of k s.0)) fits.asks.low users refl refl
      (users-idle w e p r k says users stands.idle) stands.tidy walk
      (λ own is. record { own = own; is = refl; shape = λ t has. is ∙ ap (λ (u : SpaceNo). map GiveBack (taken_of k u.0)) (same_Some s t (sym owner ∙ has)) })

  -- the line of another processor is the first record
  turned-own : (w : WorkloadView) (e : ℕ) (p q : ProcNo) (r : Readings) (k : KernelState C) → Stands w k r p → MayInterruptOwn k p q
      → Turned w e p r k [] (Some (entry.InterruptOwn q)) (raised e p q (record { state = k; items = [] }))
  turned-own w e p q r k stands fits =
      let reads = low-reads w k r p stands fits.asks.low in
      let F : Overview → Overview = λ (v : Overview). record v { assign = record v.assign { lines = slice_set v.assign.lines q.0 (Some e) } } in
      record {
        records = Line q ∷ [];
        adds = refl;
        reads = ap F reads;
        lawful =
            λ rest closes law. (
              record {
                once = tt;
                named = tt;
                all = tt;
                gives = tt;
                raises = ap (λ (v : Overview). get_or v.assign.lines q.0 None) reads ∙ fits.owned.low;
              },
              law,
            );
        fixed = refl;
        idle = stands.idle;
        tidy = record { added = stands.tidy.added; blocked = stands.tidy.blocked; fetched = stands.tidy.fetched; taken = stands.tidy.taken };
        some = not-empty (Line q) [];
        own = refl;
        no_aim = refl;
        shape = refl;
        no_line = λ none. absurd (cc);
        calm = λ begins. absurd begins;
        turns = λ up. absurd (let no = sym up ∙ ap is_some fits.asks.low in cc);
        asked = λ c rest same. record {
          apart = λ is. fits.other (ap (λ (z : ProcNo). z.0) (sym is));
          space = fits.space;
          owned = ap (λ (os : List (Option SpaceNo)). get_or os p.0 None) same ∙ fits.asks.owner;
          other = ap (λ (os : List (Option SpaceNo)). get_or os q.0 None) same ∙ fits.owned.owner;
          asked = tt;
        };
      }

  -- the end of a slice
  turned-slice : (w : WorkloadView) (e : ℕ) (p : ProcNo) (r : Readings) (k : KernelState C) (says : List Record) → Stands w k r p → line_of k p ≡ None
      → says ≢ [] → AreUsers says → Turned w e p r k says None (record { state = k; items = items_at e p says })
  turned-slice w e p r k says stands low some users = record {
    records = says;
    adds = refl;
    reads = users-records w e p r says users ∙ low-reads w k r p stands low;
    lawful = λ rest closes law. users-lawful w e p r says rest users law;
    fixed = refl;
    idle = users-idle w e p r k says users stands.idle;
    tidy = stands.tidy;
    some = some;
    own = own-others says (users-are_own says users);
    shape = refl;
    no_aim = own-no_aim says (users-are_own says users);
    no_line = λ none. own-lines says (users-are_own says users);
    calm = λ begins. absurd (users-calm says [] users (λ b. b) (subst (λ xs. BeginsAsInterrupt xs) (sym (append-nil says)) begins));
    turns = λ up. absurd (let no = sym up ∙ ap is_some low in cc);
    asked = λ c rest same. own-asked w c p says rest some (users-are_own says users);
  }

  -- what a turn does before its closing
  abbrev pub before_closing : ℕ → ProcNo → ActNo → Option (Entry C) → Scene C → Scene C
  before_closing e p fresh None x = x
  before_closing e p fresh (Some en) x = entered_as e p fresh en x

  were-stopped : (w : WorkloadView) (k : KernelState C) (r before : Readings) (p : ProcNo) (a : ActNo) (held : Option (Stopped C)) → Stands w k r p
      → IsSameRun r before → life_of k p ≡ Some a → WereIdle before p held → WereStopped r a held
  were-stopped w k r before p a None stands same life right = tt
  were-stopped w k r before p a (Some held) stands same life right = λ here is.
      right a here (ap (λ ls. get_or ls p.0 None) (sym same.running ∙ ap (λ (v : Overview). v.running) stands.reads) ∙ life)
      (ap (λ (f : ℕ → Option Life). f a.0) (sym same.lives) ∙ is)

  pub turned-all : (w : WorkloadView) (e : ℕ) (p : ProcNo) (r before : Readings) (k : KernelState C) (says : List Record) (fresh : ActNo)
      (en : Option (Entry C)) → Stands w k r p → IsUnused k fresh en → IsSameRun r before → MayTurn k p e en
      → SaysRightly w k p before (after_records w e p r says) says en
      → Turned w e p r k says en (before_closing e p fresh en (record { state = k; items = items_at e p says }))
  turned-all w e p r before k says fresh None stands unused same fits right = turned-slice w e p r k says stands fits right.0 right.1
  turned-all w e p r before k says fresh (Some (entry.Interrupt held)) stands unused same fits right =
      subst (λ ss. Turned w e p r k ss (Some (entry.Interrupt held)) (interrupted e p fresh held (record { state = k; items = items_at e p ss }))) (sym right.0)
      (turned-interrupt w e p r k fresh (aim_of k p) (owner_of k p) (life_of k p) held stands unused fits
      (λ a life. were-stopped w k r before p a held stands same life right.1) refl refl refl)
  turned-all w e p r before k says fresh (Some (entry.Block held len page)) stands unused same fits right =
      turned-block w e p r k says fresh held len page (owner_of k p) (life_of k p) stands unused fits right.0 right.1 refl refl
  turned-all w e p r before k says fresh (Some (entry.Complete io)) stands unused same fits right =
      turned-over w e p r k says io (kind_at io.0 k.under_way) stands fits right refl
  turned-all w e p r before k says fresh (Some (entry.More n)) stands unused same fits right =
      subst (λ ss. Turned w e p r k ss (Some (entry.More n)) (entered_as e p fresh (entry.More n) (record { state = k; items = items_at e p ss }))) (sym right)
      (turned-more w e p r k n (owner_of k p) stands fits refl)
  turned-all w e p r before k says fresh (Some entry.Idle) stands unused same fits right =
      subst (λ ss. Turned w e p r k ss (Some entry.Idle) (entered_as e p fresh entry.Idle (record { state = k; items = items_at e p ss }))) (sym right)
      (turned-idle w e p r k (owner_of k p) stands fits refl)
  turned-all w e p r before k says fresh (Some entry.GiveBack) stands unused same fits right =
      turned-given w e p r k says (owner_of k p) stands fits right refl
  turned-all w e p r before k says fresh (Some (entry.InterruptOwn q)) stands unused same fits right =
      subst (λ ss. Turned w e p r k ss (Some (entry.InterruptOwn q)) (entered_as e p fresh (entry.InterruptOwn q)
      (record { state = k; items = items_at e p ss }))) (sym right)
      (turned-own w e p q r k stands fits)
