-- Interrupts and blocks: the context that ran is put aside, and the processor goes on.
use Rattle.std.proofs.Common.{◌≡◌, ◌≢◌, ℕ, ◌<◌, ◌+◌, inl, inr, refl, sym, ◌∙◌, ap, subst, arith, Some, None, List, [], ◌∷◌, ◌++◌, length, true, false}
use Rattle.std.specs.Prelude.{Option, Bool, ◌&&◌, not, is_none, option_map, get_or, slice_set, slice_index}
use Rattle.std.specs.List.{list_any}
use Rattle.std.proofs.lemmas.Bool.{eqb-true}
use Rattle.std.proofs.lemmas.List.{get_or-set_same, length-set}
use Rattle.std.proofs.lemmas.List.Folds.{list_any-append}
use Rattle.std.proofs.Math.Bool.{or-false}
use Rattle.sa_base.specs.declared.number.SpaceNo.{SpaceNo}
use Rattle.sa_base.specs.declared.number.ProcNo.{ProcNo}
use Rattle.sa_base.specs.declared.number.ActNo.{ActNo}
use Rattle.sa_base.specs.declared.number.IoNo.{IoNo}
use Rattle.sa_base.specs.declared.context.Stopped.{Stopped}
use Rattle.sa_base.specs.declared.record.Note.{Note}
use Rattle.sa_base.specs.declared.record.Note.TheVariants.{Add, Preempted, Blocked}
use Rattle.sa_base.specs.declared.record.Record.{Record}
use Rattle.sa_base.specs.declared.record.Record.TheVariants.{Stop, Block}
use Rattle.sa_base.specs.declared.limits.TheConstants.{UPCALL_PAGE}
use Rattle.sa_spaces.specs.Workload.{WorkloadView}
use Rattle.sa_lemmas.specs.Function.{put}
use Rattle.sa_lemmas.proofs.FunctionUpdates.{put-at, put-other}
use Rattle.sa_acts.specs.Table.{runs_in, holding, held_of}
use Rattle.sa_assign.specs.Aims.{is_aim}
use Rattle.sa_devices.specs.Ios.{Io, fetches}
use Rattle.sa_base.specs.Pages.{has_page}
use Rattle.sa_devices.specs.declared.kind.IoKind.{IoKind}
use Rattle.sa_kernel_model.specs.Closing.{was_idle as idle_in}
use Rattle.sa_kernel_model.specs.State.{KernelState, Scene, owner_of, life_of, untold_of, is_fetching, can_upcall}
use Rattle.sa_kernel_model.specs.Parts.{upcall, put_aside, with_io, go_to}
use Rattle.sa_kernel_model.specs.Entries.{stopped, told_or_left, block_begun, io_for}
use Rattle.sa_kernel_model.proofs.sound.Formed.{free-set}
use Rattle.sa_kernel_model.proofs.sound.Held.{unused-held}
use Rattle.sa_laws.specs.Life.{Life, held_with}
use Rattle.sa_laws.specs.Readings.{Readings, is_resident, was_idle}
use Rattle.sa_laws.specs.Record.{Blocking, blocking, after_record, with_note, same_note, stopped_with}
use Rattle.sa_laws.specs.Shape.{BeginsWithUp, leave_run}
use Rattle.sa_laws.specs.Turns.{IsPassage, IsInterrupt, IsBlock}
use Rattle.sa_laws.specs.Upcalls.{GoesTo, UpOrLeave, StopsAndGoes, BeginsAsInterrupt, leave_records}
use Rattle.sa_kernel_laws.specs.Overview.{Overview, overview, read_off, act_space}
use Rattle.sa_kernel_laws.proofs.overview.Records.{stop-record, block-record}
use Rattle.sa_kernel_laws.proofs.overview.Untold.{once_if, copies}
use Rattle.sa_kernel_laws.specs.Kept.{IdleAlike}
use Rattle.sa_kernel_laws.proofs.overview.Once.{AreApart, apart-noted, copies-noted}
use Rattle.sa_kernel_laws.proofs.overview.Idle.{contains-noted, not-there}
use Rattle.sa_kernel_laws.proofs.overview.Tidy.{tidy-in, tidy-of, tidy-stopped, tidy-blocked}
use Rattle.sa_kernel_laws.proofs.entries.Walks.{IsUpWithTold, PassesTo, reshaped, Walk, CanUp, CanPassTo, Running, set_aside, not-empty, items-both, up-walk, leave-walk, go-walk, aside-reads, runs-on, has-life}

-- the aim is this space
aim-same : (s o : SpaceNo) → is_aim s.0 (Some o) ≡ true → s.0 ≡ o.0
aim-same s o is = sym (eqb-true o.0 s.0 is)

-- a notice more is something
push-some : {A : Type 0} (xs : List A) (x : A) → xs ++ x ∷ [] ≢ []
push-some [] x is = cc
push-some (y ∷ xs) x is = cc

noted-some : (us : List (List Note)) (s : ℕ) (n : Note) → s < length us → get_or (slice_set us s (get_or us s [] ++ n ∷ [])) s [] ≢ []
noted-some us s n within is = push-some (get_or us s []) n (sym (get_or-set_same us s (get_or us s [] ++ n ∷ []) [] within) ∙ is)

-- a block

abbrev blocked_with : ℕ → ProcNo → SpaceNo → ActNo → Blocking → Overview → Overview
blocked_with e p s a b v =
    record (set_aside p s (Blocked a) v) {
      io_count = v.io_count + 1;
      under_way = v.under_way ++ record { number = v.io_count; ends = e + b.length; kind = b.kind } ∷ [];
    }

no-fetch : (s : SpaceNo) (a : ActNo) (page : Option ℕ) (number ends : ℕ) (ios : List Io)
    → list_any (fetches s.0) (ios ++ record { number = number; ends = ends; kind = io_for s a page } ∷ []) ≡ list_any (fetches s.0) ios
no-fetch s a None number ends ios =
    list_any-append (fetches s.0) ios (record { number = number; ends = ends; kind = io_for s a None } ∷ []) ∙ or-false (list_any (fetches s.0) ios)
no-fetch s a (Some k) number ends ios =
    list_any-append (fetches s.0) ios (record { number = number; ends = ends; kind = io_for s a (Some k) } ∷ []) ∙ or-false (list_any (fetches s.0) ios)

-- a notice of another kind or number
none-noted : (us : List (List Note)) (s : SpaceNo) (a : ActNo) (n : Note) → same_note n (Preempted a) ≡ false → copies (Preempted a) us ≡ 0
    → copies (Preempted a) (with_note us s n) ≡ 0
none-noted us s a n other none = let more = copies-noted (Preempted a) n us s.0 in let no = ap once_if other in omega arith

note-number : (a b : ActNo) → Preempted a ≡ Preempted b → a.0 ≡ b.0
note-number a b is = cc

-- a passage is an interrupt that stops nobody
passage-interrupt : (xs : List Record) → IsPassage xs → IsInterrupt xs
passage-interrupt (Stop s t a ∷ xs) passes = absurd passes
passage-interrupt _ passes = passes

-- a life was idle where it was stopped, as its context says
abbrev pub WasStopped : {C : Type 0} → Readings → ActNo → Stopped C → Type 0
WasStopped r b held = (life : Life) → r.lives b.0 ≡ Some life → held.idle ≡ (not life.inside && is_none held.thread)

module _ {C : Type 0} where
  -- what is needed where a context is put aside, before the processor goes on
  pub record CanStop (w : WorkloadView) (k : KernelState C) (r : Readings) (p : ProcNo) (fresh : ActNo) : Type 0 where
    pub reads : overview r ≡ read_off k
    pub fetch : k.fixed.fetch ≡ w.fetch
    pub empty : k.telling ≡ []
    pub unused : k.acts fresh.0 ≡ None
    pub apart : AreApart k.untold
    pub fresh_new : copies (Preempted fresh) k.untold ≡ 0
    pub moved : r.moved ≡ None

  -- The activation that is put aside is told of for the first time.
  pub record IsAside (k : KernelState C) (p : ProcNo) (o : SpaceNo) (b fresh : ActNo) (n : Note) : Type 0 where
    pub runs : Running k p o b
    pub inside : o.0 < length k.untold
    pub real : (q : ProcNo) → same_note n (Add q) ≡ false
    pub new : copies n k.untold ≡ 0
    pub stopped : copies (Preempted b) k.untold ≡ 0
    pub other : same_note n (Preempted fresh) ≡ false

  go-on : (w : WorkloadView) (k : KernelState C) (r next : Readings) (p : ProcNo) (o s : SpaceNo) (b fresh : ActNo) (n : Note) (held : Stopped C) (owned : Bool)
      → CanStop w k r p fresh → IsAside k p o b fresh n → s.0 < length k.untold → overview next ≡ set_aside p o n (overview r) → next.moved ≡ None
      → (owned ≡ true → s.0 ≡ o.0) → CanPassTo w (put_aside p o b n held k) next p s fresh owned
  go-on w k r next p o s b fresh n held owned can aside inside reads moved same = record {
    reads = reads ∙ ap (set_aside p o n) can.reads ∙ aside-reads k p o b n held;
    fetch = can.fetch;
    empty = can.empty;
    unused = unused-held k.acts b.0 fresh.0 held can.unused;
    free = free-set k.lives p.0;
    inside = (let len = length-set k.untold o.0 (untold_of k o.0 ++ n ∷ []) in omega arith);
    apart = apart-noted k.untold o n aside.real aside.new can.apart;
    new = none-noted k.untold o fresh n aside.other can.fresh_new;
    moved = moved;
    some =
        λ is none. noted-some k.untold o.0 n aside.inside (ap (λ i. get_or (slice_set k.untold o.0 (untold_of k o.0 ++ n ∷ [])) i []) (sym (same is)) ∙ none);
  }

  -- where an interrupted processor goes is read off the history
  aim-goes : (w : WorkloadView) (k : KernelState C) (r : Readings) (p : ProcNo) (s : SpaceNo) (all : List Record) (o owner : Option SpaceNo)
      → overview r ≡ read_off k → o ≡ owner → GoesTo (can_upcall k s) (is_aim s.0 o) p r o s all
      → GoesTo (is_resident r s UPCALL_PAGE) (is_aim s.0 owner) p r owner s all
  aim-goes w k r p s all o owner reads is goes =
      subst (λ (v : Overview). GoesTo (has_page (slice_index v.pages s.0) 0) (is_aim s.0 owner) p r owner s all) (sym reads)
      (subst (λ ow. GoesTo (can_upcall k s) (is_aim s.0 ow) p r ow s all) is goes)

  -- the interrupt of a processor that nobody owns, and of one that a space owns
  pub free-walk : (w : WorkloadView) (e : ℕ) (p : ProcNo) (r : Readings) (x : Scene C) (s : SpaceNo) (fresh : ActNo) → CanStop w x.state r p fresh
      → s.0 < length x.state.untold → owner_of x.state p ≡ None → life_of x.state p ≡ None
      → Walk w e p r x (go_to e p s fresh x) (StopsAndGoes p r None (Some s)) IsInterrupt
  free-walk w e p r x s fresh can inside owner life =
      let k = x.state in
      let owned = is_aim s.0 (owner_of k p) in
      let go : CanPassTo w k r p s fresh owned = record {
        reads = can.reads;
        fetch = can.fetch;
        empty = can.empty;
        unused = can.unused;
        free = life;
        inside = inside;
        apart = can.apart;
        new = can.fresh_new;
        moved = can.moved;
        some = λ is. absurd (not-none s (owner_of k p) owner is);
      } in
      reshaped w e p r x (go_to e p s fresh x) (PassesTo k p s owned (can_upcall k s)) IsPassage (StopsAndGoes p r None (Some s)) IsInterrupt
      (λ all goes. aim-goes w k r p s all (owner_of k p) None can.reads owner (goes r (ap (λ (v : Overview). v.under_way) can.reads)))
      passage-interrupt (go-walk w e p r x s fresh owned (can_upcall k s) go)
    where
      not-none : (s : SpaceNo) (o : Option SpaceNo) → o ≡ None → is_aim s.0 o ≡ true → ⊥
      not-none s None none is = cc
      not-none s (Some t) none is = cc

  -- which of those that wait were idle
  held-other : (k : KernelState C) (a b : ActNo) (held : Stopped C) → b.0 ≢ a.0
      → idle_in (held_of (put k.acts a.0 (holding held (k.acts a.0)) b.0)) ≡ idle_in (held_of (k.acts b.0))
  held-other k a b held apart = ap (λ o. idle_in (held_of o)) (put-other k.acts a.0 b.0 (holding held (k.acts a.0)) apart)

  stop-idle : (w : WorkloadView) (e : ℕ) (p : ProcNo) (r : Readings) (k : KernelState C) (o : SpaceNo) (b : ActNo) (held : Stopped C)
      → copies (Preempted b) k.untold ≡ 0 → overview r ≡ read_off k → k.acts b.0 ≡ Some (runs_in o) → WasStopped r b held → IdleAlike k r
      → IdleAlike (put_aside p o b (Preempted b) held k) (after_record w e p r (Stop o held.thread b))
  stop-idle w e p r k o b held none reads act right idle t c has =
      let life = has-life (r.lives b.0) o (ap (λ (v : Overview). v.spaces b.0) reads ∙ ap act_space act) in
      elim (contains-noted k.untold o.0 t (Preempted b) (Preempted c) has) [
        | inl was ↦
            let apart = not-there k.untold t b c none was in
            ap was_idle (put-other r.lives b.0 c.0 (option_map (stopped_with held.thread) (r.lives b.0)) apart) ∙ idle t c was
            ∙ sym (held-other k b c held apart)
        | inr new ↦
            let same : c.0 ≡ b.0 = sym (note-number b c new) in
            ap was_idle (put-at r.lives b.0 c.0 (option_map (stopped_with held.thread) (r.lives b.0)) same ∙ ap (option_map (stopped_with held.thread)) life.1)
            ∙ sym (right life.0 life.1)
            ∙ sym (ap (λ x. idle_in (held_of x)) (put-at k.acts b.0 c.0 (holding held (k.acts b.0)) same ∙ ap (holding held) act))
      ]

  block-idle : (w : WorkloadView) (e : ℕ) (p : ProcNo) (r : Readings) (k : KernelState C) (s : SpaceNo) (a : ActNo) (held : Stopped C) (kind : IoKind)
      (ends : ℕ) (io : IoNo) → copies (Preempted a) k.untold ≡ 0 → IdleAlike k r
      → IdleAlike (put_aside p s a (Blocked a) held (with_io kind ends k)) (after_record w e p r (Block s held.thread a io))
  block-idle w e p r k s a held kind ends io none idle t c has =
      elim (contains-noted k.untold s.0 t (Blocked a) (Preempted c) has) [
        | inl was ↦
            let apart = not-there k.untold t a c none was in
            ap was_idle (put-other r.lives a.0 c.0 (option_map (held_with held.thread) (r.lives a.0)) apart) ∙ idle t c was ∙ sym (held-other k a c held apart)
        | inr new ↦ absurd (cc)
      ]

  pub stop-walk : (w : WorkloadView) (e : ℕ) (p : ProcNo) (r : Readings) (x : Scene C) (o s : SpaceNo) (b fresh : ActNo) (held : Stopped C)
      → CanStop w x.state r p fresh → IsAside x.state p o b fresh (Preempted b) → s.0 < length x.state.untold → owner_of x.state p ≡ Some o
      → WasStopped r b held → Walk w e p r x (go_to e p s fresh (stopped e p (Some o) (Some b) (Some held) x)) (StopsAndGoes p r (Some o) (Some s)) IsInterrupt
  stop-walk w e p r x o s b fresh held can aside inside owner right =
      let k = x.state in
      let stop = Stop o held.thread b in
      let next = after_record w e p r stop in
      let y = stopped e p (Some o) (Some b) (Some held) x in
      let owned = is_aim s.0 (owner_of k p) in
      let go : CanPassTo w y.state next p s fresh owned =
      go-on w k r next p o s b fresh (Preempted b) held owned can aside inside (stop-record w e p r o held.thread b) can.moved
      (λ is. aim-same s o (ap (is_aim s.0) (sym owner) ∙ is)) in
      let walk = go-walk w e p next y s fresh owned (can_upcall k s) go in
      record {
        records = stop ∷ walk.records;
        adds = items-both e p x.items y.items _ (stop ∷ []) walk.records refl walk.adds;
        reads = walk.reads;
        lawful =
            λ rest closes law. (
              record {
                once = tt;
                named = runs-on k r p o b can.reads aside.runs;
                all = tt;
                gives = tt;
                raises = tt;
              },
              walk.lawful rest closes law,
            );
        fixed = walk.fixed;
        idle = λ idle. walk.idle (stop-idle w e p r k o b held aside.stopped can.reads aside.runs.act right idle);
        tidy = λ tidy. walk.tidy (tidy-of y.state (tidy-stopped k.untold k.under_way o.0 b aside.inside (tidy-in k tidy)) tidy.taken);
        some = not-empty stop walk.records;
        own = walk.own;
        shape = walk.shape;
        is = λ rest closes. (
          refl,
          aim-goes w k r p s (walk.records ++ rest) (owner_of k p) (Some o) can.reads owner
              (walk.is rest closes r (ap (λ (v : Overview). v.under_way) can.reads)),
        );
      }

  -- after a block comes an upcall, or the leave
  abbrev Behind : Bool → KernelState C → ProcNo → SpaceNo → List Record → Type 0
  Behind true k p s all = BeginsWithUp s all
  Behind false k p s all = leave_run all ≡ leave_records p (owner_of k p) s (is_fetching k s.0)

  behind-walk : (b : Bool) (w : WorkloadView) (e : ℕ) (p : ProcNo) (r : Readings) (x : Scene C) (s : SpaceNo) (fresh : ActNo) → x.state.fixed.fetch ≡ w.fetch
      → CanUp x.state r p s fresh false → Walk w e p r x (told_or_left e p s fresh b x) (Behind b x.state p s) IsPassage
  behind-walk true w e p r x s fresh same up =
      reshaped w e p r x (upcall e p s fresh false x) (BeginsWithUp s) IsUpWithTold (BeginsWithUp s) IsPassage
      (λ all begins. begins) (λ xs told. told.alone) (up-walk w e p r x s fresh false up)
  behind-walk false w e p r x s fresh same up = leave-walk w e p r x s same up.reads

  goes-behind : (b : Bool) (k : KernelState C) (r : Readings) (p : ProcNo) (s : SpaceNo) (all : List Record)
      → leave_records p (owner_of k p) s (is_fetching k s.0) ≡ leave_records p (Some s) s (list_any (fetches s.0) r.under_way) → Behind b k p s all
      → UpOrLeave b p r s all
  goes-behind true k r p s all left behind = behind
  goes-behind false k r p s all left behind = behind ∙ left

  pub block-walk : (w : WorkloadView) (e : ℕ) (p : ProcNo) (r : Readings) (x : Scene C) (s : SpaceNo) (a fresh : ActNo) (held : Stopped C) (len : ℕ)
      (page : Option ℕ) → CanStop w x.state r p fresh → IsAside x.state p s a fresh (Blocked a) → owner_of x.state p ≡ Some s
      → blocking w r s held.thread a ≡ (record { kind = io_for s a page; length = len })
      → Walk w e p r x (told_or_left e p s fresh (can_upcall x.state s) (block_begun e p s a held len page x)) (λ all. BeginsAsInterrupt all → ⊥) IsBlock
  block-walk w e p r x s a fresh held len page can aside owner for =
      let k = x.state in
      let io : IoNo = record { 0 = k.io_count } in
      let block = Block s held.thread a io in
      let next = after_record w e p r block in
      let y = block_begun e p s a held len page x in
      let what : Blocking = record { kind = io_for s a page; length = len } in
      let with_new_io = with_io (io_for s a page) (e + len) k in
      let reads : overview next ≡ read_off y.state =
      block-record w e p r s held.thread a io ∙ ap (λ b. blocked_with e p s a b (overview r)) for ∙ ap (blocked_with e p s a what) can.reads
      ∙ aside-reads with_new_io p s a (Blocked a) held in
      let inside : s.0 < length y.state.untold =
      (let len_same = length-set k.untold s.0 (untold_of k s.0 ++ Blocked a ∷ []) in let before = aside.inside in omega arith) in
      let up : CanUp y.state next p s fresh false = record {
        reads = reads;
        empty = can.empty;
        unused = unused-held k.acts a.0 fresh.0 held can.unused;
        free = free-set k.lives p.0;
        inside = inside;
        apart = apart-noted k.untold s (Blocked a) aside.real aside.new can.apart;
        new = none-noted k.untold s fresh (Blocked a) aside.other can.fresh_new;
        moved = ap (is_aim s.0) can.moved;
        some = noted-some k.untold s.0 (Blocked a) aside.inside;
      } in
      let ios : r.under_way ≡ k.under_way = ap (λ (v : Overview). v.under_way) can.reads in
      let left : leave_records p (owner_of y.state p) s (is_fetching y.state s.0) ≡ leave_records p (Some s) s (list_any (fetches s.0) r.under_way) =
      ap (λ o. leave_records p o s (is_fetching y.state s.0)) owner
      ∙ ap (leave_records p (Some s) s) (no-fetch s a page k.io_count (e + len) k.under_way ∙ ap (list_any (fetches s.0)) (sym ios)) in
      let walk = behind-walk (can_upcall k s) w e p next y s fresh can.fetch up in
      record {
        records = block ∷ walk.records;
        adds = items-both e p x.items y.items _ (block ∷ []) walk.records refl walk.adds;
        reads = walk.reads;
        lawful = λ rest closes law.
            let goes : UpOrLeave (can_upcall k s) p r s (walk.records ++ rest) =
            goes-behind (can_upcall k s) y.state r p s (walk.records ++ rest) left (walk.is rest closes) in (
              record {
                once = tt;
                named = runs-on k r p s a can.reads aside.runs;
                all = tt;
                gives = record {
                  number = ap (λ (v : Overview). v.io_count) (sym can.reads);
                  follows = subst (λ (v : Overview). UpOrLeave (has_page (slice_index v.pages s.0) 0) p r s (walk.records ++ rest)) (sym can.reads) goes;
                };
                raises = tt;
              },
              walk.lawful rest closes law,
            );
        fixed = walk.fixed;
        idle = λ idle. walk.idle (block-idle w e p r k s a held (io_for s a page) (e + len) io aside.stopped idle);
        tidy = λ tidy. walk.tidy (tidy-of y.state (tidy-blocked k.untold k.under_way s a page k.io_count (e + len) aside.inside (tidy-in k tidy)) tidy.taken);
        some = not-empty block walk.records;
        own = walk.own;
        shape = walk.shape;
        is = λ rest closes begins. begins;
      }
