-- What a machine keeps through commits, and at the opening.
use Rattle.std.proofs.Common.{◌≡◌, ℕ, zero, suc, ◌+◌, ◌-◌, ◌<◌, ◌≤◌, Option, Some, None, is_some, List, [], ◌∷◌, get_or, slice_get, replicate, length, All, refl, sym, ap, subst, ◌∙◌, arith}
use Rattle.std.proofs.Math.Path.{fun_ext}
use Rattle.std.proofs.lemmas.List.{length-replicate}
use Rattle.std.proofs.lemmas.Option.{same_Some, get_or_from_slice_get, slice_get_within}
use Rattle.sa_base.specs.declared.number.ProcNo.{ProcNo}
use Rattle.sa_base.specs.declared.number.SpaceNo.{SpaceNo}
use Rattle.sa_base.specs.declared.number.ActNo.{ActNo}
use Rattle.sa_base.specs.declared.limits.TheConstants.{MAX_EVENTS}
use Rattle.sa_base.specs.Items.{items_at}
use Rattle.sa_spaces.specs.Space.{SpaceView, IsSpace}
use Rattle.sa_spaces.specs.Workload.{WorkloadView, IsWorkload}
use Rattle.sa_lemmas.proofs.ListReads.{all-same}
use Rattle.sa_abstract.specs.Calls.{Calls, Contexts}
use Rattle.sa_abstract.specs.Setting.{IsSetting}
use Rattle.sa_abstract.specs.Keeps.{Standing, Keeps, StaysLocal, IsGone, IsSeat}
use Rattle.sa_abstract.specs.Walk.{AreLocal, program_at}
use Rattle.sa_abstract.specs.declared.answer.SeatState.{SeatState}
use Rattle.sa_abstract.specs.declared.answer.SeatState.TheVariants.{Local, Away}
use Rattle.sa_acts.specs.declared.acts.Act.{Act}
use Rattle.sa_assign.specs.Reaim.{proc_no}
use Rattle.sa_kernel_model.specs.State.{Scene, owner_of}
use Rattle.sa_kernel_model.specs.Opening.{opening_state, first_wants}
use Rattle.sa_kernel_model.proofs.sound.Sound.{sound-opening, sound-closed}
use Rattle.sa_core_model.specs.Machine.{Machine, seen_on, gone, gone_to}
use Rattle.sa_core_model.specs.Turn.{turned, next_event, more_events, gone_in, committed}
use Rattle.sa_core_model.specs.End.{local_on, local_in, local_by}
use Rattle.sa_core_model.specs.Run.{setting, started_from, opening, CanGo, programs_in, AreNextLocal, CanCommit, Move, IsMove, IsRun}
use Rattle.sa_core_model.specs.Run.Move.{turn, commit}
use Rattle.sa_core_model.specs.Standing.{context_in, contexts_of, running, Stands, IsBetween}
use Rattle.sa_core_model.proofs.Effects.{same-closed}
use Rattle.sa_core_model.proofs.Phases.{IsAt, at-owned}
use Rattle.sa_core_model.proofs.Calls.{value-at, mine, sees-at, stands-put}
use Rattle.sa_core_model.proofs.Turns.{Rests, rests-next, rests-sliced, rests-between, between-rests, rests-turned}

module _ {U C : Type 0} (f : Calls U C) (stands : Standing U C) (keep : Keeps f stands) where
  -- more events begin, which the user levels have gone through already
  rests-more : (w : WorkloadView) (e : ℕ) (n g : ℕ) (m : Machine U C) → Rests f stands keep w e g m → Rests f stands keep w e (g + n) (more_events n m)
  rests-more w e zero g m rest = subst (λ (i : ℕ). Rests f stands keep w e i m) (omega arith) rest
  rests-more w e (suc n) g m rest =
      subst (λ (i : ℕ). Rests f stands keep w e i (more_events n (next_event m))) (omega arith)
      (rests-more w e n (g + 1) (next_event m) (rests-next f stands keep w e g m rest))

  pub gone-is : (m : Machine U C) (p : ProcNo) (s : SpaceNo) (n : ℕ) → (here : IsAt f stands keep m p s)
      → gone f p s n m ≡ gone_to f p s (f.went here.user (seen_on m p s) here.ctx n) m
  gone-is m p s n here = rw (here.is_user, here.is_ctx) refl

  pub local-is : (m : Machine U C) (p : ProcNo) (s : SpaceNo) → (here : IsAt f stands keep m p s) → local_on f m p ≡ f.local here.user here.ctx
  local-is m p s here =
      ap (λ (o : Option SpaceNo). local_in f m p o) here.owner
      ∙ ap (λ (u : Option U). local_by f u (get_or m.contexts p.0 None)) here.is_user
      ∙ ap (λ (c : Option C). local_by f (Some here.user) c) here.is_ctx

  pub gone-law : (e n : ℕ) (m : Machine U C) (p : ProcNo) (s : SpaceNo) → Stands stands e m → (here : IsAt f stands keep m p s) → e < m.event → 1 ≤ n
      → m.event + n ≤ MAX_EVENTS + 1
      → StaysLocal (setting m.workload s.0 here.def) n (f.local here.user here.ctx)
      → IsGone f stands (setting m.workload s.0 here.def) (seen_on m p s) (contexts_of m s.0) here.act.0 n (f.local here.user here.ctx)
      (f.went here.user (seen_on m p s) here.ctx n)
  gone-law e n m p s st here later some few goes =
      keep.goes (setting m.workload s.0 here.def) e here.user (contexts_of m s.0) here.act.0 here.ctx (seen_on m p s) n
      (value-at f stands keep e m p s st here) (mine f stands keep e m p s st here) (sees-at f stands keep e m p s st here) later some few goes

  pub rests-gone : (w : WorkloadView) (e g n : ℕ) (m : Machine U C) (p : ProcNo) (s : SpaceNo) → (rest : Rests f stands keep w e g m)
      → (here : IsAt f stands keep m p s) → e < m.event → 1 ≤ n
      → m.event + n ≤ MAX_EVENTS + 1 → StaysLocal (setting m.workload s.0 here.def) n (f.local here.user here.ctx)
      → Rests f stands keep w (g + n - 1) g (gone_to f p s (f.went here.user (seen_on m p s) here.ctx n) m)
  rests-gone w e g n m p s rest here later some few goes =
      let r = f.went here.user (seen_on m p s) here.ctx n in
      let law = gone-law e n m p s rest.standing here later some few goes in record {
        standing = subst (λ (i : ℕ). Stands stands (i + n - 1) (gone_to f p s r m)) rest.event
            (stands-put f stands keep e (m.event + n - 1) m.event m p s r.user r.ctx _ (omega (arith, later, some)) rest.standing here law.value);
        fetched = rest.fetched;
        workload = rest.workload;
        event = rest.event;
      }

  -- n + 1 local instructions keep a machine standing, and are as many events
  pub rests-committed : (m : Machine U C) (p : ProcNo) (n : ℕ) → IsBetween stands m → m.event + suc n ≤ MAX_EVENTS → CanGo f m p (suc n)
      → Rests f stands keep m.workload (m.event + suc n) (m.event + suc n) (committed f p (suc n) m)
  rests-committed m p n between few can =
      let first = next_event m in
      let g = m.event + 1 in
      let s = can.space in
      let rest = rests-next f stands keep m.workload m.event m.event m (rests-between f stands keep m between) in
      let here = at-owned f stands keep m.event first p s rest.standing can.owner in
      let same : can.def ≡ here.def = same_Some can.def here.def (sym can.is_def ∙ here.is_def) in
      let goes : StaysLocal (setting m.workload s.0 here.def) (suc n) (f.local here.user here.ctx) =
      subst (λ (d : SpaceView). StaysLocal (setting m.workload s.0 d) (suc n) (f.local here.user here.ctx)) same
      (subst (λ z. StaysLocal (setting m.workload s.0 can.def) (suc n) z) (local-is first p s here) can.goes) in
      let after : Machine U C = gone_to f p s (f.went here.user (seen_on first p s) here.ctx (suc n)) first in
      let done = rests-gone m.workload m.event g (suc n) first p s rest here (omega arith) (omega arith) (omega (arith, few)) goes in
      let at_end : Rests f stands keep m.workload (m.event + suc n) g after = subst (λ (i : ℕ). Rests f stands keep m.workload i g after) (omega arith) done in
      let more = rests-more m.workload (m.event + suc n) n g after at_end in
      let all : Rests f stands keep m.workload (m.event + suc n) (m.event + suc n) (more_events n after) =
      subst (λ (i : ℕ). Rests f stands keep m.workload (m.event + suc n) i (more_events n after)) (omega arith) more in
      let is : gone_in f p (suc n) (owner_of first.kernel p) first ≡ after =
      ap (λ (o : Option SpaceNo). gone_in f p (suc n) o first) can.owner ∙ gone-is first p s (suc n) here in
      rests-sliced f stands keep m.workload (m.event + suc n) (m.event + suc n) (more_events n (gone_in f p (suc n) (owner_of first.kernel p) first)) p
      (subst (λ (z : Machine U C). Rests f stands keep m.workload (m.event + suc n) (m.event + suc n) (more_events n z)) (sym is) all)

  -- the opening

  length-started : (w : WorkloadView) (o : ℕ) (defs : List SpaceView) → length (started_from f w o defs) ≡ length defs
  length-started w o [] = refl
  length-started w o (def ∷ defs) = ap suc (length-started w (o + 1) defs)

  pub started-at : (w : WorkloadView) (o i : ℕ) (defs : List SpaceView) (u : U) (def : SpaceView) → slice_get (started_from f w o defs) i ≡ Some u
      → slice_get defs i ≡ Some def
      → u ≡ f.started (setting w (o + i) def)
  started-at w o i [] u def at of = absurd cc
  started-at w o zero (d ∷ defs) u def at of =
      sym (same_Some (f.started (setting w o d)) u at)
      ∙ ap (λ (x : SpaceView). f.started (setting w o x)) (same_Some d def of)
      ∙ ap (λ (k : ℕ). f.started (setting w k def)) (omega arith)
  started-at w o (suc i) (d ∷ defs) u def at of =
      started-at w (o + 1) i defs u def at of ∙ ap (λ (k : ℕ). f.started (setting w k def)) (omega arith)

  at-all : {A : Type 0} (P : A → Type 0) (xs : List A) (i : ℕ) (x : A) → slice_get xs i ≡ Some x → All P xs → P x
  at-all P xs i x at all = subst P (get_or_from_slice_get xs i x x at) (all i x (slice_get_within xs i x at))

  pub is-setting : (w : WorkloadView) (s : ℕ) (def : SpaceView) → IsWorkload w → slice_get w.spaces s ≡ Some def → IsSetting (setting w s def)
  is-setting w s def ok of = record {
    def = at-all IsSpace w.spaces s def of ok.spaces;
    some_processor = ok.some_processor;
    few_processors = ok.few_processors;
    some_fetch = ok.some_fetch;
    short_fetch = ok.short_fetch;
  }

  pub rests-opening : (w : WorkloadView) → IsWorkload w → Rests f stands keep w 0 0 (opening f w)
  rests-opening w ok =
      let m : Machine U C = opening f w in
      let x : Scene C = record { state = opening_state w; items = items_at 0 (proc_no 0) (first_wants 0 (length w.spaces)) } in
      let same = same-closed 0 (proc_no 0) x in
      let no_life : Option ActNo = None in
      let no_context : Option C = None in
      let one : ℕ = 1 in
      let lives : m.kernel.lives ≡ replicate w.processors None = same.lives in
      let acts : m.kernel.acts ≡ (λ n. None) = same.acts in
      record {
        standing = record {
          workload = ok;
          sound = sound-closed 0 (proc_no 0) x (sound-opening w ok);
          lives = ap (λ (ls : List (Option ActNo)). length ls) lives ∙ length-replicate w.processors no_life;
          contexts = length-replicate w.processors no_context;
          demands = same.demands ∙ length-replicate (length w.spaces) one;
          users = length-started w 0 w.spaces;
          there = λ p. ap (λ (o : Option C). is_some o) (all-same w.processors p no_context)
              ∙ sym (ap (λ (ls : List (Option ActNo)). is_some (get_or ls p None)) lives
              ∙ ap (λ (o : Option ActNo). is_some o) (all-same w.processors p no_life));
          values = λ s u def at of.
              subst (λ (v : U). stands (setting w s def) 0 v (contexts_of m s))
              (sym (started-at w 0 s w.spaces u def at of ∙ ap (λ (k : ℕ). f.started (setting w k def)) (omega arith)))
              (subst (λ (cs : Contexts C). stands (setting w s def) 0 (f.started (setting w s def)) cs)
              (fun_ext (λ a. sym (ap (λ (g : ℕ → Option (Act C)). context_in s (g a) (running m.kernel.lives m.contexts a)) acts)))
              (keep.starts (setting w s def) (is-setting w s def ok of)));
        };
        fetched = same.telling;
        workload = refl;
        event = refl;
      }

  -- where a context is, its space is the one that owns its processor

  seat-go : (w : WorkloadView) (s : SpaceNo) (def : SpaceView) (n : ℕ) (x : SeatState) → slice_get w.spaces s.0 ≡ Some def → IsSeat (setting w s.0 def) x
      → AreNextLocal w n x
      → StaysLocal (setting w s.0 def) n x
  seat-go w s def n (Local space thread program pc regs) of seat next =
      let here : slice_get w.spaces space.0 ≡ Some def = ap (λ (z : SpaceNo). slice_get w.spaces z.0) seat.0 ∙ of in
      subst (λ (o : Option SpaceView). AreLocal (program_at (programs_in o) program) n (record { pc = pc; regs = regs })) here next
  seat-go w s def n Away of seat next = next

  pub can-go : (e n : ℕ) (m : Machine U C) (p : ProcNo) → Stands stands e m → AreNextLocal m.workload n (local_on f m p) → CanGo f m p n
  can-go e n m p st next = go (owner_of m.kernel p) refl
    where
      go : (o : Option SpaceNo) → owner_of m.kernel p ≡ o → CanGo f m p n
      go None off = absurd (subst (λ (x : SeatState). AreNextLocal m.workload n x) (ap (λ (o : Option SpaceNo). local_in f m p o) off) next)
      go (Some s) owner =
          let here = at-owned f stands keep e m p s st owner in
          let is = local-is m p s here in
          let seat = (keep.seats (setting m.workload s.0 here.def) e here.user (contexts_of m s.0) here.act.0 here.ctx
          (value-at f stands keep e m p s st here) (mine f stands keep e m p s st here)).0 in
          record {
            space = s;
            def = here.def;
            owner = owner;
            is_def = here.is_def;
            goes = subst (λ (x : SeatState). StaysLocal (setting m.workload s.0 here.def) n x) (sym is)
                (seat-go m.workload s here.def n (f.local here.user here.ctx) here.is_def seat
                (subst (λ (x : SeatState). AreNextLocal m.workload n x) is next));
          }

  -- each move keeps a machine standing, and so does a run

  stands-committed : (m after : Machine U C) (p : ProcNo) (n : ℕ) → IsBetween stands m → CanCommit f m p n → after ≡ committed f p n m → IsBetween stands after
  stands-committed m after p zero between can is = absurd (let z = can.some in omega arith)
  stands-committed m after p (suc n) between can is =
      subst (λ (z : Machine U C). IsBetween stands z) (sym is)
      (between-rests f stands keep m.workload (m.event + suc n) (committed f p (suc n) m)
      (rests-committed m p n between can.event (can-go m.event (suc n) m p between.standing can.go)))

  pub stands-move : (m : Machine U C) (move : Move) (after : Machine U C) → IsBetween stands m → IsMove f m move after → IsBetween stands after
  stands-move m (turn p) after between made =
      let can = made.0 in
      let is = made.1 in
      subst (λ (z : Machine U C). IsBetween stands z) (sym is.is)
      (between-rests f stands keep m.workload (m.event + 1) (turned f p is.fresh m)
      (rests-turned f stands keep m p is.fresh between (let z = can.event in omega arith) can.within is.unused))
  stands-move m (commit p n) after between made = stands-committed m after p n between made.0 made.1

  pub stands-run : (m : Machine U C) (moves : List Move) (after : Machine U C) → IsBetween stands m → IsRun f m moves after → IsBetween stands after
  stands-run m [] after between run = subst (λ (z : Machine U C). IsBetween stands z) (sym run) between
  stands-run m (move ∷ moves) after between run = stands-run run.0 moves after (stands-move m move run.0 between run.1) run.2

  pub stands-opening : (w : WorkloadView) → IsWorkload w → IsBetween stands (opening f w)
  stands-opening w ok = between-rests f stands keep w 0 (opening f w) (rests-opening w ok)

  pub runs-stand : (w : WorkloadView) (moves : List Move) (after : Machine U C) → IsWorkload w → IsRun f (opening f w) moves after → IsBetween stands after
  runs-stand w moves after ok run = stands-run (opening f w) moves after (stands-opening w ok) run
