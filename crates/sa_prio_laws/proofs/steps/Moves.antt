-- A move of FastThreads under the rules of the package with priorities: what its rules ask beside the move, and that the
-- step is legal then.
use Rattle.std.proofs.Common.{◌≡◌, ℕ, false, ◌||◌, List, [], ◌∷◌, All, option_map, refl, sym, ap, ◌∙◌, subst}
use Rattle.std.proofs.lemmas.List.Elements.{All-head, All-tail}
use Rattle.std.specs.List.{list_any}
use Rattle.sa_base.specs.declared.context.Seen.{Seen}
use Rattle.sa_base.specs.declared.number.ActNo.{ActNo}
use Rattle.sa_base.specs.declared.number.ProcNo.{ProcNo}
use Rattle.sa_base.specs.declared.number.SpaceNo.{SpaceNo}
use Rattle.sa_base.specs.declared.record.Record.{Record}
use Rattle.sa_base.specs.declared.record.Record.TheVariants as records
use Rattle.sa_spaces.specs.Workload.{WorkloadView}
use Rattle.sa_abstract.specs.Calls.{Contexts}
use Rattle.sa_abstract.specs.Keeps.{IsOwn, IsStepped}
use Rattle.sa_abstract.specs.Setting.{Setting}
use Rattle.sa_package_model.specs.Context.{stands_inside}
use Rattle.sa_package_model.specs.Rules.{pair, did}
use Rattle.sa_package_model.specs.Stands.{IsStanding}
use Rattle.sa_package_model.specs.declared.context.Context.{Context}
use Rattle.sa_package_model.specs.declared.package.Package.{Package}
use Rattle.sa_laws.specs.History.{after_records, settles}
use Rattle.sa_laws.specs.Life.{Life}
use Rattle.sa_laws.specs.Machine.{changed}
use Rattle.sa_laws.specs.Readings.{Readings, ready_of}
use Rattle.sa_laws.specs.Record.{after_record}
use Rattle.sa_laws.specs.State.{State}
use Rattle.sa_laws.proofs.Spaces.{placed-owners}
use Rattle.sa_user_laws.specs.Scene.{event_begun_at}
use Rattle.sa_user_laws.specs.Steps.{IsLegalStep}
use Rattle.sa_fast_laws.proofs.steps.Moves.{IsMove}
use Rattle.sa_fast_laws.proofs.steps.Scenes.{IsScene, steps}
use Rattle.sa_ranks.specs.Inside.{has_entry, begins_entry, is_of_entry}
use Rattle.sa_ranks.specs.Rules.{prio_threads}
use Rattle.sa_prio_model.specs.Prio.{Prio}
use Rattle.sa_prio_model.specs.Stands.{bases}
use Rattle.sa_prio_model.specs.Step.{prio_calls, goes, going}
use Rattle.sa_prio_model.specs.Urge.{came_out}
use Rattle.sa_prio_model.specs.declared.context.PrioContext.{PrioContext}
use Rattle.sa_prio_laws.specs.PrioFits.{prio_fits}
use Rattle.sa_prio_laws.specs.Ready.{FitsRanked}
use Rattle.sa_prio_laws.proofs.frames.Frames.{base-is}
use Rattle.sa_prio_laws.proofs.steps.Rules.{IsRuled}
use Rattle.sa_prio_laws.proofs.steps.Scenes.{IsPrioScene}
use Rattle.sa_prio_laws.proofs.steps.Turns.{IsPrioTurn, turn-legal}

-- RECORDS OF A SPACE leave lines and owners, and are no entry of the kernel
own-owners : (w : WorkloadView) (p : ProcNo) (a : State) (s : SpaceNo) (x : Record) → IsOwn s x → (changed w p a x).owners ≡ a.owners
own-owners w p a s (records.Ins of t i) own = refl
own-owners w p a s (records.Out of t v) own = refl
own-owners w p a s (records.Run of t) own = refl
own-owners w p a s (records.Cont of t) own = placed-owners a of t _
own-owners w p a s (records.Back of t) own = placed-owners a of t _
own-owners w p a s (records.Ready of t) own = refl
own-owners w p a s (records.Take of l t) own = refl
own-owners w p a s (records.Free of l t) own = refl
own-owners w p a s records.Idle own = refl
own-owners w p a s (records.Spin l) own = refl
own-owners w p a s x own = absurd own

own-lines : (w : WorkloadView) (n : ℕ) (p : ProcNo) (r : Readings) (s : SpaceNo) (x : Record) → IsOwn s x → (after_record w n p r x).lines ≡ r.lines
own-lines w n p r s (records.Ins of t i) own = refl
own-lines w n p r s (records.Out of t v) own = refl
own-lines w n p r s (records.Run of t) own = refl
own-lines w n p r s (records.Cont of t) own = refl
own-lines w n p r s (records.Back of t) own = refl
own-lines w n p r s (records.Ready of t) own = refl
own-lines w n p r s (records.Take of l t) own = refl
own-lines w n p r s (records.Free of l t) own = refl
own-lines w n p r s records.Idle own = refl
own-lines w n p r s (records.Spin l) own = refl
own-lines w n p r s x own = absurd own

own-entry : (s : SpaceNo) (x : Record) → IsOwn s x → (is_of_entry x ≡ false) × (begins_entry x ≡ false)
own-entry s (records.Ins of t i) own = (refl, refl)
own-entry s (records.Out of t v) own = (refl, refl)
own-entry s (records.Run of t) own = (refl, refl)
own-entry s (records.Cont of t) own = (refl, refl)
own-entry s (records.Back of t) own = (refl, refl)
own-entry s (records.Ready of t) own = (refl, refl)
own-entry s (records.Take of l t) own = (refl, refl)
own-entry s (records.Free of l t) own = (refl, refl)
own-entry s records.Idle own = (refl, refl)
own-entry s (records.Spin l) own = (refl, refl)
own-entry s x own = absurd own

all-owners : (w : WorkloadView) (n : ℕ) (p : ProcNo) (r : Readings) (s : SpaceNo) (xs : List Record) → All (IsOwn s) xs
    → (after_records w n p r xs).state.owners ≡ r.state.owners
all-owners w n p r s [] own = refl
all-owners w n p r s (x ∷ xs) own = all-owners w n p (after_record w n p r x) s xs (All-tail (IsOwn s) x xs own)
    ∙ own-owners w p r.state s x (All-head (IsOwn s) x xs own)

all-lines : (w : WorkloadView) (n : ℕ) (p : ProcNo) (r : Readings) (s : SpaceNo) (xs : List Record) → All (IsOwn s) xs
    → (after_records w n p r xs).lines ≡ r.lines
all-lines w n p r s [] own = refl
all-lines w n p r s (x ∷ xs) own = all-lines w n p (after_record w n p r x) s xs (All-tail (IsOwn s) x xs own)
    ∙ own-lines w n p r s x (All-head (IsOwn s) x xs own)

all-entry : (s : SpaceNo) (xs : List Record) → All (IsOwn s) xs → list_any is_of_entry xs ≡ false
all-entry s [] own = refl
all-entry s (x ∷ xs) own = ap (λ b. b || list_any is_of_entry xs) (own-entry s x (All-head (IsOwn s) x xs own)).0 ∙ all-entry s xs (All-tail (IsOwn s) x xs own)

no-entry : (s : SpaceNo) (x : Record) (xs : List Record) → All (IsOwn s) (x ∷ xs) → has_entry (x ∷ xs) ≡ false
no-entry s x xs own = ap (λ b. b || list_any is_of_entry (x ∷ xs)) (own-entry s x (All-head (IsOwn s) x xs own)).1 ∙ all-entry s (x ∷ xs) own

module _ (set : Setting) (e : ℕ) (v : Prio) (cs : Contexts PrioContext) (w : WorkloadView) (r : Readings) (p : ProcNo) (a : ActNo) (life : Life)
    (c : Context) (seen : Seen)
    (i : IsPrioScene set e v cs w r p a life (record { base = c; urge = false }) seen) where
  -- the scene of FastThreads' part
  pub base-scene : IsScene set e v.base (bases cs) w r p a life c seen
  base-scene = record {
    of = i.of;
    moment = i.moment;
    sizes = i.sizes;
    stands = i.stands.base;
    holds = i.holds;
    own = i.own;
    on =
        record {
          runs = i.on.runs;
          is = i.on.is;
          space = i.on.space;
          proc = i.on.proc;
          owner = i.on.owner;
          mine = base-is cs a.0 (record { base = c; urge = false }) i.on.mine;
        };
    runner = i.runner;
    sees = i.sees;
    given = λ b has. ap (option_map (λ (z : PrioContext). z.base)) (i.given b has);
    later = i.later;
    within = i.within;
  }

  -- what the rules ask beside a move
  pub record IsAllowed (x : Record) (xs : List Record) (u : Package) (new : Context) : Type 0 where
    pub ruled : IsRuled w r (event_begun_at w seen.event p r) p a life x xs
    pub ranked : FitsRanked u (ready_of (after_records w seen.event p (event_begun_at w seen.event p r) (x ∷ xs)) set.space)
    pub settled : (last : Readings) → last.state ≡ (after_records w seen.event p (event_begun_at w seen.event p r) (x ∷ xs)).state
        → stands_inside new.state ≡ false → settles r last x ≡ came_out c.state new.state

  module _ (x : Record) (xs : List Record) (u : Package) (new : Context) (m : IsMove set v.base (bases cs) w r p a life c seen x xs u new)
      (t : IsAllowed x xs u new) where
    well : IsStepped IsStanding set seen (bases cs) a.0 (did (pair u new) (x ∷ xs))
    well = subst (IsStepped IsStanding set seen (bases cs) a.0) m.step (steps set e v.base (bases cs) w r p a life c seen base-scene)

    turn : IsPrioTurn set e v cs w r p a life (record { base = c; urge = false }) seen i x xs u new
    turn = record {
      stands = well.value;
      own = well.own;
      no_up = m.no_up;
      no_entry = no-entry set.space x xs well.own;
      needs = m.needs;
      ruled = t.ruled;
      held = m.held;
      ranked = t.ranked;
      demands = m.demands;
      taken = m.taken;
      lines = all-lines w seen.event p (event_begun_at w seen.event p r) set.space (x ∷ xs) well.own;
      owners = all-owners w seen.event p (event_begun_at w seen.event p r) set.space (x ∷ xs) well.own;
      marks = λ ev last b. m.marks ev last (record {
        stands = b.stands;
        holds = b.holds;
        mine = b.mine;
        there = b.there;
        carries = b.carries;
        demand = b.demand;
        taken = b.taken;
        stage = b.stage;
        state = b.state;
      });
      settled = t.settled;
    }

    pub move-legal : IsLegalStep prio_calls prio_threads prio_fits w set r p seen.event a cs (goes v seen c)
    move-legal = subst (IsLegalStep prio_calls prio_threads prio_fits w set r p seen.event a cs) (sym (ap (going v seen c.state) m.step))
        (turn-legal set e v cs w r p a life (record { base = c; urge = false }) seen i x xs u new turn)
