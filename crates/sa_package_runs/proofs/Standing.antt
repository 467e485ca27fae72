-- Where a processor stands by the history is where it stands in the machine.
use Rattle.std.proofs.Common.{◌≡◌, ℕ, ◌≤◌, Bool, ◌||◌, Option, Some, None, List, refl, sym, ap, ◌∙◌, arith}
use Rattle.std.specs.Prelude.{if◌then◌else◌, is_some, is_none}
use Rattle.std.specs.Option.{option_map}
use Rattle.std.proofs.lemmas.Option.{none-some}
use Rattle.sa_base.specs.declared.number.ProcNo.{ProcNo}
use Rattle.sa_base.specs.declared.number.SpaceNo.{SpaceNo}
use Rattle.sa_base.specs.declared.number.ThreadNo.{ThreadNo}
use Rattle.sa_base.specs.declared.number.ActNo.{ActNo}
use Rattle.sa_spaces.specs.Workload.{WorkloadView}
use Rattle.sa_fast.specs.Threads.{block_at}
use Rattle.sa_abstract.specs.Calls.{Contexts}
use Rattle.sa_abstract.specs.Setting.{Setting}
use Rattle.sa_package_model.proofs.Holding.{own_made}
use Rattle.sa_package_model.specs.Context.{carried_by, stands_inside}
use Rattle.sa_package_model.specs.Hands.{threads_of}
use Rattle.sa_package_model.specs.Stands.{IsStanding}
use Rattle.sa_package_model.specs.Step.{fast_calls, local_at}
use Rattle.sa_package_model.specs.declared.context.Context.{Context}
use Rattle.sa_package_model.specs.declared.context.ContextState.{ContextState}
use Rattle.sa_package_model.specs.declared.context.ContextState.TheVariants.{User}
use Rattle.sa_package_model.specs.declared.package.Package.{Package}
use Rattle.sa_laws.specs.Event.{Event}
use Rattle.sa_laws.specs.Life.{Life}
use Rattle.sa_laws.specs.State.{State as Abstract, Runner, thread_at, runner_on, runner_of}
use Rattle.sa_laws.specs.Readings.{Readings, owner_of as owner_in, running_of, life_on, life_if}
use Rattle.sa_kernel_model.specs.State.{line_of, owner_of}
use Rattle.sa_core_model.specs.End.{local_on, local_in}
use Rattle.sa_core_model.specs.Turn.{next_event}
use Rattle.sa_core_model.specs.Run.{setting}
use Rattle.sa_core_model.specs.Standing.{contexts_of}
use Rattle.sa_core_model.proofs.Phases.{at-owned}
use Rattle.sa_core_model.proofs.Runs.{local-is}
use Rattle.sa_fast_laws.proofs.relation.Hands.{split}
use Rattle.sa_fast_laws.proofs.relation.OneLife.{carried_one}
use Rattle.sa_fast_laws.specs.FastFits.{Holds, FitsThread}
use Rattle.sa_legal_runs.proofs.matching.Composed.{IsComposed, read, moment}
use Rattle.sa_legal_runs.proofs.matching.EventBegins.{begins-now, acts-at, nobody-runs}
use Rattle.sa_legal_runs.proofs.matching.Shown.{line-reads, owner-reads}
use Rattle.sa_fast_laws.proofs.FastLaws.{fast_level}
use Rattle.sa_package_runs.specs.Runs.{FastMachine}
use Rattle.sa_debug.specs.declared.script.command.Point.{Point}
use Rattle.sa_debug.specs.OverMachines.{point_of as point_in}
use Rattle.sa_debug.specs.OverHistories.{is_in, point_of, stands_on}

-- the thread that a context carries stands in the history at the place at which the package has it
carried-fits : (set : Setting) (e : ℕ) (u : Package) (cs : Contexts Context) (s : SpaceNo) (r : Readings) (a : ActNo) (c : Context) (t : ThreadNo)
    → IsStanding set e u cs → Holds s r u cs → cs a.0 ≡ Some c → carried_by c.state ≡ Some t
    → FitsThread (block_at u.shared.threads t.0) (thread_at r.state s t)
carried-fits set e u cs s r a c t h k is carries =
    let in_hand : 1 ≤ threads_of u.shared.works (Some c) t.0 =
    (let all = split u.shared.works c t.0 in let one = carried_one c t carries in omega arith) in
    k.space.threads t (own_made set e u cs h a.0 c is t.0 in_hand)

-- A context that is not inside the package, and carries a thread, stands at its instruction.
at-instruction : (u : Package) (a : Abstract) (s : SpaceNo) (state : ContextState) → u.shared.state.space ≡ s
    → ((t : ThreadNo) → carried_by state ≡ Some t → FitsThread (block_at u.shared.threads t.0) (thread_at a s t))
    → (if stands_inside state then None else option_map (point_of a) (runner_of s (carried_by state))) ≡ point_in (local_at u state)
at-instruction u a s (User t) space fits =
    ap (λ (n : ℕ). Some (record { space = s; thread = t; place = n })) (fits t refl).pc
    ∙ ap (λ (z : SpaceNo). Some (record { space = z; thread = t; place = (block_at u.shared.threads t.0).pc })) (sym space)
at-instruction u a s _ space fits = refl

module _ (w : WorkloadView) (events : List Event) (m : FastMachine) (p : ProcNo) (c : IsComposed fast_level w events m) where
  abbrev r : Readings
  r = read fast_level w events

  -- where the line is low: at the next instruction of the thread that runs there, if no life is in
  abbrev low : Option Life → Option Runner → Option Point
  low life runner = if is_in life then None else option_map (point_of r.state) runner

  -- no life runs on a processor without an owner, and no thread
  nobody : owner_in r p ≡ None → (a : Option ActNo) → running_of r p ≡ a → running_of r p ≡ None
  nobody free None is = is
  nobody free (Some a) is = absurd (let l = (moment fast_level w events m c).lives p a is in none-some l.0.space (sym free ∙ l.3))

  free-low : owner_in r p ≡ None → low (life_on r p) (runner_on r.state p) ≡ None
  free-low free =
      ap (λ (a : Option ActNo). low (life_if r a) (runner_on r.state p)) (nobody free (running_of r p) refl)
      ∙ ap (option_map (point_of r.state))
      (nobody-runs r.state p (λ s t at. none-some s (sym free ∙ (moment fast_level w events m c).owned p s t at)))

  by-owner : (o : Option SpaceNo) → owner_of m.kernel p ≡ o → low (life_on r p) (runner_on r.state p) ≡ point_in (local_on fast_calls m p)
  by-owner None owner =
      free-low (owner-reads fast_level w events m p c.history ∙ owner)
      ∙ sym (ap (λ (o : Option SpaceNo). point_in (local_in fast_calls m p o)) owner)
  by-owner (Some s) owner =
      let b = begins-now fast_level w events m p c in
      let here = at-owned fast_level.calls fast_level.stands fast_level.keep m.event (next_event m) p s b.rest.standing owner in
      let at = acts-at fast_level w events m p s c here in
      let set : Setting = setting w s.0 here.def in
      let stands : IsStanding set m.event here.user (contexts_of m s.0) = at.acting.holds.value in
      ap (λ (o : Option Life). low o (runner_on r.state p)) (ap (life_if r) at.on.runs ∙ at.on.is)
      ∙ ap (low (Some at.life)) at.acting.runner
      ∙ ap (λ (b : Bool). if b then None else option_map (point_of r.state) (runner_of s (carried_by here.ctx.state)))
      (fast_level.laws.owes w set m.event r here.user (contexts_of m s.0) p here.act at.life here.ctx at.acting.holds at.acting.fit at.on)
      ∙ at-instruction here.user r.state s here.ctx.state stands.made.space
      (λ t carries. carried-fits set m.event here.user (contexts_of m s.0) s r here.act here.ctx t stands at.acting.fit.holds at.on.mine carries)
      ∙ sym (ap point_in (local-is fast_level.calls fast_level.stands fast_level.keep (next_event m) p s here))

  by-line : (l : Option ℕ) (b : Bool) (x y : Option Point) → (if b then None else x) ≡ y
      → (if is_some l || b then None else x) ≡ (if is_none l then y else None)
  by-line None b x y same = same
  by-line (Some raised) b x y same = refl

  pub stands-same : stands_on r p ≡ (if is_none (line_of m.kernel p) then point_in (local_on fast_calls m p) else None)
  stands-same =
      ap (λ (l : Option ℕ). if is_some l || is_in (life_on r p) then None else option_map (point_of r.state) (runner_on r.state p))
      (line-reads fast_level w events m p c.history)
      ∙ by-line (line_of m.kernel p) (is_in (life_on r p)) (option_map (point_of r.state) (runner_on r.state p)) (point_in (local_on fast_calls m p))
      (by-owner (owner_of m.kernel p) refl)
