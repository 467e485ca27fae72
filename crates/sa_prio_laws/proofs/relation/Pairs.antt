-- The pairs that the package sees are those that are read.
use Rattle.std.proofs.Common.{◌≡◌, ◌≢◌, ℕ, ◌+◌, ◌<◌, nat_lt, Bool, true, false, ◌&&◌, ◌==◌, if◌then◌else◌, List, length, option_map, Option, Some, None, IsSome, is_none, is_some, slice_index_or, refl, sym, ap, ◌∙◌, subst, inl, inr, arith}
use Rattle.std.specs.Int.{bit_at}
use Rattle.std.specs.Prelude.{◌↔◌}
use Rattle.std.specs.Option.{option_and_then}
use Rattle.std.proofs.lemmas.Bool.{cases_lt, eq-eqb, eqb-true}
use Rattle.std.proofs.lemmas.List.{get_or_past}
use Rattle.std.proofs.lemmas.Option.{same_Some, none-some}
use Rattle.sa_base.specs.declared.context.Seen.{Seen}
use Rattle.sa_base.specs.declared.number.ActNo.{ActNo}
use Rattle.sa_base.specs.declared.number.ProcNo.{ProcNo}
use Rattle.sa_base.specs.declared.number.SpaceNo.{SpaceNo}
use Rattle.sa_base.specs.declared.number.ThreadNo.{ThreadNo}
use Rattle.sa_spaces.specs.Workload.{WorkloadView}
use Rattle.sa_assign.proofs.ChoiceLemmas.{least_below-passes, least_below-none}
use Rattle.sa_assign.specs.Aims.{least_below}
use Rattle.sa_assign.specs.Reaim.{proc_no}
use Rattle.sa_abstract.specs.Calls.{Contexts}
use Rattle.sa_abstract.specs.Setting.{Setting}
use Rattle.sa_package_model.proofs.Holding.{own_made}
use Rattle.sa_package_model.specs.Context.{carried_by}
use Rattle.sa_package_model.specs.Stands.{IsStanding}
use Rattle.sa_package_model.specs.declared.context.Context.{Context}
use Rattle.sa_package_model.specs.declared.package.Package.{Package}
use Rattle.sa_laws.specs.Life.{Life}
use Rattle.sa_laws.specs.Readings.{Readings, Listed, running_of, life_of, owner_of, line_of}
use Rattle.sa_laws.specs.State.{SpaceState, Runner, space_at, thread_at, runner_on, runner_of}
use Rattle.sa_laws.specs.declared.place.Place.TheVariants.{Running}
use Rattle.sa_user_laws.proofs.Runners.{runner-behind}
use Rattle.sa_laws.proofs.Searches.{found-from}
use Rattle.sa_user_laws.specs.Moments.{IsMoment, HasLifeOn, Sees}
use Rattle.sa_fast_laws.proofs.relation.OneLife.{carried_has}
use Rattle.sa_fast_laws.proofs.relation.Runners.{alone-runs, runs-carried}
use Rattle.sa_fast_laws.specs.FastFits.{Holds}
use Rattle.sa_ranks.specs.Pairs.{rank_in, rank_if, is_outranked, outranked_by, outranked_on, is_pair_on, has_pair, IsLowest}
use Rattle.sa_prio_model.specs.declared.context.PrioContext.{PrioContext}
use Rattle.sa_prio_model.specs.declared.pair.Outranked.{Outranked}
use Rattle.sa_prio_model.proofs.Pairs.{lowest-is, lowest-none}
use Rattle.sa_prio_model.specs.Prio.{Prio, on_at, rank_of, first_rank, rank_below, outranked, lowest, has_pair as prio_pair}
use Rattle.sa_prio_model.specs.Stands.{bases}
use Rattle.sa_prio_laws.proofs.relation.Ready.{below_best, outranked-is, rank-is}
use Rattle.sa_prio_laws.specs.PrioFits.{KeepsOn}
use Rattle.sa_prio_laws.specs.Ready.{FitsRanked}

-- What a space sees of the lines, and that lives of it run on its processors, holds at this moment.
pub record SeesLines (s : SpaceNo) (r : Readings) (seen : Seen) : Type 0 where
  pub low : (q : ProcNo) → (bit_at seen.low q.0 ≡ 1) ↔ ((owner_of r q ≡ Some s) × (line_of r q ≡ None))
  pub lives : (q : ProcNo) → owner_of r q ≡ Some s → HasLifeOn s r q

-- From one moment to a later one the same lives run, owners are the same, the threads of other spaces are as before, and
-- the lives of these contexts stay in their space.
pub record IsNear (s : SpaceNo) (bs : Contexts Context) (m r : Readings) : Type 0 where
  pub running : r.running ≡ m.running
  pub owners : r.state.owners ≡ m.state.owners
  pub elsewhere : (z : SpaceNo) → z.0 ≢ s.0 → space_at r.state z ≡ space_at m.state z
  pub lives : (a : ActNo) (b : Context) (life : Life) → bs a.0 ≡ Some b → life_of m a ≡ Some life
      → (now : Life) × (life_of r a ≡ Some now) × (now.space ≡ life.space)

pub is-near : (s : SpaceNo) (bs : Contexts Context) (r : Readings) → IsNear s bs r r
is-near s bs r = record { running = refl; owners = refl; elsewhere = λ z ne. refl; lives = λ a b life mine is. (life, is, refl) }

pub sees-lines : (s : SpaceNo) (r : Readings) (p : ProcNo) (n : ℕ) (seen : Seen) → Sees s r p n seen → SeesLines s r seen
sees-lines s r p n seen sees = record { low = sees.low; lives = sees.lives }

-- WHAT IS SEEN at moment r, after moment m at which it is known who runs where
module _ (set : Setting) (e : ℕ) (v : Prio) (cs : Contexts PrioContext) (h : IsStanding set e v.base (bases cs)) (m : Readings) (moment : IsMoment m)
    (r : Readings) (near : IsNear set.space (bases cs) m r) (seen : Seen) (sees : SeesLines set.space r seen)
    (k : Holds set.space r v.base (bases cs)) (listed : List Listed) (f : FitsRanked v.base listed) (on : KeepsOn r v cs) where
  abbrev s : SpaceNo
  s = set.space

  abbrev u : Package
  u = v.base

  abbrev x : SpaceState
  x = space_at r.state set.space

  same-run : (q : ProcNo) → running_of r q ≡ running_of m q
  same-run q = ap (λ rs. slice_index_or rs q.0 None) near.running

  same-owner : (q : ProcNo) → owner_of r q ≡ owner_of m q
  same-owner q = ap (λ os. slice_index_or os q.0 None) near.owners

  -- WHO RUNS on a processor of the space: the thread that the package keeps there
  pub record IsOnHere (q : ProcNo) : Type 0 where
    pub runner : runner_on r.state q ≡ runner_of set.space (on_at v q.0)
    pub made : (t : ThreadNo) → on_at v q.0 ≡ Some t → t.0 < v.base.shared.state.lists.made

  on-here : (q : ProcNo) → owner_of r q ≡ Some s → IsOnHere q
  on-here q owner = by (cs l.act.0) refl some where
    l : HasLifeOn set.space r q
    l = sees.lives q owner

    some : IsSome (bases cs l.act.0)
    some = (k.runs q l.act l.life l.runs l.is l.space).0

    by : (o : Option PrioContext) → cs l.act.0 ≡ o → IsSome (option_map (λ (c : PrioContext). c.base) (cs l.act.0)) → IsOnHere q
    by None none has = absurd (let no = subst (λ o. IsSome (option_map (λ (c : PrioContext). c.base) o)) none has in cc)
    by (Some c) mine has =
        let base : bases cs l.act.0 ≡ Some c.base = ap (option_map (λ (z : PrioContext). z.base)) mine in
        let carried : on_at v q.0 ≡ carried_by c.base.state = on q l.act c l.runs mine in
        record {
          runner = runner-behind set.space m r q (carried_by c.base.state) moment (sym (same-owner q) ∙ owner) near.elsewhere
              (alone-runs set e u (bases cs) h set.space r k q l.act c.base l.life base l.is l.space l.runs)
              ∙ ap (runner_of set.space) (sym carried);
          made = λ t at. own_made set e u (bases cs) h l.act.0 c.base base t.0 (carried_has u.shared.works c.base t (sym carried ∙ at));
        }

  -- OUTRANKED: as the package sees it, and as it is read
  rank-below : (q : ProcNo) → IsOnHere q → line_of r q ≡ None → (t : ThreadNo) → on_at v q.0 ≡ Some t
      → outranked_on r s q ≡ option_and_then (λ best. rank_below u best (Some t)) (first_rank u)
  rank-below q here low t at =
      let program = rank-is set e u (bases cs) h s r k listed f t (here.made t at) in
      ap (outranked_by r s q) (here.runner ∙ ap (runner_of set.space) at)
      ∙ ap (λ b. rank_if (b && is_none (line_of r q) && is_outranked x (rank_in x t)) (rank_in x t)) (eq-eqb s.0 s.0 refl)
      ∙ ap (λ l. rank_if (is_none l && is_outranked x (rank_in x t)) (rank_in x t)) low
      ∙ ap (λ m. rank_if (is_outranked x m) m) program
      ∙ ap (λ b. rank_if b (rank_of u t)) (outranked-is set e u (bases cs) h s r k listed f (rank_of u t)) ∙ by (first_rank u) where
        by : (o : Option ℕ)
            → rank_if (below_best set e u (bases cs) h s r k listed f (rank_of u t) o) (rank_of u t) ≡ option_and_then (λ best. rank_below u best (Some t)) o
        by None = refl
        by (Some best) = choose (nat_lt (rank_of u t) best) where
          choose : (b : Bool) → rank_if b (rank_of u t) ≡ (if b then Some (rank_of u t) else None)
          choose true = refl
          choose false = refl

  no-best : (o : Option ℕ) → option_and_then (λ best. rank_below u best None) o ≡ None
  no-best None = refl
  no-best (Some best) = refl

  no-low : (o : Option ℕ) → option_and_then {T = ℕ} {U = ℕ} (λ best. None) o ≡ None
  no-low None = refl
  no-low (Some best) = refl

  -- a processor whose line is raised, or which another space owns, has no pair of this space
  unowned : (q : ProcNo) → ((owner_of r q ≡ Some s) × (line_of r q ≡ None) → ⊥) → (o : Option Runner) → runner_on r.state q ≡ o → outranked_by r s q o ≡ None
  unowned q none None is = refl
  unowned q none (Some runner) is = by (runner.space.0 == s.0) refl (line_of r q) refl where
    found : (i : ℕ) × (runner.space.0 ≡ 0 + i) × ((thread_at r.state (record { 0 = i }) runner.thread).place ≡ Running q)
    found = found-from q 0 r.state.spaces runner is

    owner : runner.space ≡ s → owner_of r q ≡ Some s
    owner same =
        let run = runs-carried set e u (bases cs) h set.space r k runner.thread q
        (subst (λ (z : SpaceNo). (thread_at r.state z runner.thread).place ≡ Running q)
        (ap (λ i. record { 0 = i }) (let at = found.1 in let i : found.0 ≡ runner.space.0 = omega arith in i) ∙ same) found.2) in
        let was = moment.lives q run.act (sym (same-run q) ∙ run.runs) in
        let now = near.lives run.act run.ctx was.0 run.mine was.1 in
        let one : now.0 ≡ run.life = same_Some now.0 run.life (sym now.1 ∙ run.is) in
        same-owner q ∙ was.3 ∙ ap Some (sym now.2 ∙ ap (λ (l : Life). l.space) one ∙ run.space)

    by : (b : Bool) → (runner.space.0 == s.0) ≡ b → (l : Option ℕ) → line_of r q ≡ l → outranked_by r s q (Some runner) ≡ None
    by false apart l line = ap (λ b. rank_if (b && is_none (line_of r q) && is_outranked x (rank_in x runner.thread)) (rank_in x runner.thread)) apart
    by true same (Some late) line =
        ap (λ b. rank_if (b && is_none (line_of r q) && is_outranked x (rank_in x runner.thread)) (rank_in x runner.thread)) same
        ∙ ap (λ l. rank_if (is_none l && is_outranked x (rank_in x runner.thread)) (rank_in x runner.thread)) line
    by true same None line = absurd (none (owner (ap (λ i. record { 0 = i }) (eqb-true runner.space.0 s.0 same)), line))

  pub outranked-alike : (q : ProcNo) → outranked v seen q ≡ outranked_on r s q
  outranked-alike q = by (bit_at seen.low q.0 == 1) refl where
    by : (b : Bool) → (bit_at seen.low q.0 == 1) ≡ b → outranked v seen q ≡ outranked_on r s q
    by false bit =
        ap (λ b. option_and_then (λ best. if b then rank_below u best (on_at v q.0) else None) (first_rank u)) bit ∙ no-low (first_rank u)
        ∙ sym (unowned q (λ both. let one = (sees.low q).1 both in let yes = eq-eqb (bit_at seen.low q.0) 1 one in cc) (runner_on r.state q) refl)
    by true bit =
        ap (λ b. option_and_then (λ best. if b then rank_below u best (on_at v q.0) else None) (first_rank u)) bit ∙ on_it (on_at v q.0) refl where
          both : (owner_of r q ≡ Some set.space) × (line_of r q ≡ None)
          both = (sees.low q).0 (eqb-true (bit_at seen.low q.0) 1 bit)

          here : IsOnHere q
          here = on-here q both.0

          on_it : (o : Option ThreadNo) → on_at v q.0 ≡ o → option_and_then (λ best. rank_below u best (on_at v q.0)) (first_rank u) ≡ outranked_on r s q
          on_it None none = ap (λ o. option_and_then (λ best. rank_below u best o) (first_rank u)) none ∙ no-best (first_rank u)
              ∙ sym (ap (outranked_by r s q) (here.runner ∙ ap (runner_of set.space) none))
          on_it (Some t) at = ap (λ o. option_and_then (λ best. rank_below u best o) (first_rank u)) at ∙ sym (rank-below q here both.1 t at)

  -- A PAIR on a processor: the space owns it, so it is one of the workload
  module _ (w : WorkloadView) (processors : length r.running ≡ w.processors) (many : length v.on ≡ w.processors) where
    pair-below : (q : ProcNo) (rank : ℕ) → outranked_on r s q ≡ Some rank → q.0 < w.processors
    pair-below q rank is = by (bit_at seen.low q.0 == 1) refl where
      by : (b : Bool) → (bit_at seen.low q.0 == 1) ≡ b → q.0 < w.processors
      by false bit = absurd (none-some rank (
          sym (ap (λ b. option_and_then (λ best. if b then rank_below u best (on_at v q.0) else None) (first_rank u)) bit ∙ no-low (first_rank u))
          ∙ outranked-alike q ∙ is))
      by true bit =
          let l = sees.lives q ((sees.low q).0 (eqb-true (bit_at seen.low q.0) 1 bit)).0 in elim (cases_lt q.0 (length r.running)) [
            | inl less ↦ omega arith
            | inr past ↦ absurd (none-some l.act (sym (get_or_past r.running q.0 None past) ∙ l.runs))
          ]

    -- whether there is one
    some-pair : (q : ProcNo) (rank : ℕ) → outranked_on r s q ≡ Some rank → has_pair w r s ≡ true
    some-pair q rank is = by (least_below w.processors (is_pair_on r s)) refl where
      by : (o : Option ℕ) → least_below w.processors (is_pair_on r s) ≡ o → is_some (least_below w.processors (is_pair_on r s)) ≡ true
      by (Some i) found = ap (λ (o : Option ℕ). is_some o) found
      by None none = absurd (
          let fails = least_below-none w.processors (is_pair_on r s) none q.0 (pair-below q rank is) in
          let passes : is_pair_on r s q.0 ≡ true = ap (λ (o : Option ℕ). is_some o) is in cc)

    no-pair : ((q : ProcNo) → q.0 < w.processors → outranked_on r s q ≡ None) → has_pair w r s ≡ false
    no-pair none = by (least_below w.processors (is_pair_on r s)) refl where
      by : (o : Option ℕ) → least_below w.processors (is_pair_on r s) ≡ o → is_some (least_below w.processors (is_pair_on r s)) ≡ false
      by None is = ap (λ (o : Option ℕ). is_some o) is
      by (Some i) found = absurd (
          let it = least_below-passes w.processors (is_pair_on r s) i found in
          let fails : is_pair_on r s i ≡ false = ap (λ (o : Option ℕ). is_some o) (none (proc_no i) it.within) in
          let passes = it.passes in cc)

    pub pairs-alike : prio_pair v seen ≡ has_pair w r s
    pairs-alike = by (lowest v seen) refl where
      by : (o : Option Outranked) → lowest v seen ≡ o → prio_pair v seen ≡ has_pair w r s
      by None none = ap (λ (o : Option Outranked). is_some o) none
          ∙ sym (no-pair (λ q below. sym (outranked-alike q) ∙ lowest-none v seen q none (omega arith)))
      by (Some other) found =
          let low = lowest-is v seen other found in
          ap (λ (o : Option Outranked). is_some o) found ∙ sym (some-pair other.proc other.rank (sym (outranked-alike other.proc) ∙ low.pair))

    -- and whose it is
    pub lowest-alike : (other : Outranked) → lowest v seen ≡ Some other → IsLowest r s other.proc
    lowest-alike other found =
        let low = lowest-is v seen other found in
        record {
          rank = other.rank;
          pair = sym (outranked-alike other.proc) ∙ low.pair;
          lowest = λ q n is. low.lowest q n (let less = pair-below q n is in omega arith) (outranked-alike q ∙ is);
          first = λ q n below is. low.first q n below (outranked-alike q ∙ is);
        }
