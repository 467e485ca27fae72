-- How a run ends: what the machine says is so in the history.
use Rattle.sa_kernel_laws.proofs.overview.Untold.{once_if}
use Rattle.sa_kernel_laws.proofs.closings.Wants.{heard}
use Rattle.sa_kernel_laws.proofs.Value.{not-found, quiet-says}
use Rattle.sa_legal_runs.proofs.matching.Lists.{all-pass}
use Rattle.sa_legal_runs.proofs.matching.Shown.{runs-reads, owner-reads}
use Rattle.sa_legal_runs.proofs.matching.Composed.{holds-at, IsComposed, read, moment}
use Rattle.std.proofs.lemmas.Option.{get_or_from_slice_get, slice_get_within, same_Some, none-some}
use Rattle.std.proofs.lemmas.List.Sums.{sum_by-cons}
use Rattle.std.proofs.lemmas.Bool.{cases_eq, and_parts, false_from_ne_true, not-false}
use Rattle.std.proofs.lemmas.Bool.Decides.{nat_tests}
use Rattle.std.specs.Prelude.{if◌then◌else◌, sum_by}
use Rattle.std.specs.List.{list_all}
use Rattle.std.proofs.Common.{get_or, ◌≡◌, ◌≢◌, ℕ, zero, suc, ◌<◌, ◌≤◌, ◌==◌, arith, sym, ◌∙◌, ap, subst, refl, Bool, true, false, ◌&&◌, not, Option, Some, None, is_some, IsSome, List, [], ◌∷◌, length, slice_get, Contains, inl, inr}
use Rattle.sa_base.specs.declared.context.Stopped.{Stopped}
use Rattle.sa_base.specs.declared.record.End.{End}
use Rattle.sa_base.specs.declared.record.End.TheVariants.{AllDone, Stuck, Budget}
use Rattle.sa_base.specs.declared.number.ProcNo.{ProcNo}
use Rattle.sa_base.specs.declared.number.SpaceNo.{SpaceNo}
use Rattle.sa_base.specs.declared.number.ActNo.{ActNo}
use Rattle.sa_base.specs.declared.record.Note.{Note}
use Rattle.sa_base.specs.declared.record.Note.TheVariants.{Add, Preempted, Blocked, Unblocked}
use Rattle.sa_spaces.specs.Space.{SpaceView}
use Rattle.sa_spaces.specs.Workload.{WorkloadView}
use Rattle.sa_lemmas.proofs.ListReads.{read-at}
use Rattle.sa_acts.specs.declared.acts.Act.{Act}
use Rattle.sa_acts.specs.Table.{held_of}
use Rattle.sa_assign.specs.Aims.{least_below, space_no}
use Rattle.sa_assign.proofs.ChoiceLemmas.{least_below-none}
use Rattle.sa_devices.specs.Ios.{Io}
use Rattle.sa_laws.specs.Readings.{running_of, owner_of as owner_in, was_idle, Readings, untold_of, life_of as life_at, must_hear}
use Rattle.sa_laws.specs.Ends.{EndsWith, IsAllDone, IsStuck, are_done, are_at_rest}
use Rattle.sa_laws.specs.Event.{Event}
use Rattle.sa_laws.specs.Life.{Life}
use Rattle.sa_kernel_laws.specs.Facts.{IsQuiet}
use Rattle.sa_kernel_model.specs.Closing.{calls_for, was_idle as idle_in}
use Rattle.sa_kernel_model.specs.State.{KernelState, owner_of, life_of, untold_of as untold_in}
use Rattle.sa_kernel_model.specs.Sound.{IsSound, note_claim, io_claim, held_in}
use Rattle.sa_kernel_laws.specs.Overview.{Overview}
use Rattle.sa_kernel_model.specs.Seen.{is_quiet}
use Rattle.sa_core_model.specs.End.{is_inside, owes_in, owes_by, end_of, is_done, is_inactive, all_done, is_stuck, is_any_inside}
use Rattle.sa_core_model.specs.Standing.{running, is_life, context_in, held_or_running, contexts_of}
use Rattle.sa_core_model.proofs.Phases.{IsAt, at-owned}
use Rattle.sa_core_model.proofs.Calls.{mine}
use Rattle.sa_core_model.specs.Machine.{Machine}
use Rattle.sa_core_model.specs.Run.{setting}
use Rattle.sa_user_laws.specs.Scene.{Holds}
use Rattle.sa_user_laws.specs.Level.{UserLevel}
use Rattle.sa_legal_runs.proofs.runs.Homes.{AreHomed}
use Rattle.sa_legal_runs.proofs.frames.Lives.{Matches}

-- Two lists of one length whose entries pass alike pass alike.
alike-all : {A B : Type 0} (g : A → Bool) (h : B → Bool) (xs : List A) (ys : List B) → length xs ≡ length ys
    → ((i : ℕ) (x : A) (y : B) → slice_get xs i ≡ Some x → slice_get ys i ≡ Some y → g x ≡ h y) → list_all g xs ≡ list_all h ys
alike-all g h [] [] size same = refl
alike-all g h (x ∷ xs) (y ∷ ys) size same =
    ap (λ (b : Bool). b && list_all g xs) (same 0 x y refl refl)
    ∙ ap (λ (b : Bool). h y && b) (alike-all g h xs ys (omega (arith, size)) (λ i u v a b. same (suc i) u v a b))
alike-all g h _ _ size same = absurd (omega (arith, size))

bit-few : (b : Bool) → once_if b ≤ 1
bit-few true = omega arith
bit-few false = omega arith

claim-few : (a : ℕ) (n : Note) → note_claim a n ≤ 1
claim-few a (Preempted b) = bit-few (a == b.0)
claim-few a (Unblocked b) = bit-few (a == b.0)
claim-few a _ = omega arith

-- What is claimed is claimed by some notice.
pub find-claim : (a : ℕ) (notes : List Note) → 1 ≤ sum_by (note_claim a) notes → (note : Note) × Contains notes note × (note_claim a note ≡ 1)
find-claim a [] some = absurd (omega (arith, some))
find-claim a (n ∷ ns) some = elim (cases_eq (note_claim a n) 1) [
  | inl one ↦ (n, (0, omega arith, refl), one)
  | inr other ↦
      let few = claim-few a n in
      let whole = sum_by-cons (note_claim a) n ns in
      let rest = find-claim a ns (omega (arith, some, few, other, whole)) in
      (rest.0, (suc rest.1.0, (let z = rest.1.1 in omega (arith, z)), rest.1.2), rest.2)
]

bit-one : (b : Bool) → once_if b ≡ 1 → b ≡ true
bit-one true is = refl
bit-one false is = absurd (omega (arith, is))

pub same-act : (a b : ActNo) → once_if (a.0 == b.0) ≡ 1 → b ≡ a
same-act a b is = ap (λ i. record { 0 = i }) (let t = bit-one (a.0 == b.0) is in let e : b.0 ≡ a.0 = grind (arith, nat_tests, t) in e)

pub zero-if : (b : Bool) (n : ℕ) → n ≡ 0 → (if b then n else 0) ≡ 0
zero-if true n is = is
zero-if false n is = refl

not-some : {A : Type 0} (o : Option A) → not (is_some o) ≡ true → o ≡ None
not-some None is = refl
not-some (Some x) is = absurd (cc)

-- Where a list has an entry for a space, the space is within it.

some-below : (us : List (List Note)) (s : ℕ) (note : Note) → Contains (get_or us s []) note → s < length us
some-below [] s note has = absurd (let z = has.1 in omega (arith, z))
some-below (u ∷ us) zero note has = omega arith
some-below (u ∷ us) (suc s) note has = let z = some-below us s note has in omega (arith, z)

pub life-of : (a : ActNo) (o : Option ActNo) → is_life a.0 o ≡ true → o ≡ Some a
life-of a None is = absurd (cc)
life-of a (Some b) is = ap Some (ap (λ i. record { 0 = i }) (let e : b.0 ≡ a.0 = grind (arith, nat_tests, is) in e))

module _ {C : Type 0} where
  matched-act : (x : Option (Act C)) (o : Option Life) (life : Life) → o ≡ Some life → Matches x o
      → (act : Act C) × (x ≡ Some act) × (life.space ≡ act.space)
  matched-act None None life is h = absurd (none-some life is)
  matched-act (Some act) (Some l) life is h = (act, refl, ap (λ (y : Life). y.space) (sym (same_Some l life is)) ∙ h.0)
  matched-act _ _ life is h = absurd h

  -- A context that runs, runs on some processor.
  pub running-on : (lives : List (Option ActNo)) (contexts : List (Option C)) (a : ℕ) → IsSome (running lives contexts a)
      → (q : ℕ) × (is_life a (get_or lives q None) ≡ true)
  running-on (l ∷ lives) (x ∷ contexts) a some = go (is_life a l) refl some (running-on lives contexts a)
    where
      go : (b : Bool) → is_life a l ≡ b → IsSome (if b then x else running lives contexts a)
          → (IsSome (running lives contexts a) → (q : ℕ) × (is_life a (get_or lives q None) ≡ true))
          → (q : ℕ) × (is_life a (get_or (l ∷ lives) q None) ≡ true)
      go true is here again = (0, is)
      go false is here again = let z = again here in (suc z.0, z.1)
  running-on _ _ a some = absurd (cc)

  context-some : (s : ℕ) (x : Option (Act C)) (act : Act C) (o : Option C) → x ≡ Some act → act.held ≡ None
      → IsSome (context_in s x o) → IsSome o
  context-some s None act o is none some = absurd (none-some act is)
  context-some s (Some y) act o is none some =
      by (y.space.0 == s) (subst (λ (h : Option (Stopped C)). IsSome (if y.space.0 == s then held_or_running h o else None))
      (ap (λ (z : Act C). z.held) (same_Some y act is) ∙ none) some)
    where
      by : (b : Bool) → IsSome (if b then o else None) → IsSome o
      by true some = some
      by false some = absurd (cc)

  pub held-one : (s : ℕ) (x : Option (Act C)) (act : Act C) (held : Stopped C) → x ≡ Some act → act.held ≡ Some held → s ≡ act.space.0
      → held_in s x ≡ 1
  held-one s None act held is has same = absurd (none-some act is)
  held-one s (Some y) act held is has same =
      let e = same_Some y act is in
      let one : (s == y.space.0) ≡ true =
      (let z : s ≡ y.space.0 = same ∙ sym (ap (λ (q : Act C). q.space.0) e) in grind (arith, nat_tests, z)) in
      let two : is_some y.held ≡ true = ap (λ (q : Act C). is_some q.held) e ∙ ap (λ (h : Option (Stopped C)). is_some h) has in
      ap (λ (b : Bool). once_if (b && is_some y.held)) one ∙ ap once_if two

module _ {U C : Type 0} (level : UserLevel U C) where
  -- What is known of each space, between two events.
  record One (w : WorkloadView) (events : List Event) (m : Machine U C) (s : ℕ) (u : U) : Type 0 where
    def : SpaceView
    at : slice_get w.spaces s ≡ Some def
    holds : Holds level.stands w (setting w s def) m.event (read level w events) u (contexts_of m s)
    fit : level.fits w (setting w s def) (read level w events) u (contexts_of m s)

  one : (w : WorkloadView) (events : List Event) (m : Machine U C) (s : ℕ) (u : U) → IsComposed level w events m
      → slice_get m.users s ≡ Some u → s < length w.spaces → One w events m s u
  one w events m s u c is below =
      let d = read-at w.spaces s below in
      record { def = d.0; at = d.1; holds = holds-at level w events m s u d.0 c is d.1; fit = c.fit s u d.0 is d.1 }

  done-is : (w : WorkloadView) (events : List Event) (m : Machine U C) → IsComposed level w events m
      → all_done level.calls m ≡ list_all are_done (read level w events).state.spaces
  done-is w events m c =
      let r = read level w events in
      let size : length m.users ≡ length r.state.spaces =
      c.between.standing.users ∙ ap (λ (v : WorkloadView). length v.spaces) c.workload ∙ sym c.sized.spaces in
      alike-all (is_done level.calls) are_done m.users r.state.spaces size (λ i u x is at.
      let o = one w events m i u c is (let z = slice_get_within m.users i u is in omega (arith, z, size, c.sized.spaces)) in
      level.laws.done w (setting w i o.def) m.event r u (contexts_of m i) o.holds o.fit
      ∙ ap are_done (get_or_from_slice_get r.state.spaces i x _ at))

  -- The life that runs on a processor is in exactly where its context has something left to do.
  owes-at : (w : WorkloadView) (events : List Event) (m : Machine U C) (p : ProcNo) (s : SpaceNo)
      → (c : IsComposed level w events m) → (owner : owner_of m.kernel p ≡ Some s)
      → let here = at-owned level.calls level.stands level.keep m.event m p s c.between.standing owner in
      (life : Life) × (life_at (read level w events) here.act ≡ Some life) × (life.inside ≡ level.calls.owes here.user here.ctx)
  owes-at w events m p s c owner =
      let r = read level w events in
      let st = c.between.standing in
      let here = at-owned level.calls level.stands level.keep m.event m p s st owner in
      let runs : running_of r p ≡ Some here.act = runs-reads level w events m p c.history ∙ here.life in
      let owned : owner_in r p ≡ Some s = owner-reads level w events m p c.history ∙ owner in
      let l = (moment level w events m c).lives p here.act runs in
      let space : l.0.space ≡ s = same_Some l.0.space s (sym l.3 ∙ owned) in
      let at : slice_get w.spaces s.0 ≡ Some here.def =
      subst (λ (v : WorkloadView). slice_get v.spaces s.0 ≡ Some here.def) c.workload here.is_def in (
        l.0,
        l.1,
        level.laws.owes w (setting w s.0 here.def) m.event r here.user (contexts_of m s.0) p here.act l.0 here.ctx
            (holds-at level w events m s.0 here.user here.def c here.is_user at)
            (c.fit s.0 here.user here.def here.is_user at)
            (record { runs = runs; is = l.1; space = space; proc = l.2; owner = owned; mine = mine level.calls level.stands level.keep m.event m p s st here }),
      )

  owes-is : (m : Machine U C) (p : ProcNo) (s : SpaceNo) → (here : IsAt level.calls level.stands level.keep m p s)
      → owes_in level.calls m p (owner_of m.kernel p) ≡ level.calls.owes here.user here.ctx
  owes-is m p s here =
      ap (λ (o : Option SpaceNo). owes_in level.calls m p o) here.owner
      ∙ ap (λ (o : Option U). owes_by level.calls o (get_or m.contexts p.0 None)) here.is_user
      ∙ ap (λ (o : Option C). owes_by level.calls (Some here.user) o) here.is_ctx

  untold-is : (w : WorkloadView) (events : List Event) (m : Machine U C) (s : SpaceNo) → IsComposed level w events m
      → untold_of (read level w events) s ≡ untold_in m.kernel s.0
  untold-is w events m s c = ap (λ (v : Overview). get_or v.untold s.0 []) c.history.kept.reads

  rest-is : (w : WorkloadView) (events : List Event) (m : Machine U C) → IsComposed level w events m
      → ((s : SpaceNo) (b : ActNo) → Contains (untold_in m.kernel s.0) (Unblocked b) → ⊥)
      → list_all (is_inactive level.calls) m.users ≡ list_all are_at_rest (read level w events).state.spaces
  rest-is w events m c none =
      let r = read level w events in
      let size : length m.users ≡ length r.state.spaces =
      c.between.standing.users ∙ ap (λ (v : WorkloadView). length v.spaces) c.workload ∙ sym c.sized.spaces in
      alike-all (is_inactive level.calls) are_at_rest m.users r.state.spaces size (λ i u x is at.
      let o = one w events m i u c is (let z = slice_get_within m.users i u is in omega (arith, z, size, c.sized.spaces)) in
      level.laws.rest w (setting w i o.def) m.event r u (contexts_of m i) o.holds o.fit
      (λ b has. none (space_no i) b (subst (λ (ns : List Note). Contains ns (Unblocked b)) (untold-is w events m (space_no i) c) has))
      ∙ ap are_at_rest (get_or_from_slice_get r.state.spaces i x _ at))

  -- Where the machine is stuck, the history is.
  stuck-so : (w : WorkloadView) (events : List Event) (m : Machine U C) → IsComposed level w events m
      → AreHomed (length w.spaces) m.kernel.acts → is_stuck level.calls m ≡ true
      → (IsAllDone (read level w events) → ⊥) → IsStuck (read level w events)
  stuck-so w events m c home stuck some = record {
    some = some;
    rest = sym (rest-is w events m c none) ∙ a;
    ios = ap (λ (v : Overview). v.under_way) c.history.kept.reads ∙ quiet.under_way;
    lines = λ p. ap (λ (v : Overview). get_or v.assign.lines p.0 None) c.history.kept.reads ∙ quiet.low p;
    inside = λ i life is. false_from_ne_true life.inside (λ inside. not-in i life is inside);
  }
    where
      r : Readings
      r = read level w events

      k : KernelState C
      k = m.kernel

      sound : IsSound k
      sound = c.between.standing.sound

      ab : (list_all (is_inactive level.calls) m.users && is_quiet m.kernel) ≡ true
      ab = (and_parts (list_all (is_inactive level.calls) m.users && is_quiet m.kernel) (not (is_any_inside level.calls m)) stuck).0

      a : list_all (is_inactive level.calls) m.users ≡ true
      a = (and_parts (list_all (is_inactive level.calls) m.users) (is_quiet m.kernel) ab).0

      quiet : IsQuiet m.kernel
      quiet = (quiet-says C m.kernel sound.formed.sizes).0 (and_parts (list_all (is_inactive level.calls) m.users) (is_quiet m.kernel) ab).1

      outside : least_below (length m.contexts) (is_inside level.calls m) ≡ None
      outside = not-some (least_below (length m.contexts) (is_inside level.calls m))
          (and_parts (list_all (is_inactive level.calls) m.users && is_quiet m.kernel) (not (is_any_inside level.calls m)) stuck).1

      none : (s : SpaceNo) (b : ActNo) → Contains (untold_in k s.0) (Unblocked b) → ⊥
      none s b has = let z : true ≡ false = quiet.told s (Unblocked b) has in cc

      not-in : (i : ActNo) (life : Life) → life_at r i ≡ Some life → life.inside ≡ true → ⊥
      not-in i life is inside = by act.held refl
        where
          found : (act : Act C) × (k.acts i.0 ≡ Some act) × (life.space ≡ act.space)
          found = matched-act (k.acts i.0) (r.lives i.0) life is (c.matched i.0)

          act : Act C
          act = found.0

          s : SpaceNo
          s = life.space

          below : s.0 < length w.spaces
          below = subst (λ (t : SpaceNo). t.0 < length w.spaces) (sym found.2) (home i.0 act found.1)

          user : (u : U) × (slice_get m.users s.0 ≡ Some u)
          user = read-at m.users s.0 (omega (arith, below, c.between.standing.users, ap (λ (v : WorkloadView). length v.spaces) c.workload))

          o : One w events m s.0 user.0
          o = one w events m s.0 user.0 c user.1 below

          there : IsSome (contexts_of m s.0 i.0)
          there = level.laws.inside w (setting w s.0 o.def) m.event r user.0 (contexts_of m s.0) i life o.holds o.fit is refl inside

          by : (h : Option (Stopped C)) → act.held ≡ h → ⊥
          by None free =
              let on = running-on k.lives m.contexts i.0
              (context-some s.0 (k.acts i.0) act (running k.lives m.contexts i.0) found.1 free there) in
              let q : ProcNo = record { 0 = on.0 } in
              let lives : life_of k q ≡ Some i = life-of i (get_or k.lives on.0 None) on.1 in
              let run = sound.formed.lives.run on.0 i lives in
              let owed = owes-at w events m q run.space c run.owner in
              let here = at-owned level.calls level.stands level.keep m.event m q run.space c.between.standing run.owner in
              let same : here.act ≡ i = same_Some here.act i (sym here.life ∙ lives) in
              let same_life : owed.0 ≡ life = same_Some owed.0 life (sym owed.1 ∙ ap (λ (z : ActNo). r.lives z.0) same ∙ is) in
              let out : is_inside level.calls m on.0 ≡ false =
              least_below-none (length m.contexts) (is_inside level.calls m) outside on.0
              (let z = here.within in omega (arith, z, c.between.standing.lives, c.between.standing.contexts)) in
              absurd (let z : true ≡ false = sym inside ∙ ap (λ (l : Life). l.inside) (sym same_life) ∙ owed.2
              ∙ sym (owes-is m q run.space here) ∙ out in cc)
          by (Some held) has =
              let count = sound.claimed.once s.0 i.0 in
              let ones = held-one s.0 (k.acts i.0) act held found.1 has (ap (λ (t : SpaceNo). t.0) found.2) in
              let ios : sum_by (io_claim s.0 i.0) k.under_way ≡ 0 = ap (λ (xs : List Io). sum_by (io_claim s.0 i.0) xs) quiet.under_way in
              let told : (if s.0 == sound.claimed.told_to then sum_by (note_claim i.0) k.telling else 0) ≡ 0 =
              zero-if (s.0 == sound.claimed.told_to) (sum_by (note_claim i.0) k.telling)
              (ap (λ (ns : List Note). sum_by (note_claim i.0) ns) c.between.fetched) in
              let claim = find-claim i.0 (untold_in k s.0) (omega (arith, count, ones, ios, told)) in
              noticed claim.0 claim.1 claim.2
            where
              noticed : (note : Note) → Contains (untold_in k s.0) note → note_claim i.0 note ≡ 1 → ⊥
              noticed (Add q) has one = absurd (omega (arith, one))
              noticed (Blocked b) has one = absurd (omega (arith, one))
              noticed (Unblocked b) has one = none s b has
              noticed (Preempted b) has one =
                  let mine_has = subst (λ (z : ActNo). Contains (untold_in k s.0) (Preempted z)) (same-act i b one) has in
                  let calm = quiet.told s (Preempted i) mine_has in
                  let idle_is : life.idle ≡ true =
                  ap was_idle (sym is) ∙ c.history.kept.idle s.0 i mine_has ∙ not-false (idle_in (held_of (k.acts i.0))) calm in
                  absurd (let z : true ≡ false = sym inside ∙ (c.idle i life is idle_is).0 in cc)

  -- Where the history is stuck, the machine is.
  stuck-back : (w : WorkloadView) (events : List Event) (m : Machine U C) → IsComposed level w events m
      → IsStuck (read level w events) → is_stuck level.calls m ≡ true
  stuck-back w events m c stuck =
      all-of (list_all (is_inactive level.calls) m.users) (is_quiet m.kernel) (is_any_inside level.calls m)
      (rest-is w events m c none ∙ stuck.rest) ((quiet-says C m.kernel sound.formed.sizes).1 quiet)
      (not-found (length m.contexts) (is_inside level.calls m)
      (λ p below. out (record { 0 = p }) (owner_of m.kernel (record { 0 = p })) refl))
    where
      all-of : (x y z : Bool) → x ≡ true → y ≡ true → z ≡ false → (x && y && not z) ≡ true
      all-of true true false ex ey ez = refl
      all-of true true true ex ey ez = absurd (cc)
      all-of true false z ex ey ez = absurd (cc)
      all-of false y z ex ey ez = absurd (cc)

      r : Readings
      r = read level w events

      k : KernelState C
      k = m.kernel

      sound : IsSound k
      sound = c.between.standing.sound

      -- No notice calls for an upcall.
      calm : (s : SpaceNo) (note : Note) → Contains (untold_in k s.0) note → must_hear r note ≡ true → ⊥
      calm s note has must =
          let below : s.0 < length w.spaces =
          (let z = some-below k.untold s.0 note has in omega (arith, z, sound.formed.sizes.untold, c.history.kept.of.spaces)) in
          let user = read-at m.users s.0
          (omega (arith, below, c.between.standing.users, ap (λ (v : WorkloadView). length v.spaces) c.workload)) in
          let o = one w events m s.0 user.0 c user.1 below in
          let law = level.laws.must w (setting w s.0 o.def) m.event r user.0 (contexts_of m s.0) note o.holds o.fit
          (subst (λ (ns : List Note). Contains ns note) (sym (untold-is w events m s c)) has) must in
          elim law [
            | inl busy ↦
                let x = read-at r.state.spaces s.0 (omega (arith, below, c.sized.spaces)) in
                absurd (let z : true ≡ false = sym (all-pass are_at_rest r.state.spaces s.0 x.0 stuck.rest x.1)
                ∙ sym (ap are_at_rest (get_or_from_slice_get r.state.spaces s.0 x.0 _ x.1)) ∙ busy in cc)
            | inr in_it ↦ absurd (let z : true ≡ false = sym in_it.3 ∙ stuck.inside in_it.0 in_it.1 in_it.2 in cc)
          ]

      none : (s : SpaceNo) (b : ActNo) → Contains (untold_in k s.0) (Unblocked b) → ⊥
      none s b has = calm s (Unblocked b) has refl

      quiet : IsQuiet k
      quiet = record {
        under_way = sym (ap (λ (v : Overview). v.under_way) c.history.kept.reads) ∙ stuck.ios;
        low = λ p. sym (ap (λ (v : Overview). get_or v.assign.lines p.0 None) c.history.kept.reads) ∙ stuck.lines p;
        told = λ s note has. false_from_ne_true (calls_for k note) (λ calls. calm s note has (heard k r s.0 c.history.kept.idle note has ∙ calls));
      }

      out : (p : ProcNo) (o : Option SpaceNo) → owner_of k p ≡ o → owes_in level.calls m p (owner_of k p) ≡ false
      out p None off = ap (λ (o : Option SpaceNo). owes_in level.calls m p o) off
      out p (Some s) owner =
          let owed = owes-at w events m p s c owner in
          let here = at-owned level.calls level.stands level.keep m.event m p s c.between.standing owner in
          owes-is m p s here ∙ sym owed.2 ∙ stuck.inside here.act owed.0 owed.1

  -- THE END of the machine is that of the history.
  pub ends-with : (w : WorkloadView) (events : List Event) (m : Machine U C) (budget : ℕ) → IsComposed level w events m
      → AreHomed (length w.spaces) m.kernel.acts
      → EndsWith budget (read level w events) m.event (end_of level.calls budget m)
  ends-with w events m budget c home = by-done (all_done level.calls m) refl
    where
      r : Readings
      r = read level w events

      E : Option End → Type 0
      E o = EndsWith budget r m.event o

      by-budget : (b : Bool) → (m.event == budget) ≡ b → (IsAllDone r → ⊥) → (IsStuck r → ⊥) → E (if b then Some Budget else None)
      by-budget true is done stuck = (record { done = done; stuck = stuck }, (let e : m.event ≡ budget = grind (arith, nat_tests, is) in e))
      by-budget false is done stuck =
          (record { done = done; stuck = stuck }, (let e : m.event ≢ budget = grind (arith, nat_tests, is) in e))

      by-stuck : (b : Bool) → is_stuck level.calls m ≡ b → (IsAllDone r → ⊥)
          → E (if b then Some Stuck else if m.event == budget then Some Budget else None)
      by-stuck true is done = stuck-so w events m c home is done
      by-stuck false is done = by-budget (m.event == budget) refl done
          (λ stuck. let z : true ≡ false = sym (stuck-back w events m c stuck) ∙ is in cc)

      by-done : (b : Bool) → all_done level.calls m ≡ b
          → E (if all_done level.calls m then Some AllDone else if is_stuck level.calls m then Some Stuck else if m.event == budget then Some Budget else None)
      by-done true is = subst (λ (b : Bool). E
          (if b then Some AllDone else if is_stuck level.calls m then Some Stuck else if m.event == budget then Some Budget else None)) (sym is) (sym
          (done-is w events m c) ∙ is)
      by-done false is = subst (λ (b : Bool). E
          (if b then Some AllDone else if is_stuck level.calls m then Some Stuck else if m.event == budget then Some Budget else None)) (sym is)
          (by-stuck (is_stuck level.calls m) refl (λ done. let z : true ≡ false = sym done ∙ sym (done-is w events m c) ∙ is in cc))
