-- A life is stopped, or blocked, or comes back: one notice more waits, and all others stay as they are.
use Rattle.std.proofs.Common.{◌≡◌, ◌≢◌, ℕ, ◌+◌, ◌≤◌, ◌<◌, true, ◌||◌, [], ◌∷◌, ◌++◌, length, Contains, count_by, sum_by, Option, Some, None, slice_index_or, slice_set, ◌⊎◌, refl, sym, ap, ◌∙◌, subst, inl, inr, arith}
use Rattle.std.specs.List.{list_any}
use Rattle.std.proofs.Math.Bool.{or-false}
use Rattle.std.proofs.lemmas.Bool.{cases_eq, eq-eqb, ne_eqb}
use Rattle.std.proofs.lemmas.List.{get_or-set_same, get_or-set_other}
use Rattle.std.proofs.lemmas.List.Sums.{sum_by-append}
use Rattle.std.proofs.lemmas.Option.{none-some}
use Rattle.sa_base.specs.declared.number.ActNo.{ActNo}
use Rattle.sa_base.specs.declared.number.ProcNo.{ProcNo}
use Rattle.sa_base.specs.declared.number.SpaceNo.{SpaceNo}
use Rattle.sa_base.specs.declared.number.ThreadNo.{ThreadNo}
use Rattle.sa_base.specs.declared.record.Note.{Note}
use Rattle.sa_base.specs.declared.record.Note.TheVariants.{Preempted, Unblocked}
use Rattle.sa_lemmas.proofs.FunctionUpdates.{put-other}
use Rattle.sa_lemmas.proofs.Searches.{any-contained}
use Rattle.sa_fast.specs.Rest.{place_at}
use Rattle.sa_fast.specs.Threads.{load_of as loaded}
use Rattle.sa_fast.specs.declared.shared.Shared.{Shared}
use Rattle.sa_abstract.specs.Calls.{Contexts}
use Rattle.sa_abstract.specs.Setting.{Setting}
use Rattle.sa_driven_model.specs.declared.context.DrivenContext.{DrivenContext}
use Rattle.sa_driven_model.specs.declared.space.DrivenSpace.{DrivenSpace}
use Rattle.sa_driven_model.specs.Stands.{IsStanding}
use Rattle.sa_laws.specs.Life.{Life}
use Rattle.sa_laws.specs.Readings.{Readings, running_of, life_of, untold_of, load_of, stopped_thread, untold_thread}
use Rattle.sa_laws.specs.Record.{same_note}
use Rattle.sa_laws.specs.State.{space_at, thread_in, active_threads}
use Rattle.sa_fast_laws.proofs.relation.NoteLists.{any-append, count-append, one_when, one_most, count-or, none-counts, notes-same, was-there}
use Rattle.sa_fast_laws.proofs.notices.Untold.{IsNoted, live_here}
use Rattle.sa_fast_laws.specs.FastFits.{is_of, FitsShared}
use Rattle.sa_fast_laws.specs.Stage.{stage_by, stage_on, stage_of, is_act}
use Rattle.sa_driven_laws.specs.Life.{HasLife}
use Rattle.sa_driven_laws.specs.DrivenFits.{Holds}
use Rattle.sa_driven_laws.proofs.Changed.{IsChanged}
use Rattle.sa_driven_laws.proofs.Runners.{carried-apart, carried-made}

-- A LIFE CEASES TO RUN: others run where they ran.
module _ (s : SpaceNo) (r q : Readings) (u : Shared) (cs : Contexts DrivenContext) (k : Holds s r u cs) (p : ProcNo) (a : ActNo) (life : Life)
    (runs : running_of r p ≡ Some a) (there : life_of r a ≡ Some life) (of : life.space ≡ s)
    (leaves : q.running ≡ slice_set r.running p.0 None) (procs : p.0 < length r.running) where
  pub ceased-none : running_of q p ≡ None
  ceased-none = ap (λ os. slice_index_or os p.0 None) leaves ∙ get_or-set_same r.running p.0 None None procs

  elsewhere : (y : ProcNo) → y.0 ≢ p.0 → running_of q y ≡ running_of r y
  elsewhere y ne = ap (λ os. slice_index_or os y.0 None) leaves ∙ get_or-set_other r.running p.0 y.0 None None ne

  pub ceased-acts : (x : ActNo) (y : ProcNo) → x.0 ≢ a.0 → is_act x (running_of q y) ≡ is_act x (running_of r y)
  ceased-acts x y ne = elim (cases_eq y.0 p.0) [
    | inl e ↦
        let one : y ≡ p = ap (λ j. record { 0 = j }) e in
        ap (λ j. is_act x (running_of q j)) one ∙ ap (is_act x) ceased-none
        ∙ sym (ap (λ j. is_act x (running_of r j)) one ∙ ap (is_act x) runs ∙ ne_eqb a.0 x.0 (λ z. ne (sym z)))
    | inr other ↦ ap (is_act x) (elsewhere y other)
  ]

  pub ceased-ran : (x : ActNo) (y : ProcNo) → running_of q y ≡ Some x → (running_of r y ≡ Some x) × (x.0 ≢ a.0)
  ceased-ran x y at =
      let apart : y.0 ≢ p.0 = λ e. (let one : y ≡ p = ap (λ j. record { 0 = j }) e in none-some x (sym ceased-none ∙ ap (running_of q) (sym one) ∙ at)) in
      let before : running_of r y ≡ Some x = sym (elsewhere y apart) ∙ at in (
        before,
        λ e.
            let act : x ≡ a = ap (λ j. record { 0 = j }) e in
            let here = k.runs y a life (before ∙ ap Some act) there of in let proc = k.runs p a life runs there of in
            apart (ap (λ (z : ProcNo). z.0) (sym here.1 ∙ proc.1)),
      )

-- WHAT IS READ WITH ONE NOTICE MORE: the load
module _ (s : SpaceNo) (r q : Readings) (a : ActNo) (life : Life) (note : Note) (i : IsNoted s r q a life note) where
  pub live_there : (x : ℕ) → x ≢ a.0 → q.lives x ≡ r.lives x
  live_there x ne = ap (λ (f : ℕ → Option Life). f x) i.lives ∙ put-other r.lives a.0 x (Some life) ne

  others_same : (b : ActNo) → Contains (untold_of r s) (Preempted b) → stopped_thread (life_of q b) ≡ stopped_thread (life_of r b)
  others_same b has = ap stopped_thread (live_there b.0 (λ e. absurd (
      let act : b ≡ a = ap (λ j. record { 0 = j }) e in
      let yes =
      any-contained (same_note (Preempted a)) (Preempted b) (untold_of r s) has (ap (λ j. same_note (Preempted a) (Preempted j)) act ∙ eq-eqb a.0 a.0 refl) in
      let no = i.none.0 in cc)))

  pub noted-load : (m n : ℕ) → load_of r s ≡ m
      → active_threads (space_at q.state s) + untold_thread q note + m ≡ active_threads (space_at r.state s) + n → load_of q s ≡ n
  noted-load m n was moves =
      let ns = untold_of r s in
      let sum : sum_by (untold_thread q) (untold_of q s) ≡ sum_by (untold_thread q) ns + (0 + untold_thread q note) =
      ap (sum_by (untold_thread q)) i.untold ∙ sum_by-append (untold_thread q) ns (note ∷ []) in
      let others = notes-same r q ns others_same in omega (arith, sum, others, was, moves)

pub record IsUntold (s : SpaceNo) (r q : Readings) (u v : Shared) (cs ds : Contexts DrivenContext) (a : ActNo) (c : DrivenContext) (life : Life)
    (note : Note) : Type 0 where
  pub noted : IsNoted s r q a life note
  pub here : ds a.0 ≡ Some c
  pub rest : (x : ℕ) → x ≢ a.0 → ds x ≡ cs x
  -- the lives that run are others, and they ran before
  pub acts : (x : ActNo) (y : ProcNo) → x.0 ≢ a.0 → is_act x (running_of q y) ≡ is_act x (running_of r y)
  pub ran : (x : ActNo) (y : ProcNo) → running_of q y ≡ Some x → (running_of r y ≡ Some x) × (x.0 ≢ a.0)
  -- the places of all other threads stay
  pub places : (t : ThreadNo) → t.0 < u.state.lists.made → ((n : ThreadNo) → c.thread ≡ Some n → t.0 ≢ n.0)
      → ((thread_in (space_at q.state s) t).place ≡ (thread_in (space_at r.state s) t).place) × (place_at v t.0 ≡ place_at u t.0)
  pub space : FitsShared v (space_at q.state s)
  -- a thread that is active no more is one of the load no more, or is untold
  pub active : active_threads (space_at q.state s) + untold_thread q note + loaded u.threads ≡ active_threads (space_at r.state s) + loaded v.threads
  pub mine : HasLife s v (space_at q.state s) (stage_of q s a life) c life

module _ (set : Setting) (e : ℕ) (u : DrivenSpace) (cs ds : Contexts DrivenContext) (h : IsStanding set e u cs) (s : SpaceNo) (r : Readings)
    (k : Holds s r u.base.shared cs) (a : ActNo) (c old : DrivenContext) (is : cs a.0 ≡ Some old) (same : old.thread ≡ c.thread) (q : Readings) (v : Shared)
    (life : Life) (note : Note) (i : IsUntold s r q u.base.shared v cs ds a c life note) where
  untold-stage : (x : ActNo) (y : ProcNo) → x.0 ≢ a.0 → stage_on q s x y ≡ stage_on r s x y
  untold-stage x y ne =
      let ns = untold_of r s in
      let stops : list_any (same_note (Preempted x)) (ns ++ note ∷ []) ≡ list_any (same_note (Preempted x)) ns =
      any-append (same_note (Preempted x)) ns note ∙ ap (λ b. list_any (same_note (Preempted x)) ns || b) (i.noted.apart x ne).0
      ∙ or-false (list_any (same_note (Preempted x)) ns) in
      let backs : list_any (same_note (Unblocked x)) (ns ++ note ∷ []) ≡ list_any (same_note (Unblocked x)) ns =
      any-append (same_note (Unblocked x)) ns note ∙ ap (λ b. list_any (same_note (Unblocked x)) ns || b) (i.noted.apart x ne).1
      ∙ or-false (list_any (same_note (Unblocked x)) ns) in
      ap (λ ms. stage_by (list_any (same_note (Preempted x)) ms) (list_any (same_note (Unblocked x)) ms) (is_act x (running_of q y))) i.noted.untold
      ∙ ap (λ b. stage_by b (list_any (same_note (Unblocked x)) (ns ++ note ∷ [])) (is_act x (running_of q y))) stops
      ∙ ap (λ b. stage_by (list_any (same_note (Preempted x)) ns) b (is_act x (running_of q y))) backs
      ∙ ap (λ b. stage_by (list_any (same_note (Preempted x)) ns) (list_any (same_note (Unblocked x)) ns) b) (i.acts x y ne)

  once : count_by (is_of a) (untold_of r s) + one_when (is_of a note) ≤ 1
  once =
      let less = count-or (same_note (Preempted a)) (same_note (Unblocked a)) (untold_of r s) in
      let stops = none-counts (same_note (Preempted a)) (untold_of r s) i.noted.none.0 in
      let backs = none-counts (same_note (Unblocked a)) (untold_of r s) i.noted.none.1 in
      let most = one_most (is_of a note) in omega (arith, less, stops, backs, most)

  single_now : (x : ActNo) → count_by (is_of x) (untold_of r s ++ note ∷ []) ≤ 1
  single_now x = elim (cases_eq x.0 a.0) [
    | inl e ↦
        let act : x ≡ a = ap (λ j. record { 0 = j }) e in
        subst (λ j. count_by (is_of j) (untold_of r s ++ note ∷ []) ≤ 1) (sym act)
        (let sum = count-append (is_of a) (untold_of r s) note in let least = once in omega (arith, sum, least))
    | inr ne ↦
        let sum = count-append (is_of x) (untold_of r s) note in
        let none : one_when (is_of x note) ≡ 0 = ap (λ b. one_when (b || same_note (Unblocked x) note)) (i.noted.apart x ne).0
        ∙ ap one_when (i.noted.apart x ne).1 in
        let old = k.single x in omega (arith, sum, none, old)
  ]

  -- a notice of another life waited before
  noted_before : (x : ActNo) → x.0 ≢ a.0 → (m : Note) → (m ≡ Preempted x) ⊎ (m ≡ Unblocked x) → Contains (untold_of q s) m
      → Contains (untold_of r s) m
  noted_before x ne m kind has = was-there (untold_of r s) note m (λ same. elim kind [
    | inl stop ↦
        absurd (let no = (i.noted.apart x ne).0 in let yes : same_note (Preempted x) note ≡ true = ap (same_note (Preempted x)) (sym same ∙ stop) ∙ eq-eqb x.0 x.0 refl in cc)
    | inr back ↦
        absurd (let no = (i.noted.apart x ne).1 in let yes : same_note (Unblocked x) note ≡ true = ap (same_note (Unblocked x)) (sym same ∙ back) ∙ eq-eqb x.0 x.0 refl in cc)
  ]) (subst (λ ns. Contains ns m) i.noted.untold has)

  pub untold : IsChanged s r q u.base.shared v cs ds a life c
  untold = record {
    space = i.space;
    load = noted-load s r q a life note i.noted (loaded u.base.shared.threads) (loaded v.threads) k.load i.active;
    here = live_here s r q a life note i.noted;
    mine = i.here;
    own = i.mine;
    single = λ x. subst (λ ns. count_by (is_of x) ns ≤ 1) (sym i.noted.untold) (single_now x);
    runs = λ y at. absurd ((i.ran a y at).1 refl);
    others = λ x ne. inl (record {
      life = live_there s r q a life note i.noted x.0 ne;
      ctx = i.rest x.0 ne;
      stage = λ y. untold-stage x y ne;
      runs = λ y at. (i.ran x y at).0;
      noted = λ there. elim there [
        | inl stop ↦ inl (noted_before x ne (Preempted x) (inl refl) stop)
        | inr back ↦ inr (noted_before x ne (Unblocked x) (inr refl) back)
      ];
      places = λ d t at carries. i.places t (carried-made set e u cs h x.0 d t at carries) (λ n mine eq. ne (carried-apart set e u cs h x.0 a.0 d old t n at is carries (same ∙ mine) eq));
    });
  }
