-- A notice of one life more waits to be told: the life ceases to run, or comes back, and its thread goes to another place.
-- What is to be shown of it alone, so that all holds.
use Rattle.std.proofs.Common.{◌≡◌, ◌≢◌, ℕ, ◌+◌, ◌≤◌, ◌<◌, Bool, true, false, ◌||◌, [], ◌∷◌, ◌++◌, length, count_by, sum_by, slice_set, slice_index_or, Contains, Option, Some, None, IsSome, refl, sym, ap, ◌∙◌, subst, inl, inr, arith, ◌⊎◌}
use Rattle.std.proofs.lemmas.Bool.{cases_eq, eq-eqb, ne_eqb}
use Rattle.std.proofs.lemmas.List.{get_or-set_same, get_or-set_other}
use Rattle.std.proofs.lemmas.List.Sums.{sum_by-append}
use Rattle.std.proofs.lemmas.Option.{same_Some, none-some}
use Rattle.std.specs.List.{list_any}
use Rattle.std.proofs.Math.Bool.{or-false}
use Rattle.sa_base.specs.declared.number.ActNo.{ActNo}
use Rattle.sa_base.specs.declared.number.ProcNo.{ProcNo}
use Rattle.sa_base.specs.declared.number.SpaceNo.{SpaceNo}
use Rattle.sa_base.specs.declared.number.ThreadNo.{ThreadNo}
use Rattle.sa_base.specs.declared.record.Note.{Note}
use Rattle.sa_base.specs.declared.record.Note.TheVariants.{Preempted, Unblocked}
use Rattle.sa_lemmas.proofs.FunctionUpdates.{put-same, put-other}
use Rattle.sa_lemmas.specs.Function.{put}
use Rattle.sa_fast.specs.Rest.{one_of, place_at}
use Rattle.sa_abstract.specs.Calls.{Contexts}
use Rattle.sa_abstract.specs.Setting.{Setting}
use Rattle.sa_package_model.specs.Context.{carried_by}
use Rattle.sa_package_model.specs.Hands.{threads_of}
use Rattle.sa_package_model.specs.Rules.{load}
use Rattle.sa_package_model.specs.Stands.{IsStanding}
use Rattle.sa_package_model.specs.declared.context.Context.{Context}
use Rattle.sa_package_model.specs.declared.package.Package.{Package}
use Rattle.sa_laws.specs.Life.{Life}
use Rattle.sa_laws.specs.Readings.{Readings, running_of, life_of, untold_of, load_of, stopped_thread, untold_thread}
use Rattle.sa_laws.specs.Record.{same_note}
use Rattle.sa_laws.specs.State.{space_at, thread_in, active_threads}
use Rattle.sa_fast_laws.proofs.relation.Hands.{split}
use Rattle.sa_lemmas.proofs.Searches.{any-contained}
use Rattle.sa_fast_laws.proofs.relation.NoteLists.{any-append, count-append, count-or, none-counts, notes-same, one_most, one_when, was-there}
use Rattle.sa_fast_laws.proofs.relation.OneLife.{other-life, other_none}
use Rattle.sa_fast_laws.specs.FastFits.{is_of, FitsShared, Holds}
use Rattle.sa_fast_laws.specs.Life.{HasLife, beside}
use Rattle.sa_fast_laws.specs.Stage.{Runs, stage_by, stage_on, stage_of, is_act, is_running}
use Rattle.sa_fast_laws.specs.View.{view}

-- nothing of a life that runs is untold
pub runs-only : (stopped returned runs : Bool) → stage_by stopped returned runs ≡ Runs → (stopped ≡ false) × (returned ≡ false)
runs-only false false runs is = (refl, refl)
runs-only _ _ runs is = absurd (let no_such = ap is_running is in cc)

-- A LIFE CEASES TO RUN: others run where they ran.
module _ (s : SpaceNo) (r q : Readings) (u : Package) (cs : Contexts Context) (k : Holds s r u cs) (p : ProcNo) (a : ActNo) (life : Life)
    (runs : running_of r p ≡ Some a) (there : life_of r a ≡ Some life) (of : life.space ≡ s)
    (leaves : q.running ≡ slice_set r.running p.0 None) (procs : p.0 < length r.running) where
  pub ceased-none : running_of q p ≡ None
  ceased-none = ap (λ os. slice_index_or os p.0 None) leaves ∙ get_or-set_same r.running p.0 None None procs

  elsewhere : (y : ProcNo) → y.0 ≢ p.0 → running_of q y ≡ running_of r y
  elsewhere y ne = ap (λ os. slice_index_or os y.0 None) leaves ∙ get_or-set_other r.running p.0 y.0 None None ne

  pub ceased-acts : (x : ActNo) (y : ProcNo) → x.0 ≢ a.0 → is_act x (running_of q y) ≡ is_act x (running_of r y)
  ceased-acts x y ne = elim (cases_eq y.0 p.0) [
    | inl e ↦
        let one : y ≡ p = ap (λ j. record { 0 = j }) e in
        ap (λ j. is_act x (running_of q j)) one ∙ ap (is_act x) ceased-none
        ∙ sym (ap (λ j. is_act x (running_of r j)) one ∙ ap (is_act x) runs ∙ ne_eqb a.0 x.0 (λ z. ne (sym z)))
    | inr other ↦ ap (is_act x) (elsewhere y other)
  ]

  pub ceased-ran : (x : ActNo) (y : ProcNo) → running_of q y ≡ Some x → (running_of r y ≡ Some x) × (x.0 ≢ a.0)
  ceased-ran x y at =
      let apart : y.0 ≢ p.0 = λ e. (let one : y ≡ p = ap (λ j. record { 0 = j }) e in none-some x (sym ceased-none ∙ ap (running_of q) (sym one) ∙ at)) in
      let before : running_of r y ≡ Some x = sym (elsewhere y apart) ∙ at in (
        before,
        λ e.
            let act : x ≡ a = ap (λ j. record { 0 = j }) e in
            let here = k.runs y a life (before ∙ ap Some act) there of in let proc = k.runs p a life runs there of in
            apart (ap (λ (z : ProcNo). z.0) (sym here.1 ∙ proc.1)),
      )

-- WHAT IS READ WITH ONE NOTICE MORE, which is of activation a, of which neither a stop nor a return was untold.
pub record IsNoted (s : SpaceNo) (r q : Readings) (a : ActNo) (life : Life) (note : Note) : Type 0 where
  pub lives : q.lives ≡ put r.lives a.0 (Some life)
  pub untold : untold_of q s ≡ untold_of r s ++ note ∷ []
  pub none : (list_any (same_note (Preempted a)) (untold_of r s) ≡ false) × (list_any (same_note (Unblocked a)) (untold_of r s) ≡ false)
  pub apart : (x : ActNo) → x.0 ≢ a.0 → (same_note (Preempted x) note ≡ false) × (same_note (Unblocked x) note ≡ false)

module _ (s : SpaceNo) (r q : Readings) (a : ActNo) (life : Life) (note : Note) (i : IsNoted s r q a life note) where
  live_there : (x : ℕ) → x ≢ a.0 → q.lives x ≡ r.lives x
  live_there x ne = ap (λ (f : ℕ → Option Life). f x) i.lives ∙ put-other r.lives a.0 x (Some life) ne

  pub live_here : q.lives a.0 ≡ Some life
  live_here = ap (λ (f : ℕ → Option Life). f a.0) i.lives ∙ put-same r.lives a.0 (Some life)

  -- where the activation is then, the notice tells
  pub noted-stage : (y : ProcNo) → stage_on q s a y ≡ stage_by (same_note (Preempted a) note) (same_note (Unblocked a) note) (is_act a (running_of q y))
  noted-stage y =
      let ns = untold_of r s in
      let stops : list_any (same_note (Preempted a)) (ns ++ note ∷ []) ≡ same_note (Preempted a) note =
      any-append (same_note (Preempted a)) ns note ∙ ap (λ b. b || same_note (Preempted a) note) i.none.0 in
      let backs : list_any (same_note (Unblocked a)) (ns ++ note ∷ []) ≡ same_note (Unblocked a) note =
      any-append (same_note (Unblocked a)) ns note ∙ ap (λ b. b || same_note (Unblocked a) note) i.none.1 in
      ap (λ ms. stage_by (list_any (same_note (Preempted a)) ms) (list_any (same_note (Unblocked a)) ms) (is_act a (running_of q y))) i.untold
      ∙ ap (λ b. stage_by b (list_any (same_note (Unblocked a)) (ns ++ note ∷ [])) (is_act a (running_of q y))) stops
      ∙ ap (λ b. stage_by (same_note (Preempted a) note) b (is_act a (running_of q y))) backs

  others_same : (b : ActNo) → Contains (untold_of r s) (Preempted b) → stopped_thread (life_of q b) ≡ stopped_thread (life_of r b)
  others_same b has = ap stopped_thread (live_there b.0 (λ e. absurd (
      let act : b ≡ a = ap (λ j. record { 0 = j }) e in
      let yes =
      any-contained (same_note (Preempted a)) (Preempted b) (untold_of r s) has (ap (λ j. same_note (Preempted a) (Preempted j)) act ∙ eq-eqb a.0 a.0 refl) in
      let no = i.none.0 in cc)))

  -- the load is the package's as before, where the threads that became inactive are those of the notice
  noted-load : (u v : Package) → load_of r s ≡ load u
      → active_threads (space_at q.state s) + untold_thread q note + load u ≡ active_threads (space_at r.state s) + load v → load_of q s ≡ load v
  noted-load u v was moves =
      let ns = untold_of r s in
      let sum : sum_by (untold_thread q) (untold_of q s) ≡ sum_by (untold_thread q) ns + (0 + untold_thread q note) =
      ap (sum_by (untold_thread q)) i.untold ∙ sum_by-append (untold_thread q) ns (note ∷ []) in
      let others = notes-same r q ns others_same in omega arith

pub record IsUntold (s : SpaceNo) (r q : Readings) (u v : Package) (a : ActNo) (c : Context) (life : Life) (note : Note) : Type 0 where
  pub noted : IsNoted s r q a life note
  -- the lives that run are others, and they ran before
  pub acts : (x : ActNo) (y : ProcNo) → x.0 ≢ a.0 → is_act x (running_of q y) ≡ is_act x (running_of r y)
  pub ran : (x : ActNo) (y : ProcNo) → running_of q y ≡ Some x → (running_of r y ≡ Some x) × (x.0 ≢ a.0)
  -- the package's work lists stay, and so do the places of all other threads
  pub works : v.shared.works ≡ u.shared.works
  pub places : (n : ThreadNo) → one_of (carried_by c.state) n.0 ≡ 0
      → (thread_in (space_at q.state s) n).place ≡ (thread_in (space_at r.state s) n).place
  pub kept : (n : ThreadNo) → one_of (carried_by c.state) n.0 ≡ 0 → place_at v.shared n.0 ≡ place_at u.shared n.0
  pub space : FitsShared v.shared (space_at q.state s)
  -- a thread that is active no more is one of the package's load no more, or is untold
  pub active : active_threads (space_at q.state s) + untold_thread q note + load u ≡ active_threads (space_at r.state s) + load v
  pub mine : HasLife s v.shared (space_at q.state s) (stage_of q s a life) (view c) life

module _ (set : Setting) (e : ℕ) (u : Package) (cs : Contexts Context) (h : IsStanding set e u cs) (s : SpaceNo) (r : Readings) (k : Holds s r u cs)
    (a : ActNo) (c : Context) (is : cs a.0 ≡ Some c) (q : Readings) (v : Package) (life : Life) (note : Note)
    (i : IsUntold s r q u v a c life note) where
  -- other lives are where they were
  pub untold-stage : (x : ActNo) (y : ProcNo) → x.0 ≢ a.0 → stage_on q s x y ≡ stage_on r s x y
  untold-stage x y ne =
      let ns = untold_of r s in
      let stops : list_any (same_note (Preempted x)) (ns ++ note ∷ []) ≡ list_any (same_note (Preempted x)) ns =
      any-append (same_note (Preempted x)) ns note ∙ ap (λ b. list_any (same_note (Preempted x)) ns || b) (i.noted.apart x ne).0
      ∙ or-false (list_any (same_note (Preempted x)) ns) in
      let backs : list_any (same_note (Unblocked x)) (ns ++ note ∷ []) ≡ list_any (same_note (Unblocked x)) ns =
      any-append (same_note (Unblocked x)) ns note ∙ ap (λ b. list_any (same_note (Unblocked x)) ns || b) (i.noted.apart x ne).1
      ∙ or-false (list_any (same_note (Unblocked x)) ns) in
      ap (λ ms. stage_by (list_any (same_note (Preempted x)) ms) (list_any (same_note (Unblocked x)) ms) (is_act x (running_of q y))) i.noted.untold
      ∙ ap (λ b. stage_by b (list_any (same_note (Unblocked x)) (ns ++ note ∷ [])) (is_act x (running_of q y))) stops
      ∙ ap (λ b. stage_by (list_any (same_note (Preempted x)) ns) b (is_act x (running_of q y))) backs
      ∙ ap (λ b. stage_by (list_any (same_note (Preempted x)) ns) (list_any (same_note (Unblocked x)) ns) b) (i.acts x y ne)

  not_mine : (x : ℕ) (d : Context) → cs x ≡ Some d → x ≢ a.0 → (n : ℕ) → 1 ≤ threads_of u.shared.works (Some d) n → one_of (carried_by c.state) n ≡ 0
  not_mine x d at ne n has =
      let none = other_none set e u cs h s r k a c is x d at ne n has in let all = split u.shared.works c n in omega arith

  once : count_by (is_of a) (untold_of r s) + one_when (is_of a note) ≤ 1
  once =
      let less = count-or (same_note (Preempted a)) (same_note (Unblocked a)) (untold_of r s) in
      let stops = none-counts (same_note (Preempted a)) (untold_of r s) i.noted.none.0 in
      let backs = none-counts (same_note (Unblocked a)) (untold_of r s) i.noted.none.1 in
      let most = one_most (is_of a note) in omega arith

  single_now : (x : ActNo) → count_by (is_of x) (untold_of r s ++ note ∷ []) ≤ 1
  single_now x = elim (cases_eq x.0 a.0) [
    | inl e ↦
        let act : x ≡ a = ap (λ j. record { 0 = j }) e in
        subst (λ j. count_by (is_of j) (untold_of r s ++ note ∷ []) ≤ 1) (sym act)
        (let sum = count-append (is_of a) (untold_of r s) note in let least = once in omega arith)
    | inr ne ↦
        let sum = count-append (is_of x) (untold_of r s) note in
        let none : one_when (is_of x note) ≡ 0 = ap (λ b. one_when (b || same_note (Unblocked x) note)) (i.noted.apart x ne).0
        ∙ ap one_when (i.noted.apart x ne).1 in
        let old = k.single x in omega arith
  ]

  -- a notice of another life waited before
  noted_before : (x : ActNo) → x.0 ≢ a.0 → (m : Note) → (m ≡ Preempted x) ⊎ (m ≡ Unblocked x) → Contains (untold_of q s) m
      → Contains (untold_of r s) m
  noted_before x ne m kind has = was-there (untold_of r s) note m (λ same. elim kind [
    | inl stop ↦
        absurd (let no = (i.noted.apart x ne).0 in let yes : same_note (Preempted x) note ≡ true = ap (same_note (Preempted x)) (sym same ∙ stop) ∙ eq-eqb x.0 x.0 refl in cc)
    | inr back ↦
        absurd (let no = (i.noted.apart x ne).1 in let yes : same_note (Unblocked x) note ≡ true = ap (same_note (Unblocked x)) (sym same ∙ back) ∙ eq-eqb x.0 x.0 refl in cc)
  ]) (subst (λ ns. Contains ns m) i.noted.untold has)

  -- ALL HOLDS
  pub untold-holds : Holds s q v cs
  untold-holds = record {
    space = i.space;
    load = noted-load s r q a life note i.noted u v k.load i.active;
    lives = λ x d at. elim (cases_eq x.0 a.0) [
      | inl e ↦
          let act : x ≡ a = ap (λ j. record { 0 = j }) e in
          let one : d ≡ c = same_Some d c (sym at ∙ ap cs e ∙ is) in (
            life,
            ap q.lives e ∙ live_here s r q a life note i.noted,
            subst (λ j. HasLife s v.shared (space_at q.state s) (stage_of q s j life) (view d) life) (sym act)
                (subst (λ z. HasLife s v.shared (space_at q.state s) (stage_of q s a life) (view z) life) (sym one) i.mine),
          )
      | inr ne ↦
          let old = k.lives x d at in (
            old.0,
            live_there s r q a life note i.noted x.0 ne ∙ old.1,
            subst (λ g. HasLife s v.shared (space_at q.state s) g (view d) old.0) (sym (untold-stage x old.0.proc ne))
                (other-life s u.shared v.shared (space_at r.state s) (space_at q.state s) (stage_of r s x old.0) d old.0
                (λ n. ap (λ ws. beside ws (view d) n) i.works)
                (λ n has. i.places n (not_mine x.0 d at ne n.0 has))
                (λ n has. i.kept n (not_mine x.0 d at ne n.0 has)) old.2),
          )
    ];
    others = λ x other at of none. elim (cases_eq x.0 a.0) [
      | inl e ↦ absurd (none-some c (sym none ∙ ap cs e ∙ is))
      | inr ne ↦ k.others x other (sym (live_there s r q a life note i.noted x.0 ne) ∙ at) of none
    ];
    noted = λ x there. elim (cases_eq x.0 a.0) [
      | inl e ↦ subst IsSome (sym (ap cs e ∙ is)) refl
      | inr ne ↦ k.noted x (elim there [
        | inl stop ↦ inl (noted_before x ne (Preempted x) (inl refl) stop)
        | inr back ↦ inr (noted_before x ne (Unblocked x) (inr refl) back)
      ])
    ];
    single = λ x. subst (λ ns. count_by (is_of x) ns ≤ 1) (sym i.noted.untold) (single_now x);
    runs = λ y x other at its of.
        let before = i.ran x y at in
        let old = k.runs y x other before.0 (sym (live_there s r q a life note i.noted x.0 before.1) ∙ its) of in (old.0, old.1, untold-stage x other.proc before.1 ∙ old.2);
  }
