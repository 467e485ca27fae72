-- What a history reads beside what the kernel has: who runs where, and what a space sees.
use Rattle.std.proofs.Common.{get_or, ◌≡◌, ℕ, ◌<◌, ◌≤◌, ◌==◌, arith, sym, ◌∙◌, ap, subst, refl, Bool, true, false, Option, Some, None, IsSome, List, [], length, take, slice_set, inl, inr}
use Rattle.std.specs.Option.{option_map}
use Rattle.std.specs.Prelude.{if◌then◌else◌, slice_index}
use Rattle.std.proofs.lemmas.Bool.{cases_lt}
use Rattle.std.proofs.lemmas.Bool.Decides.{nat_tests}
use Rattle.std.proofs.lemmas.List.{set-get_or, get_or_past, get_or-take}
use Rattle.std.proofs.lemmas.Option.{same_Some, none-some}
use Rattle.sa_base.specs.declared.number.ProcNo.{ProcNo}
use Rattle.sa_base.specs.declared.number.SpaceNo.{SpaceNo}
use Rattle.sa_base.specs.declared.number.ThreadNo.{ThreadNo}
use Rattle.sa_base.specs.declared.number.ActNo.{ActNo}
use Rattle.sa_base.specs.declared.record.Note.{Note}
use Rattle.sa_spaces.specs.Workload.{WorkloadView}
use Rattle.sa_spaces.specs.declared.workload.Evict.{Evict}
use Rattle.sa_assign.specs.Aims.{space_no}
use Rattle.sa_devices.specs.Pages.{evicted}
use Rattle.sa_laws.specs.declared.place.Place.TheVariants.{Running, Done}
use Rattle.sa_laws.specs.Life.{Life}
use Rattle.sa_laws.specs.State.{State as Abstract, SpaceState, space_at, thread_at, thread_in}
use Rattle.sa_laws.specs.Readings.{Readings, running_of, life_of as life_at, owner_of as owner_in, taken_of as taken_at, space_of_life}
use Rattle.sa_kernel_model.specs.State.{KernelState, Fixed, line_of, taken_of}
use Rattle.sa_kernel_model.specs.Entries.{evicted_at}
use Rattle.sa_kernel_laws.specs.Overview.{taken_behind, spaces_in, Overview, overview, read_off, act_space}
use Rattle.sa_kernel_laws.specs.Kept.{IsKept}
use Rattle.sa_kernel_model.specs.Seen.{seen_of}
use Rattle.sa_kernel_model.specs.Sound.{IsSound}
use Rattle.sa_kernel_laws.proofs.rules.Upcalls.{owner-is}
use Rattle.sa_kernel_model.proofs.parts.Seen.{low-bit}
use Rattle.sa_kernel_laws.proofs.entries.Walks.{has-life}
use Rattle.sa_user_laws.specs.Moments.{IsMoment, ThreadsRun, HasLifeOn, Sees, life_in, runs_in as runs_at}
use Rattle.sa_user_laws.specs.Scene.{event_begun_at}

-- A life that runs in the space is there, and is one of the space.
runs-some : (s : SpaceNo) (lives : ℕ → Option Life) (o : Option ActNo) → IsSome (runs_at s lives o)
    → (a : ActNo) × (life : Life) × (o ≡ Some a) × (lives a.0 ≡ Some life) × (life.space ≡ s)
runs-some s lives None is = absurd (cc)
runs-some s lives (Some a) is = go (lives a.0) refl is where
  same : (life : Life) (b : Bool) → (life.space.0 == s.0) ≡ b
      → IsSome (option_map (λ (l : Life). a) (if b then Some life else None)) → life.space ≡ s
  same life true e is = ap (λ i. record { 0 = i }) (let n : life.space.0 ≡ s.0 = grind (arith, nat_tests, e) in n)
  same life false e is = absurd (cc)

  go : (l : Option Life) → lives a.0 ≡ l → IsSome (option_map (λ (l : Life). a) (life_in s l))
      → (b : ActNo) × (life : Life) × (Some a ≡ Some b) × (lives b.0 ≡ Some life) × (life.space ≡ s)
  go None e is = absurd (cc)
  go (Some life) e is = (a, life, refl, e, same life (life.space.0 == s.0) refl is)

-- No thread of a space runs that the workload does not have.
pub none-there : (a : Abstract) (s : SpaceNo) (t : ThreadNo) (p : ProcNo) → length a.spaces ≤ s.0 → (thread_at a s t).place ≡ Running p → ⊥
none-there a s t p past is =
    let none : space_at a s ≡ _ = get_or_past a.spaces s.0 _ past in
    let done : Done ≡ Running p = sym (ap (λ (x : SpaceState). (thread_in x t).place) none) ∙ is in
    absurd (cc)

module _ {C : Type 0} where
  pub moment-of : (w : WorkloadView) (k : KernelState C) (r : Readings) → IsSound k → overview r ≡ read_off k
      → length k.demands ≡ length w.spaces → length r.state.spaces ≡ length w.spaces
      → ((s : ℕ) → s < length w.spaces → ThreadsRun (space_no s) r) → IsMoment r
  moment-of w k r sound reads spaces size threads = record {
    lives = λ p a is.
        let at = life p a is in
        (at.0, at.1, (threads at.0.space.0 at.3).proc p a at.0 is at.1 refl, at.2);
    apart = λ p q a one other. ap (λ i. record { 0 = i }) (sound.formed.lives.apart p.0 q.0 a (run p ∙ one) (run q ∙ other));
    owned = λ p s t is. elim (cases_lt s.0 (length w.spaces)) [
      | inl below ↦
          let found = runs-some s r.lives (running_of r p) ((threads s.0 below).owned p t is) in
          let at = life p found.0 found.2 in
          let same : at.0 ≡ found.1 = same_Some at.0 found.1 (sym at.1 ∙ found.3) in
          at.2 ∙ ap (λ (l : Life). Some l.space) same ∙ ap Some found.4
      | inr past ↦ absurd (none-there r.state s t p (omega (arith, past, size)) is)
    ];
    alone = λ p s t u one other. elim (cases_lt s.0 (length w.spaces)) [
      | inl below ↦ (threads s.0 below).alone p t u one other
      | inr past ↦ absurd (none-there r.state s t p (omega (arith, past, size)) one)
    ];
  }
    where
      run : (p : ProcNo) → get_or k.lives p.0 None ≡ running_of r p
      run p = sym (ap (λ (v : Overview). get_or v.running p.0 None) reads)

      life : (p : ProcNo) (a : ActNo) → running_of r p ≡ Some a
          → (l : Life) × (life_at r a ≡ Some l) × (owner_in r p ≡ Some l.space) × (l.space.0 < length w.spaces)
      life p a is =
          let runs = sound.formed.lives.run p.0 a (run p ∙ is) in
          let s : SpaceNo = runs.space in
          let found = has-life (r.lives a.0) s (ap (λ (v : Overview). v.spaces a.0) reads ∙ ap act_space runs.act) in
          let owner : owner_in r p ≡ Some s = ap (λ (v : Overview). get_or v.assign.owners p.0 None) reads ∙ runs.owner in
          let below : s.0 < length w.spaces = omega (arith, spaces, sound.formed.owners p.0 s runs.owner) in
          (found.0, found.1, owner ∙ ap Some (sym found.2), subst (λ (t : SpaceNo). t.0 < length w.spaces) (sym found.2) below)

  -- The taken activations that are read are those that the kernel has.
  pub taken-reads : (k : KernelState C) (r : Readings) (s : SpaceNo) → IsSound k → overview r ≡ read_off k → k.telling ≡ []
      → s.0 < length k.demands → taken_at r s ≡ taken_of k s.0
  taken-reads k r s sound reads empty below =
      ap (λ (v : Overview). get_or v.taken s.0 []) reads
      ∙ ap (λ (ns : List Note). get_or (taken_behind (spaces_in k) ns (take (length k.fixed.priorities) k.taken)) s.0 []) empty
      ∙ get_or-take (length k.fixed.priorities) k.taken s.0 [] (let same = sound.formed.sizes.priorities in omega (arith, below, same))

  -- On a processor that a space owns a life of it runs.
  own-life : (k : KernelState C) (r : Readings) (s : SpaceNo) (q : ProcNo) → IsSound k → overview r ≡ read_off k → owner_in r q ≡ Some s
      → HasLifeOn s r q
  own-life k r s q sound reads owner =
      by (get_or k.lives q.0 None) (ap (λ (v : Overview). get_or v.running q.0 None) reads)
      (sym (owner-is k r sound reads q.0) ∙ sym (ap (λ (v : Overview). get_or v.assign.owners q.0 None) reads) ∙ owner) where
        by : (o : Option ActNo) → running_of r q ≡ o → space_of_life r o ≡ Some s → HasLifeOn s r q
        by None none of = absurd (none-some s of)
        by (Some a) some of = let found = has-life (r.lives a.0) s of in record { act = a; life = found.0; runs = some; is = found.1; space = found.2 }

  -- What a space sees of the kernel is what is read.
  pub sees-of : (k : KernelState C) (r : Readings) (p : ProcNo) (s : SpaceNo) (e : ℕ) → IsSound k → overview r ≡ read_off k
      → k.telling ≡ [] → s.0 < length k.demands → Sees s r p e (seen_of k p s e)
  sees-of k r p s e sound reads empty below = record {
    proc = refl;
    event = refl;
    demand = sym (ap (λ (v : Overview). slice_index v.demands s.0) reads);
    pages = sym (ap (λ (v : Overview). slice_index v.pages s.0) reads);
    taken = sym (ap (λ (xs : List ActNo). length xs) (taken-reads k r s sound reads empty below));
    low = λ q. (
      (λ bit. let is = (low-bit k s q sound.formed.sizes).0 bit in (
        ap (λ (v : Overview). get_or v.assign.owners q.0 None) reads
            ∙ is.owner,
        ap (λ (v : Overview). get_or v.assign.lines q.0 None) reads ∙ is.line,
      )),
      λ both. (low-bit k s q sound.formed.sizes).1 (record {
        owner = sym (ap (λ (v : Overview). get_or v.assign.owners q.0 None) reads) ∙ both.0;
        line = sym (ap (λ (v : Overview). get_or v.assign.lines q.0 None) reads) ∙ both.1;
      }),
    );
    lives = λ q owner. own-life k r s q sound reads owner;
  }

  -- Where the line is low, an event begins with what the kernel has.
  pub begun-reads : (w : WorkloadView) (k : KernelState C) (r : Readings) (e : ℕ) (p : ProcNo) → IsKept w k r → line_of k p ≡ None
      → overview (event_begun_at w e p r) ≡ read_off (evicted_at e k)
  begun-reads w k r e p kept low =
      let F : List Evict → List (Option ℕ) → Overview → Overview = λ es lines (v : Overview). record v {
        assign = record v.assign { lines = lines };
        pages = evicted e es v.pages;
      } in
      let evictions : w.evictions ≡ k.fixed.evictions = ap (λ (f : Fixed). f.evictions) (sym kept.of.fixed) in
      let lines : slice_set r.lines p.0 None ≡ k.assign.lines =
      ap (λ (v : Overview). slice_set v.assign.lines p.0 None) kept.reads ∙ ap (slice_set k.assign.lines p.0) (sym low)
      ∙ set-get_or k.assign.lines p.0 None in
      λ i. F (evictions i) (lines i) (kept.reads i)
