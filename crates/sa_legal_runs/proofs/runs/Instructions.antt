-- What local instructions that are committed at once add to the history.
use Rattle.std.proofs.Common.{◌≡◌, ℕ, zero, suc, ◌+◌, Bool, true, false, not, ◌&&◌, List, [], ◌∷◌, ◌++◌, length, Option, Some, None, slice_get, refl, sym, ap, ◌∙◌, subst, arith, append_assoc}
use Rattle.std.specs.Prelude.{◌%◌, ◌==◌}
use Rattle.std.proofs.lemmas.List.{append-nil}
use Rattle.std.proofs.lemmas.Option.{same_Some}
use Rattle.sa_base.specs.declared.number.ProcNo.{ProcNo}
use Rattle.sa_base.specs.declared.number.SpaceNo.{SpaceNo}
use Rattle.sa_base.specs.declared.record.Record.{Record}
use Rattle.sa_base.specs.declared.record.Record.TheVariants.{Want, Line}
use Rattle.sa_base.specs.declared.record.Item.{Item}
use Rattle.sa_base.specs.Items.{items_at, items_from}
use Rattle.sa_spaces.specs.Space.{SpaceView}
use Rattle.sa_spaces.specs.Workload.{WorkloadView}
use Rattle.sa_abstract.specs.Calls.{Calls, Gone}
use Rattle.sa_abstract.specs.Keeps.{Standing, Keeps, IsSeat, StaysLocal, records_of}
use Rattle.sa_abstract.specs.Walk.{ins_records, program_at}
use Rattle.sa_abstract.specs.declared.answer.SeatState.{SeatState}
use Rattle.sa_abstract.specs.declared.answer.SeatState.TheVariants.{Local, Away}
use Rattle.sa_kernel_model.specs.State.{Scene, owner_of}
use Rattle.sa_kernel_model.specs.Closing.{for_spaces, must_want, want_one, want_for, wants, aims, closed, spaces, shares, interrupt, interrupt_one, interrupt_for, must_interrupt, has_low_line}
use Rattle.sa_kernel_laws.proofs.entries.Walks.{items-both}
use Rattle.sa_assign.specs.Aims.{least_below}
use Rattle.sa_assign.specs.Reaim.{reaim_records}
use Rattle.sa_core_model.specs.Machine.{Machine, scene_of, seen_on, gone_to}
use Rattle.sa_core_model.specs.Turn.{next_event, more_events, gone_in, sliced, sliced_if, ends_slice}
use Rattle.sa_core_model.specs.End.{local_on}
use Rattle.sa_core_model.specs.Run.{setting, CanCommit, programs_in}
use Rattle.sa_core_model.specs.Standing.{contexts_of, IsBetween}
use Rattle.sa_core_model.proofs.Phases.{at-owned}
use Rattle.sa_core_model.proofs.Calls.{value-at, mine}
use Rattle.sa_core_model.proofs.Turns.{rests-next, rests-between}
use Rattle.sa_core_model.proofs.Runs.{gone-is, local-is, gone-law, can-go}
use Rattle.sa_legal_runs.specs.Commits.{instructions_from, AddsInstructions}

-- A CLOSING adds records of its event.
module _ {C : Type 0} (e : ℕ) (p : ProcNo) where
  record Adds (x y : Scene C) : Type 0 where
    records : List Record
    items : y.items ≡ x.items ++ items_at e p records

  adds-none : (x : Scene C) → Adds x x
  adds-none x = record { records = []; items = sym (append-nil x.items) }

  adds-both : (x y z : Scene C) → Adds x y → Adds y z → Adds x z
  adds-both x y z one two = record {
    records = one.records ++ two.records;
    items = items-both e p x.items y.items z.items one.records two.records one.items two.items;
  }

  adds-spaces : (f : ℕ → Scene C → Scene C) → ((s : ℕ) (x : Scene C) → Adds x (f s x)) → (s n : ℕ) (x : Scene C) → Adds x (for_spaces f s n x)
  adds-spaces f each s zero x = adds-none x
  adds-spaces f each s (suc n) x = adds-both x (f s x) (for_spaces f (s + 1) n (f s x)) (each s x) (adds-spaces f each (s + 1) n (f s x))

  adds-want : (wanted : Bool) (s : ℕ) (x : Scene C) → Adds x (want_one e p wanted s x)
  adds-want false s x = adds-none x
  adds-want true s x = record { records = Want (record { 0 = s }) 1 ∷ []; items = refl }

  adds-interrupt : (must : Bool) (s : ℕ) (x : Scene C) → Adds x (interrupt_one e p must s x)
  adds-interrupt false s x = adds-none x
  adds-interrupt true s x = go (least_below (length x.state.lives) (has_low_line x.state s))
    where
      go : (o : Option ℕ) → Adds x (interrupt e p o x)
      go None = adds-none x
      go (Some q) = record { records = Line (record { 0 = q }) ∷ []; items = refl }

  adds-aims : (x : Scene C) → Adds x (aims e p x)
  adds-aims x = record { records = reaim_records e (spaces x.state) (shares x.state e) x.state.assign; items = refl }

  adds-closing : (x : Scene C) → Adds x (closed e p x)
  adds-closing x =
      let y = wants e p x in
      let z = aims e p y in
      adds-both x y (closed e p x) (adds-spaces (want_for e p) (λ s v. adds-want (must_want v.state s) s v) 0 (spaces x.state) x)
      (adds-both y z (closed e p x) (adds-aims y)
      (adds-spaces (interrupt_for e p) (λ s v. adds-interrupt (must_interrupt v.state s) s v) 0 (spaces z.state) z))

-- the records of instructions are those of the programs of the space
from-seat : (w : WorkloadView) (s : SpaceNo) (def : SpaceView) (n : ℕ) (x : SeatState) → slice_get w.spaces s.0 ≡ Some def
    → IsSeat (setting w s.0 def) x → records_of (setting w s.0 def) n x ≡ instructions_from w n x
from-seat w s def n (Local space thread program pc regs) of seat =
    let here : slice_get w.spaces space.0 ≡ Some def = ap (λ (z : SpaceNo). slice_get w.spaces z.0) seat.0 ∙ of in
    ap (λ (o : Option SpaceView). ins_records space thread (program_at (programs_in o) program) n (record { pc = pc; regs = regs })) (sym here)
from-seat w s def n Away of seat = refl

module _ {U C : Type 0} where
  -- more events begin, and write nothing
  more-items : (n : ℕ) (m : Machine U C) → (more_events n m).items ≡ m.items
  more-items zero m = refl
  more-items (suc n) m = more-items n (next_event m)

  more-event : (n : ℕ) (m : Machine U C) → (more_events n m).event ≡ m.event + n
  more-event zero m = omega arith
  more-event (suc n) m = let rest = more-event n (next_event m) in omega (arith, rest)

  more-workload : (n : ℕ) (m : Machine U C) → (more_events n m).workload ≡ m.workload
  more-workload zero m = refl
  more-workload (suc n) m = more-workload n (next_event m)

  -- the end of a slice adds a closing, and nothing else adds anything
  record EndsSlice (p : ProcNo) (m : Machine U C) : Type 0 where
    closing : List Record
    items : (sliced p m).items ≡ m.items ++ items_at m.event p closing
    none : ends_slice m ≡ false → closing ≡ []

  ends-slice : (p : ProcNo) (m : Machine U C) → EndsSlice p m
  ends-slice p m = go (ends_slice m) refl
    where
      go : (b : Bool) → ends_slice m ≡ b → EndsSlice p m
      go false is = record {
        closing = [];
        items = ap (λ (b : Bool). (sliced_if p b m).items) is ∙ sym (append-nil m.items);
        none = λ same. refl;
      }
      go true is = let adds = adds-closing m.event p (scene_of m) in record {
        closing = adds.records;
        items = ap (λ (b : Bool). (sliced_if p b m).items) is ∙ adds.items;
        none = λ same. (let z : true ≡ false = sym is ∙ same in cc);
      }

module _ {U C : Type 0} (f : Calls U C) (stands : Standing U C) (keep : Keeps f stands) where
  -- A COMMIT ADDS EXACTLY THE RECORDS OF ITS INSTRUCTIONS, one an event, and at the end of a slice a closing.
  pub commit-adds : (m : Machine U C) (p : ProcNo) (n : ℕ) → IsBetween stands m → CanCommit f m p n → AddsInstructions f m p n
  commit-adds m p zero between can = absurd (let z = can.some in omega (arith, z))
  commit-adds m p (suc n) between can =
      let x : Machine U C = next_event m in
      let go = can-go f stands keep m.event (suc n) m p between.standing can.go in
      let s = go.space in
      let rest = rests-next f stands keep m.workload m.event m.event m (rests-between f stands keep m between) in
      let here = at-owned f stands keep m.event x p s rest.standing go.owner in
      let same : go.def ≡ here.def = same_Some go.def here.def (sym go.is_def ∙ here.is_def) in
      let set = setting m.workload s.0 here.def in
      let seat = f.local here.user here.ctx in
      let is : local_on f m p ≡ seat = local-is f stands keep x p s here in
      let goes : StaysLocal set (suc n) seat =
      subst (λ (d : SpaceView). StaysLocal (setting m.workload s.0 d) (suc n) seat) same
      (subst (λ (z : SeatState). StaysLocal (setting m.workload s.0 go.def) (suc n) z) is go.goes) in
      let done : Gone U C = f.went here.user (seen_on x p s) here.ctx (suc n) in
      let law = gone-law f stands keep m.event (suc n) x p s rest.standing here (omega arith) (omega arith) (omega (arith, can.event)) goes in
      let sits = (keep.seats set m.event here.user (contexts_of x s.0) here.act.0 here.ctx
      (value-at f stands keep m.event x p s rest.standing here) (mine f stands keep m.event x p s rest.standing here)).0 in
      let says : done.says ≡ instructions_from m.workload (suc n) (local_on f m p) =
      law.says ∙ from-seat m.workload s here.def (suc n) seat here.is_def sits ∙ ap (instructions_from m.workload (suc n)) (sym is) in
      let behind : Machine U C = gone_in f p (suc n) (owner_of x.kernel p) x in
      let is_behind : behind ≡ gone_to f p s done x =
      ap (λ (o : Option SpaceNo). gone_in f p (suc n) o x) go.owner ∙ gone-is f stands keep x p s (suc n) here in
      let last : Machine U C = more_events n behind in
      let items : last.items ≡ m.items ++ items_from (m.event + 1) p (instructions_from m.workload (suc n) (local_on f m p)) =
      more-items n behind ∙ ap (λ (z : Machine U C). z.items) is_behind ∙ ap (λ (rs : List Record). m.items ++ items_from (m.event + 1) p rs) says in
      let event : last.event ≡ m.event + suc n =
      (let e = more-event n behind in let g = ap (λ (z : Machine U C). z.event) is_behind in omega (arith, e, g)) in
      let workload : last.workload ≡ m.workload = more-workload n behind ∙ ap (λ (z : Machine U C). z.workload) is_behind in
      let end = ends-slice p last in
      record {
        closing = end.closing;
        items = end.items
            ∙ ap (λ (k : ℕ). last.items ++ items_at k p end.closing) event
            ∙ ap (λ (xs : List Item). xs ++ items_at (m.event + suc n) p end.closing) items
            ∙ append_assoc m.items (items_from (m.event + 1) p (instructions_from m.workload (suc n) (local_on f m p)))
            (items_at (m.event + suc n) p end.closing);
        none = λ not_ended. end.none (ap (λ (w : WorkloadView). not (w.slice == 0) && (last.event % w.slice == 0)) workload
            ∙ ap (λ (k : ℕ). not (m.workload.slice == 0) && (k % m.workload.slice == 0)) event ∙ not_ended);
      }
