-- What a search that stopped answers.
use Rattle.std.proofs.Common.{◌≡◌, ℕ, ◌+◌, ◌≤◌, ◌⊎◌, inl, inr, Bool, Option, None, List, [], length, refl, sym, ap, subst, ◌∙◌, arith}
use Rattle.std.proofs.lemmas.Option.{slice_get_within}
use Rattle.sa_lemmas.proofs.ListReads.{read-at}
use Rattle.sa_base.specs.declared.number.ProcNo.{ProcNo}
use Rattle.sa_spaces.specs.Space.{SpaceView}
use Rattle.sa_spaces.specs.Workload.{WorkloadView, IsWorkload}
use Rattle.sa_abstract.specs.Calls.{Calls}
use Rattle.sa_abstract.specs.Keeps.{Standing, Keeps}
use Rattle.sa_core_model.specs.Machine.{Machine}
use Rattle.sa_outlook.specs.Outlook.{Outlook, outlook}
use Rattle.sa_outlook.specs.UserLevels.{IgnoresNumbers}
use Rattle.sa_explore_model.specs.declared.answer.Extent.{Extent}
use Rattle.sa_explore_model.specs.declared.answer.Extent.TheVariants.{All, Part}
use Rattle.sa_explore_model.specs.declared.answer.Found.{Found}
use Rattle.sa_explore_model.specs.declared.answer.Explored.{Explored}
use Rattle.sa_explore_model.specs.Answer.{AreEndless}
use Rattle.sa_explore_model.specs.Search.{way_to, IsSearch, IsStopped}
use Rattle.sa_explore_model.proofs.Answered.{way-least, sound-of, least-of, complete-of, counted-of, depth-of}
use Rattle.sa_explore_model.proofs.Endless.{endless-of}
use Rattle.sa_states.specs.Answers.{Answers}
use Rattle.sa_explore_runs.specs.Runs.{end, IsOpenTurn, IsBegun, IsWay}
use Rattle.sa_explore_runs.proofs.Turns.{no-budget}
use Rattle.sa_explore_runs.proofs.Systems.{OfSome, runs-are-searched}
use Rattle.sa_explore.specs.Explored.{IsBeyond, IsFar, IsExplored}
use Rattle.sa_explore.specs.Doing.{states_of, HasDone, IsFull, HasMostEvents, HasStopped, IsEndlessBy}
use Rattle.sa_explore.specs.declared.search.Scope.{Scope}
use Rattle.sa_explore.specs.declared.search.Search.{Search}

-- the answer with what was found of the endless states
abbrev pub with_endless : Explored → Option Found → Explored
with_endless x found = record x { endless = found }

module _ {U C D : Type 0} (f : Calls U C) (plain : Option SpaceView → C → D) (IsMade : Option SpaceView → U → Type 0) (laws : IgnoresNumbers f plain IsMade)
    (stands : Standing U C) (keep : Keeps f stands) (code : Outlook U D → List ℕ) (scope : Scope) (ok : IsWorkload scope.workload)
    (search : Search) (begins : IsBegun f scope.workload scope.begun.items) where
  abbrev Done : ℕ → ℕ → Type 0
  Done at next = HasDone f plain code scope search at next

  -- whether all were looked at, or not
  pub record IsOver (extent : Extent) (at : ℕ) : Type 0 where
    pub next : ℕ
    pub some : next ≤ scope.workload.processors
    pub done : Done at next
    pub first : extent ≡ All → (next ≡ 0) × (at ≡ length (states_of search))
    pub spent : extent ≡ Part
        → IsFull f plain code scope done ⊎ HasMostEvents f plain code scope search at

  pub over-of : (extent : Extent) (at : ℕ) → HasStopped f plain code scope extent search at → IsOver extent at
  over-of All at stopped = record {
    next = 0;
    some = omega arith;
    done = stopped.0;
    first = λ all. (refl, stopped.1);
    spent = λ part. absurd (cc);
  }
  over-of Part at stopped = record {
    next = stopped.next;
    some = (let some = stopped.some in omega arith);
    done = stopped.done;
    first = λ all. absurd (cc);
    spent = λ part. stopped.spent;
  }

  -- THE ANSWER
  module _ (extent : Extent) (at : ℕ) (over : IsOver extent at) (x : Explored) (is : Answers scope.begun.items (states_of search) extent at x)
      (found : Option Found) (endless : IsEndlessBy extent scope search found) where
    abbrev w : WorkloadView
    w = scope.workload

    abbrev begun : List ProcNo
    begun = scope.begun.items

    abbrev Of : Machine U C → Type 0
    Of m = OfSome f plain IsMade laws stands keep w ok begun m

    stopped : IsStopped x.extent x.depth (states_of search) at
    stopped = subst (λ (e : Extent). IsStopped e x.depth (states_of search) at) (sym is.extent_is) is.stopped

    depth-part : (e : Extent) → e ≡ Part → IsStopped e x.depth (states_of search) at → x.depth ≡ length (way_to (states_of search) at)
    depth-part All part so = absurd cc
    depth-part Part part so = so.1

    -- a state to which the most events lead
    far-of : x.depth ≡ length (way_to (states_of search) at) → HasMostEvents f plain code scope search at → IsFar f plain w begun x.depth
    far-of depth far =
        let s = far.goes in
        let within = slice_get_within (states_of search) at s.0 s.1 in
        let same = over.done.searching.search.size in
        let m = read-at over.done.searching.kept at (omega arith) in
        record {
          turns = way_to (states_of search) at;
          machine = m.0;
          way = over.done.searching.search.reached at m.0 m.1;
          long = sym depth;
          goes = sym (over.done.searching.search.ends at m.0 s.0 m.1 s.1) ∙ s.2;
          least = λ qs n way looks. subst (λ (k : ℕ). k ≤ length qs) (sym depth)
              (way-least (outlook plain) (end f) (IsWay f w begun) (IsOpenTurn f) w.processors Of
              (runs-are-searched f plain IsMade laws stands keep w ok begun) (no-budget f) (states_of search) over.done.searching.kept search.nexts.items
              at over.next over.done.searching.search over.some begun (with_endless x found) stopped is.done is.stuck is.size at m.0 m.1 qs n way looks);
          most = ap (λ (k : ℕ). length begun + k) depth ∙ far.most;
        }

    spent-of : x.extent ≡ Part → ((x.states ≡ scope.most) × IsBeyond f plain w begun over.done.searching.kept x.depth) ⊎ IsFar f plain w begun x.depth
    spent-of part =
        let depth : x.depth ≡ length (way_to (states_of search) at) = depth-part x.extent part stopped in
        elim (over.spent (sym is.extent_is ∙ part)) [
          | inl full ↦ inl (is.size ∙ full.room, subst (λ (n : ℕ). IsBeyond f plain w begun over.done.searching.kept n) (sym depth) full.beyond)
          | inr far ↦ inr (far-of depth far)
        ]

    abbrev marks-by : (e : Extent) → IsEndlessBy e scope search found → List Bool
    marks-by All endless_in = endless_in.marks
    marks-by Part endless_in = []

    last-of : extent ≡ All → IsSearch (outlook plain) (end f) (IsWay f w begun) (IsOpenTurn f) w.processors (states_of search) over.done.searching.kept
        search.nexts.items (length (states_of search)) 0
    last-of all =
        subst (λ (n : ℕ). IsSearch (outlook plain) (end f) (IsWay f w begun) (IsOpenTurn f) w.processors (states_of search) over.done.searching.kept
        search.nexts.items (length (states_of search)) n) (over.first all).0
        (subst (λ (k : ℕ). IsSearch (outlook plain) (end f) (IsWay f w begun) (IsOpenTurn f) w.processors (states_of search) over.done.searching.kept
        search.nexts.items k over.next) (over.first all).1 over.done.searching.search)

    endless-by : (e : Extent) (by : IsEndlessBy e scope search found) → e ≡ All
        → IsSearch (outlook plain) (end f) (IsWay f w begun) (IsOpenTurn f) w.processors (states_of search) over.done.searching.kept
        search.nexts.items (length (states_of search)) 0
        → AreEndless (outlook plain) (end f) (IsWay f w begun) (IsOpenTurn f) begun over.done.searching.kept (marks-by e by) found
    endless-by Part by all last = absurd cc
    endless-by All by all last =
        endless-of (outlook plain) (end f) (IsWay f w begun) (IsOpenTurn f) w.processors Of
        (runs-are-searched f plain IsMade laws stands keep w ok begun) (states_of search) over.done.searching.kept search.nexts.items last
        begun by.marks by.are found by.first

    unknown-by : (e : Extent) → IsEndlessBy e scope search found → e ≡ Part → found ≡ None
    unknown-by All by part = absurd cc
    unknown-by Part by part = by

    pub explored-of : IsExplored f plain w scope.most (with_endless x found)
    explored-of = record {
      begun = begun;
      begins = begins;
      sound = sound-of (outlook plain) (end f) (IsWay f w begun) (IsOpenTurn f) w.processors Of
          (runs-are-searched f plain IsMade laws stands keep w ok begun) (no-budget f) (states_of search) over.done.searching.kept search.nexts.items
          at over.next over.done.searching.search over.some begun (with_endless x found) stopped is.done is.stuck is.size;
      least = least-of (outlook plain) (end f) (IsWay f w begun) (IsOpenTurn f) w.processors Of
          (runs-are-searched f plain IsMade laws stands keep w ok begun) (no-budget f) (states_of search) over.done.searching.kept search.nexts.items
          at over.next over.done.searching.search over.some begun (with_endless x found) stopped is.done is.stuck is.size;
      complete = complete-of (outlook plain) (end f) (IsWay f w begun) (IsOpenTurn f) w.processors Of
          (runs-are-searched f plain IsMade laws stands keep w ok begun) (no-budget f) (states_of search) over.done.searching.kept search.nexts.items
          at over.next over.done.searching.search over.some begun (with_endless x found) stopped is.done is.stuck is.size;
      kept = over.done.searching.kept;
      counted = counted-of (outlook plain) (end f) (IsWay f w begun) (IsOpenTurn f) w.processors Of
          (runs-are-searched f plain IsMade laws stands keep w ok begun) (no-budget f) (states_of search) over.done.searching.kept search.nexts.items
          at over.next over.done.searching.search over.some begun (with_endless x found) stopped is.done is.stuck is.size;
      few = (let size = is.size in let room = over.done.room in omega arith);
      depth = depth-of (outlook plain) (end f) (IsWay f w begun) (IsOpenTurn f) w.processors Of
          (runs-are-searched f plain IsMade laws stands keep w ok begun) (no-budget f) (states_of search) over.done.searching.kept search.nexts.items
          at over.next over.done.searching.search over.some begun (with_endless x found) stopped is.done is.stuck is.size;
      spent = spent-of;
      marks = marks-by extent endless;
      endless = λ all. endless-by extent endless (sym is.extent_is ∙ all) (last-of (sym is.extent_is ∙ all));
      unknown = λ part. unknown-by extent endless (sym is.extent_is ∙ part);
    }
