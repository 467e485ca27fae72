use Rattle.std.proofs.Common.{◌≡◌, ℕ, ◌-◌, ◌<◌, Bool, true, false, not, count_by, Some, List, length, get_or, slice_get, slice_set, inl, inr, refl, sym, ap, subst, ◌∙◌, arith}
use Rattle.std.proofs.lemmas.Option.{slice_get-get_or, get_or_from_slice_get}
use Rattle.std.proofs.lemmas.Bool.{cases_lt}
use Rattle.sa_states.specs.Sweep.{IsNear}
use Rattle.sa_states.proofs.Marking.{sound-more, count-marked}
use Rattle.sa_states.proofs.marks.sweep.Goals as goal
use Rattle.sa_states.proofs.marks.sweep.Goals.{else-not-marks-state-via-then-not-marks-state+else-can_end, else-not-marks-state-via-else-not-marks-state}

-- one unmarked place fewer than in marks that have no more of them than those at first
fewer : (marks first : List Bool) (at : ℕ) (more : Bool) → slice_get marks at ≡ Some false
    → (more ≡ true → count_by not marks < count_by not first) → (more ≡ false → marks ≡ first)
    → (let after : List Bool = slice_set marks at true in count_by not after < count_by not first)
fewer marks first at true off less same = let before = less refl in omega (arith, count-marked marks at off, before)
fewer marks first at false off less same = let before = ap (count_by not) (same refl) in omega (arith, count-marked marks at off, before)

pub loop-state-preserved-then-can_end : goal.loop-state-preserved-then-can_end
loop-state-preserved-then-can_end c =
    let marks = c.loop-state.marks in
    let at = c.loop-state.state - 1 in
    let below : at < length marks = omega arith in
    let off : slice_get marks at ≡ Some false = slice_get-get_or marks at false below ∙ ap (λ (b : Bool). Some b) c.if-not-marks-state.true in
    record {
      sound = sound-more c.args.processors c.args.states.now c.args.nexts.now c.requires.turns marks at c.loop-state.invariant.sound
          (c.can_end.ensures.0 c.if-can_end.true);
      more = λ yes. fewer marks c.args.marks.now at c.loop-state.more off c.loop-state.invariant.more c.loop-state.invariant.same;
      same = λ no. absurd (cc);
      all = λ no. absurd (cc);
    }

pub loop-state-preserved : goal.loop-state-preserved
loop-state-preserved c =
    record {
      sound = c.loop-state.invariant.sound;
      more = c.loop-state.invariant.more;
      same = c.loop-state.invariant.same;
      all = λ no k least off near. elim (cases_lt k c.loop-state.state) [
        | inl below ↦ at_state k (omega arith) off near
        | inr above ↦ c.loop-state.invariant.all no k above off near
      ];
    }
  where
    at_state : (k : ℕ) → k ≡ c.loop-state.state - 1 → slice_get c.loop-state.marks k ≡ Some false
        → IsNear c.args.processors c.args.states.now c.args.nexts.now c.loop-state.marks k → ⊥
    at_state k here off near =
        elim c.else-not-marks-state.branch [
          | else-not-marks-state-via-then-not-marks-state+else-can_end w ↦
              (let yes = w.can_end.ensures.1 (subst (IsNear c.args.processors c.args.states.now c.args.nexts.now c.loop-state.marks) here near) in
              let no = w.if-can_end.false in cc)
          | else-not-marks-state-via-else-not-marks-state w ↦
              (let is : get_or c.loop-state.marks (c.loop-state.state - 1) false ≡ false =
              get_or_from_slice_get c.loop-state.marks (c.loop-state.state - 1) false false (ap (slice_get c.loop-state.marks) (sym here) ∙ off) in
              let on = w.if-not-marks-state.false in cc)
        ]
