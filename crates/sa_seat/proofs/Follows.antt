-- The keeper follows one line after another.
use Rattle.std.proofs.Common.{◌≡◌, ◌≢◌, ℕ, ◌+◌, ◌<◌, ◌≤◌, inl, inr, Option, Some, None, List, length, slice_set, refl, sym, ap, subst, ◌∙◌, arith}
use Rattle.std.proofs.lemmas.Bool.{cases_eq}
use Rattle.std.proofs.lemmas.List.{get_or-set_same, get_or-set_other, length-set}
use Rattle.std.proofs.lemmas.List.Elements.{Contains-push_cases}
use Rattle.sa_assign.specs.Reaim.{proc_no, line_at}
use Rattle.sa_kernel_model.specs.State.{KernelState, line_of}
use Rattle.sa_lines.specs.declared.view.Lane.{Lane}
use Rattle.sa_lines.specs.Words.{lane_at}
use Rattle.sa_lines.specs.Steps.{raised, lowered}
use Rattle.sa_lines.specs.Seen.{KeeperSeen, line_value}
use Rattle.sa_lines.proofs.Steps.{lane_here, lane_else, length_changed}
use Rattle.sa_seat.specs.Follow.{set_at, IsStored, AreStored, IsFollowed}

abbrev pub set_lane : Option ℕ → Lane → Lane
set_lane None lane = lowered lane
set_lane (Some e) lane = raised e lane

set-here : (p : ℕ) (o : Option ℕ) (k : KeeperSeen) → p < length k.lanes → lane_at (set_at p o k).lanes p ≡ set_lane o (lane_at k.lanes p)
set-here p None k lt = lane_here p lowered k.lanes lt
set-here p (Some e) k lt = lane_here p (raised e) k.lanes lt

set-else : (p q : ℕ) (o : Option ℕ) (k : KeeperSeen) → q ≢ p → lane_at (set_at p o k).lanes q ≡ lane_at k.lanes q
set-else p q None k apart = lane_else p q lowered k.lanes apart
set-else p q (Some e) k apart = lane_else p q (raised e) k.lanes apart

set-size : (p : ℕ) (o : Option ℕ) (k : KeeperSeen) → length (set_at p o k).lanes ≡ length k.lanes
set-size p None k = length_changed p lowered k.lanes
set-size p (Some e) k = length_changed p (raised e) k.lanes

set-table : (p : ℕ) (o : Option ℕ) (k : KeeperSeen) → (set_at p o k).table ≡ k.table
set-table p None k = refl
set-table p (Some e) k = refl

set-follows : (o : Option ℕ) (lane : Lane) → IsFollowed o lane (set_lane o lane)
set-follows None lane = record { line_is = refl; account = refl; raised = λ e has. inl has }
set-follows (Some e) lane = record {
  line_is = refl;
  account = refl;
  raised = λ k has. elim (Contains-push_cases lane.raised e k has) [ inl was ↦ inl was | inr is ↦ inr (ap Some is) ];
}

module _ {C : Type 0} (k : KernelState C) where
  -- the lines of the first i processors were followed
  pub record Following (i : ℕ) (old new : KeeperSeen) (before lines : List (Option ℕ)) : Type 0 where
    pub table_is : new.table ≡ old.table
    pub size : length new.lanes ≡ length old.lanes
    pub places : length lines ≡ length before
    pub done : (p : ℕ) → p < i → (line_at lines p ≡ line_of k (proc_no p)) × IsFollowed (line_of k (proc_no p)) (lane_at old.lanes p) (lane_at new.lanes p)
    pub left : (p : ℕ) → i ≤ p → (lane_at new.lanes p ≡ lane_at old.lanes p) × (line_at lines p ≡ line_at before p)

  -- a line that is as it was stored
  follow-same : (i : ℕ) (old new : KeeperSeen) (before lines after : List (Option ℕ)) (line : Option ℕ) → Following i old new before lines
      → AreStored before old.lanes → i < length old.lanes
      → i < length lines → line ≡ line_of k (proc_no i) → line ≡ line_at lines i → after ≡ slice_set lines i line → Following (i + 1) old new before after
  follow-same i old new before lines after line f stored within inside is same put =
      subst (λ (z : List (Option ℕ)). Following (i + 1) old new before z) (sym put) record {
        table_is = f.table_is;
        size = f.size;
        places = length-set lines i line ∙ f.places;
        done = λ p lt. elim (cases_eq p i) [
          | inl here ↦ subst (λ (q : ℕ). (line_at (slice_set lines i line) q ≡ line_of k (proc_no q))
              × IsFollowed (line_of k (proc_no q)) (lane_at old.lanes q) (lane_at new.lanes q)) (sym here)
              (let l = f.left i (omega arith) in (
                get_or-set_same lines i line None inside ∙ is,
                subst (λ (z : Lane). IsFollowed (line_of k (proc_no i)) (lane_at old.lanes i) z) (sym l.0) record {
                  line_is = stored i within ∙ ap line_value (sym l.1 ∙ sym same ∙ is);
                  account = refl;
                  raised = λ e has. inl has;
                },
              ))
          | inr apart ↦ let h = f.done p (omega (arith, lt, apart)) in (get_or-set_other lines i p line None apart ∙ h.0, h.1)
        ];
        left = λ p le.
            let apart : p ≢ i = λ e. absurd (omega (arith, le, e)) in
            let h = f.left p (omega (arith, le)) in
            (h.0, get_or-set_other lines i p line None apart ∙ h.1);
      }

  -- a line that is stored
  follow-store : (i : ℕ) (old new next : KeeperSeen) (before lines after : List (Option ℕ)) (line : Option ℕ) → Following i old new before lines
      → i < length old.lanes → i < length lines
      → line ≡ line_of k (proc_no i) → next ≡ set_at i line new → after ≡ slice_set lines i line → Following (i + 1) old next before after
  follow-store i old new next before lines after line f within inside is made put =
      subst (λ (z : KeeperSeen). Following (i + 1) old z before after) (sym made)
      (subst (λ (z : List (Option ℕ)). Following (i + 1) old (set_at i line new) before z) (sym put) record {
        table_is = set-table i line new ∙ f.table_is;
        size = set-size i line new ∙ f.size;
        places = length-set lines i line ∙ f.places;
        done = λ p lt. elim (cases_eq p i) [
          | inl here ↦ subst (λ (q : ℕ). (line_at (slice_set lines i line) q ≡ line_of k (proc_no q))
              × IsFollowed (line_of k (proc_no q)) (lane_at old.lanes q) (lane_at (set_at i line new).lanes q)) (sym here) (
                get_or-set_same lines i line None inside ∙ is,
                subst (λ (z : Lane). IsFollowed (line_of k (proc_no i)) (lane_at old.lanes i) z)
                    (sym (set-here i line new (let z = f.size in omega (arith, within, z))))
                    (subst (λ (o : Option ℕ). IsFollowed o (lane_at old.lanes i) (set_lane line (lane_at new.lanes i))) is
                    (subst (λ (z : Lane). IsFollowed line z (set_lane line (lane_at new.lanes i))) (f.left i (omega arith)).0
                    (set-follows line (lane_at new.lanes i)))),
              )
          | inr apart ↦
              let h = f.done p (omega (arith, lt, apart)) in (
                get_or-set_other lines i p line None apart
                    ∙ h.0,
                subst (λ (z : Lane). IsFollowed (line_of k (proc_no p)) (lane_at old.lanes p) z) (sym (set-else i p line new apart)) h.1,
              )
        ];
        left = λ p le.
            let apart : p ≢ i = λ e. absurd (omega (arith, le, e)) in
            let h = f.left p (omega (arith, le)) in
            (set-else i p line new apart ∙ h.0, get_or-set_other lines i p line None apart ∙ h.1);
      })

  pub follow-next : (i : ℕ) (old new next : KeeperSeen) (before lines after : List (Option ℕ)) (line : Option ℕ) → Following i old new before lines
      → AreStored before old.lanes → i < length old.lanes
      → i < length lines → line ≡ line_of k (proc_no i) → IsStored i (line_at lines i) line new next → after ≡ slice_set lines i line
      → Following (i + 1) old next before after
  follow-next i old new next before lines after line f stored within inside is store put = elim store [
    | inl same ↦ subst (λ (z : KeeperSeen). Following (i + 1) old z before after) (sym same.1)
        (follow-same i old new before lines after line f stored within inside is same.0 put)
    | inr made ↦ follow-store i old new next before lines after line f within inside is made put
  ]
