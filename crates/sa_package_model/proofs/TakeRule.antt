-- A context that takes over another one keeps all standing.
use Rattle.std.proofs.Common.{◌≡◌, ◌≢◌, ℕ, ◌+◌, ◌≤◌, ◌<◌, List, [], ◌∷◌, ◌++◌, length, Option, Some, None, refl, sym, ap, ◌∙◌, subst, inl, inr, length-append, arith}
use Rattle.std.proofs.lemmas.Bool.{cases_lt}
use Rattle.sa_base.specs.declared.number.ThreadNo.{ThreadNo}
use Rattle.sa_abstract.specs.Setting.{Setting}
use Rattle.sa_abstract.specs.Calls.{Contexts}
use Rattle.sa_links.specs.Lists.{list_at}
use Rattle.sa_lists.specs.ReadyView.{ReadyView}
use Rattle.sa_code.specs.declared.state.Frame.{Frame}
use Rattle.sa_fast.specs.declared.shared.Shared.{Shared}
use Rattle.sa_fast.specs.declared.threads.KeptPlace.TheVariants.{Carried}
use Rattle.sa_fast.specs.Work.{joined, IsWork, AreApart}
use Rattle.sa_fast.specs.Instruction.{with_works}
use Rattle.sa_fast.specs.Rest.{one_of, threads_at_rest}
use Rattle.sa_fast.proofs.Moves.{JoinStep}
use Rattle.sa_fast.proofs.WorkSteps.{one_same, one_other, filled, not_empty, joined-step}
use Rattle.sa_package_model.specs.declared.context.Context.{Context}
use Rattle.sa_package_model.specs.declared.package.Package.{Package}
use Rattle.sa_package_model.specs.Context.{carried_by, section_in, before_all}
use Rattle.sa_package_model.specs.Conditions.{CanBeDue, CanTakeOver}
use Rattle.sa_package_model.specs.Rules.{thread_alone, placed, took_over}
use Rattle.sa_package_model.specs.Hands.{sections_of, locks_in, locks_of, threads_in, name_of}
use Rattle.sa_package_model.specs.Stands.{AreSections, IsStanding}
use Rattle.sa_package_model.proofs.Changing.{IsJoin, names_own}
use Rattle.sa_package_model.proofs.Holding.{lock_once, own_inside, own_due, own_work, few_sections}
use Rattle.sa_package_model.proofs.Views.{carried_less}
use Rattle.sa_package_model.proofs.PlaceFacts.{IsPlaceable, agree_in_hand, put_down, put_still, own_placeable, own_at_rest, carried_hand_place}
use Rattle.sa_package_model.proofs.Parts.{length_placed, parts_placed, parts_works, made_with, due-step}

-- sections, one list of them after another
locks_append : (fs gs : List Frame) (l : ℕ) → locks_in (fs ++ gs) l ≡ locks_in fs l + locks_in gs l
locks_append [] gs l = omega arith
locks_append (f ∷ fs) gs l = let rest = locks_append fs gs l in omega arith

threads_append : (fs gs : List Frame) (t : ℕ) → threads_in (fs ++ gs) t ≡ threads_in fs t + threads_in gs t
threads_append [] gs t = omega arith
threads_append (f ∷ fs) gs t = let rest = threads_append fs gs t in omega arith

sections_append : (r : ReadyView) (fs gs : List Frame) → AreSections r fs → AreSections r gs → AreSections r (fs ++ gs)
sections_append r [] gs h k = k
sections_append r (f ∷ fs) gs h k = (h.0, sections_append r fs gs h.1 k)

before_append : (own : Option Frame) (fs gs : List Frame) → before_all own (fs ++ gs) ≡ before_all own fs ++ gs
before_append None fs gs = refl
before_append (Some f) fs gs = refl

length_before : (own : Option Frame) (fs : List Frame) → length fs ≤ length (before_all own fs)
length_before None fs = omega arith
length_before (Some f) fs = omega arith

apart_by : (w v : Option ThreadNo) → ((n m : ThreadNo) → w ≡ Some n → v ≡ Some m → n.0 ≢ m.0) → AreApart w v
apart_by (Some n) (Some m) h = h n m refl refl
apart_by _ _ h = tt

alone_due : (x : Shared) (own : Option Frame) (t : Option ThreadNo) → CanBeDue x t → CanBeDue x (thread_alone own t)
alone_due x None t due = due
alone_due x (Some f) t due = tt

alone_is : (own : Option Frame) (t : Option ThreadNo) (m : ThreadNo) → thread_alone own t ≡ Some m → t ≡ Some m
alone_is None t m at = at
alone_is (Some f) t m at = absurd cc

-- the list that the two have
joined_work : (works : List (List ℕ)) (w v : Option ThreadNo) → IsWork works w → IsWork works v → AreApart w v → JoinStep works w v (joined works w v)
    → IsWork (joined works w v).lists (joined works w v).name
joined_work works w None mine theirs apart step = mine
joined_work works None (Some m) mine theirs apart step = theirs
joined_work works (Some n) (Some m) mine theirs apart step =
    let full = filled (list_at works n.0) mine.1 in
    let other = one_other m.0 n.0 (λ f. apart (sym f)) in
    let names = step.names n.0 in
    (mine.0, not_empty (list_at (joined works (Some n) (Some m)).lists n.0) (omega arith))

module _ (s : Setting) (e : ℕ) (u : Package) (cs : Contexts Context) (h : IsStanding s e u cs) (a b : ℕ) (c d : Context) (is : cs a ≡ Some c)
    (was : cs b ≡ Some d) (ne : b ≢ a) where
  -- what one has, the other has not
  lock_other : (l : ℕ) → 1 ≤ locks_of (Some d) l → locks_of (Some c) l ≡ 0
  lock_other l some = elim (cases_lt (locks_of (Some c) l) 1) [
    | inl less ↦ omega arith
    | inr more ↦ absurd (ne (h.locks.apart b a l (subst (λ x. 1 ≤ locks_of x l) (sym was) some) (subst (λ x. 1 ≤ locks_of x l) (sym is) more)))
  ]

  works_apart : AreApart c.work d.work
  works_apart = apart_by c.work d.work (λ n m mine theirs same.
      let one = names_own c n mine in
      let two = names_own d m theirs in
      let here : 1 ≤ name_of (cs a) n.0 = subst (λ x. 1 ≤ name_of x n.0) (sym is) (omega arith) in
      let there : 1 ≤ name_of (cs b) n.0 = subst (λ x. 1 ≤ name_of x n.0) (sym was) (subst (λ k. 1 ≤ name_of (Some d) k) (sym same) (omega arith)) in
      ne (h.works.apart b a n.0 there here))

  step : JoinStep u.shared.works c.work d.work (joined u.shared.works c.work d.work)
  step = joined-step u.shared.works c.work d.work h.parts.works (own_work s e u cs h a c is) (own_work s e u cs h b d was) works_apart

  -- locks of the two together are of different lists
  both_once : (l : ℕ) → locks_of (Some c) l + locks_of (Some d) l ≤ 1
  both_once l = elim (cases_lt (locks_of (Some d) l) 1) [
    | inl less ↦ let once = lock_once s e u cs h a c is l in omega arith
    | inr more ↦ let none = lock_other l more in let once = lock_once s e u cs h b d was l in omega arith
  ]

  both_inside : (l : ℕ) → 1 ≤ locks_of (Some c) l + locks_of (Some d) l → l < length u.shared.state.lists.lists
  both_inside l some = elim (cases_lt (locks_of (Some d) l) 1) [
    | inl less ↦ own_inside s e u cs h a c is l (omega arith)
    | inr more ↦ own_inside s e u cs h b d was l more
  ]

  few_both : length (sections_of c ++ sections_of d) ≤ length u.shared.state.lists.lists
  few_both = few_sections (sections_of c ++ sections_of d) (length u.shared.state.lists.lists)
      (λ l. let sum = locks_append (sections_of c) (sections_of d) l in let once = both_once l in omega arith)
      (λ l some. let sum = locks_append (sections_of c) (sections_of d) l in both_inside l (omega arith))

  due : CanBeDue u.shared (carried_by d.state)
  due = own_due s e u cs h b d was (carried_by d.state) (carried_less d.state d.sections)

  -- THE CONDITION
  pub take_over_can : CanTakeOver u c d
  take_over_can = record {
    code = h.code;
    few =
        let both = few_both in
        let sum = length-append (sections_of c) (sections_of d) in
        let mine = length_before (section_in c.state) c.sections in
        let most = h.parts.state.ready.processors in omega arith;
    mine = own_work s e u cs h a c is;
    theirs = own_work s e u cs h b d was;
    apart = works_apart;
    thread = due;
  }

  due_moved : (t : Option ThreadNo) → CanBeDue u.shared t
      → CanBeDue (with_works (placed u.shared (carried_by d.state) Carried) (joined u.shared.works c.work d.work)) t
  due_moved None can = tt
  due_moved (Some n) can = (can.0, step.counts n.0 ∙ can.1)

  again_placeable : (own : Option Frame) → IsPlaceable u.shared (carried_by d.state) 0
      → IsPlaceable (placed u.shared (carried_by d.state) Carried) (thread_alone own (carried_by d.state)) 1
  again_placeable own theirs = record {
    inside = λ m at.
        let below = theirs.inside m (alone_is own (carried_by d.state) m at) in let all = length_placed u.shared.threads (carried_by d.state) Carried in
        omega arith;
    carried = λ m at.
        let down = put_down u.shared (carried_by d.state) Carried refl theirs m.0 in
        let free = theirs.carried m (alone_is own (carried_by d.state) m at) in
        let one : one_of (carried_by d.state) m.0 ≡ 1 = ap (λ o. one_of o m.0) (alone_is own (carried_by d.state) m at) ∙ one_same m.0 m.0 refl in omega arith;
  }

  -- THE CHANGE
  pub took_over-join : IsJoin s e u (took_over u c d).user c d (took_over u c d).ctx
  took_over-join =
      let v = (took_over u c d).user in
      let new = (took_over u c d).ctx in
      let own = section_in d.state in
      let t = thread_alone own (carried_by d.state) in
      let moved : Shared = with_works (placed u.shared (carried_by d.state) Carried) (joined u.shared.works c.work d.work) in
      let name = (joined u.shared.works c.work d.work).name in
      let last = due-step moved name t step.works
      (joined_work u.shared.works c.work d.work (own_work s e u cs h a c is) (own_work s e u cs h b d was) works_apart step)
      (due_moved t (alone_due u.shared own (carried_by d.state) due)) in
      let theirs = own_placeable s e u cs h b d was (carried_by d.state) refl in
      let theirs_rest = own_at_rest s e u cs h b d was (carried_by d.state) refl in
      let base = again_placeable own theirs in
      let again : IsPlaceable moved t 1 = record { inside = base.inside; carried = base.carried } in
      let again_rest : (m : ThreadNo) → t ≡ Some m → threads_at_rest u.shared m.0 ≡ 0 = λ m at. theirs_rest m (alone_is own (carried_by d.state) m at) in
      let all : sections_of new ≡ sections_of c ++ sections_of d = before_append (section_in c.state) c.sections (sections_of d) in
      record {
        made = made_with s u v.shared h.made refl;
        code = h.code;
        parts = parts_works u.def u.processors e (placed moved t Carried) v.shared.works
            (parts_placed u.def u.processors e moved t Carried
            (parts_works u.def u.processors e (placed u.shared (carried_by d.state) Carried) moved.works
            (parts_placed u.def u.processors e u.shared (carried_by d.state) Carried h.parts) step.works))
            last.works;
        locks = λ l.
            let sum : locks_in (sections_of new) l ≡ locks_in (sections_of c) l + locks_in (sections_of d) l =
            ap (λ fs. locks_in fs l) all ∙ locks_append (sections_of c) (sections_of d) l in
            omega arith;
        threads = λ x.
            let sum : threads_in (sections_of new) x ≡ threads_in (sections_of c) x + threads_in (sections_of d) x =
            ap (λ fs. threads_in fs x) all ∙ threads_append (sections_of c) (sections_of d) x in
            omega (arith, step.threads x, last.threads x);
        names = λ l. omega (arith, step.names l, last.names l);
        works = λ l mine theirs some.
            let same = step.others l mine theirs in
            let gone : one_of name l ≡ 0 = omega (arith, step.names l) in
            let there = step.names l in
            last.others l gone (omega arith) ∙ same;
        lists = refl;
        places = agree_in_hand moved t 1 Carried carried_hand_place again again_rest
            (agree_in_hand u.shared (carried_by d.state) 0 Carried carried_hand_place theirs theirs_rest h.places);
        carries = λ x.
            let down = put_down u.shared (carried_by d.state) Carried refl theirs x in
            let still = put_still moved t Carried again x in omega arith;
        context = record {
          state = (h.contexts a c is).state;
          sections = subst (AreSections u.shared.state.lists) (sym all)
              (sections_append u.shared.state.lists (sections_of c) (sections_of d) (h.contexts a c is).sections (h.contexts b d was).sections);
        };
      }
