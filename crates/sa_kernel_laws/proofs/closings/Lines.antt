-- The lines of a closing are those that are due.
use Rattle.std.proofs.Common.{◌≡◌, ◌≢◌, ℕ, zero, suc, ◌≤◌, ◌+◌, inl, inr, refl, sym, ◌∙◌, ap, subst, arith, Some, None, List, [], ◌∷◌, ◌++◌, append_assoc, length, true, false}
use Rattle.std.specs.Prelude.{Option, Bool, ◌&&◌, not, cond, is_some, is_none, get_or, slice_set, filter, filter_map}
use Rattle.std.specs.List.{list_all, list_any, cons_option}
use Rattle.std.specs.Option.{option_map}
use Rattle.std.proofs.Math.Path.{fun_ext}
use Rattle.std.proofs.lemmas.Bool.{cases_eq, ne_eqb, and_parts}
use Rattle.std.proofs.lemmas.List.{get_or-set_other, append-nil}
use Rattle.sa_base.specs.declared.number.SpaceNo.{SpaceNo}
use Rattle.sa_base.specs.declared.number.ProcNo.{ProcNo}
use Rattle.sa_base.specs.declared.number.ActNo.{ActNo}
use Rattle.sa_base.specs.declared.record.Note.{Note}
use Rattle.sa_base.specs.declared.record.Record.{Record}
use Rattle.sa_base.specs.declared.record.Record.TheVariants.{Line}
use Rattle.sa_base.specs.Items.{items_at}
use Rattle.sa_spaces.specs.Workload.{WorkloadView}
use Rattle.sa_lemmas.proofs.Options.{none-is}
use Rattle.sa_assign.specs.Aims.{is_aim, space_no, least_below}
use Rattle.sa_assign.specs.Reaim.{proc_no}
use Rattle.sa_assign.proofs.AimLemmas.{is_aim-true}
use Rattle.sa_assign.proofs.ChoiceLemmas.{least_below-passes}
use Rattle.sa_batch.specs.Notices.{has_untold as has_in}
use Rattle.sa_devices.specs.Ios.{fetches}
use Rattle.sa_kernel_model.specs.State.{KernelState, Scene, untold_of, is_fetching}
use Rattle.sa_kernel_model.specs.Closing.{for_spaces, is_told_by, has_low_line, must_interrupt as must_in, interrupt, interrupt_one, interrupt_for}
use Rattle.sa_laws.specs.Readings.{Readings, owner_of as owner_at, aim_of as aim_at, line_of as line_at, untold_of as untold_at, is_fetching as fetching_at}
use Rattle.sa_laws.specs.Record.{after_record}
use Rattle.sa_laws.specs.History.{after_records}
use Rattle.sa_laws.specs.Shape.{is_line}
use Rattle.sa_laws.specs.Closing.{has_untold, will_tell, can_be_raised, must_interrupt, line_due}
use Rattle.sa_laws.proofs.Records.{records-append}
use Rattle.sa_kernel_laws.specs.Overview.{Overview, overview, read_off}
use Rattle.sa_kernel_laws.proofs.entries.Upcalls.{AreLawful}
use Rattle.sa_kernel_laws.proofs.entries.Walks.{items-both}
use Rattle.sa_kernel_laws.proofs.closings.Wants.{spaces_from}

-- the lines that are due of n spaces from s on
abbrev pub lines_from : WorkloadView → Readings → ℕ → ℕ → List Record
lines_from w m s n = filter_map (line_due w m) (filter (must_interrupt w m) (spaces_from s n))

-- that of one space
abbrev one_line : Bool → Option ℕ → List Record
one_line true (Some q) = Line (proc_no q) ∷ []
one_line _ _ = []

front : (w : WorkloadView) (m : Readings) (b : Bool) (o : Option ℕ) (s : ℕ) (ss : List SpaceNo) → least_below w.processors (can_be_raised m (space_no s)) ≡ o
    → filter_map (line_due w m) (cond b (space_no s ∷ ss) ss) ≡ one_line b o ++ filter_map (line_due w m) ss
front w m false o s ss is = refl
front w m true None s ss is = ap (λ q. cons_option (option_map (λ i. Line (proc_no i)) q) (filter_map (line_due w m) ss)) is
front w m true (Some q) s ss is = ap (λ i. cons_option (option_map (λ j. Line (proc_no j)) i) (filter_map (line_due w m) ss)) is

-- where the tests are alike
lines-alike : (w : WorkloadView) (m c : Readings) (s n : ℕ) → ((t : ℕ) → s ≤ t → must_interrupt w m (space_no t) ≡ must_interrupt w c (space_no t))
    → ((t : ℕ) → s ≤ t → line_due w m (space_no t) ≡ line_due w c (space_no t)) → lines_from w m s n ≡ lines_from w c s n
lines-alike w m c s zero must due = refl
lines-alike w m c s (suc n) must due =
    let rest = lines-alike w m c (s + 1) n (λ t from. must t (omega arith)) (λ t from. due t (omega arith)) in
    ap (λ b. filter_map (line_due w m) (cond b (space_no s ∷ filter (must_interrupt w m) (spaces_from (s + 1) n))
    (filter (must_interrupt w m) (spaces_from (s + 1) n)))) (must s (omega arith))
    ∙ go (must_interrupt w c (space_no s)) rest where
      go : (b : Bool) → lines_from w m (s + 1) n ≡ lines_from w c (s + 1) n
          → filter_map (line_due w m) (cond b (space_no s ∷ filter (must_interrupt w m) (spaces_from (s + 1) n))
          (filter (must_interrupt w m) (spaces_from (s + 1) n)))
          ≡ filter_map (line_due w c) (cond b (space_no s ∷ filter (must_interrupt w c) (spaces_from (s + 1) n))
          (filter (must_interrupt w c) (spaces_from (s + 1) n)))
      go true same = λ i. cons_option (due s (omega arith) i) (same i)
      go false same = same

-- a line that is raised for one space is of no other
not-aim : (s t : ℕ) (o : Option SpaceNo) → t ≢ s → o ≡ Some (space_no s) → is_aim t o ≡ false
not-aim s t o apart is = ap (is_aim t) is ∙ ne_eqb s t (λ e. apart (sym e))

will-same : (w : WorkloadView) (e : ℕ) (p : ProcNo) (m : Readings) (q s t : ℕ) → t ≢ s → owner_at m (proc_no q) ≡ Some (space_no s)
    → will_tell (after_record w e p m (Line (proc_no q))) (space_no t) ≡ will_tell m (space_no t)
will-same w e p m q s t apart owner = fun_ext (λ j. elim (cases_eq j q) [
  | inl same ↦
      let no : is_aim t (owner_at m (proc_no j)) ≡ false = not-aim s t (owner_at m (proc_no j)) apart (ap (λ i. owner_at m (proc_no i)) same ∙ owner) in
      ap (λ b. b && is_aim t (aim_at m (proc_no j)) && is_some (get_or (slice_set m.lines q (Some e)) j None)) no
      ∙ sym (ap (λ b. b && is_aim t (aim_at m (proc_no j)) && is_some (get_or m.lines j None)) no)
  | inr other ↦ ap (λ l. is_aim t (owner_at m (proc_no j)) && is_aim t (aim_at m (proc_no j)) && is_some l) (get_or-set_other m.lines q j (Some e) None other)
])

can-same : (w : WorkloadView) (e : ℕ) (p : ProcNo) (m : Readings) (q s t : ℕ) → t ≢ s → owner_at m (proc_no q) ≡ Some (space_no s)
    → can_be_raised (after_record w e p m (Line (proc_no q))) (space_no t) ≡ can_be_raised m (space_no t)
can-same w e p m q s t apart owner = fun_ext (λ j. elim (cases_eq j q) [
  | inl same ↦
      let no : is_aim t (owner_at m (proc_no j)) ≡ false = not-aim s t (owner_at m (proc_no j)) apart (ap (λ i. owner_at m (proc_no i)) same ∙ owner) in
      ap (λ b. b && is_none (get_or (slice_set m.lines q (Some e)) j None)) no ∙ sym (ap (λ b. b && is_none (get_or m.lines j None)) no)
  | inr other ↦ ap (λ l. is_aim t (owner_at m (proc_no j)) && is_none l) (get_or-set_other m.lines q j (Some e) None other)
])

-- the processor whose line is raised for a space

pub record IsRaisedFor (m : Readings) (s q : ℕ) : Type 0 where
  pub owner : owner_at m (proc_no q) ≡ Some (space_no s)
  pub low : line_at m (proc_no q) ≡ None

raised-for : (w : WorkloadView) (m : Readings) (s q : ℕ) → least_below w.processors (can_be_raised m (space_no s)) ≡ Some q → IsRaisedFor m s q
raised-for w m s q is =
    let passes = (least_below-passes w.processors (can_be_raised m (space_no s)) q is).passes in record {
      owner = is_aim-true s (owner_at m (proc_no q)) (and_parts (is_aim s (owner_at m (proc_no q))) (is_none (line_at m (proc_no q))) passes).0;
      low = none-is (line_at m (proc_no q)) (and_parts (is_aim s (owner_at m (proc_no q))) (is_none (line_at m (proc_no q))) passes).1;
    }

must-other : (w : WorkloadView) (e : ℕ) (p : ProcNo) (m : Readings) (b : Bool) (o : Option ℕ) (s t : ℕ) → t ≢ s
    → least_below w.processors (can_be_raised m (space_no s)) ≡ o
    → must_interrupt w (after_records w e p m (one_line b o)) (space_no t) ≡ must_interrupt w m (space_no t)
must-other w e p m true (Some q) s t apart is =
    ap (λ f. has_untold (untold_at m (space_no t)) && not (fetching_at m (space_no t)) && is_none (least_below w.processors f))
    (will-same w e p m q s t apart (raised-for w m s q is).owner)
must-other w e p m _ _ s t apart is = refl

due-other : (w : WorkloadView) (e : ℕ) (p : ProcNo) (m : Readings) (b : Bool) (o : Option ℕ) (s t : ℕ) → t ≢ s
    → least_below w.processors (can_be_raised m (space_no s)) ≡ o → line_due w (after_records w e p m (one_line b o)) (space_no t) ≡ line_due w m (space_no t)
due-other w e p m true (Some q) s t apart is =
    ap (λ f. option_map (λ i. Line (proc_no i)) (least_below w.processors f)) (can-same w e p m q s t apart (raised-for w m s q is).owner)
due-other w e p m _ _ s t apart is = refl

one-lawful : (w : WorkloadView) (e : ℕ) (p : ProcNo) (m : Readings) (b : Bool) (o : Option ℕ) (s : ℕ) (rest : List Record)
    → least_below w.processors (can_be_raised m (space_no s)) ≡ o → AreLawful w e p (after_records w e p m (one_line b o)) rest
    → AreLawful w e p m (one_line b o ++ rest)
one-lawful w e p m true (Some q) s rest is law = (record { once = tt; named = tt; all = tt; gives = tt; raises = (raised-for w m s q is).low }, law)
one-lawful w e p m _ _ s rest is law = law

abbrev pub AreLines : List Record → Type 0
AreLines xs = list_all is_line xs ≡ true

one-lines : (b : Bool) (o : Option ℕ) (xs : List Record) → AreLines xs → AreLines (one_line b o ++ xs)
one-lines false o xs lines = lines
one-lines true None xs lines = lines
one-lines true (Some q) xs lines = lines

untold-same : (ns : List Note) → has_untold ns ≡ has_in ns
untold-same [] = refl
untold-same (n ∷ ns) = refl

module _ {C : Type 0} where
  must-same : (w : WorkloadView) (k : KernelState C) (m : Readings) (s : ℕ) → length k.lives ≡ w.processors → overview m ≡ read_off k
      → must_interrupt w m (space_no s) ≡ must_in k s
  must-same w k m s processors reads =
      let F : ℕ → Overview → Bool = λ n (v : Overview).
      has_untold (get_or v.untold s []) && not (list_any (fetches s) v.under_way)
      && is_none (least_below n (λ q. is_aim s (get_or v.assign.owners q None) && is_aim s (get_or v.assign.aims q None)
      && is_some (get_or v.assign.lines q None))) in
      (λ i. F (sym processors i) (reads i)) ∙ ap (λ b. b && not (is_fetching k s) && is_none (least_below (length k.lives) (is_told_by k s)))
      (untold-same (untold_of k s))

  least-same : (w : WorkloadView) (k : KernelState C) (m : Readings) (s : ℕ) → length k.lives ≡ w.processors → overview m ≡ read_off k
      → least_below w.processors (can_be_raised m (space_no s)) ≡ least_below (length k.lives) (has_low_line k s)
  least-same w k m s processors reads =
      let F : ℕ → Overview → Option ℕ =
      λ n (v : Overview). least_below n (λ q. is_aim s (get_or v.assign.owners q None) && is_none (get_or v.assign.lines q None)) in
      λ i. F (sym processors i) (reads i)

  -- the lines of n spaces from s on
  pub record Lined (w : WorkloadView) (e : ℕ) (p : ProcNo) (m : Readings) (x y : Scene C) (xs : List Record) : Type 0 where
    pub adds : y.items ≡ x.items ++ items_at e p xs
    pub reads : overview (after_records w e p m xs) ≡ read_off y.state
    pub lawful : (rest : List Record) → AreLawful w e p (after_records w e p m xs) rest → AreLawful w e p m (xs ++ rest)
    pub lines : AreLines xs
    pub fixed : y.state.fixed ≡ x.state.fixed

  head-lined : (w : WorkloadView) (e : ℕ) (p : ProcNo) (m : Readings) (x : Scene C) (s : ℕ) (b : Bool) (o : Option ℕ)
      → least_below (length x.state.lives) (has_low_line x.state s) ≡ o → overview m ≡ read_off x.state
      → ((interrupt_one e p b s x).items ≡ x.items ++ items_at e p (one_line b o))
      × (overview (after_records w e p m (one_line b o)) ≡ read_off (interrupt_one e p b s x).state)
      × ((interrupt_one e p b s x).state.lives ≡ x.state.lives)
  head-lined w e p m x s false o is reads = (sym (append-nil x.items), reads, refl)
  head-lined w e p m x s true None is reads = (
    ap (λ (z : Scene C). z.items) (ap (λ q. interrupt e p q x) is) ∙ sym (append-nil x.items),
    reads ∙ ap (λ q. read_off (interrupt e p q x).state) (sym is),
    ap (λ q. (interrupt e p q x).state.lives) is,
  )
  head-lined w e p m x s true (Some q) is reads =
      let F : Overview → Overview = λ (v : Overview). record v { assign = record v.assign { lines = slice_set v.assign.lines q (Some e) } } in
      (ap (λ j. (interrupt e p j x).items) is, ap F reads ∙ ap (λ j. read_off (interrupt e p j x).state) (sym is), ap (λ j. (interrupt e p j x).state.lives) is)

  fixed-one : (e : ℕ) (p : ProcNo) (b : Bool) (s : ℕ) (x : Scene C) → (interrupt_one e p b s x).state.fixed ≡ x.state.fixed
  fixed-one e p false s x = refl
  fixed-one e p true s x = go (least_below (length x.state.lives) (has_low_line x.state s)) where
    go : (q : Option ℕ) → (interrupt e p q x).state.fixed ≡ x.state.fixed
    go None = refl
    go (Some q) = refl

  pub lines-walk : (w : WorkloadView) (e : ℕ) (p : ProcNo) (m : Readings) (x : Scene C) (s n : ℕ) → length x.state.lives ≡ w.processors
      → overview m ≡ read_off x.state → Lined w e p m x (for_spaces (interrupt_for e p) s n x) (lines_from w m s n)
  lines-walk w e p m x s zero processors reads = record { adds = sym (append-nil x.items); reads = reads; lawful = λ rest law. law; lines = refl; fixed = refl }
  lines-walk w e p m x s (suc n) processors reads =
      let k = x.state in
      let b = must_in k s in
      let o = least_below (length k.lives) (has_low_line k s) in
      let must : must_interrupt w m (space_no s) ≡ b = must-same w k m s processors reads in
      let least : least_below w.processors (can_be_raised m (space_no s)) ≡ o = least-same w k m s processors reads in
      let one = one_line b o in
      let y = interrupt_one e p b s x in
      let next = after_records w e p m one in
      let head = head-lined w e p m x s b o refl reads in
      let rest = lines-walk w e p next y (s + 1) n (ap (λ (ls : List (Option ActNo)). length ls) head.2 ∙ processors) head.1 in
      let later : lines_from w next (s + 1) n ≡ lines_from w m (s + 1) n =
      lines-alike w next m (s + 1) n (λ t from. must-other w e p m b o s t (λ is. omega arith) least)
      (λ t from. due-other w e p m b o s t (λ is. omega arith) least) in
      let both : one ++ lines_from w next (s + 1) n ≡ lines_from w m s (suc n) =
      ap (λ xs. one ++ xs) later ∙ sym (front w m b o s (filter (must_interrupt w m) (spaces_from (s + 1) n)) least)
      ∙ ap (λ c. filter_map (line_due w m) (cond c (space_no s ∷ filter (must_interrupt w m) (spaces_from (s + 1) n))
      (filter (must_interrupt w m) (spaces_from (s + 1) n)))) (sym must) in
      let z = for_spaces (interrupt_for e p) (s + 1) n y in
      let xs = lines_from w next (s + 1) n in
      let is : after_records w e p next xs ≡ after_records w e p m (one ++ xs) = sym (records-append w e p m one xs) in
      let whole : Lined w e p m x z (one ++ xs) = record {
        adds = items-both e p x.items y.items z.items one xs head.0 rest.adds;
        reads = ap overview (sym is) ∙ rest.reads;
        lawful = λ others law.
            subst (λ ys. AreLawful w e p m ys) (sym (append_assoc one xs others))
            (one-lawful w e p m b o s (xs ++ others) least (rest.lawful others (subst (λ (c : Readings). AreLawful w e p c others) (sym is) law)));
        lines = one-lines b o xs rest.lines;
        fixed = rest.fixed ∙ fixed-one e p b s x;
      } in
      subst (λ (ys : List Record). Lined w e p m x z ys) both whole
