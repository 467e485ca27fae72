-- The aims of a closing are those that are due.
use Rattle.std.proofs.Common.{◌≡◌, ℕ, zero, suc, ◌+◌, refl, sym, ◌∙◌, ap, subst, Some, None, List, [], ◌∷◌, ◌++◌, append_assoc, length, map}
use Rattle.std.specs.Prelude.{Option, ◌==◌, ◌/◌, ◌%◌, min, if◌then◌else◌, slice_set, slice_index}
use Rattle.std.specs.List.{list_any}
use Rattle.std.proofs.lemmas.List.{set-get_or}
use Rattle.std.proofs.Math.ListN.{get_or-map}
use Rattle.std.proofs.lemmas.Option.{none-some}
use Rattle.sa_base.specs.declared.number.ProcNo.{ProcNo}
use Rattle.sa_base.specs.declared.record.Record.{Record}
use Rattle.sa_base.specs.declared.record.Record.TheVariants.{Aim}
use Rattle.sa_base.specs.Items.{items_at}
use Rattle.sa_spaces.specs.Space.{SpaceView}
use Rattle.sa_spaces.specs.Workload.{WorkloadView}
use Rattle.sa_share.specs.declared.Claim.{Claim}
use Rattle.sa_share.specs.Rounds.{shares_of}
use Rattle.sa_assign.specs.Aims.{Change, aimed, space_no, aims_with, changes}
use Rattle.sa_assign.specs.Reaim.{proc_no, line_at, raised, lines_with, line_records, records_of, changed, changes_in}
use Rattle.sa_devices.specs.Ios.{fetches}
use Rattle.sa_kernel_model.specs.State.{KernelState, Scene, Fixed}
use Rattle.sa_kernel_model.specs.Closing.{spaces, claims_from, claims as claims_in, claim_of as claim_in, first_space as first_in, shares as shares_in, aims}
use Rattle.sa_laws.specs.State.{space_def, no_space}
use Rattle.sa_laws.specs.Readings.{Readings}
use Rattle.sa_laws.specs.History.{after_records}
use Rattle.sa_laws.specs.Closing.{claim_of, claims_of, first_space, shares_at, aims_due}
use Rattle.sa_laws.proofs.Records.{records-append}
use Rattle.sa_kernel_laws.specs.Overview.{Overview, overview, read_off}
use Rattle.sa_kernel_laws.specs.Kept.{IsOf}
use Rattle.sa_kernel_laws.proofs.entries.Upcalls.{AreLawful}
use Rattle.sa_kernel_laws.proofs.closings.Wants.{spaces_from}

-- changes of aims, as they are recorded
abbrev changed_by : ℕ → List Change → Overview → Overview
changed_by e cs v = record v { assign = changed e v.assign cs }

aim-record : (w : WorkloadView) (e : ℕ) (p : ProcNo) (m : Readings) (c : Change) (l : Option ℕ) → line_at m.lines c.proc ≡ l
    → overview (after_records w e p m (Aim (proc_no c.proc) (Some (space_no c.space)) ∷ line_records c.proc l)) ≡ changed_by e (c ∷ []) (overview m)
aim-record w e p m c None low =
    λ i. record (overview m) { assign = record (overview m).assign { aims = aims_with m.aims c; lines = slice_set m.lines c.proc (raised e (sym low i)) } }
aim-record w e p m c (Some earlier) up =
    let same : m.lines ≡ lines_with e m.lines c =
    sym (set-get_or m.lines c.proc None) ∙ ap (slice_set m.lines c.proc) (up ∙ ap (raised e) (sym up)) in
    λ i. record (overview m) { assign = record (overview m).assign { aims = aims_with m.aims c; lines = same i } }

pub aims-reads : (w : WorkloadView) (e : ℕ) (p : ProcNo) (m : Readings) (cs : List Change)
    → overview (after_records w e p m (records_of e m.lines cs)) ≡ changed_by e cs (overview m)
aims-reads w e p m [] = refl
aims-reads w e p m (c ∷ cs) =
    let one = Aim (proc_no c.proc) (Some (space_no c.space)) ∷ line_records c.proc (line_at m.lines c.proc) in
    let next = after_records w e p m one in
    let is = aim-record w e p m c (line_at m.lines c.proc) refl in
    let lines : next.lines ≡ lines_with e m.lines c = ap (λ (v : Overview). v.assign.lines) is in
    ap overview (records-append w e p m one (records_of e (lines_with e m.lines c) cs))
    ∙ ap (λ ls. overview (after_records w e p next (records_of e ls cs))) (sym lines)
    ∙ aims-reads w e p next cs ∙ ap (changed_by e cs) is

aim-lawful : (w : WorkloadView) (e : ℕ) (p : ProcNo) (m : Readings) (c : Change) (l : Option ℕ) (rest : List Record) → line_at m.lines c.proc ≡ l
    → AreLawful w e p (after_records w e p m (Aim (proc_no c.proc) (Some (space_no c.space)) ∷ line_records c.proc l)) rest
    → AreLawful w e p m (Aim (proc_no c.proc) (Some (space_no c.space)) ∷ (line_records c.proc l ++ rest))
aim-lawful w e p m c None rest low law = (
  record { once = tt; named = tt; all = tt; gives = tt; raises = record { line = λ is. refl } },
  (record { once = tt; named = tt; all = tt; gives = tt; raises = low }, law),
)
aim-lawful w e p m c (Some earlier) rest up law =
    (record { once = tt; named = tt; all = tt; gives = tt; raises = record { line = λ is. absurd (none-some earlier (sym is ∙ up)) } }, law)

pub aims-lawful : (w : WorkloadView) (e : ℕ) (p : ProcNo) (m : Readings) (cs : List Change) (rest : List Record)
    → AreLawful w e p (after_records w e p m (records_of e m.lines cs)) rest → AreLawful w e p m (records_of e m.lines cs ++ rest)
aims-lawful w e p m [] rest law = law
aims-lawful w e p m (c ∷ cs) rest law =
    let one = Aim (proc_no c.proc) (Some (space_no c.space)) ∷ line_records c.proc (line_at m.lines c.proc) in
    let next = after_records w e p m one in
    let lines : next.lines ≡ lines_with e m.lines c = ap (λ (v : Overview). v.assign.lines) (aim-record w e p m c (line_at m.lines c.proc) refl) in
    let others = records_of e (lines_with e m.lines c) cs in
    let same : records_of e next.lines cs ≡ others = ap (λ ls. records_of e ls cs) lines in
    let after : after_records w e p m (records_of e m.lines (c ∷ cs)) ≡ after_records w e p next (records_of e next.lines cs) =
    records-append w e p m one others ∙ ap (after_records w e p next) (sym same) in
    let rest_law = aims-lawful w e p next cs rest (subst (λ (d : Readings). AreLawful w e p d rest) after law) in
    let all : line_records c.proc (line_at m.lines c.proc) ++ (others ++ rest) ≡ (line_records c.proc (line_at m.lines c.proc) ++ others) ++ rest =
    sym (append_assoc (line_records c.proc (line_at m.lines c.proc)) others rest) in
    subst (λ xs. AreLawful w e p m (Aim (proc_no c.proc) (Some (space_no c.space)) ∷ xs)) all
    (aim-lawful w e p m c (line_at m.lines c.proc) (others ++ rest) refl (subst (λ xs. AreLawful w e p next (xs ++ rest)) same rest_law))

-- what the spaces claim, and their shares
module _ {C : Type 0} where
  claim-same : (w : WorkloadView) (k : KernelState C) (m : Readings) (s : ℕ) → IsOf w k → overview m ≡ read_off k → claim_of w m (space_no s) ≡ claim_in k s
  claim-same w k m s of reads =
      let F : ℕ → Overview → Claim = λ n (v : Overview). record {
        priority = n;
        want = if list_any (fetches s) v.under_way then min (slice_index v.demands s) (aimed s v.assign.aims) else slice_index v.demands s;
      } in
      let priority : (space_def w (space_no s)).priority ≡ slice_index k.fixed.priorities s =
      sym (get_or-map (λ (d : SpaceView). d.priority) w.spaces s no_space) ∙ ap (λ (f : Fixed). slice_index f.priorities s) (sym of.fixed) in
      λ i. F (priority i) (reads i)

  claims-same : (w : WorkloadView) (k : KernelState C) (m : Readings) (s n : ℕ) → IsOf w k → overview m ≡ read_off k
      → map (claim_of w m) (spaces_from s n) ≡ claims_from k s n
  claims-same w k m s zero of reads = refl
  claims-same w k m s (suc n) of reads =
      let one = claim-same w k m s of reads in
      let rest = claims-same w k m (s + 1) n of reads in
      λ i. one i ∷ rest i

  pub shares-same : (w : WorkloadView) (k : KernelState C) (m : Readings) (e : ℕ) → IsOf w k → length k.assign.owners ≡ w.processors → overview m ≡ read_off k
      → shares_at w e m ≡ shares_in k e
  shares-same w k m e of owners reads =
      let claimed : claims_of w m ≡ claims_in k = claims-same w k m 0 (length w.spaces) of reads ∙ ap (claims_from k 0) (sym of.spaces) in
      let first : first_space w e ≡ first_in k e =
      (let G : ℕ → ℕ → ℕ = λ slice n. if slice == 0 then 0 else (e / slice) % n in
      let slice : w.slice ≡ k.fixed.slice = ap (λ (f : Fixed). f.slice) (sym of.fixed) in
      let n = sym of.spaces in
      λ i. G (slice i) (n i)) in
      let S : ℕ → ℕ → List Claim → List ℕ = shares_of in
      λ i. S (sym owners i) (first i) (claimed i)

  pub due-same : (w : WorkloadView) (k : KernelState C) (m : Readings) (e : ℕ) → IsOf w k → length k.assign.owners ≡ w.processors → overview m ≡ read_off k
      → aims_due w e m ≡ changes_in (spaces k) (shares_in k e) k.assign
  due-same w k m e of owners reads =
      let G : ℕ → List ℕ → Overview → List Change = λ n shares v. changes n shares v.assign.marks v.assign.aims in
      let shares = shares-same w k m e of owners reads in
      let n = sym of.spaces in
      λ i. G (n i) (shares i) (reads i)

  -- the aims of the closing
  pub record Aimed (w : WorkloadView) (e : ℕ) (p : ProcNo) (m : Readings) (x : Scene C) : Type 0 where
    pub adds : (aims e p x).items ≡ x.items ++ items_at e p (records_of e m.lines (aims_due w e m))
    pub reads : overview (after_records w e p m (records_of e m.lines (aims_due w e m))) ≡ read_off (aims e p x).state

  pub aims-walk : (w : WorkloadView) (e : ℕ) (p : ProcNo) (m : Readings) (x : Scene C) → IsOf w x.state → length x.state.assign.owners ≡ w.processors
      → overview m ≡ read_off x.state → Aimed w e p m x
  aims-walk w e p m x of owners reads =
      let k = x.state in
      let cs = aims_due w e m in
      let due = due-same w k m e of owners reads in
      let lines : m.lines ≡ k.assign.lines = ap (λ (v : Overview). v.assign.lines) reads in
      let R : List (Option ℕ) → List Change → List Record = records_of e in
      let D : List Change → Overview → Overview = changed_by e in
      record {
        adds = λ i. x.items ++ items_at e p (R (sym lines i) (sym due i));
        reads = aims-reads w e p m cs ∙ (λ i. D (due i) (reads i));
      }
