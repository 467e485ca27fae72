-- Where the run of a section comes to its end.
use Rattle.std.proofs.Common.{◌≡◌, ◌≢◌, ℕ, ◌+◌, Bool, true, false, List, ◌∷◌, Option, Some, slice_get, if◌then◌else◌, refl, ap, ◌∙◌, subst}
use Rattle.sa_base.specs.declared.number.ProcNo.{ProcNo}
use Rattle.sa_base.specs.declared.context.Seen.{Seen}
use Rattle.sa_code.specs.declared.code.Op.{Op}
use Rattle.sa_code.specs.declared.code.Op.TheVariants.{Push, Pop, Free, Leave, Yield}
use Rattle.sa_base.specs.declared.limits.TheConstants.{PACKAGE_PAGE}
use Rattle.sa_code.specs.declared.state.PackageState.{PackageState}
use Rattle.sa_code.specs.declared.state.Frame.{Frame}
use Rattle.sa_code.specs.declared.state.MicroDone.TheVariants.{Did}
use Rattle.sa_lists.specs.ReadyView.{is_locked}
use Rattle.sa_code.specs.Micro.{micro, micro_at, list_in, is_resident, CanDo}
use Rattle.sa_code.specs.Changes.{answer_of, is_did}
use Rattle.sa_code.proofs.Steps.{micro-changes_only}
use Rattle.sa_code.proofs.Answers.{micro-answer, micro-goes_on}
use Rattle.sa_copies.specs.Copies.{package_ops, copy_at}
use Rattle.sa_copies.specs.Runs.{at, is_over, Run, over, run_of, is_effect, IsFault}
use Rattle.sa_copies.proofs.Places.{at_copies}
use Rattle.sa_copies.proofs.Alike.{run_of-over, run_of-behind}

-- a free leads to the next place, in whatever it is seen
freed-pc : (s : PackageState) (f : Frame) (seen : Seen) (more : List Seen) → slice_get s.code f.pc ≡ Some Free → is_over (slice_get s.code (f.pc + 1)) ≡ true
    → (run_of s f (seen ∷ more)).frame.pc ≡ f.pc + 1
freed-pc s f seen more op end =
    let m = micro s f seen.pages in
    let only = micro-changes_only s f seen.pages in
    let done : m.done ≡ Did = ap (λ o. (micro_at s f (is_resident seen.pages PACKAGE_PAGE) (list_in f) o).done) op in
    let on = micro-goes_on s f seen.pages in
    let place : m.frame.pc ≡ f.pc + 1 = subst (λ b. m.frame.pc ≡ (if b then f.pc + 1 else f.pc)) (ap is_did done) on.pc in
    let over_there : is_over (slice_get m.state.code m.frame.pc) ≡ true =
    ap (λ ops. is_over (slice_get ops m.frame.pc)) only.code ∙ ap (λ k. is_over (slice_get s.code k)) place ∙ end in
    let step = run_of-behind s f seen more (ap is_over op) in
    let rest = run_of-over m.state m.frame more over_there in
    ap (λ (r : Run). r.frame.pc) step ∙ ap (λ (r : Run). r.frame.pc) rest ∙ place

-- an operation that was done leads to the rest of the run at the next place
done-pc : (s : PackageState) (f : Frame) (seen : Seen) (more : List Seen) → is_over (slice_get s.code f.pc) ≡ false → (micro s f seen.pages).done ≡ Did
    → ((run_of s f (seen ∷ more)).frame.pc ≡ (run_of (micro s f seen.pages).state (micro s f seen.pages).frame more).frame.pc)
    × ((micro s f seen.pages).frame.pc ≡ f.pc + 1)
done-pc s f seen more goes done =
    let m = micro s f seen.pages in
    let on = micro-goes_on s f seen.pages in
    (ap (λ (r : Run). r.frame.pc) (run_of-behind s f seen more goes), subst (λ b. m.frame.pc ≡ (if b then f.pc + 1 else f.pc)) (ap is_did done) on.pc)

-- an effect and the free after it lead to the end
effect-pc : (s : PackageState) (f : Frame) (first second : Seen) (more : List Seen) → is_over (slice_get s.code f.pc) ≡ false
    → (micro s f first.pages).done ≡ Did
    → slice_get s.code (f.pc + 1) ≡ Some Free → is_over (slice_get s.code (f.pc + 1 + 1)) ≡ true → (run_of s f (first ∷ second ∷ more)).frame.pc ≡ f.pc + 1 + 1
effect-pc s f first second more goes done free end =
    let m = micro s f first.pages in
    let only = micro-changes_only s f first.pages in
    let step = done-pc s f first (second ∷ more) goes done in
    let free_there : slice_get m.state.code m.frame.pc ≡ Some Free =
    ap (λ ops. slice_get ops m.frame.pc) only.code ∙ ap (λ k. slice_get s.code k) step.1 ∙ free in
    let end_there : is_over (slice_get m.state.code (m.frame.pc + 1)) ≡ true =
    ap (λ ops. is_over (slice_get ops (m.frame.pc + 1))) only.code ∙ ap (λ k. is_over (slice_get s.code (k + 1))) step.1 ∙ end in
    step.0 ∙ freed-pc m.state m.frame second more free_there end_there ∙ ap (λ k. k + 1) step.1

-- an effect is done where the package's page is resident
effect-answer : (op : Op) (held : Bool) → is_effect (Some op) ≡ true → answer_of (Some op) held true ≡ Did
effect-answer Push held e = refl
effect-answer Pop held e = refl
effect-answer _ held e = absurd cc

effect-goes_on : (op : Op) → is_effect (Some op) ≡ true → is_over (Some op) ≡ false
effect-goes_on Push e = refl
effect-goes_on Pop e = refl
effect-goes_on _ e = absurd cc

-- the frames of the package's code that a run leads to an end
abbrev ReachesEnd : ℕ → Op → Type 0
ReachesEnd c end = (s : PackageState) (f : Frame) (first second : Seen) (more : List Seen) → s.code ≡ package_ops → CanDo s (at f c) (slice_get s.code c)
    → is_resident first.pages PACKAGE_PAGE ≡ true
    → slice_get s.code (run_of s (at f c) (first ∷ second ∷ more)).frame.pc ≡ Some end

free-end : (c : ℕ) (end : Op) → slice_get package_ops c ≡ Some Free → slice_get package_ops (c + 1) ≡ Some end → is_over (Some end) ≡ true → ReachesEnd c end
free-end c end here next over s f first second more code can resident =
    let free : slice_get s.code c ≡ Some Free = ap (λ ops. slice_get ops c) code ∙ here in
    let there : slice_get s.code (c + 1) ≡ Some end = ap (λ ops. slice_get ops (c + 1)) code ∙ next in
    ap (λ k. slice_get s.code k) (freed-pc s (at f c) first (second ∷ more) free (ap is_over there ∙ over)) ∙ there

effect-end : (c : ℕ) (op end : Op) → slice_get package_ops c ≡ Some op → is_effect (Some op) ≡ true → slice_get package_ops (c + 1) ≡ Some Free
    → slice_get package_ops (c + 1 + 1) ≡ Some end → is_over (Some end) ≡ true → ReachesEnd c end
effect-end c op end here effect next last over s f first second more code can resident =
    let there : slice_get s.code c ≡ Some op = ap (λ ops. slice_get ops c) code ∙ here in
    let free : slice_get s.code (c + 1) ≡ Some Free = ap (λ ops. slice_get ops (c + 1)) code ∙ next in
    let stop : slice_get s.code (c + 1 + 1) ≡ Some end = ap (λ ops. slice_get ops (c + 1 + 1)) code ∙ last in
    let held = is_locked s.lists (list_in f).0 in
    let done : (micro s (at f c) first.pages).done ≡ Did =
    micro-answer s (at f c) first.pages can ∙ ap (λ o. answer_of o held (is_resident first.pages PACKAGE_PAGE)) there
    ∙ ap (λ b. answer_of (Some op) held b) resident ∙ effect-answer op held effect in
    ap (λ k. slice_get s.code k) (effect-pc s (at f c) first second more (ap is_over there ∙ effect-goes_on op effect) done free
    (ap is_over stop ∙ over)) ∙ stop

-- the run of a section ends at Leave, and that of a copy at Yield
pub section-leaves : (c d : ℕ) → copy_at c ≡ Some d → c ≢ d → ReachesEnd c Leave
section-leaves = at_copies (λ c d. c ≢ d → ReachesEnd c Leave)
    (λ ne. effect-end 1 Push Leave refl refl refl refl refl) (λ ne. free-end 2 Leave refl refl refl) (λ ne. effect-end 5 Pop Leave refl refl refl refl refl)
    (λ ne. free-end 6 Leave refl refl refl)
    (λ ne. absurd (ne refl)) (λ ne. absurd (ne refl)) (λ ne. absurd (ne refl)) (λ ne. absurd (ne refl))

pub copy-yields : (c d : ℕ) → copy_at c ≡ Some d → ReachesEnd d Yield
copy-yields = at_copies (λ c d. ReachesEnd d Yield)
    (effect-end 8 Push Yield refl refl refl refl refl) (free-end 9 Yield refl refl refl) (effect-end 11 Pop Yield refl refl refl refl refl)
    (free-end 12 Yield refl refl refl)
    (effect-end 8 Push Yield refl refl refl refl refl) (free-end 9 Yield refl refl refl) (effect-end 11 Pop Yield refl refl refl refl refl)
    (free-end 12 Yield refl refl refl)

-- an effect faults where the package's page is absent
micro_at-faults : (s : PackageState) (f : Frame) (resident : Bool) (l : ProcNo) (op : Option Op) → is_effect op ≡ true → resident ≡ false
    → IsFault s f (micro_at s f resident l op)
micro_at-faults s f false l (Some Push) effect absent = record { done = refl; says = refl; state = refl; frame = refl }
micro_at-faults s f false l (Some Pop) effect absent = record { done = refl; says = refl; state = refl; frame = refl }
micro_at-faults s f _ l _ effect absent = absurd cc

pub micro-faults : (s : PackageState) (f : Frame) (pages : ℕ) → is_effect (slice_get s.code f.pc) ≡ true → is_resident pages PACKAGE_PAGE ≡ false
    → IsFault s f (micro s f pages)
micro-faults s f pages effect absent = micro_at-faults s f (is_resident pages PACKAGE_PAGE) (list_in f) (slice_get s.code f.pc) effect absent
