-- Cells of which nothing is written are passed over.
use Rattle.std.proofs.Common.{◌≡◌, ℕ, zero, suc, ◌+◌, ◌-◌, ◌≤◌, ◌<◌, arith, Bool, if◌then◌else◌, List, [], ◌∷◌, ◌++◌, length, take, get_or, append_assoc, append-nil, decimal, Result, Ok, Err, OnOk, refl, sym, ◌∙◌, ap}
use Rattle.std.proofs.lemmas.Grind.{flat_map-append}
use Rattle.std.proofs.lemmas.Slice.Eq.{bytes_eq-Decides}
use Rattle.std.proofs.lemmas.List.{take_all}
use Rattle.std.specs.List.{flat_map}
use Rattle.sa_lemmas.proofs.Appends.{range-more}
use Rattle.sa_svg.proofs.Appends.{list-more}
use Rattle.sa_base.specs.declared.number.SpaceNo.{SpaceNo}
use Rattle.sa_base.specs.declared.number.ActNo.{ActNo}
use Rattle.sa_cells.specs.declared.cell.Cell.{Cell}
use Rattle.sa_cells.specs.declared.cell.Cell.TheVariants.{Thread as ThreadCell}
use Rattle.sa_cells.specs.Cells.{up_to, thread_cell, act_cells}
use Rattle.sa_cells.specs.Change.{cell_line, changed_line}
use Rattle.sa_cells.proofs.Joined.{three-joined}

-- one place more of these cells
pub more : (f : Cell → List ℕ) (cells : ℕ → List Cell) (n : ℕ) → flat_map f (up_to cells (n + 1)) ≡ flat_map f (up_to cells n) ++ flat_map f (cells n)
more f cells n = ap (flat_map f) (range-more cells n) ∙ flat_map-append f (up_to cells n) (cells n)

pub cells-more : (f : Cell → List ℕ) (cells : ℕ → List Cell) (n : ℕ) (before out new : List ℕ) → out ≡ before ++ flat_map f (up_to cells n)
    → new ≡ out ++ flat_map f (cells n) → new ≡ before ++ flat_map f (up_to cells (n + 1))
cells-more f cells n before out new so goes =
    goes ∙ ap (λ (xs : List ℕ). xs ++ flat_map f (cells n)) so ∙ append_assoc before (flat_map f (up_to cells n)) (flat_map f (cells n))
    ∙ ap (λ (xs : List ℕ). before ++ xs) (sym (more f cells n))

-- nothing is written of threads from one up to another
passed : (f : Cell → List ℕ) (s : SpaceNo) (i n : ℕ) → ((k : ℕ) → i ≤ k → k < i + n → f (ThreadCell s (record { 0 = k })) ≡ [])
    → flat_map f (up_to (thread_cell s) (i + n)) ≡ flat_map f (up_to (thread_cell s) i)
passed f s i zero none = ap (λ (k : ℕ). flat_map f (up_to (thread_cell s) k)) (let e : i + zero ≡ i = omega arith in e)
passed f s i (suc n) none =
    let last : f (ThreadCell s (record { 0 = i + n })) ≡ [] = none (i + n) (omega arith) (omega arith) in
    ap (λ (k : ℕ). flat_map f (up_to (thread_cell s) k)) (let e : i + suc n ≡ i + n + 1 = omega arith in e)
    ∙ more f (thread_cell s) (i + n)
    ∙ ap (λ (xs : List ℕ). flat_map f (up_to (thread_cell s) (i + n)) ++ (xs ++ [])) last
    ∙ append-nil (flat_map f (up_to (thread_cell s) (i + n)))
    ∙ passed f s i n (λ k low high. none k low (omega (arith, high)))

pub passed-over : (f : Cell → List ℕ) (s : SpaceNo) (i j : ℕ) (old out : List ℕ) → i ≤ j → ((k : ℕ) → i ≤ k → k < j → f (ThreadCell s (record { 0 = k })) ≡ [])
    → out ≡ old ++ flat_map f (up_to (thread_cell s) i) → out ≡ old ++ flat_map f (up_to (thread_cell s) j)
passed-over f s i j old out less none is =
    let same : i + (j - i) ≡ j = omega (arith, less) in
    is ∙ ap (λ (xs : List ℕ). old ++ xs) (sym (passed f s i (j - i) (λ k low high. none k low (omega (arith, high, less)))))
    ∙ ap (λ (k : ℕ). old ++ flat_map f (up_to (thread_cell s) k)) same

-- nothing is written of what is the same
pub nothing : (event : ℕ) (name old new : List ℕ) → old ≡ new → changed_line event name old new ≡ []
nothing event name old new same = ap (λ (b : Bool). if b then [] else cell_line (decimal event) name new) ((bytes_eq-Decides old new).1 same)

-- cells in three parts, of which the last may fail
all-mapped : (f : Cell → List ℕ) (a b c : List Cell) (old first second third : List ℕ) → first ≡ old ++ flat_map f a → second ≡ first ++ flat_map f b
    → third ≡ second ++ flat_map f c → third ≡ old ++ flat_map f (a ++ b ++ c)
all-mapped f a b c old first second third is_a is_b is_c =
    three-joined old (flat_map f a) (flat_map f b) (flat_map f c) first second third is_a is_b is_c
    ∙ ap (λ (xs : List ℕ). old ++ (xs ++ flat_map f c)) (sym (flat_map-append f a b)) ∙ ap (λ (xs : List ℕ). old ++ xs) (sym (flat_map-append f (a ++ b) c))

pub three_mapped : {T E : Type 0} (result : Result T E) (f : Cell → List ℕ) (a b c : List Cell) (old first second third : List ℕ) → first ≡ old ++ flat_map f a
    → second ≡ first ++ flat_map f b → OnOk result (third ≡ second ++ flat_map f c) → OnOk result (third ≡ old ++ flat_map f (a ++ b ++ c))
three_mapped (Ok x) f a b c old first second third is_a is_b is_c = all-mapped f a b c old first second third is_a is_b is_c
three_mapped (Err x) f a b c old first second third is_a is_b is_c = tt

-- what is written of cells is what is written of others
pub mapped-as : {T E : Type 0} (result : Result T E) (f : Cell → List ℕ) (a b : List Cell) (old new : List ℕ) → flat_map f a ≡ flat_map f b
    → OnOk result (new ≡ old ++ flat_map f a) → OnOk result (new ≡ old ++ flat_map f b)
mapped-as (Ok x) f a b old new same is = is ∙ ap (λ (xs : List ℕ). old ++ xs) same
mapped-as (Err x) f a b old new same is = tt

-- those of one activation more
nested : (f : Cell → List ℕ) (acts : List ActNo) → flat_map f (flat_map act_cells acts) ≡ flat_map (λ (a : ActNo). flat_map f (act_cells a)) acts
nested f [] = refl
nested f (a ∷ acts) = flat_map-append f (act_cells a) (flat_map act_cells acts) ∙ ap (λ (xs : List ℕ). flat_map f (act_cells a) ++ xs) (nested f acts)

pub acts-more : (f : Cell → List ℕ) (acts : List ActNo) (i : ℕ) (d : ActNo) (old now later : List ℕ) → i < length acts
    → now ≡ old ++ flat_map f (flat_map act_cells (take i acts)) → later ≡ now ++ flat_map f (act_cells (get_or acts i d))
    → later ≡ old ++ flat_map f (flat_map act_cells (take (i + 1) acts))
acts-more f acts i d old now later within so goes =
    list-more (λ (a : ActNo). flat_map f (act_cells a)) acts i d old now later within (so ∙ ap (λ (xs : List ℕ). old ++ xs) (nested f (take i acts))) goes
    ∙ ap (λ (xs : List ℕ). old ++ xs) (sym (nested f (take (i + 1) acts)))

pub acts-all : (f : Cell → List ℕ) (acts : List ActNo) (i : ℕ) (old now : List ℕ) → length acts ≤ i
    → now ≡ old ++ flat_map f (flat_map act_cells (take i acts)) → now ≡ old ++ flat_map f (flat_map act_cells acts)
acts-all f acts i old now all is = is ∙ ap (λ (xs : List ActNo). old ++ flat_map f (flat_map act_cells xs)) (take_all i acts all)

-- nothing is written
pub none-written : (out text : List ℕ) → text ≡ [] → out ≡ out ++ text
none-written out text none = sym (append-nil out) ∙ ap (λ (xs : List ℕ). out ++ xs) (sym none)
